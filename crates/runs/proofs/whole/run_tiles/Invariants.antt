use Rattle.std.proofs.Common.{take}
use Rattle.plans.specs.Held.{tiling_held}
use Rattle.runs.specs.Histories.{Reached}
use Rattle.runs.proofs.whole.run_tiles.Given as goal

-- the run and the vector are what the calls so far give
abbrev pub invariant-loop-number : goal.invariant-loop-number
invariant-loop-number g l = Reached (g.K.Arithmetic.means l.system.arithmetic.now) (tiling_held l.system.plan.now) l.system.coefficients.now l.system.right_hand_side.now l.initial.vector (take l.number-index l.calls) l.run l.vector
