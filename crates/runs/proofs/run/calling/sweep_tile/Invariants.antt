use Rattle.std.proofs.Common.{◌≡◌}
use Rattle.arithmetic.specs.Sweeps.{updated}
use Rattle.arithmetic.specs.Lent.{equations_of}
use Rattle.points.specs.Runs.{through}
use Rattle.plans.specs.Tilings.{rows_in}
use Rattle.plans.specs.Held.{tiling_held}
use Rattle.runs.proofs.run.calling.sweep_tile.Given as goal

abbrev pub invariant-loop-sweep : goal.invariant-loop-sweep
invariant-loop-sweep g l =
    let m = g.K.Arithmetic.means l.system.arithmetic.now in
    l.vector ≡ through (λ c i y. updated m (equations_of l.equations) y i) (rows_in (tiling_held l.system.plan.now) l.number) l.sweep l.initial.vector
