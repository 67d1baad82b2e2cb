use Rattle.std.proofs.Common.{◌≡◌, ◌*◌, ◌++◌, length, drop, None, string_bytes}
use Rattle.plans.specs.Held.{tiling_held}
use Rattle.runs.specs.Calls.{sizes_of, lengths_fault}
use Rattle.runs.specs.Held.{sizes_held, progress_held, equations_with}
use Rattle.replay.specs.Traces.{trace}
use Rattle.replay.specs.Replays.{begun}
use Rattle.replay.proofs.tracing.trace_run.Given as goal

-- the run is the plan's own, and what is written and what is still to come are the whole text
abbrev pub invariant-loop-number : goal.invariant-loop-number
invariant-loop-number g l =
    (sizes_held l.run ≡ sizes_of (tiling_held l.system.plan.now))
    × (lengths_fault (tiling_held l.system.plan.now).pattern (length l.system.coefficients.now) (length l.system.right_hand_side.now) (length l.vector) ≡ None)
    × (string_bytes l.text ++ trace (g.K.Arithmetic.means l.system.arithmetic.now) (equations_with (tiling_held l.system.plan.now) l.system.coefficients.now l.system.right_hand_side.now) (tiling_held l.system.plan.now) (2 * g.F.Filed.width) g.F.Filed.printed (record { progress = progress_held l.run; held = l.vector }) (drop l.number-index l.calls)
    ≡ string_bytes l.initial.text ++ trace (g.K.Arithmetic.means l.system.arithmetic.now) (equations_with (tiling_held l.system.plan.now) l.system.coefficients.now l.system.right_hand_side.now) (tiling_held l.system.plan.now) (2 * g.F.Filed.width) g.F.Filed.printed (begun l.initial.vector) l.calls)
