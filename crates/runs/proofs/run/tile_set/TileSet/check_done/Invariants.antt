use Rattle.std.proofs.Common.{◌≡◌, ℕ, ◌<◌, false, not, ◌&&◌}
use Rattle.plans.specs.Words.{bit}
use Rattle.runs.proofs.run.tile_set.TileSet.check_done.Given as goal

abbrev pub invariant-loop-t : goal.invariant-loop-t
invariant-loop-t l = (k : ℕ) → k < l.t → (bit l.self k && not (bit l.done k)) ≡ false
