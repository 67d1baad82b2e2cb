use Rattle.std.proofs.Common.{◌≡◌, ℕ, ◌<◌, false}
use Rattle.plans.specs.Opening.{bad_tile}
use Rattle.plans.proofs.table.checking.check_tiles.Given as goal

abbrev pub invariant-loop-point : goal.invariant-loop-point
invariant-loop-point l = (k : ℕ) → k < l.point → bad_tile l.tiling.tiles l.tiling.cells.now k ≡ false
