use Rattle.std.proofs.Common.{◌≡◌, ℕ, ◌<◌, false}
use Rattle.matrix.specs.Patterns.{bad_start}
use Rattle.matrix.specs.Lent.{pattern_of}
use Rattle.matrix.proofs.pattern.Matrix.check_row_starts.Given as goal

abbrev pub invariant-loop-i : goal.invariant-loop-i
invariant-loop-i l = (k : ℕ) → k < l.i → bad_start (pattern_of l.self) k ≡ false
