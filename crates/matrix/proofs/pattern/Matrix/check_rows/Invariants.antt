use Rattle.std.proofs.Common.{◌≡◌, ℕ, ◌<◌, false}
use Rattle.matrix.specs.Patterns.{bad_row}
use Rattle.matrix.specs.Lent.{pattern_of}
use Rattle.matrix.proofs.pattern.Matrix.check_rows.Given as goal

abbrev pub invariant-loop-row : goal.invariant-loop-row
invariant-loop-row l = (k : ℕ) → k < l.row → bad_row (pattern_of l.self) k ≡ false
