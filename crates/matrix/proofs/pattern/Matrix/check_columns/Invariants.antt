use Rattle.std.proofs.Common.{◌≡◌, ℕ, ◌<◌, false}
use Rattle.matrix.specs.Patterns.{bad_column}
use Rattle.matrix.specs.Lent.{pattern_of}
use Rattle.matrix.proofs.pattern.Matrix.check_columns.Given as goal

abbrev pub invariant-loop-e : goal.invariant-loop-e
invariant-loop-e l = (k : ℕ) → k < l.e → bad_column (pattern_of l.self) k ≡ false
