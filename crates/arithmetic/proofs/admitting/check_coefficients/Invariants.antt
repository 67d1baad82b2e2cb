use Rattle.std.proofs.Common.{◌≡◌, ℕ, ◌<◌, false}
use Rattle.matrix.specs.Lent.{pattern_of}
use Rattle.arithmetic.specs.Admitting.{bad_coefficient}
use Rattle.arithmetic.proofs.admitting.check_coefficients.Given as goal

abbrev pub invariant-loop-e : goal.invariant-loop-e
invariant-loop-e g l = (k : ℕ) → k < l.e → bad_coefficient (g.K.Arithmetic.means l.arithmetic) (pattern_of l.matrix) l.coefficients k ≡ false
