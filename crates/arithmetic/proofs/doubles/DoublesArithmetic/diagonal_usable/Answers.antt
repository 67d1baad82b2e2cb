use Rattle.std.proofs.Common.{not, ◌&&◌, ap}
use lib.Ieee.{eq, ne, of_bits}
use Rattle.std.specs.Float.{float_zero}
use Rattle.arithmetic.proofs.doubles.DoublesArithmetic.diagonal_usable.Goals as goal

pub returns-then-is_finite : goal.returns-then-is_finite
unfolding ne of_bits
returns-then-is_finite c = ap (λ b. b && not (eq c.args.diagonal float_zero)) c.if-is_finite.ensures.value
