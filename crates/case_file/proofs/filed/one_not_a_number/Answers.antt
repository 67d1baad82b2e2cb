use Rattle.std.proofs.Common.{◌≡◌, true, sym, refl, ◌∙◌}
use borrow.Author.Tests.{clash}
use lib.Ieee.{Float, nan, inf, fin, binary64, is_nan, to_bits}
use lib.Ieee.Bits.{nan_bits_is}
use Rattle.case_file.specs.Numbers.{big}
use Rattle.case_file.proofs.filed.one_not_a_number.Goals as goal

one_nan : (x : Float) → is_nan x ≡ true → x ≡ nan
unfolding is_nan
one_nan nan e = refl
one_nan (inf s) e = absurd (clash e)
one_nan (fin s m d) e = absurd (clash e)

pub returns : goal.returns
unfolding to_bits
returns c = (λ bytes e. one_nan _ (sym (nan_bits_is binary64 (big bytes)) ∙ e), refl)
