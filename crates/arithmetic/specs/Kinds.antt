-- The kinds of figures. Assumes nothing.
use Rattle.std.specs.Prelude.{ℕ, ◌+◌, min, true, cond, not, ◌&&◌, ◌==◌, nat_le, Float}
use Rattle.std.specs.Float.Ieee.{sub, mul, div, eq}
use Rattle.std.specs.Float.{float_is_finite, float_zero, binary64}
use Rattle.arithmetic.specs.Meanings.{Meaning}

-- binary64 numbers, each operation rounded once
abbrev pub doubles : Meaning Float Float
doubles = record {
  coefficient_admissible = float_is_finite;
  value_admissible = float_is_finite;
  diagonal_usable = λ d. float_is_finite d && not (eq d float_zero);
  taken_in = λ acc a u. sub binary64 acc (mul binary64 a u);
  finished = λ acc d. div binary64 acc d;
}

-- water that does not come
abbrev pub never : ℕ
never = 4_294_967_295

-- the latest minute at which water can still come
abbrev pub latest : ℕ
latest = 4_294_967_294

-- minutes until water comes, the lesser of what is known and what a link brings
abbrev pub minutes : Meaning ℕ ℕ
minutes = record {
  coefficient_admissible = λ a. true;
  value_admissible = λ v. true;
  diagonal_usable = λ d. (d == 0);
  taken_in = λ acc a u. min acc (cond (nat_le (a + u) latest) (a + u) never);
  finished = λ acc d. acc;
}
