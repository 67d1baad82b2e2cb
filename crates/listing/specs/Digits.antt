-- Digits in base 16, lower case. Assumes nothing.
use Rattle.std.specs.Prelude.{ℕ, zero, suc, ◌/◌, ◌%◌, false, cond, List, [], ◌∷◌, ◌++◌, nat_lt}
use Rattle.std.specs.Fmt.{digit_glyph}

-- the n lowest digits of x, the highest of them first
abbrev pub hexadecimal : ℕ → ℕ → List ℕ
hexadecimal zero x = []
hexadecimal (suc n) x = hexadecimal n (x / 16) ++ digit_glyph false (x % 16) ∷ []

-- the digits of x without leading zeros, at most n of them
abbrev pub short_hexadecimal : ℕ → ℕ → List ℕ
short_hexadecimal zero x = []
short_hexadecimal (suc n) x = cond (nat_lt x 16) [] (short_hexadecimal n (x / 16)) ++ digit_glyph false (x % 16) ∷ []
