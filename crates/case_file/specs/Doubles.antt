-- Doubles in a file: there is one value that is not a number. Assumes nothing.
use Rattle.std.specs.Prelude.{◌≡◌, ℕ, true, List, from_bits, to_bits, Float}
use Rattle.std.specs.Float.{nan, binary64}
use Rattle.std.specs.Float.Ieee.{nan_bits}
use Rattle.case_file.specs.Numbers.{big}

-- the double that eight bytes stand for
abbrev pub double : List ℕ → Float
double bytes = from_bits binary64 (big bytes)

-- the bits that are printed of a double
abbrev pub double_bits : Float → ℕ
double_bits x = to_bits binary64 x

-- every pattern that is not a number reads as one value, and that is printed as one pattern
abbrev pub OneNotANumber : Type 0
OneNotANumber = ((bytes : List ℕ) → nan_bits binary64 (big bytes) ≡ true → double bytes ≡ nan) × (double_bits nan ≡ 0x7ff8_0000_0000_0000)
