-- The lines of a plain sweep's listing. Assumes nothing.
use Rattle.std.specs.Prelude.{ℕ, List, ◌++◌, length, codes, decimal}
use Rattle.listing.specs.Digits.{hexadecimal}
use Rattle.listing.specs.Refusals.{newline}
use Rattle.listing.specs.Lines.{numbered}

-- a row's number and its value's bits, in so many digits
abbrev pub row_line : ℕ → ℕ → ℕ → List ℕ
row_line digits v bits = codes "row " ++ (decimal v ++ (codes " value " ++ (hexadecimal digits bits ++ newline)))

-- a line for each row
abbrev pub rows_text : ℕ → List ℕ → List ℕ
rows_text digits values = numbered (row_line digits) 0 values

-- the first line
abbrev pub heading : ℕ → ℕ → List ℕ
heading rows sweeps = codes "rows " ++ (decimal rows ++ (codes " sweeps " ++ (decimal sweeps ++ newline)))

-- the whole listing, of the values' bits
abbrev pub plain_text : ℕ → ℕ → List ℕ → List ℕ
plain_text sweeps digits values = heading (length values) sweeps ++ rows_text digits values
