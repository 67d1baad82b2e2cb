-- The pattern of a sparse matrix: which columns each row stores, and what makes its tables faulty. Assumes nothing.
use Rattle.std.specs.Prelude.{ℕ, ◌+◌, ◌-◌, Bool, not, ◌&&◌, ◌||◌, List, [], ◌∷◌, length, count_by, Option, ◌==◌, nat_eq, nat_le, nat_lt}
use Rattle.std.specs.List.{between}
use Rattle.checks.specs.declared.Check.TheVariants.{RowStart, Column, Row}
use Rattle.checks.specs.declared.Layer.{Layer}
use Rattle.checks.specs.declared.Fault.{Fault}
use Rattle.checks.specs.Lists.{at, some}
use Rattle.checks.specs.Verdicts.{lowest, first_fault}

-- R rows, E entries, the row starts and the columns
pub record Pattern : Type 0 where
  pub rows : ℕ
  pub entries : ℕ
  pub starts : List ℕ
  pub columns : List ℕ

-- row v's part of a list that has one element for each entry
abbrev pub row_part : {X : Type 0} → Pattern → List X → ℕ → List X
row_part m xs v = between (at m.starts v) (at m.starts (v + 1)) xs

-- row v stores column w
abbrev pub stores : Pattern → ℕ → ℕ → Bool
stores m v w = some (nat_eq w) (row_part m m.columns v)

-- different rows, one of which stores the other as a column
abbrev pub linked : Pattern → ℕ → ℕ → Bool
linked m v w = not (v == w) && (stores m v w || stores m w v)

-- entry e lies in the row that its column names: it is that row's own entry, on the diagonal
abbrev pub diagonal : Pattern → ℕ → Bool
diagonal m e = let v = at m.columns e in nat_le (at m.starts v) e && nat_lt e (at m.starts (v + 1))

-- start 0 is not 0, one is below its predecessor, or the last is not E
abbrev pub bad_start : Pattern → ℕ → Bool
bad_start m i = (i == 0 && not (at m.starts 0 == 0)) || nat_lt (at m.starts i) (at m.starts (i - 1)) || (i == m.rows && not (at m.starts i == m.entries))

-- a column that names no row
abbrev pub bad_column : Pattern → ℕ → Bool
bad_column m e = not (nat_lt (at m.columns e) m.rows)

-- a row that does not store its own column exactly once
abbrev pub bad_row : Pattern → ℕ → Bool
bad_row m v = not (count_by (nat_eq v) (row_part m m.columns v) == 1)

-- the first row start that is wrong
abbrev pub starts_fault : Layer → Pattern → Option Fault
starts_fault layer m = lowest layer RowStart (bad_start m) (length m.starts)

-- the first column that names no row
abbrev pub columns_fault : Layer → Pattern → Option Fault
columns_fault layer m = lowest layer Column (bad_column m) (length m.columns)

-- the first row that does not store its own column exactly once
abbrev pub rows_fault : Layer → Pattern → Option Fault
rows_fault layer m = lowest layer Row (bad_row m) m.rows

-- row starts, then columns, then rows
abbrev pub matrix_fault : Layer → Pattern → Option Fault
matrix_fault layer m = first_fault (starts_fault layer m ∷ columns_fault layer m ∷ rows_fault layer m ∷ [])
