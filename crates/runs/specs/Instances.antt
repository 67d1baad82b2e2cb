-- The rows of a system as the order of points sees them. Assumes nothing.
use Rattle.std.specs.Prelude.{◌≡◌, ℕ, List, length, slice_index_or}
use Rattle.matrix.specs.Patterns.{linked}
use Rattle.points.specs.Sweeps.{Local}
use Rattle.points.specs.Sweeps as points
use Rattle.arithmetic.specs.Meanings.{Meaning}
use Rattle.arithmetic.specs.Sweeps.{Equations, row_value_of, row_entries, plain}

-- row i's new value; `b` is the right-hand side of a row that has none
abbrev pub new_value : {C V : Type 0} → Meaning C V → Equations C V → V → ℕ → List V → V
new_value m s b i x = row_value_of m i (row_entries s i) (slice_index_or s.rhs i b) x

-- a row's new value depends on the rows linked to it alone
abbrev pub RowsAreLocal : Type 0 → Type 0 → Type 0
RowsAreLocal C V = (m : Meaning C V) (s : Equations C V) (b : V) (R : ℕ) → Local R (linked s.pattern) (new_value m s b)

-- the plain sweep of the arithmetic is that of the order of points
abbrev pub PlainIsPlain : Type 0 → Type 0 → Type 0
PlainIsPlain C V = (m : Meaning C V) (s : Equations C V) (b : V) (x : List V) → length s.rhs ≡ s.pattern.rows → length x ≡ s.pattern.rows
    → (c : ℕ) → plain m s x c ≡ points.plain (new_value m s b) s.pattern.rows x c
