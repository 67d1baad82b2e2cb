-- A row's new value and the plain sweep, for the meaning of any arithmetic. Assumes nothing.
use Rattle.std.specs.Prelude.{ℕ, zero, suc, ◌+◌, cond, List, [], ◌∷◌, length, drop, Some, None, fold, Option, ◌==◌, slice_set}
use Rattle.std.specs.List.{zip}
use Rattle.checks.specs.declared.Check.TheVariants.{RightHandSide, Vector}
use Rattle.checks.specs.declared.Layer.TheVariants.{Matrix as matrix_layer, Run as run_layer}
use Rattle.checks.specs.declared.Fault.{Fault}
use Rattle.checks.specs.Lists.{upto}
use Rattle.checks.specs.Verdicts.{first_fault}
use Rattle.matrix.specs.declared.sizes.Size.TheVariants as size
use Rattle.matrix.specs.declared.tables.Table.TheVariants as table
use Rattle.matrix.specs.Sizes.{size_fault}
use Rattle.matrix.specs.Tables.{length_fault}
use Rattle.matrix.specs.Patterns.{Pattern, row_part, matrix_fault}
use Rattle.arithmetic.specs.Meanings.{Meaning}
use Rattle.arithmetic.specs.Admitting.{coefficients_fault, values_fault}

-- a matrix with its coefficients and its right-hand side
pub record Equations (C V : Type 0) : Type 0 where
  pub pattern : Pattern
  pub coefficients : List C
  pub rhs : List V

-- coefficient a taken in with the present value of its column, the first of the values from that column on
abbrev pub taken_from : {C V : Type 0} → Meaning C V → V → C → List V → V
taken_from m acc a [] = acc
taken_from m acc a (u ∷ us) = m.taken_in acc a u

-- what an entry, a column with its coefficient, makes of row i's accumulator: the own entry nothing
abbrev pub with_entry : {C V : Type 0} → Meaning C V → ℕ → List V → V → ℕ × C → V
with_entry m i x acc e = cond (e.0 == i) acc (taken_from m acc e.1 (drop e.0 x))

-- the own entry's coefficient, where row i has met it
abbrev pub own_coefficient : {C : Type 0} → ℕ → Option C → ℕ × C → Option C
own_coefficient i own e = cond (e.0 == i) (Some e.1) own

-- finishing with the own entry's coefficient, if there is one
abbrev pub finished_by : {C V : Type 0} → Meaning C V → V → Option C → V
finished_by m acc (Some d) = m.finished acc d
finished_by m acc None = acc

-- row i's new value from its entries in stored order, its right-hand side b and the present values x
abbrev pub row_value_of : {C V : Type 0} → Meaning C V → ℕ → List (ℕ × C) → V → List V → V
row_value_of m i row b x = finished_by m (fold (with_entry m i x) b row) (fold (own_coefficient i) None row)

-- row i's entries: columns with their coefficients
abbrev pub row_entries : {C V : Type 0} → Equations C V → ℕ → List (ℕ × C)
row_entries s i = zip (row_part s.pattern s.pattern.columns i) (row_part s.pattern s.coefficients i)

-- the values with row i's new one, where there is a right-hand side for it
abbrev pub placed : {V : Type 0} → ℕ → (V → V) → List V → List V → List V
placed i value x [] = x
placed i value x (b ∷ bs) = slice_set x i (value b)

-- the values once row i is updated
abbrev pub updated : {C V : Type 0} → Meaning C V → Equations C V → List V → ℕ → List V
updated m s x i = placed i (λ b. row_value_of m i (row_entries s i) b x) x (drop i s.rhs)

-- the values after one sweep: rows 0 to R - 1, each from the present values
abbrev pub swept : {C V : Type 0} → Meaning C V → Equations C V → List V → List V
swept m s x = fold (updated m s) x (upto s.pattern.rows)

-- the plain values after c sweeps
abbrev pub plain : {C V : Type 0} → Meaning C V → Equations C V → List V → ℕ → List V
plain m s x zero = x
plain m s x (suc c) = swept m s (plain m s x c)

-- the sizes R, E and T, then the lengths of the row starts, columns, coefficients, right-hand side and vector
abbrev pub shape_fault : Pattern → ℕ → ℕ → ℕ → ℕ → Option Fault
shape_fault p sweeps coefficients rhs x =
    first_fault (size_fault matrix_layer (size.Rows p.rows)
    ∷ size_fault matrix_layer (size.Entries p.entries)
    ∷ size_fault matrix_layer (size.Sweeps sweeps)
    ∷ length_fault matrix_layer table.RowStarts (length p.starts) (p.rows + 1)
    ∷ length_fault matrix_layer table.Columns (length p.columns) p.entries
    ∷ length_fault matrix_layer table.Coefficients coefficients p.entries
    ∷ length_fault matrix_layer table.RightHandSide rhs p.rows
    ∷ length_fault matrix_layer table.Vector x p.rows
    ∷ [])

-- what a plain sweep refuses: sizes and lengths, the matrix, then the figures
abbrev pub sweeping_fault : {C V : Type 0} → Meaning C V → Equations C V → ℕ → List V → Option Fault
sweeping_fault m s sweeps x =
    first_fault (shape_fault s.pattern sweeps (length s.coefficients) (length s.rhs) (length x)
    ∷ matrix_fault matrix_layer s.pattern
    ∷ coefficients_fault run_layer m s.pattern s.coefficients
    ∷ values_fault run_layer RightHandSide m s.rhs
    ∷ values_fault run_layer Vector m x
    ∷ [])
