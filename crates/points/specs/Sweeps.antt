-- The Gauss-Seidel sweep, whatever its values are and however a row's new value is found. Assumes nothing.
use Rattle.std.specs.Prelude.{◌≡◌, ℕ, suc, ◌<◌, Bool, true, ◌&&◌, ◌||◌, ◌⊎◌, List, length, ◌==◌, nat_lt, slice_index_or, slice_set}
use Rattle.checks.specs.Lists.{upto}
use Rattle.points.specs.Points.{Precedes}
use Rattle.points.specs.Runs.{through}

-- a point precedes its row's next one; and, for linked i and j, row j's in the next sweep, and in its own if i < j
abbrev pub sweep_precedes : (ℕ → ℕ → Bool) → Precedes
sweep_precedes linked c i d j = (d == suc c && (i == j || linked i j)) || (d == c && (linked i j && nat_lt i j))

-- a link goes both ways
abbrev pub Symmetric : (ℕ → ℕ → Bool) → Type 0
Symmetric linked = (i j : ℕ) → linked i j ≡ true → linked j i ≡ true

-- row i updated in place: `value i x` is its new value from the present values x
abbrev pub in_place : {V : Type 0} → (ℕ → List V → V) → ℕ → ℕ → List V → List V
in_place value c i x = slice_set x i (value i x)

-- the values after n plain sweeps, each over all rows, rising
abbrev pub plain : {V : Type 0} → (ℕ → List V → V) → ℕ → List V → ℕ → List V
plain value R start n = through (in_place value) (λ _. upto R) n start

-- a row's new value depends on its own old value and on those of the rows linked to it alone
abbrev pub Local : {V : Type 0} → ℕ → (ℕ → ℕ → Bool) → (ℕ → List V → V) → Type 0
Local {V} R linked value = (i : ℕ) (x y : List V) → i < R → length x ≡ R → length y ≡ R
    → ((j : ℕ) (v : V) → j < R → (j ≡ i) ⊎ (linked i j ≡ true) → slice_index_or x j v ≡ slice_index_or y j v) → value i x ≡ value i y
