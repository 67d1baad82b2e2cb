-- Words on lists of numbers that the definitions of the subject are written with. Assumes nothing.
use Rattle.std.specs.Prelude.{ℕ, zero, suc, ◌+◌, Bool, true, false, cond, ◌&&◌, ◌||◌, List, [], ◌∷◌, slice_index}
use Rattle.std.specs.List.{range_with_len}

-- the numbers 0 to n - 1
abbrev pub upto : ℕ → List ℕ
upto n = range_with_len 0 n

-- what stands at i in a table of numbers
abbrev pub at : List ℕ → ℕ → ℕ
at xs i = slice_index xs i

-- whether the test passes at some element
abbrev pub some : {X : Type 0} → (X → Bool) → List X → Bool
some p [] = false
some p (x ∷ xs) = p x || some p xs

-- whether the test passes at every element
abbrev pub every : {X : Type 0} → (X → Bool) → List X → Bool
every p [] = true
every p (x ∷ xs) = p x && every p xs

-- whether there is an element at i, and the test passes at it
abbrev pub passes_at : {X : Type 0} → (X → Bool) → List X → ℕ → Bool
passes_at p [] i = false
passes_at p (x ∷ xs) zero = p x
passes_at p (x ∷ xs) (suc i) = passes_at p xs i

-- running totals: a, a + n0, a + n0 + n1, and so on
abbrev pub totals : ℕ → List ℕ → List ℕ
totals a [] = a ∷ []
totals a (n ∷ ns) = a ∷ totals (a + n) ns

-- the least number from i on, n numbers long, at which the test passes, or the end of that stretch
abbrev pub first_from : (ℕ → Bool) → ℕ → ℕ → ℕ
first_from p i zero = i
first_from p i (suc n) = cond (p i) i (first_from p (i + 1) n)

-- the least number below n at which the test passes, or n
abbrev pub first_where : (ℕ → Bool) → ℕ → ℕ
first_where p n = first_from p 0 n
