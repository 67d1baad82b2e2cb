-- The two directions of growing as one: which tile is best, and which pairs of rows pull on one another. Assumes nothing.
use Rattle.std.specs.Prelude.{ℕ, ◌-◌, ◌*◌, ◌≤◌, min, max, Bool, cond, Option, Some, None, List, [], ◌∷◌, ◌++◌, ◌==◌}
use Rattle.matrix.specs.Patterns.{Pattern}
use Rattle.growing.specs.Growing.{before, round, rounds}
use Rattle.growing.specs.declared.direction.Direction.{Direction}
use Rattle.growing.specs.declared.direction.Direction.TheVariants.{Down, Up}

-- the better of two tiles: the lower going down, the higher going up
abbrev pub best_of : Direction → ℕ → ℕ → ℕ
best_of Down = min
best_of Up = max

-- the first tile is as good as the second
abbrev pub Better : Direction → ℕ → ℕ → Type 0
Better Down a b = a ≤ b
Better Up a b = b ≤ a

-- how far a tile up to k may still move
abbrev pub far : Direction → ℕ → ℕ → ℕ
far Down k a = a
far Up k a = k - a

-- the pair's first row: going down the one that comes before, going up the other
abbrev pub pair_of : Direction → Pattern → List (List ℕ) → ℕ → ℕ → Bool
pair_of Down m grown v w = before m grown v w
pair_of Up m grown v w = before m grown w v

-- the sweep next to `near`: below it going down, above it going up
abbrev pub next : Direction → Pattern → ℕ → List (List ℕ) → List ℕ → List ℕ
next d m k grown near = rounds (k * m.rows) (round (best_of d) (pair_of d m grown) m.rows near) near

-- the sweeps grown so far with one more
abbrev pub added : Direction → List ℕ → List (List ℕ) → List (List ℕ)
added Down g grown = g ∷ grown
added Up g grown = grown ++ g ∷ []

-- the mark of an entry whose row is the first of its pair, and of one whose column is
abbrev pub row_first : Direction → ℕ
row_first Down = 1
row_first Up = 2

-- the mark of an entry whose column is the first of its pair
abbrev pub column_first_of : Direction → ℕ
column_first_of Down = 2
column_first_of Up = 1

-- the pair of rows that an entry's mark names, its first row first
abbrev pub entry_pair : Direction → ℕ → ℕ → ℕ → Option (ℕ × ℕ)
entry_pair d row column mark = cond (mark == row_first d) (Some (row, column)) (cond (mark == column_first_of d) (Some (column, row)) None)
