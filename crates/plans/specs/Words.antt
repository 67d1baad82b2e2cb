-- Wait words: the tiles that a tile waits for, as the bits of a number. Assumes nothing.
use Rattle.std.specs.Prelude.{◌≡◌, ℕ, ◌/◌, ◌%◌, ◌^◌, ◌<◌, ◌≤◌, Bool, false, cond, List, map, sum_by, ◌==◌}
use Rattle.checks.specs.Lists.{at, upto}
use Rattle.plans.specs.Tilings.{Tiling, waits}

-- a word with bit t set where the test passes at t, below n
abbrev pub word : (ℕ → Bool) → ℕ → ℕ
word test n = sum_by (λ t. cond (test t) (2 ^ t) 0) (upto n)

-- whether bit t of a word is set
abbrev pub bit : ℕ → ℕ → Bool
bit w t = w / 2 ^ t % 2 == 1

-- for each tile, which tiles it waits for
abbrev pub wait_words_of : Tiling → List ℕ
wait_words_of l = map (λ u. word (waits l u) l.count) (upto l.count)

-- bit t of u's wait word is set exactly where u waits for t, and no bit from the number of tiles on is
abbrev pub WordsTell : Type 0
WordsTell = (l : Tiling) (u : ℕ) → u < l.count
    → ((t : ℕ) → t < l.count → bit (at (wait_words_of l) u) t ≡ waits l u t) × ((t : ℕ) → l.count ≤ t → bit (at (wait_words_of l) u) t ≡ false)
