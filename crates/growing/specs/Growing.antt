-- Growing: the tile of every point, from the seed, and the marks of the entries. Assumes nothing.
-- A sweep's tiles are a list, one for each row; `grown` lists the sweeps grown so far, lowest first.
use Rattle.std.specs.Prelude.{ℕ, zero, suc, ◌-◌, ◌*◌, min, max, Bool, cond, ◌&&◌, List, [], ◌∷◌, ◌++◌, map, fold, filter, nat_lt}
use Rattle.std.specs.List.{flat_map}
use Rattle.checks.specs.Lists.{at, some, upto}
use Rattle.matrix.specs.Patterns.{Pattern, row_part, linked}

-- v comes before w once a sweep is grown in which v's tile is the lower
abbrev pub before : Pattern → List (List ℕ) → ℕ → ℕ → Bool
before m grown v w = linked m v w && some (λ g. nat_lt (at g v) (at g w)) grown

-- One round over n rows. Each row v takes the best (`min` going down, `max` going up) of its own tile in the neighbouring sweep `near`,
-- the tiles g(w) of the rows w with `rel v w`, and the neighbouring tiles near(u) of the rows u with `rel u v`.
abbrev pub round : (ℕ → ℕ → ℕ) → (ℕ → ℕ → Bool) → ℕ → List ℕ → List ℕ → List ℕ
round best rel n near g =
    map (λ v. fold best (at near v) (map (at g) (filter (rel v) (upto n)) ++ map (at near) (filter (λ u. rel u v) (upto n)))) (upto n)

-- so many rounds, one after the other
abbrev pub rounds : ℕ → (List ℕ → List ℕ) → List ℕ → List ℕ
rounds zero f g = g
rounds (suc c) f g = rounds c f (f g)

-- the sweep below `near`: k * R rounds, since each that moves a row moves a tile by one at least
abbrev pub lower : Pattern → ℕ → List (List ℕ) → List ℕ → List ℕ
lower m k grown near = rounds (k * m.rows) (round min (before m grown) m.rows near) near

-- the sweep above `near`
abbrev pub raise : Pattern → ℕ → List (List ℕ) → List ℕ → List ℕ
raise m k grown near = rounds (k * m.rows) (round max (λ v w. before m grown w v) m.rows near) near

-- n sweeps more below the lowest, near
abbrev pub down : Pattern → ℕ → ℕ → List ℕ → List (List ℕ) → List (List ℕ)
down m k zero near grown = grown
down m k (suc n) near grown = let g = lower m k grown near in down m k n g (g ∷ grown)

-- n sweeps more above the highest, near
abbrev pub up : Pattern → ℕ → ℕ → List ℕ → List (List ℕ) → List (List ℕ)
up m k zero near grown = grown
up m k (suc n) near grown = let g = raise m k grown near in up m k n g (grown ++ g ∷ [])

-- all T sweeps, from the seed in sweep S
abbrev pub sweeps : Pattern → ℕ → ℕ → ℕ → List ℕ → List (List ℕ)
sweeps m t s k seed = up m k (t - s) seed (down m k (s - 1) seed (seed ∷ []))

-- the sweeps one after the other
abbrev pub tile_table_of : Pattern → ℕ → ℕ → ℕ → List ℕ → List ℕ
tile_table_of m t s k seed = flat_map (λ g. g) (sweeps m t s k seed)

-- 1 if row v comes before column w, 2 if w comes before v, otherwise 0
abbrev pub mark : Pattern → List (List ℕ) → ℕ → ℕ → ℕ
mark m grown v w = cond (before m grown v w) 1 (cond (before m grown w v) 2 0)

-- the mark of every entry, by the sweeps grown so far
abbrev pub marks_of : Pattern → List (List ℕ) → List ℕ
marks_of m grown = flat_map (λ v. map (mark m grown v) (row_part m m.columns v)) (upto m.rows)

-- the mark of every entry, by all sweeps
abbrev pub marks : Pattern → ℕ → ℕ → ℕ → List ℕ → List ℕ
marks m t s k seed = marks_of m (sweeps m t s k seed)
