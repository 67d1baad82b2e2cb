-- The pairs of points that the entries give, of which the first directly precedes the second; what each shows. Assumes nothing.
-- A pair holds two indices of the tile table.
use Rattle.std.specs.Prelude.{ℕ, ◌+◌, ◌*◌, ◌^◌, min, max, cond, List, [], ◌∷◌, ◌++◌, ◌==◌, bit_or, nat_lt, slice_set}
use Rattle.std.specs.List.{flat_map}
use Rattle.checks.specs.Lists.{at, upto}
use Rattle.matrix.specs.Patterns.{row_part}
use Rattle.plans.specs.Tilings.{Tiling}

-- from a sweep to the next, both ways of the link, or a row's own way; and within the sweep from the lower row to the higher
abbrev pub sweep_pairs : ℕ → ℕ → ℕ → ℕ → ℕ → List (ℕ × ℕ)
sweep_pairs R T v w c = cond (nat_lt (c + 1) T) ((c * R + v, (c + 1) * R + w) ∷ (c * R + w, (c + 1) * R + v) ∷ []) [] ++ cond (v == w) [] ((c * R + min v w, c * R + max v w) ∷ [])

-- an entry of row v with column w, in all sweeps
abbrev pub link_pairs : ℕ → ℕ → ℕ → ℕ → List (ℕ × ℕ)
link_pairs R T v w = flat_map (sweep_pairs R T v w) (upto T)

-- the entries of row v, in all sweeps
abbrev pub row_pairs : Tiling → ℕ → List (ℕ × ℕ)
row_pairs l v = flat_map (link_pairs l.pattern.rows l.sweeps v) (row_part l.pattern l.pattern.columns v)

-- all entries, in all sweeps
abbrev pub all_pairs : Tiling → List (ℕ × ℕ)
all_pairs l = flat_map (row_pairs l) (upto l.pattern.rows)

-- the later point's tile waits for the earlier one's
abbrev pub noted : List ℕ → List ℕ → ℕ × ℕ → List ℕ
noted tiles words p = cond (at tiles p.0 == at tiles p.1) words (slice_set words (at tiles p.1) (bit_or (at words (at tiles p.1)) (2 ^ at tiles p.0)))

-- the lowest point so far that is preceded by one of a higher tile
abbrev pub lowered : List ℕ → ℕ → ℕ × ℕ → ℕ
lowered tiles low p = cond (nat_lt (at tiles p.1) (at tiles p.0)) (min low p.1) low
