-- What the tables of a plan say at a place. Assumes nothing.
use Rattle.std.proofs.Common.{◌≡◌, ℕ, ◌+◌, ◌*◌, ◌<◌, ◌≤◌, eqb, List, length, refl, ap, ◌∙◌, ap₂, arith}
use Rattle.std.specs.List.{between, AllByRecursion as All}
use Rattle.std.proofs.lemmas.List.Sums.{length-filter}
use Rattle.std.proofs.ByRecursion.{All-from_get_or, all_kept_by, All-get_or}
use Rattle.std.proofs.lemmas.List.FromFn.{length-range_with_len, get_or-range_with_len, get_or-map-range_with_len, length-map-range_with_len}
use Rattle.std.proofs.lemmas.List.{get_or_past}
use Rattle.std.proofs.lemmas.Bool.{ne_eqb}
use Rattle.checks.specs.Lists.{at, upto}
use Rattle.points.specs.Points.{size}
use Rattle.points.specs.Schedules.{begins}
use Rattle.points.proofs.Counts.{sum_same, sum_zero}
use Rattle.points.proofs.Schedules.{parts_are_rows}
use Rattle.plans.specs.Tilings.{Tiling, tile_of, rows_in, schedule_of, schedule_starts_of, waits}
use Rattle.plans.specs.Words.{word, wait_words_of}
use Rattle.plans.proofs.Places.{count_flat}

module _ (l : Tiling) where
  pub starts_long : (xs : List ℕ) → xs ≡ schedule_starts_of l → length xs ≡ l.count * l.sweeps + 1
  starts_long xs e = ap length e ∙ length-map-range_with_len (begins l.pattern.rows l.sweeps (tile_of l)) 0 (l.count * l.sweeps + 1)

  pub starts_at : (xs : List ℕ) → xs ≡ schedule_starts_of l → (n : ℕ) → n ≤ l.count * l.sweeps → at xs n ≡ begins l.pattern.rows l.sweeps (tile_of l) n
  starts_at xs e n h = ap (λ ys. at ys n) e ∙ get_or-map-range_with_len (begins l.pattern.rows l.sweeps (tile_of l)) 0 (l.count * l.sweeps + 1) n n 0 (omega arith) (omega arith)

  pub words_long : (xs : List ℕ) → xs ≡ wait_words_of l → length xs ≡ l.count
  words_long xs e = ap length e ∙ length-map-range_with_len (λ u. word (waits l u) l.count) 0 l.count

  -- there is no word past the last tile
  pub no_word : (u : ℕ) → l.count ≤ u → at (wait_words_of l) u ≡ 0
  no_word u h = get_or_past (wait_words_of l) u 0 (omega (arith, words_long (wait_words_of l) refl))

  -- a tile's rows are rows
  pub rows_below : (t c i : ℕ) → i < length (rows_in l t c) → at (rows_in l t c) i < l.pattern.rows
  rows_below t c i h = All-get_or (λ x. x < l.pattern.rows) (rows_in l t c) i 0 h (all_kept_by (λ x. eqb (tile_of l c x) t) (λ x. x < l.pattern.rows) (upto l.pattern.rows) all)
    where
      all : All (λ x. x < l.pattern.rows) (upto l.pattern.rows)
      all = All-from_get_or (λ x. x < l.pattern.rows) (upto l.pattern.rows) 0 (λ j q. let m : j < l.pattern.rows = omega (arith, length-range_with_len 0 l.pattern.rows) in omega (arith, get_or-range_with_len 0 l.pattern.rows j 0 m))

  -- there is no point past the last tile
  pub no_points : ((c i : ℕ) → c < l.sweeps → i < l.pattern.rows → tile_of l c i < l.count) → (t : ℕ) → l.count ≤ t → size l.pattern.rows l.sweeps (tile_of l) t ≡ 0
  no_points small t h =
      sum_same _ (λ _. 0) l.sweeps (λ c hc. length-filter (λ i. eqb (tile_of l c i) t) (upto l.pattern.rows) ∙ count_flat (λ i. eqb (tile_of l c i) t) 0 l.pattern.rows (omega arith) (λ i _ hi. ne_eqb _ _ (omega (arith, small c i hc hi))))
      ∙ sum_zero l.sweeps

  -- the schedule between two starts
  pub part_is : (xs : List ℕ) (from to t c : ℕ) → xs ≡ schedule_of l → from ≡ begins l.pattern.rows l.sweeps (tile_of l) (t * l.sweeps + c) → to ≡ begins l.pattern.rows l.sweeps (tile_of l) (t * l.sweeps + c + 1)
      → t < l.count → c < l.sweeps → between from to xs ≡ rows_in l t c
  part_is xs from to t c e a b ht hc =
      ap (between from to) e ∙ ap₂ (λ x y. between x y (schedule_of l)) a b ∙ (parts_are_rows l.pattern.rows l.sweeps l.count (tile_of l)).1 t c ht hc
