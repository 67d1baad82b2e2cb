-- Row elements carried one after the other, there and back. Assumes nothing.
use Rattle.std.proofs.Common.{◌≡◌, ℕ, ◌+◌, ◌*◌, ◌<◌, ◌≤◌, List, [], ◌∷◌, ◌++◌, map, length, get_or, sym, refl, ap, ◌∙◌, ap₂, arith}
use Rattle.std.specs.List.{between, flat_map}
use Rattle.std.proofs.lemmas.List.FromFn.{length-range_with_len, get_or-range_with_len}
use Rattle.std.proofs.lemmas.List.Edits.{between_none, between_more, length-between, get_or-between}
use Rattle.std.proofs.lemmas.List.Concat.{length-flat_map}
use Rattle.std.proofs.lemmas.List.Folds.{flat_map-map}
use Rattle.checks.specs.Lists.{at, upto, totals}
use Rattle.numbering.specs.Order.{carried_rows, remapped_tiles}
use Rattle.numbering.specs.Laws.{Numbering, TilesMoved, RowsComeBack}
use Rattle.numbering.proofs.Tallies.{total_same, total_const, totals_at, sum_all, next_sweep}
use Rattle.numbering.proofs.Numbered.{turned, renumbered, numbering_passed}
use Rattle.numbering.proofs.Stretches.{joined_same, joined_stretches, between_all, stretch_at}

module _ {X : Type 0} (xs : List X) where
  pub between_one : (v : ℕ) (d : X) → v < length xs → between v (v + 1) xs ≡ get_or xs v d ∷ []
  between_one v d l = between_more xs v v d (omega arith) l ∙ ap (λ ys. ys ++ get_or xs v d ∷ []) (between_none xs v)

-- parts of one length n, one after the other
module _ {Y : Type 0} (f : ℕ → List Y) (n : ℕ) (xs : List ℕ) (level : (k : ℕ) → k < length xs → length (f (at xs k)) ≡ n) where
  pub length_level : length (flat_map f xs) ≡ length xs * n
  length_level = length-flat_map f xs ∙ sum_all (λ x. length (f x)) xs (length xs) refl ∙ total_same _ (λ _. n) (length xs) level ∙ total_const (length xs) n

  pub level_at : (i : ℕ) → i < length xs → between (i * n) (i * n + n) (flat_map f xs) ≡ f (at xs i)
  level_at i l =
      ap₂ (λ a b. between a b (flat_map f xs)) (sym (start i (omega arith))) (sym (start (i + 1) (omega arith) ∙ omega arith)) ∙ stretch_at f (λ _. n) xs i l level
    where
      start : (i : ℕ) → i ≤ length xs → at (totals 0 (map (λ _. n) xs)) i ≡ i * n
      start i h = totals_at (λ _. n) xs i h ∙ total_const i n

module _ {X : Type 0} {r : ℕ} {rank row : List ℕ} (num : Numbering r rank row) (xs : List X) (long : length xs ≡ r) where
  single : (k : ℕ) → k < length row → length (between (at row k) (at row k + 1) xs) ≡ 1
  single k l = length-between xs (at row k) (at row k + 1) (omega (arith, num.inside k (omega (arith, num.placed)))) ∙ omega arith

  pub length_carried_rows : length (carried_rows row xs) ≡ r
  length_carried_rows = length_level (λ v. between v (v + 1) xs) 1 row single ∙ omega (arith, num.placed)

  -- the element of rank i is its row's
  pub carried_row : (i : ℕ) → i < r → between i (i + 1) (carried_rows row xs) ≡ between (at row i) (at row i + 1) xs
  carried_row i l =
      let e : i * 1 ≡ i = omega arith in
      ap (λ k. between k (k + 1) (carried_rows row xs)) (sym e) ∙ level_at (λ v. between v (v + 1) xs) 1 row single i (omega (arith, num.placed))

  pub carried_row_at : (i : ℕ) (d : X) → i < r → get_or (carried_rows row xs) i d ≡ get_or xs (at row i) d
  carried_row_at i d l =
      ap (λ k. get_or (carried_rows row xs) k d) (omega arith) ∙ sym (get_or-between (carried_rows row xs) i (i + 1) 0 d (omega arith)) ∙ ap (λ ys. get_or ys 0 d) (carried_row i l)
      ∙ get_or-between xs (at row i) (at row i + 1) 0 d (omega arith) ∙ ap (λ k. get_or xs k d) (omega arith)

  pub rows_back : carried_rows rank (carried_rows row xs) ≡ xs
  rows_back =
      let z : 0 + r ≡ r = omega arith in
      joined_same (λ i. between i (i + 1) (carried_rows row xs)) (λ i. between (at row i) (at row i + 1) xs) rank (λ v l. carried_row (at rank v) (num.below v (omega (arith, num.ranked))))
      ∙ sym (flat_map-map (λ v. between v (v + 1) xs) (at row) rank) ∙ ap (flat_map (λ v. between v (v + 1) xs)) (renumbered num)
      ∙ joined_stretches (λ v. v) xs 0 r (λ k p q. omega arith) ∙ ap (λ n. between 0 n xs) z ∙ between_all xs r long

pub rows_come_back : (X : Type 0) → RowsComeBack X
rows_come_back X r rank row xs lr lw long right =
    let num = numbering_passed r rank row lr lw right in
    (rows_back num xs long, rows_back (turned num) xs long)

pub tiles_moved : TilesMoved
tiles_moved r t rank row tiles num long = (
  length_level moved r (upto t) level ∙ ap (λ n. n * r) (length-range_with_len 0 t),
  λ s v hs hv.
      let i = at rank v in
      let hi = num.below v hv in
      let part = between (s * r) (s * r + r) tiles in
      sym (get_or-between (remapped_tiles r t row tiles) (s * r) (s * r + r) i 0 (omega arith))
      ∙ ap (λ ys. at ys i) (level_at moved r (upto t) level s (omega (arith, length-range_with_len 0 t)) ∙ ap moved (nth s hs))
      ∙ carried_row_at num part (sized s hs) i 0 hi ∙ ap (at part) (num.there v hv)
      ∙ get_or-between tiles (s * r) (s * r + r) v 0 (omega arith),
)
  where
    moved : ℕ → List ℕ
    moved s = carried_rows row (between (s * r) (s * r + r) tiles)

    nth : (s : ℕ) → s < t → at (upto t) s ≡ s
    nth s h = get_or-range_with_len 0 t s 0 h ∙ omega arith

    sized : (s : ℕ) → s < t → length (between (s * r) (s * r + r) tiles) ≡ r
    sized s h = length-between tiles (s * r) (s * r + r) (omega (arith, next_sweep s r t h)) ∙ omega arith

    level : (k : ℕ) → k < length (upto t) → length (moved (at (upto t) k)) ≡ r
    level k l = let h : k < t = omega (arith, length-range_with_len 0 t) in ap (λ s. length (moved s)) (nth k h) ∙ length_carried_rows num (between (k * r) (k * r + r) tiles) (sized k h)
