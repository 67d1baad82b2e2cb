-- Parts written back into their rows, one rank after the other. Assumes nothing.
use Rattle.std.proofs.Common.{◌≡◌, ℕ, suc, ◌+◌, ◌-◌, ◌<◌, ◌≤◌, List, ◌++◌, length, take, drop, sym, ap, ◌∙◌, subst, ap₂, ⊎_elim, arith, below_more, length-drop}
use lib.Seq.{paste}
use Rattle.std.specs.List.{between, flat_map}
use Rattle.std.proofs.lemmas.List.Edits.{take-paste, drop-paste}
use Rattle.std.proofs.lemmas.List.{take_all, take-take, take-append-le, drop_at, drop-drop, length-take-le}
use Rattle.std.proofs.lemmas.Slice.{between_is}
use Rattle.std.proofs.lemmas.List.Folds.{flat_map-map}
use Rattle.std.proofs.lemmas.Bool.{cases_order}
use Rattle.checks.specs.Lists.{at}
use Rattle.matrix.specs.Patterns.{Pattern, row_part}
use Rattle.numbering.specs.Order.{carried_entries, row_length, remapped}
use Rattle.numbering.proofs.Tallies.{total}
use Rattle.numbering.specs.Laws.{Numbering}
use Rattle.numbering.proofs.Numbered.{turned, renumbered}
use Rattle.numbering.proofs.Stretches.{joined_same}
use Rattle.numbering.proofs.Fits.{Fit, start_rises, start_most, new_start, new_fit, carried_whole, carried_back}

module _ {X : Type 0} (xs part : List X) (p n : ℕ) (room : p + n ≤ length xs) (long : n ≡ length part) where
  front : take (p + n) (paste xs p part n) ≡ take p xs ++ part
  front = take-paste xs p part n (omega arith) (omega arith) ∙ ap (λ ys. take p xs ++ ys) (take_all n part (omega arith))

  pub between_written : between p (p + n) (paste xs p part n) ≡ part
  between_written = between_is (paste xs p part n) p (p + n) ∙ ap (drop p) front ∙ drop_at (take p xs) part p (length-take-le p xs (omega arith))

  pub between_before : (i j : ℕ) → j ≤ p → between i j (paste xs p part n) ≡ between i j xs
  between_before i j h =
      let size = length-take-le p xs (omega arith) in
      between_is (paste xs p part n) i j
      ∙ ap (drop i) (sym (take-take j (p + n) (paste xs p part n) (omega arith)) ∙ ap (take j) front ∙ take-append-le j (take p xs) part (omega arith) ∙ take-take j p xs h)
      ∙ sym (between_is xs i j)

  pub between_after : (i j : ℕ) → p + n ≤ i → between i j (paste xs p part n) ≡ between i j xs
  between_after i j h =
      let e : p + n + (i - (p + n)) ≡ i = omega arith in
      ap (take (j - i))
      (ap (λ k. drop k (paste xs p part n)) (sym e) ∙ sym (drop-drop (i - (p + n)) (p + n) (paste xs p part n)) ∙ ap (drop (i - (p + n))) (drop-paste xs p part n (omega arith) (omega arith))
      ∙ drop-drop (i - (p + n)) (p + n) xs ∙ ap (λ k. drop k xs) e)

module _ (m : Pattern) (fit : Fit m) (rank row : List ℕ) (num : Numbering m.rows rank row) {X : Type 0} (from : List X) (full : length from ≡ m.entries) where
  -- the first i ranks' rows hold their parts
  abbrev pub Holds : List X → ℕ → Type 0
  Holds to i = (k : ℕ) → k < i → row_part m to (at row k) ≡ row_part (remapped m rank row) from k

  pub next_start : (i : ℕ) → i < m.rows → at (remapped m rank row).starts (i + 1) ≡ at (remapped m rank row).starts i + row_length m (at row i)
  next_start i l = let e : i + 1 ≡ suc i = omega arith in new_start m fit rank row num (i + 1) (omega arith) ∙ ap (total (λ k. row_length m (at row k))) e ∙ ap (λ x. x + row_length m (at row i)) (sym (new_start m fit rank row num i (omega arith)))

  pub holds_more : (to rest : List X) (i : ℕ) → i < m.rows → length to ≡ m.entries → rest ≡ drop (at (remapped m rank row).starts i) from → Holds to i
      → Holds (paste to (at m.starts (at row i)) (take (row_length m (at row i)) rest) (row_length m (at row i))) (i + 1)
  holds_more to rest i l long begins held = below_more _ i
      (λ k h. ⊎_elim
      (λ e. absurd (omega (arith, sym (num.back k (omega arith)) ∙ ap (at rank) e ∙ num.back i l)))
      (⊎_elim
      (λ below. between_before to part start size fits whole (at m.starts (at row k)) (at m.starts (at row k + 1)) (rising (at row k) (at row i) (num.inside i l) below) ∙ held k h)
      (λ above. between_after to part start size fits whole (at m.starts (at row k)) (at m.starts (at row k + 1)) (omega (arith, rising (at row i) (at row k) (num.inside k (omega arith)) above, span)) ∙ held k h))
      (cases_order (at row k) (at row i)))
      (ap (λ e. between start e (paste to start part size)) (sym (omega (arith, span))) ∙ between_written to part start size fits whole ∙ ap₂ take long_part begins)
    where
      start : ℕ
      start = at m.starts (at row i)

      size : ℕ
      size = row_length m (at row i)

      part : List X
      part = take size rest

      long_part : size ≡ at (remapped m rank row).starts (i + 1) - at (remapped m rank row).starts i
      long_part = omega (arith, next_start i l)

      rising : (u v : ℕ) → v < m.rows → u < v → at m.starts (u + 1) ≤ at m.starts v
      rising u v h b = let e : u + 1 + (v - (u + 1)) ≡ v = omega arith in subst (λ k. at m.starts (u + 1) ≤ at m.starts k) e (start_rises m fit (u + 1) (v - (u + 1)) (omega arith))

      span : start + size ≡ at m.starts (at row i + 1)
      span = omega (arith, fit.rises (at row i) (num.inside i l))

      fits : start + size ≤ length to
      fits = omega (arith, span, start_most m fit (at row i + 1) (omega (arith, num.inside i l)))

      whole : size ≡ length part
      whole = sym (length-take-le size rest (omega (arith, ap length begins, length-drop (at (remapped m rank row).starts i) from, next_start i l, start_most (remapped m rank row) (new_fit m fit rank row num) (i + 1) (omega arith))))

  pub holds_all : (to : List X) → length to ≡ m.entries → Holds to m.rows → to ≡ carried_entries (remapped m rank row) rank from
  holds_all to long held =
      sym (carried_back m fit rank row num to long)
      ∙ ap (carried_entries (remapped m rank row) rank)
      (joined_same (row_part m to) (λ v. row_part (remapped m rank row) from (at rank v)) row (λ i l. let h : i < m.rows = omega (arith, num.placed) in held i h ∙ ap (row_part (remapped m rank row) from) (sym (num.back i h)))
      ∙ sym (flat_map-map (row_part (remapped m rank row) from) (at rank) row)
      ∙ ap (flat_map (row_part (remapped m rank row) from)) (renumbered (turned num))
      ∙ carried_whole (remapped m rank row) (new_fit m fit rank row num) from full)
