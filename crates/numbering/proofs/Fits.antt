-- Row starts that have passed their check, there and in the new numbering. Assumes nothing.
use Rattle.std.proofs.Common.{◌≡◌, ℕ, zero, suc, ◌+◌, ◌-◌, ◌<◌, ◌≤◌, Bool, true, false, not, ◌&&◌, ◌||◌, eqb, ltb, List, map, length, None, sym, refl, ap, ◌∙◌, subst, ap₂, inl, inr, ⊎_elim, arith}
use lib.ListN.{length-map}
use Rattle.std.specs.List.{between, flat_map}
use Rattle.std.proofs.lemmas.List.Edits.{length-between}
use Rattle.std.proofs.lemmas.List.{ext_get_or}
use Rattle.std.proofs.lemmas.List.Concat.{length-flat_map}
use Rattle.std.proofs.lemmas.List.Folds.{flat_map-map}
use Rattle.std.proofs.lemmas.Bool.{cases_eq, eqb-true, eq-eqb, ne_eqb, ltb-false, le-ltb, not-false, not_from_true, or_parts, or_from, and_cases, and_left, and_right}
use Rattle.checks.specs.Lists.{at, upto}
use Rattle.checks.specs.declared.Check.TheVariants.{RowStart}
use Rattle.checks.specs.declared.Layer.{Layer}
use Rattle.checks.proofs.Firsts.{lowest_passed, lowest_none}
use Rattle.matrix.specs.Patterns.{Pattern, row_part, bad_start, starts_fault}
use Rattle.numbering.specs.Order.{carried_entries, row_length, remapped}
use Rattle.numbering.proofs.Tallies.{total, total_same, total_rises, totals_at, length_totals, sum_all}
use Rattle.numbering.specs.Laws.{Numbering}
use Rattle.numbering.proofs.Numbered.{turned, renumbered, total_renumbered}
use Rattle.numbering.proofs.Stretches.{joined_same, joined_stretches, between_all, stretch_at}

-- the row starts rise from 0 to E
pub record Fit (m : Pattern) : Type 0 where
  pub started : length m.starts ≡ m.rows + 1
  pub first : at m.starts 0 ≡ 0
  pub rises : (v : ℕ) → v < m.rows → at m.starts v ≤ at m.starts (v + 1)
  pub last : at m.starts m.rows ≡ m.entries

holds_at : (x y : Bool) → (x && not y) ≡ false → x ≡ true → y ≡ true
holds_at x y e h = ⊎_elim (λ (f : x ≡ false). absurd (let z : ◌≡◌ {A = ℕ} 0 1 = cc in omega arith)) (λ f. not-false y f) (and_cases x (not y) e)

module _ (m : Pattern) (i : ℕ) where
  abbrev off : Bool
  off = eqb i 0 && not (eqb (at m.starts 0) 0)

  abbrev drops : Bool
  drops = ltb (at m.starts i) (at m.starts (i - 1))

  abbrev ends : Bool
  ends = eqb i m.rows && not (eqb (at m.starts i) m.entries)

pub fit_passed : (layer : Layer) (m : Pattern) → length m.starts ≡ m.rows + 1 → starts_fault layer m ≡ None → Fit m
fit_passed layer m long e = record {
  started = long;
  first = eqb-true _ _ (holds_at (eqb 0 0) _ (parts 0 (omega arith)).0 (eq-eqb 0 0 refl));
  rises = λ v h. let k : v + 1 - 1 ≡ v = omega arith in subst (λ i. at m.starts i ≤ at m.starts (v + 1)) k (ltb-false _ _ (parts (v + 1) (omega arith)).1);
  last = eqb-true _ _ (holds_at (eqb m.rows m.rows) _ (parts m.rows (omega arith)).2 (eq-eqb m.rows m.rows refl));
}
  where
    parts : (i : ℕ) → i < length m.starts → (off m i ≡ false) × (drops m i ≡ false) × (ends m i ≡ false)
    parts i l =
        let p = or_parts (off m i || drops m i) (ends m i) (lowest_passed layer RowStart (bad_start m) (length m.starts) e i l) in
        let q = or_parts (off m i) (drops m i) p.0 in
        (q.0, q.1, p.1)

pub fit_starts : (layer : Layer) (m : Pattern) → Fit m → starts_fault layer m ≡ None
fit_starts layer m f =
    lowest_none layer RowStart (bad_start m) (length m.starts) (λ i l.
    or_from (off m i || drops m i) (ends m i) (or_from (off m i) (drops m i) (and_right (eqb i 0) _ (not_from_true _ (eq-eqb _ _ f.first))) (le-ltb _ _ (below i (omega (arith, f.started))))) (final i))
  where
    below : (i : ℕ) → i < m.rows + 1 → at m.starts (i - 1) ≤ at m.starts i
    below i l = elim (cases_eq i 0) [
      | inl z ↦ let k : i - 1 ≡ i = omega arith in subst (λ j. at m.starts j ≤ at m.starts i) (sym k) (omega arith)
      | inr z ↦ let k : i - 1 + 1 ≡ i = omega arith in subst (λ j. at m.starts (i - 1) ≤ at m.starts j) k (f.rises (i - 1) (omega arith))
    ]

    final : (i : ℕ) → ends m i ≡ false
    final i = elim (cases_eq i m.rows) [
      | inl z ↦ and_right (eqb i m.rows) _ (not_from_true _ (eq-eqb _ _ (ap (at m.starts) z ∙ f.last)))
      | inr z ↦ and_left (eqb i m.rows) _ (ne_eqb i m.rows z)
    ]

module _ (m : Pattern) (fit : Fit m) where
  -- a row start is what the rows before it hold
  pub start_total : (v : ℕ) → v ≤ m.rows → at m.starts v ≡ total (row_length m) v
  start_total zero l = fit.first
  start_total (suc v) l = let e : suc v ≡ v + 1 = omega arith in ap (at m.starts) e ∙ omega (arith, start_total v (omega arith), fit.rises v (omega arith))

  pub start_rises : (v d : ℕ) → v + d ≤ m.rows → at m.starts v ≤ at m.starts (v + d)
  start_rises v d l = omega (arith, start_total v (omega arith), start_total (v + d) l, total_rises (row_length m) v d)

  pub start_most : (v : ℕ) → v ≤ m.rows → at m.starts v ≤ m.entries
  start_most v l = let e : v + (m.rows - v) ≡ m.rows = omega arith in omega (arith, start_rises v (m.rows - v) (omega arith), ap (at m.starts) e, fit.last)

  pub length_row_part : {X : Type 0} (xs : List X) → length xs ≡ m.entries → (v : ℕ) → v < m.rows → length (row_part m xs v) ≡ row_length m v
  length_row_part xs e v l = length-between xs (at m.starts v) (at m.starts (v + 1)) (omega (arith, start_most (v + 1) (omega arith)))

  -- all rows' parts in the order of the rows
  pub carried_whole : {X : Type 0} (xs : List X) → length xs ≡ m.entries → carried_entries m (upto m.rows) xs ≡ xs
  carried_whole xs e =
      let z : 0 + m.rows ≡ m.rows = omega arith in
      joined_stretches (at m.starts) xs 0 m.rows (λ k p q. fit.rises k (omega arith))
      ∙ ap₂ (λ i j. between i j xs) fit.first (ap (at m.starts) z ∙ fit.last)
      ∙ between_all xs m.entries e

module _ (m : Pattern) (fit : Fit m) (rank row : List ℕ) (num : Numbering m.rows rank row) where
  pub new_start : (i : ℕ) → i ≤ m.rows → at (remapped m rank row).starts i ≡ total (λ k. row_length m (at row k)) i
  new_start i l = totals_at (row_length m) row i (omega (arith, num.placed))

  pub new_row_length : (i : ℕ) → i < m.rows → row_length (remapped m rank row) i ≡ row_length m (at row i)
  new_row_length i l = let e : i + 1 ≡ suc i = omega arith in omega (arith, new_start i (omega arith), new_start (i + 1) (omega arith), ap (total (λ k. row_length m (at row k))) e)

  pub new_fit : Fit (remapped m rank row)
  new_fit = record {
    started = length_totals 0 (map (row_length m) row) ∙ omega (arith, length-map row (row_length m), num.placed);
    first = new_start 0 (omega arith);
    rises = λ i l. omega (arith, new_start i (omega arith), new_start (i + 1) (omega arith), total_rises (λ k. row_length m (at row k)) i 1);
    last = new_start m.rows (omega arith) ∙ total_renumbered num (row_length m) ∙ sym (start_total m fit m.rows (omega arith)) ∙ fit.last;
  }

  module _ {X : Type 0} (xs : List X) (long : length xs ≡ m.entries) where
    pub length_carried : length (carried_entries m row xs) ≡ m.entries
    length_carried =
        length-flat_map (row_part m xs) row ∙ sum_all (λ v. length (row_part m xs v)) row m.rows num.placed
        ∙ total_same _ (λ i. row_length m (at row i)) m.rows (λ i l. length_row_part m fit xs long (at row i) (num.inside i l))
        ∙ total_renumbered num (row_length m) ∙ sym (start_total m fit m.rows (omega arith)) ∙ fit.last

    -- a row's part in the new numbering is its part in the old one
    pub new_row_part : (i : ℕ) → i < m.rows → row_part (remapped m rank row) (carried_entries m row xs) i ≡ row_part m xs (at row i)
    new_row_part i l = stretch_at (row_part m xs) (row_length m) row i (omega (arith, num.placed)) (λ k q. length_row_part m fit xs long (at row k) (num.inside k (omega (arith, num.placed))))

    -- there and back
    pub carried_back : carried_entries (remapped m rank row) rank (carried_entries m row xs) ≡ xs
    carried_back =
        joined_same _ (λ i. row_part m xs (at row i)) rank (λ v l. new_row_part (at rank v) (num.below v (omega (arith, num.ranked))))
        ∙ sym (flat_map-map (row_part m xs) (at row) rank)
        ∙ ap (flat_map (row_part m xs)) (renumbered num)
        ∙ carried_whole m fit xs long

  -- numbered back, the row starts are what they were
  pub starts_back : (remapped (remapped m rank row) row rank).starts ≡ m.starts
  starts_back =
      ext_get_or 0 _ m.starts (length_totals 0 _ ∙ omega (arith, length-map rank (row_length (remapped m rank row)), num.ranked, fit.started)) (λ v l.
      let h : v ≤ m.rows = omega (arith, l, length_totals 0 (map (row_length (remapped m rank row)) rank), length-map rank (row_length (remapped m rank row)), num.ranked) in
      totals_at (row_length (remapped m rank row)) rank v (omega (arith, num.ranked))
      ∙ total_same _ (row_length m) v (λ k q. new_row_length (at rank k) (num.below k (omega arith)) ∙ ap (row_length m) (num.there k (omega arith)))
      ∙ sym (start_total m fit v h))

module _ (m : Pattern) (fit : Fit m) (rank row : List ℕ) (num : Numbering m.rows rank row) where
  -- back and there
  pub carried_again : {X : Type 0} (ys : List X) → length ys ≡ m.entries → carried_entries m row (carried_entries (remapped m rank row) rank ys) ≡ ys
  carried_again ys long =
      let again = carried_entries (remapped m rank row) rank ys in
      sym (ap (λ s. flat_map (λ v. between (at s v) (at s (v + 1)) again) row) (starts_back m fit rank row num)) ∙ carried_back (remapped m rank row) (new_fit m fit rank row num) row rank (turned num) ys long

  pub length_carried_back : {X : Type 0} (ys : List X) → length ys ≡ m.entries → length (carried_entries (remapped m rank row) rank ys) ≡ m.entries
  length_carried_back ys long = length_carried (remapped m rank row) (new_fit m fit rank row num) row rank (turned num) ys long
