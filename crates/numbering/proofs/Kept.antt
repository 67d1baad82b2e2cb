-- Remapping keeps a matrix acceptable and its links. Assumes nothing.
use Rattle.std.proofs.Common.{◌≡◌, ℕ, ◌+◌, ◌-◌, ◌<◌, Bool, cond, not, ◌&&◌, ◌||◌, eqb, List, [], ◌∷◌, map, length, take, drop, None, count_by, sym, refl, ap, ◌∙◌, ap₂, inl, inr, arith}
use lib.ListN.{length-map}
use Rattle.std.specs.List.{AllByRecursion as All}
use Rattle.std.proofs.ByRecursion.{All-weaker}
use Rattle.std.proofs.lemmas.List.{take-map, drop-map, get_or-map}
use Rattle.std.proofs.lemmas.List.Sums.{sum_by-cons}
use Rattle.std.proofs.lemmas.Bool.{cases_eq, eq-eqb, ne_eqb, lt-ltb, not_from_true}
use Rattle.checks.specs.Lists.{at, some}
use Rattle.checks.specs.declared.Check.TheVariants.{Column, Row}
use Rattle.checks.specs.declared.Layer.{Layer}
use Rattle.checks.proofs.Firsts.{lowest_none, lowest_passed}
use Rattle.matrix.specs.Patterns.{Pattern, row_part, stores, linked, bad_column, bad_row, starts_fault, columns_fault, rows_fault, matrix_fault}
use Rattle.numbering.specs.Order.{carried_entries, remapped}
use Rattle.numbering.specs.Laws.{Numbering, Checked, RemappedAccepted, LinksKept, EntriesComeBack}
use Rattle.checks.proofs.Refusals.{all_passed, all_none}
use Rattle.numbering.proofs.Numbered.{numbering_passed}
use Rattle.numbering.proofs.Fits.{Fit, fit_passed, fit_starts, new_fit, length_carried, new_row_part, carried_back, carried_again}
use Rattle.numbering.proofs.Remappable.{columns_below, all_row_part, new_columns_below}

module _ {X : Type 0} (f : X → ℕ) (p : ℕ → Bool) (q : X → Bool) where
  some_map : (xs : List X) → All (λ x. p (f x) ≡ q x) xs → some p (map f xs) ≡ some q xs
  some_map [] h = refl
  some_map (x ∷ xs) h = ap₂ ◌||◌ h.0 (some_map xs h.1)

  count_map : (xs : List X) → All (λ x. p (f x) ≡ q x) xs → count_by p (map f xs) ≡ count_by q xs
  count_map [] h = refl
  count_map (x ∷ xs) h =
      sum_by-cons (λ y. cond (p y) 1 0) (f x) (map f xs) ∙ ap₂ (λ b n. cond b 1 0 + n) h.0 (count_map xs h.1) ∙ sym (sum_by-cons (λ y. cond (q y) 1 0) x xs)

row_part_map : {X Y : Type 0} (f : X → Y) (m : Pattern) (xs : List X) (v : ℕ) → row_part m (map f xs) v ≡ map f (row_part m xs v)
row_part_map f m xs v = ap (take _) (drop-map f (at m.starts v) xs) ∙ take-map f (at m.starts (v + 1) - at m.starts v) (drop (at m.starts v) xs)

module _ (layer : Layer) (m : Pattern) (rank row : List ℕ) (ok : Checked layer m rank row) where
  parts : All (λ v. v ≡ None) (starts_fault layer m ∷ columns_fault layer m ∷ rows_fault layer m ∷ [])
  parts = all_passed (starts_fault layer m ∷ columns_fault layer m ∷ rows_fault layer m ∷ []) ok.accepted

  fit : Fit m
  fit = fit_passed layer m ok.started parts.0

  num : Numbering m.rows rank row
  num = numbering_passed m.rows rank row ok.ranked ok.placed ok.numbered

  below : All (λ w. w < m.rows) m.columns
  below = columns_below layer m parts.1.0

  -- two ranks are the same where their rows are
  same_rank : (v w : ℕ) → v < m.rows → w < m.rows → eqb (at rank v) (at rank w) ≡ eqb v w
  same_rank v w hv hw = elim (cases_eq v w) [
    | inl e ↦ eq-eqb _ _ (ap (at rank) e) ∙ sym (eq-eqb v w e)
    | inr e ↦ ne_eqb _ _ (λ q. e (sym (num.there v hv) ∙ ap (at row) q ∙ num.there w hw)) ∙ sym (ne_eqb v w e)
  ]

  same_all : (v u : ℕ) → v < m.rows → All (λ w. eqb (at rank v) (at rank w) ≡ eqb v w) (row_part m m.columns u)
  same_all v u hv = All-weaker (λ w. w < m.rows) (λ w. eqb (at rank v) (at rank w) ≡ eqb v w) (λ w hw. same_rank v w hv hw) (row_part m m.columns u) (all_row_part (λ w. w < m.rows) m m.columns below u)

  -- a row's columns are its old columns' ranks, in their order
  new_part : (v : ℕ) → v < m.rows → row_part (remapped m rank row) (remapped m rank row).columns (at rank v) ≡ map (at rank) (row_part m m.columns v)
  new_part v hv =
      row_part_map (at rank) (remapped m rank row) (carried_entries m row m.columns) (at rank v)
      ∙ ap (map (at rank)) (new_row_part m fit rank row num m.columns ok.columned (at rank v) (num.below v hv) ∙ ap (row_part m m.columns) (num.there v hv))

  new_stores : (v w : ℕ) → v < m.rows → w < m.rows → stores (remapped m rank row) (at rank v) (at rank w) ≡ stores m v w
  new_stores v w hv hw = ap (some (eqb (at rank w))) (new_part v hv) ∙ some_map (at rank) (eqb (at rank w)) (eqb w) (row_part m m.columns v) (same_all w v hw)

  pub links_kept : (v w : ℕ) → v < m.rows → w < m.rows → linked (remapped m rank row) (at rank v) (at rank w) ≡ linked m v w
  links_kept v w hv hw = ap₂ ◌&&◌ (ap not (same_rank v w hv hw)) (ap₂ ◌||◌ (new_stores v w hv hw) (new_stores w v hw hv))

  own_kept : (v : ℕ) → v < m.rows → bad_row (remapped m rank row) (at rank v) ≡ bad_row m v
  own_kept v hv = ap (λ n. not (eqb n 1)) (ap (count_by (eqb (at rank v))) (new_part v hv) ∙ count_map (at rank) (eqb (at rank v)) (eqb v) (row_part m m.columns v) (same_all v v hv))

  pub accepted : (length (remapped m rank row).starts ≡ m.rows + 1) × (length (remapped m rank row).columns ≡ m.entries) × (matrix_fault layer (remapped m rank row) ≡ None)
  accepted = (
    (new_fit m fit rank row num).started,
    long,
    all_none (starts_fault layer (remapped m rank row) ∷ columns_fault layer (remapped m rank row) ∷ rows_fault layer (remapped m rank row) ∷ [])
        (fit_starts layer (remapped m rank row) (new_fit m fit rank row num), (columns, (rows, tt))),
  )
    where
      long : length (remapped m rank row).columns ≡ m.entries
      long = length-map (carried_entries m row m.columns) (at rank) ∙ length_carried m fit rank row num m.columns ok.columned

      columns : columns_fault layer (remapped m rank row) ≡ None
      columns = lowest_none layer Column (bad_column (remapped m rank row)) (length (remapped m rank row).columns) (λ e l.
          let h : e < length (carried_entries m row m.columns) = omega (arith, length-map (carried_entries m row m.columns) (at rank)) in
          not_from_true _ (lt-ltb _ _ (omega (arith, get_or-map (at rank) (carried_entries m row m.columns) e 0 0 h, num.below _ (new_columns_below m row below e h)))))

      rows : rows_fault layer (remapped m rank row) ≡ None
      rows = lowest_none layer Row (bad_row (remapped m rank row)) m.rows (λ i l.
          ap (bad_row (remapped m rank row)) (sym (num.back i l)) ∙ own_kept (at row i) (num.inside i l) ∙ lowest_passed layer Row (bad_row m) m.rows parts.1.1.0 (at row i) (num.inside i l))

pub remapped_accepted : RemappedAccepted
remapped_accepted layer m rank row ok = accepted layer m rank row ok

pub links_stay : LinksKept
links_stay layer m rank row ok = links_kept layer m rank row ok

pub entries_come_back : (X : Type 0) → EntriesComeBack X
entries_come_back X layer m rank row xs started ranked placed long fits right =
    let fit = fit_passed layer m started fits in
    let num = numbering_passed m.rows rank row ranked placed right in
    (carried_back m fit rank row num xs long, carried_again m fit rank row num xs long)
