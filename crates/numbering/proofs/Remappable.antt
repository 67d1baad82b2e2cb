-- What is known of a matrix and a numbering once remapping or carrying may begin. Assumes nothing.
use Rattle.std.proofs.Common.{◌≡◌, ℕ, ◌+◌, ◌-◌, ◌<◌, List, [], ◌∷◌, length, None, sum_by, sym, ◌∙◌, arith}
use Rattle.std.specs.List.{flat_map, AllByRecursion as All}
use Rattle.std.proofs.ByRecursion.{All-get_or, All-from_get_or, All-append, All-take, All-drop}
use Rattle.std.proofs.lemmas.Bool.{ltb-true, not-false}
use Rattle.checks.specs.Lists.{at}
use Rattle.checks.specs.Verdicts.{first_fault}
use Rattle.checks.specs.declared.Check.TheVariants.{Column}
use Rattle.checks.specs.declared.Layer.{Layer}
use Rattle.checks.specs.declared.Layer.TheVariants.{Plan}
use Rattle.checks.proofs.Firsts.{lowest_passed}
use Rattle.matrix.specs.Patterns.{Pattern, row_part, bad_column, starts_fault, columns_fault, rows_fault}
use Rattle.numbering.specs.Order.{carried_entries, row_length, starts_pattern}
use Rattle.numbering.specs.Refusals.{remap_checks, entry_checks}
use Rattle.checks.proofs.Refusals.{all_passed}
use Rattle.numbering.proofs.Passed.{TablesPassed, tables_passed, EntriesPassed, entries_passed}
use Rattle.numbering.proofs.Tallies.{sum_all}
use Rattle.numbering.specs.Laws.{Numbering}
use Rattle.numbering.proofs.Numbered.{numbering_passed, total_renumbered}
use Rattle.numbering.proofs.Fits.{Fit, fit_passed, start_total}

-- each column names a row
pub columns_below : (layer : Layer) (m : Pattern) → columns_fault layer m ≡ None → All (λ w. w < m.rows) m.columns
columns_below layer m e = All-from_get_or (λ w. w < m.rows) m.columns 0 (λ i l. ltb-true _ _ (not-false _ (lowest_passed layer Column (bad_column m) (length m.columns) e i l)))

pub all_joined : {X Y : Type 0} (P : Y → Type 0) (f : X → List Y) → ((x : X) → All P (f x)) → (xs : List X) → All P (flat_map f xs)
all_joined P f each [] = tt
all_joined P f each (x ∷ xs) = All-append P (f x) (flat_map f xs) (each x) (all_joined P f each xs)

pub all_row_part : {Y : Type 0} (P : Y → Type 0) (m : Pattern) (xs : List Y) → All P xs → (v : ℕ) → All P (row_part m xs v)
all_row_part P m xs h v = All-take P (at m.starts (v + 1) - at m.starts v) _ (All-drop P (at m.starts v) xs h)

pub record Remappable (m : Pattern) (t tiles : ℕ) (rank row : List ℕ) (new_starts new_columns new_tiles : ℕ) : Type 0 where
  pub tables : TablesPassed m t tiles (length rank) (length row) new_starts new_columns new_tiles
  pub fit : Fit m
  pub num : Numbering m.rows rank row
  pub columned : All (λ w. w < m.rows) m.columns

pub remappable : (m : Pattern) (t tiles : ℕ) (rank row : List ℕ) (new_starts new_columns new_tiles : ℕ) → first_fault (remap_checks m t tiles rank row new_starts new_columns new_tiles) ≡ None → Remappable m t tiles rank row new_starts new_columns new_tiles
remappable m t tiles rank row new_starts new_columns new_tiles e =
    let p = all_passed (remap_checks m t tiles rank row new_starts new_columns new_tiles) e in
    let tables = tables_passed m t tiles (length rank) (length row) new_starts new_columns new_tiles p.0 in
    let q = all_passed (starts_fault Plan m ∷ columns_fault Plan m ∷ rows_fault Plan m ∷ []) p.1.0 in
    record {
      tables = tables;
      fit = fit_passed Plan m tables.started q.0;
      num = numbering_passed m.rows rank row tables.ranked tables.placed p.1.1.0;
      columned = columns_below Plan m q.1.0;
    }

pub record Carryable (r e : ℕ) (starts rank row : List ℕ) (coefficients new_coefficients : ℕ) : Type 0 where
  pub tables : EntriesPassed r e starts rank row coefficients new_coefficients
  pub fit : Fit (starts_pattern r e starts)
  pub num : Numbering r rank row

pub carryable : (r e : ℕ) (starts rank row : List ℕ) (coefficients new_coefficients : ℕ) → first_fault (entry_checks r e starts rank row coefficients new_coefficients) ≡ None → Carryable r e starts rank row coefficients new_coefficients
carryable r e starts rank row coefficients new_coefficients h =
    let p = entries_passed r e starts rank row coefficients new_coefficients h in
    record { tables = p; fit = fit_passed Plan (starts_pattern r e starts) p.started p.fit; num = numbering_passed r rank row p.ranked p.placed p.right }

module _ (m : Pattern) (fit : Fit m) (rank row : List ℕ) (num : Numbering m.rows rank row) where
  pub entries_in_order : sum_by (row_length m) row ≡ m.entries
  entries_in_order = sum_all (row_length m) row m.rows num.placed ∙ total_renumbered num (row_length m) ∙ sym (start_total m fit m.rows (omega arith)) ∙ fit.last

pub new_columns_below : (m : Pattern) (row : List ℕ) → All (λ w. w < m.rows) m.columns → (e : ℕ) → e < length (carried_entries m row m.columns) → at (carried_entries m row m.columns) e < m.rows
new_columns_below m row below e l = All-get_or (λ w. w < m.rows) _ e 0 l (all_joined (λ w. w < m.rows) (row_part m m.columns) (all_row_part (λ w. w < m.rows) m m.columns below) row)
