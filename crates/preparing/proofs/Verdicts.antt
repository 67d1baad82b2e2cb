-- The verdicts of the steps, one after the other. Assumes nothing.
use Rattle.std.proofs.Common.{◌≡◌, ℕ, ◌+◌, List, [], ◌∷◌, length, None, ap, ◌∙◌, ap₂}
use Rattle.std.specs.Option.{option_or}
use Rattle.checks.specs.declared.Layer.TheVariants.{Plan}
use Rattle.checks.specs.Verdicts.{first_fault}
use Rattle.checks.proofs.Refusals.{both_passed, only}
use Rattle.matrix.specs.declared.sizes.Size.TheVariants.{Rows, Entries}
use Rattle.matrix.specs.declared.tables.Table.TheVariants.{RowStarts, Ranks, RowsByRank, Coefficients, Vector, NewCoefficients, NewVector}
use Rattle.matrix.specs.Sizes.{size_fault}
use Rattle.matrix.specs.Tables.{length_fault}
use Rattle.matrix.specs.Patterns.{Pattern, starts_fault, columns_fault, rows_fault}
use Rattle.matrix.proofs.Passed.{length_passed, length_none}
use Rattle.numbering.specs.Order.{starts_pattern}
use Rattle.numbering.specs.Refusals.{ranks_fault, row_checks, entry_checks}
use Rattle.numbering.specs.Laws.{Numbering}
use Rattle.numbering.proofs.Numbered.{numbering_passes}
use Rattle.grown_plans.proofs.Layers.{Planned}
use Rattle.preparing.specs.Renumbered.{carrying_fault}

-- carrying with a numbering of an accepted matrix checks nothing but the lengths of the lists
module _ (m : Pattern) (t k : ℕ) (fit : Planned m t k) (rank row : List ℕ) (num : Numbering m.rows rank row) where
  pub rows_checked : (n : ℕ) → first_fault (row_checks m.rows rank row n n) ≡ length_fault Plan Vector n m.rows
  rows_checked n =
      only (size_fault Plan (Rows m.rows) ∷ length_fault Plan Ranks (length rank) m.rows ∷ length_fault Plan RowsByRank (length row) m.rows ∷ [])
      (length_fault Plan Vector n m.rows) (length_fault Plan NewVector n m.rows ∷ ranks_fault m.rows rank row ∷ [])
      (fit.rows.passes, (length_none Plan Ranks (length rank) m.rows num.ranked, (length_none Plan RowsByRank (length row) m.rows num.placed, tt)))
      (λ e. (length_none Plan NewVector n m.rows (length_passed Plan Vector n m.rows e), (numbering_passes m.rows rank row num, tt)))

  pub entries_checked : (n : ℕ) → first_fault (entry_checks m.rows m.entries m.starts rank row n n) ≡ length_fault Plan Coefficients n m.entries
  entries_checked n =
      let started = (both_passed (starts_fault Plan m) (first_fault (columns_fault Plan m ∷ rows_fault Plan m ∷ [])) fit.accepted).0 in
      only (size_fault Plan (Rows m.rows) ∷ size_fault Plan (Entries m.entries) ∷ length_fault Plan RowStarts (length m.starts) (m.rows + 1) ∷ length_fault Plan Ranks (length rank) m.rows ∷ length_fault Plan RowsByRank (length row) m.rows ∷ [])
      (length_fault Plan Coefficients n m.entries) (length_fault Plan NewCoefficients n m.entries ∷ starts_fault Plan (starts_pattern m.rows m.entries m.starts) ∷ ranks_fault m.rows rank row ∷ []) (
        fit.rows.passes,
        (fit.entries.passes, (length_none Plan RowStarts (length m.starts) (m.rows + 1) fit.started, (length_none Plan Ranks (length rank) m.rows num.ranked, (length_none Plan RowsByRank (length row) m.rows num.placed, tt)))),
      )
      (λ e. (length_none Plan NewCoefficients n m.entries (length_passed Plan Coefficients n m.entries e), (started, (numbering_passes m.rows rank row num, tt))))

  pub carrying_checked : (a b d : ℕ) → carrying_fault m rank row a b d ≡ first_fault (length_fault Plan Coefficients a m.entries ∷ length_fault Plan Vector b m.rows ∷ length_fault Plan Vector d m.rows ∷ [])
  carrying_checked a b d =
      let e = entries_checked a in
      let f = rows_checked b in
      let g = rows_checked d in
      ap (λ o. option_or o (first_fault (first_fault (row_checks m.rows rank row b b) ∷ first_fault (row_checks m.rows rank row d d) ∷ []))) e
      ∙ ap₂ (λ p q. option_or (length_fault Plan Coefficients a m.entries) (option_or p (option_or q None))) f g
