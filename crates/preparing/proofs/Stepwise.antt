-- What is prepared of a problem, and that nothing is refused but what is defined. Assumes nothing.
use Rattle.std.proofs.Common.{◌≡◌, ℕ, ◌+◌, ◌*◌, List, [], ◌∷◌, length, None, Option, sym, ap, ◌∙◌, subst, ap₂}
use Rattle.checks.specs.declared.Layer.TheVariants.{Plan}
use Rattle.checks.specs.declared.Fault.{Fault}
use Rattle.checks.specs.Verdicts.{first_fault}
use Rattle.matrix.specs.declared.tables.Table.TheVariants.{Coefficients, Vector}
use Rattle.matrix.specs.Tables.{length_fault}
use Rattle.matrix.proofs.Passed.{length_none}
use Rattle.growing.specs.Growing.{tile_table_of}
use Rattle.growing.specs.Verdicts.{growing_fault}
use Rattle.numbering.specs.Order.{lex, key}
use Rattle.numbering.specs.Refusals.{row_checks}
use Rattle.numbering.specs.Laws.{Numbering}
use Rattle.numbering.proofs.Lexes.{keys_strict}
use Rattle.numbering.proofs.Ranking.{ranks_number}
use Rattle.grown_plans.proofs.Layers.{Planned, planned}
use Rattle.grown_plans.proofs.Opens.{grown_passes}
use Rattle.plans.specs.Tilings.{Tiling}
use Rattle.plans.specs.Opening.{laying_out_fault}
use Rattle.preparing.specs.declared.failing.Failure.{Failure}
use Rattle.preparing.specs.Failing.{Fails}
use Rattle.preparing.specs.Renumbered.{carrying_fault}
use Rattle.preparing.specs.Posed.{Posed, matrix_of, ranks_of, rows_of, tiling_of, preparing_fault}
use Rattle.checks.proofs.Refusals.{skip}
use Rattle.preparing.proofs.Verdicts.{rows_checked, carrying_checked}

module _ {C V : Type 0} (p : Posed C V)
    (grown : growing_fault (matrix_of p) p.sweeps p.tiles p.seed_sweep p.seed (p.sweeps * (matrix_of p).rows) (matrix_of p).entries ≡ None)
    (rank row : List ℕ) (rank_is : rank ≡ ranks_of p) (row_is : row ≡ rows_of p) where
  lengths : List (Option Fault)
  lengths = length_fault Plan Coefficients (length p.equations.coefficients) (matrix_of p).entries ∷ length_fault Plan Vector (length p.equations.rhs) (matrix_of p).rows ∷ length_fault Plan Vector (length p.start) (matrix_of p).rows ∷ []

  carries : Option Fault
  carries = carrying_fault (matrix_of p) rank row (length p.equations.coefficients) (length p.equations.rhs) (length p.start)

  fit : Planned (matrix_of p) p.sweeps p.tiles
  fit = planned (matrix_of p) p.sweeps p.tiles p.seed_sweep p.seed _ _ grown

  numbered : Numbering (matrix_of p).rows (ranks_of p) (rows_of p)
  numbered =
      let tiles = tile_table_of (matrix_of p) p.sweeps p.seed_sweep p.tiles p.seed in
      ranks_number (λ u v. lex (key (matrix_of p).rows p.sweeps tiles u) (key (matrix_of p).rows p.sweeps tiles v)) (keys_strict (matrix_of p).rows tiles 0 p.sweeps) (matrix_of p).rows

  carries_is : carries ≡ first_fault lengths
  unfolding carries lengths
  carries_is =
      ap₂ (λ a b. carrying_fault (matrix_of p) a b (length p.equations.coefficients) (length p.equations.rhs) (length p.start)) rank_is row_is
      ∙ carrying_checked (matrix_of p) p.sweeps p.tiles fit (ranks_of p) (rows_of p) numbered _ _ _

  preparing_is : carries ≡ preparing_fault p
  unfolding lengths carries
  preparing_is =
      carries_is
      ∙ sym (skip (length_fault Plan Coefficients (length p.equations.coefficients) (matrix_of p).entries ∷ length_fault Plan Vector (length p.equations.rhs) (matrix_of p).rows ∷ length_fault Plan Vector (length p.start) (matrix_of p).rows ∷ []) grown)

  -- the lists of figures are refused as the problem is
  pub carrying_fails : (e : Failure) → Fails (carrying_fault (matrix_of p) rank row (length p.equations.coefficients) (length p.equations.rhs) (length p.start)) e → Fails (preparing_fault p) e
  unfolding carries
  carrying_fails e h = subst (λ o. Fails o e) preparing_is h

  pub preparing_none : carrying_fault (matrix_of p) rank row (length p.equations.coefficients) (length p.equations.rhs) (length p.start) ≡ None → preparing_fault p ≡ None
  unfolding carries
  preparing_none e = sym preparing_is ∙ e

  -- laying out refuses nothing
  pub laying_none : (l : Tiling) → l ≡ tiling_of p → laying_out_fault l (l.sweeps * l.pattern.rows) (l.count * l.sweeps + 1) l.count ≡ None
  laying_none l l_is =
      ap (λ (t : Tiling). laying_out_fault t (t.sweeps * t.pattern.rows) (t.count * t.sweeps + 1) t.count) l_is ∙ (grown_passes (matrix_of p) p.sweeps p.tiles p.seed_sweep p.seed _ _ grown).2

  -- a list that is as long as the rows can be carried back
  pub back_passes : (n : ℕ) → n ≡ (matrix_of p).rows → first_fault (row_checks (matrix_of p).rows rank row n n) ≡ None
  back_passes n e =
      ap₂ (λ a b. first_fault (row_checks (matrix_of p).rows a b n n)) rank_is row_is
      ∙ rows_checked (matrix_of p) p.sweeps p.tiles fit (ranks_of p) (rows_of p) numbered n ∙ length_none Plan Vector n (matrix_of p).rows e
