-- What a prepared problem comes to is its solution, and it is refused for nothing but what beginning checks. Assumes nothing.
use Rattle.std.proofs.Common.{◌≡◌, ℕ, ◌*◌, List, [], ◌∷◌, length, None, vec_items, sym, ap, ◌∙◌, ap₂}
use Rattle.std.specs.Option.{option_or}
use Rattle.checks.specs.Verdicts.{first_fault}
use Rattle.checks.proofs.Refusals.{all_passed, both_passed, skip}
use Rattle.arithmetic.specs.Meanings.{Meaning}
use Rattle.arithmetic.specs.Sweeps.{plain}
use Rattle.growing.specs.Verdicts.{growing_fault}
use Rattle.numbering.specs.Order.{carried_rows}
use Rattle.plans.specs.Tilings.{Tiling}
use Rattle.plans.specs.Opening.{Tables, opening_fault, laid_out}
use Rattle.runs.specs.Calls.{beginning_fault}
use Rattle.runs.specs.Held.{equations_with}
use Rattle.runs.proofs.Accepted.{begun_lengths, lengths_are}
use Rattle.grown_plans.proofs.Opens.{grown_opens}
use Rattle.preparing.specs.declared.prepared.Prepared.{Prepared}
use Rattle.preparing.specs.Layouts.{tables_in}
use Rattle.preparing.specs.Posed.{Posed, matrix_of, ranks_of, tiling_of, renumbered, start_of, preparing_fault}
use Rattle.preparing.specs.Prepared.{Prepares}
use Rattle.engine.specs.declared.solution.Tile.{Tile}
use Rattle.engine.specs.Solutions.{Solved, solving_fault, tiles_of, solved}

module _ {C V : Type 0} (m : Meaning C V) (p : Posed C V) (passed : preparing_fault p ≡ None) (x : Prepared C V) (prepared : Prepares p x)
    (cs : List C) (bs start : List V) (cs_is : cs ≡ vec_items x.figures.coefficients) (bs_is : bs ≡ vec_items x.figures.right_hand_side) (start_is : start ≡ vec_items x.figures.vector) where
  abbrev handed : Tables
  handed = tables_in x.tables x.layout

  pub l_is : handed.tiling ≡ tiling_of p
  l_is = prepared.1

  cs_new : cs ≡ (renumbered p).coefficients
  cs_new = cs_is ∙ prepared.2.0

  bs_new : bs ≡ (renumbered p).rhs
  bs_new = bs_is ∙ prepared.2.1

  pub start_new : start ≡ start_of p
  start_new = start_is ∙ prepared.2.2

  pub equations_new : equations_with handed.tiling cs bs ≡ renumbered p
  equations_new = ap₂ (λ (t : Tiling) (c : List C). equations_with t c bs) l_is cs_new ∙ ap (equations_with (tiling_of p) (renumbered p).coefficients) bs_new

  handed_is : handed ≡ laid_out (tiling_of p)
  handed_is =
      ap₂ (λ (t : Tiling) (s : List ℕ). record { tiling = t; schedule = s; starts = vec_items x.layout.starts; words = vec_items x.layout.words }) l_is prepared.3.0
      ∙ ap₂ (λ (s w : List ℕ). record { tiling = tiling_of p; schedule = (laid_out (tiling_of p)).schedule; starts = s; words = w }) prepared.3.1 prepared.3.2

  begins_same : beginning_fault m handed.tiling.pattern cs bs start ≡ beginning_fault m (tiling_of p).pattern (renumbered p).coefficients (renumbered p).rhs (start_of p)
  begins_same =
      ap₂ (λ (t : Tiling) (c : List C). beginning_fault m t.pattern c bs start) l_is cs_new
      ∙ ap₂ (λ b y. beginning_fault m (tiling_of p).pattern (renumbered p).coefficients b y) bs_new start_new

  -- opening refuses nothing, so a run is refused as the problem is
  pub running_is : first_fault (opening_fault handed ∷ beginning_fault m handed.tiling.pattern cs bs start ∷ []) ≡ solving_fault m p
  running_is =
      let grown = (both_passed (growing_fault (matrix_of p) p.sweeps p.tiles p.seed_sweep p.seed (p.sweeps * (matrix_of p).rows) (matrix_of p).entries) _ passed).0 in
      let opens = grown_opens (matrix_of p) p.sweeps p.tiles p.seed_sweep p.seed _ _ grown in
      skip (beginning_fault m handed.tiling.pattern cs bs start ∷ []) (ap opening_fault handed_is ∙ opens)
      ∙ ap (λ o. option_or o None) begins_same ∙ sym (skip (beginning_fault m (tiling_of p).pattern (renumbered p).coefficients (renumbered p).rhs (start_of p) ∷ []) passed)

  module _ (ran : first_fault (opening_fault handed ∷ beginning_fault m handed.tiling.pattern cs bs start ∷ []) ≡ None) where
    -- a run that is begun has a value for each row
    pub rows_long : length start ≡ (matrix_of p).rows
    rows_long =
        let begun : beginning_fault m handed.tiling.pattern cs bs start ≡ None = (all_passed (opening_fault handed ∷ beginning_fault m handed.tiling.pattern cs bs start ∷ []) ran).1.0 in
        (lengths_are handed.tiling.pattern (length cs) (length bs) (length start) (begun_lengths m handed.tiling.pattern cs bs start begun)).1 ∙ ap (λ (t : Tiling). t.pattern.rows) l_is

    pub solved_is : (rank : List ℕ) (tiles : List Tile) (v values : List V) → rank ≡ ranks_of p → tiles ≡ tiles_of handed.tiling → v ≡ plain m (equations_with handed.tiling cs bs) start handed.tiling.sweeps → values ≡ carried_rows rank v
        → ◌≡◌ {A = Solved V} (record { ranks = rank; tiles = tiles; values = values }) (solved m p)
    solved_is rank tiles v values rank_is tiles-are plain_is values-are =
        let new = plain_is ∙ ap₂ (λ e y. plain m e y handed.tiling.sweeps) equations_new start_new ∙ ap (λ (t : Tiling). plain m (renumbered p) (start_of p) t.sweeps) l_is in
        ap₂ (λ (t : List Tile) (w : List V). record { ranks = rank; tiles = t; values = w }) (tiles-are ∙ ap tiles_of l_is) (values-are ∙ ap₂ carried_rows rank_is new)
        ∙ ap (λ (r : List ℕ). record { ranks = r; tiles = tiles_of (tiling_of p); values = carried_rows (ranks_of p) (plain m (renumbered p) (start_of p) p.sweeps) }) rank_is
