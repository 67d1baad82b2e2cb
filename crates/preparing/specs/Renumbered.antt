-- What is made of a matrix, a seed and lists of figures. Assumes nothing.
use Rattle.std.specs.Prelude.{◌≡◌, ℕ, List, [], ◌∷◌, vec_items, Option}
use Rattle.checks.specs.declared.Fault.{Fault}
use Rattle.checks.specs.Verdicts.{first_fault}
use Rattle.matrix.specs.Patterns.{Pattern}
use Rattle.numbering.specs.Order.{inverse, carried_rows, carried_entries, remapped, remapped_tiles}
use Rattle.numbering.specs.Refusals.{row_checks, entry_checks}
use Rattle.plans.specs.Tilings.{Tiling}
use Rattle.grown_plans.specs.Grown.{grown_ranks, grown_tiling}
use Rattle.preparing.specs.declared.figures.Figures.{Figures}
use Rattle.preparing.specs.declared.numbered.Ranking.{Ranking}
use Rattle.preparing.specs.declared.numbered.Remapped.{Remapped}
use Rattle.preparing.specs.declared.numbered.Renumbered.{Renumbered}

-- the ranks of the rows, and their inverse
abbrev pub Ranks : ℕ → List ℕ → Ranking → Type 0
Ranks rows rank x = (vec_items x.ranks ≡ rank) × (vec_items x.rows ≡ inverse rows rank)

-- the tiling in remapped tables
abbrev pub tiling_in : Remapped → Tiling
tiling_in x = record {
  pattern = record { rows = x.rows; entries = x.entries; starts = vec_items x.starts; columns = vec_items x.columns };
  sweeps = x.sweeps;
  count = x.tiles;
  tiles = vec_items x.tile_table;
}

-- tables that hold a tiling
abbrev pub Holds : Tiling → Remapped → Type 0
Holds l x = tiling_in x ≡ l

-- the matrix and its tiles with the rows in the order given
abbrev pub moved : Pattern → ℕ → ℕ → List ℕ → List ℕ → List ℕ → Tiling
moved m t k tiles rank row = record { pattern = remapped m rank row; sweeps = t; count = k; tiles = remapped_tiles m.rows t row tiles }

-- grown from a seed in sweep s, ranked and remapped
abbrev pub Renumbers : Pattern → ℕ → ℕ → ℕ → List ℕ → Renumbered → Type 0
Renumbers m t s k seed x = Ranks m.rows (grown_ranks m t s k seed) x.ranking × Holds (grown_tiling m t s k seed) x.tables

-- what carrying checks, of lists of these lengths: the coefficients, then the right-hand side, then the start
abbrev pub carrying_fault : Pattern → List ℕ → List ℕ → ℕ → ℕ → ℕ → Option Fault
carrying_fault m rank row coefficients rhs start = first_fault (
    first_fault (entry_checks m.rows m.entries m.starts rank row coefficients coefficients)
    ∷ first_fault (row_checks m.rows rank row rhs rhs)
    ∷ first_fault (row_checks m.rows rank row start start)
    ∷ [])

-- coefficients, right-hand side and start with the rows in the order given
abbrev pub Carries : {C V : Type 0} → Pattern → List ℕ → List C → List V → List V → Figures C V → Type 0
Carries m row cs bs x f = (vec_items f.coefficients ≡ carried_entries m row cs) × (vec_items f.right_hand_side ≡ carried_rows row bs) × (vec_items f.vector ≡ carried_rows row x)
