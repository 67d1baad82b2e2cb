-- A problem, what it is in the new numbering, and why it cannot be prepared. Assumes nothing.
use Rattle.std.specs.Prelude.{ℕ, ◌*◌, List, [], ◌∷◌, length, Option}
use Rattle.checks.specs.declared.Layer.TheVariants.{Plan}
use Rattle.checks.specs.declared.Fault.{Fault}
use Rattle.checks.specs.Verdicts.{first_fault}
use Rattle.matrix.specs.declared.tables.Table.TheVariants.{Coefficients, Vector}
use Rattle.matrix.specs.Tables.{length_fault}
use Rattle.matrix.specs.Patterns.{Pattern}
use Rattle.arithmetic.specs.Sweeps.{Equations}
use Rattle.growing.specs.Verdicts.{growing_fault}
use Rattle.numbering.specs.Order.{inverse, carried_rows, carried_entries}
use Rattle.plans.specs.Tilings.{Tiling}
use Rattle.grown_plans.specs.Grown.{grown_ranks, grown_tiling}

-- equations to be swept T times from a start, with k tiles grown from a seed in sweep S
pub record Posed (C V : Type 0) : Type 0 where
  pub equations : Equations C V
  pub start : List V
  pub sweeps : ℕ
  pub seed_sweep : ℕ
  pub tiles : ℕ
  pub seed : List ℕ

-- the problem's matrix
abbrev pub matrix_of : {C V : Type 0} → Posed C V → Pattern
matrix_of p = p.equations.pattern

-- the rank of each row in the tile table that the seed grows into
abbrev pub ranks_of : {C V : Type 0} → Posed C V → List ℕ
ranks_of p = grown_ranks (matrix_of p) p.sweeps p.seed_sweep p.tiles p.seed

-- the row of each rank
abbrev pub rows_of : {C V : Type 0} → Posed C V → List ℕ
rows_of p = inverse (matrix_of p).rows (ranks_of p)

-- the matrix and that tile table in the new numbering
abbrev pub tiling_of : {C V : Type 0} → Posed C V → Tiling
tiling_of p = grown_tiling (matrix_of p) p.sweeps p.seed_sweep p.tiles p.seed

-- the equations in the new numbering: each row with its entries in their stored order
abbrev pub renumbered : {C V : Type 0} → Posed C V → Equations C V
renumbered p = record { pattern = (tiling_of p).pattern; coefficients = carried_entries (matrix_of p) (rows_of p) p.equations.coefficients; rhs = carried_rows (rows_of p) p.equations.rhs }

-- and the start
abbrev pub start_of : {C V : Type 0} → Posed C V → List V
start_of p = carried_rows (rows_of p) p.start

-- a problem cannot be prepared for what growing checks, and for the lengths of its lists of figures; for nothing else
abbrev pub preparing_fault : {C V : Type 0} → Posed C V → Option Fault
preparing_fault p = first_fault (
    growing_fault (matrix_of p) p.sweeps p.tiles p.seed_sweep p.seed (p.sweeps * (matrix_of p).rows) (matrix_of p).entries
    ∷ length_fault Plan Coefficients (length p.equations.coefficients) (matrix_of p).entries
    ∷ length_fault Plan Vector (length p.equations.rhs) (matrix_of p).rows
    ∷ length_fault Plan Vector (length p.start) (matrix_of p).rows
    ∷ [])
