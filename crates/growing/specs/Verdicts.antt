-- What makes growing refuse: the first failing check, at its lowest place. Assumes nothing.
use Rattle.std.specs.Prelude.{ℕ, ◌+◌, ◌*◌, Bool, not, List, [], ◌∷◌, length, Option, nat_lt}
use Rattle.checks.specs.declared.Check.TheVariants as check
use Rattle.checks.specs.declared.Layer.TheVariants.{Matrix}
use Rattle.checks.specs.declared.Fault.{Fault}
use Rattle.checks.specs.Lists.{at}
use Rattle.checks.specs.Verdicts.{lowest, first_fault}
use Rattle.matrix.specs.declared.sizes.Size.TheVariants.{Rows, Entries, Sweeps, Tiles, SeedSweep}
use Rattle.matrix.specs.declared.tables.Table.TheVariants.{RowStarts, Columns, Seed, TileTable, Marks}
use Rattle.matrix.specs.Sizes.{size_fault}
use Rattle.matrix.specs.Tables.{length_fault}
use Rattle.matrix.specs.Patterns.{Pattern, matrix_fault}

-- R, E, T, k, S
abbrev pub sizes_fault : Pattern → ℕ → ℕ → ℕ → Option Fault
sizes_fault m t k s =
    first_fault (size_fault Matrix (Rows m.rows) ∷ size_fault Matrix (Entries m.entries) ∷ size_fault Matrix (Sweeps t) ∷ size_fault Matrix (Tiles k) ∷ size_fault Matrix (SeedSweep s t) ∷ [])

-- tables 1 to 5; `cells` and `marked` are the lengths of the tile table and of the marks
abbrev pub lengths_fault : Pattern → ℕ → List ℕ → ℕ → ℕ → Option Fault
lengths_fault m t seed cells marked =
    first_fault (length_fault Matrix RowStarts (length m.starts) (m.rows + 1) ∷ length_fault Matrix Columns (length m.columns) m.entries ∷ length_fault Matrix Seed (length seed) m.rows
    ∷ length_fault Matrix TileTable cells (t * m.rows) ∷ length_fault Matrix Marks marked m.entries ∷ [])

-- a seed cell that names no tile
abbrev pub bad_seed : ℕ → List ℕ → ℕ → Bool
bad_seed k seed v = not (nat_lt (at seed v) k)

-- the lowest seed cell that names no tile
abbrev pub seed_fault : ℕ → List ℕ → Option Fault
seed_fault k seed = lowest Matrix check.Seed (bad_seed k seed) (length seed)

-- sizes, lengths, the matrix, the seed
abbrev pub growing_fault : Pattern → ℕ → ℕ → ℕ → List ℕ → ℕ → ℕ → Option Fault
growing_fault m t k s seed cells marked = first_fault (sizes_fault m t k s ∷ lengths_fault m t seed cells marked ∷ matrix_fault Matrix m ∷ seed_fault k seed ∷ [])
