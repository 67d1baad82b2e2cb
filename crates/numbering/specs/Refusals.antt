-- What each call on the numbering refuses, the first failing check at its lowest place. Assumes nothing.
use Rattle.std.specs.Prelude.{ℕ, ◌+◌, ◌*◌, Bool, not, ◌||◌, List, [], ◌∷◌, length, Option, ◌==◌, nat_lt}
use Rattle.checks.specs.declared.Check.TheVariants.{Rank}
use Rattle.checks.specs.declared.Layer.TheVariants.{Plan}
use Rattle.checks.specs.declared.Fault.{Fault}
use Rattle.checks.specs.Lists.{at}
use Rattle.checks.specs.Verdicts.{lowest, first_fault}
use Rattle.matrix.specs.declared.sizes.Size.TheVariants.{Rows, Entries, Sweeps}
use Rattle.matrix.specs.declared.tables.Table.TheVariants.{RowStarts, Columns, TileTable, Ranks, RowsByRank, Spare, Coefficients, Vector, NewRowStarts, NewColumns, NewTileTable, NewCoefficients, NewVector}
use Rattle.matrix.specs.Sizes.{size_fault}
use Rattle.matrix.specs.Tables.{length_fault}
use Rattle.matrix.specs.Patterns.{Pattern, starts_fault, matrix_fault}
use Rattle.numbering.specs.Order.{starts_pattern}

-- a rank that is not below R, or at which another row stands
abbrev pub bad_rank : ℕ → List ℕ → List ℕ → ℕ → Bool
bad_rank r rank row v = not (nat_lt (at rank v) r) || not (at row (at rank v) == v)

-- the lowest row with a bad rank
abbrev pub ranks_fault : ℕ → List ℕ → List ℕ → Option Fault
ranks_fault r rank row = lowest Plan Rank (bad_rank r rank row) r

-- the checks of ordering; here and below a number stands for a table of which only the length is checked
abbrev pub order_checks : ℕ → ℕ → ℕ → ℕ → ℕ → ℕ → List (Option Fault)
order_checks r t tiles rank row spare =
    size_fault Plan (Rows r)
    ∷ size_fault Plan (Sweeps t)
    ∷ length_fault Plan TileTable tiles (t * r)
    ∷ length_fault Plan Ranks rank r
    ∷ length_fault Plan RowsByRank row r
    ∷ length_fault Plan Spare spare r
    ∷ []

-- the sizes and lengths of remapping
abbrev pub remap_tables : Pattern → ℕ → ℕ → ℕ → ℕ → ℕ → ℕ → ℕ → List (Option Fault)
remap_tables m t tiles rank row new_starts new_columns new_tiles =
    size_fault Plan (Rows m.rows)
    ∷ size_fault Plan (Entries m.entries)
    ∷ size_fault Plan (Sweeps t)
    ∷ length_fault Plan RowStarts (length m.starts) (m.rows + 1)
    ∷ length_fault Plan Columns (length m.columns) m.entries
    ∷ length_fault Plan TileTable tiles (t * m.rows)
    ∷ length_fault Plan Ranks rank m.rows
    ∷ length_fault Plan RowsByRank row m.rows
    ∷ length_fault Plan NewRowStarts new_starts (m.rows + 1)
    ∷ length_fault Plan NewColumns new_columns m.entries
    ∷ length_fault Plan NewTileTable new_tiles (t * m.rows)
    ∷ []

-- the checks of remapping
abbrev pub remap_checks : Pattern → ℕ → ℕ → List ℕ → List ℕ → ℕ → ℕ → ℕ → List (Option Fault)
remap_checks m t tiles rank row new_starts new_columns new_tiles =
    first_fault (remap_tables m t tiles (length rank) (length row) new_starts new_columns new_tiles) ∷ matrix_fault Plan m ∷ ranks_fault m.rows rank row ∷ []

-- the checks of carrying rows: a row list counts as the vector, here and in the new numbering
abbrev pub row_checks : ℕ → List ℕ → List ℕ → ℕ → ℕ → List (Option Fault)
row_checks r rank row vector new_vector =
    size_fault Plan (Rows r)
    ∷ length_fault Plan Ranks (length rank) r
    ∷ length_fault Plan RowsByRank (length row) r
    ∷ length_fault Plan Vector vector r
    ∷ length_fault Plan NewVector new_vector r
    ∷ ranks_fault r rank row
    ∷ []

-- the checks of carrying entries: an entry list counts as the coefficients
abbrev pub entry_checks : ℕ → ℕ → List ℕ → List ℕ → List ℕ → ℕ → ℕ → List (Option Fault)
entry_checks r e starts rank row coefficients new_coefficients =
    size_fault Plan (Rows r)
    ∷ size_fault Plan (Entries e)
    ∷ length_fault Plan RowStarts (length starts) (r + 1)
    ∷ length_fault Plan Ranks (length rank) r
    ∷ length_fault Plan RowsByRank (length row) r
    ∷ length_fault Plan Coefficients coefficients e
    ∷ length_fault Plan NewCoefficients new_coefficients e
    ∷ starts_fault Plan (starts_pattern r e starts)
    ∷ ranks_fault r rank row
    ∷ []
