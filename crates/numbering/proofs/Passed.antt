-- What is known of the tables once a call's checks have passed. Assumes nothing.
use Rattle.std.proofs.Common.{◌≡◌, ℕ, ◌+◌, ◌*◌, ◌≤◌, List, length, None}
use Rattle.checks.specs.declared.Layer.TheVariants.{Plan}
use Rattle.checks.specs.Verdicts.{first_fault}
use Rattle.checks.proofs.Refusals.{all_passed}
use Rattle.matrix.specs.declared.sizes.Size.TheVariants.{Rows, Entries, Sweeps}
use Rattle.matrix.specs.declared.tables.Table.TheVariants.{RowStarts, Columns, TileTable, Ranks, RowsByRank, Spare, Coefficients, Vector, NewRowStarts, NewColumns, NewTileTable, NewCoefficients, NewVector}
use Rattle.matrix.specs.Patterns.{Pattern, starts_fault}
use Rattle.matrix.proofs.Passed.{size_passed, length_passed}
use Rattle.numbering.specs.Order.{starts_pattern}
use Rattle.numbering.specs.Refusals.{ranks_fault, order_checks, remap_tables, row_checks, entry_checks}

pub record OrderPassed (r t tiles rank row spare : ℕ) : Type 0 where
  pub rows : (1 ≤ r) × (r ≤ 1_048_576)
  pub sweeps : (1 ≤ t) × (t ≤ 16)
  pub tiled : tiles ≡ t * r
  pub ranked : rank ≡ r
  pub placed : row ≡ r
  pub spared : spare ≡ r

pub order_passed : (r t tiles rank row spare : ℕ) → first_fault (order_checks r t tiles rank row spare) ≡ None → OrderPassed r t tiles rank row spare
order_passed r t tiles rank row spare e =
    let p = all_passed (order_checks r t tiles rank row spare) e in
    record {
      rows = size_passed Plan (Rows r) p.0;
      sweeps = size_passed Plan (Sweeps t) p.1.0;
      tiled = length_passed Plan TileTable tiles (t * r) p.1.1.0;
      ranked = length_passed Plan Ranks rank r p.1.1.1.0;
      placed = length_passed Plan RowsByRank row r p.1.1.1.1.0;
      spared = length_passed Plan Spare spare r p.1.1.1.1.1.0;
    }

pub record TablesPassed (m : Pattern) (t tiles rank row new_starts new_columns new_tiles : ℕ) : Type 0 where
  pub rows : (1 ≤ m.rows) × (m.rows ≤ 1_048_576)
  pub entries : (1 ≤ m.entries) × (m.entries ≤ 16_777_216)
  pub sweeps : (1 ≤ t) × (t ≤ 16)
  pub started : length m.starts ≡ m.rows + 1
  pub columned : length m.columns ≡ m.entries
  pub tiled : tiles ≡ t * m.rows
  pub ranked : rank ≡ m.rows
  pub placed : row ≡ m.rows
  pub new_started : new_starts ≡ m.rows + 1
  pub new_columned : new_columns ≡ m.entries
  pub new_tiled : new_tiles ≡ t * m.rows

pub tables_passed : (m : Pattern) (t tiles rank row new_starts new_columns new_tiles : ℕ)
    → first_fault (remap_tables m t tiles rank row new_starts new_columns new_tiles) ≡ None → TablesPassed m t tiles rank row new_starts new_columns new_tiles
tables_passed m t tiles rank row new_starts new_columns new_tiles e =
    let p = all_passed (remap_tables m t tiles rank row new_starts new_columns new_tiles) e in
    let q = p.1.1.1.1.1.1 in
    record {
      rows = size_passed Plan (Rows m.rows) p.0;
      entries = size_passed Plan (Entries m.entries) p.1.0;
      sweeps = size_passed Plan (Sweeps t) p.1.1.0;
      started = length_passed Plan RowStarts (length m.starts) (m.rows + 1) p.1.1.1.0;
      columned = length_passed Plan Columns (length m.columns) m.entries p.1.1.1.1.0;
      tiled = length_passed Plan TileTable tiles (t * m.rows) p.1.1.1.1.1.0;
      ranked = length_passed Plan Ranks rank m.rows q.0;
      placed = length_passed Plan RowsByRank row m.rows q.1.0;
      new_started = length_passed Plan NewRowStarts new_starts (m.rows + 1) q.1.1.0;
      new_columned = length_passed Plan NewColumns new_columns m.entries q.1.1.1.0;
      new_tiled = length_passed Plan NewTileTable new_tiles (t * m.rows) q.1.1.1.1.0;
    }

pub record RowsPassed (r : ℕ) (rank row : List ℕ) (vector new_vector : ℕ) : Type 0 where
  pub rows : (1 ≤ r) × (r ≤ 1_048_576)
  pub ranked : length rank ≡ r
  pub placed : length row ≡ r
  pub listed : vector ≡ r
  pub new_listed : new_vector ≡ r
  pub right : ranks_fault r rank row ≡ None

pub rows_passed : (r : ℕ) (rank row : List ℕ) (vector new_vector : ℕ) → first_fault (row_checks r rank row vector new_vector) ≡ None → RowsPassed r rank row vector new_vector
rows_passed r rank row vector new_vector e =
    let p = all_passed (row_checks r rank row vector new_vector) e in
    record {
      rows = size_passed Plan (Rows r) p.0;
      ranked = length_passed Plan Ranks (length rank) r p.1.0;
      placed = length_passed Plan RowsByRank (length row) r p.1.1.0;
      listed = length_passed Plan Vector vector r p.1.1.1.0;
      new_listed = length_passed Plan NewVector new_vector r p.1.1.1.1.0;
      right = p.1.1.1.1.1.0;
    }

pub record EntriesPassed (r e : ℕ) (starts rank row : List ℕ) (coefficients new_coefficients : ℕ) : Type 0 where
  pub rows : (1 ≤ r) × (r ≤ 1_048_576)
  pub entries : (1 ≤ e) × (e ≤ 16_777_216)
  pub started : length starts ≡ r + 1
  pub ranked : length rank ≡ r
  pub placed : length row ≡ r
  pub listed : coefficients ≡ e
  pub new_listed : new_coefficients ≡ e
  pub fit : starts_fault Plan (starts_pattern r e starts) ≡ None
  pub right : ranks_fault r rank row ≡ None

pub entries_passed : (r e : ℕ) (starts rank row : List ℕ) (coefficients new_coefficients : ℕ)
    → first_fault (entry_checks r e starts rank row coefficients new_coefficients) ≡ None → EntriesPassed r e starts rank row coefficients new_coefficients
entries_passed r e starts rank row coefficients new_coefficients h =
    let p = all_passed (entry_checks r e starts rank row coefficients new_coefficients) h in
    record {
      rows = size_passed Plan (Rows r) p.0;
      entries = size_passed Plan (Entries e) p.1.0;
      started = length_passed Plan RowStarts (length starts) (r + 1) p.1.1.0;
      ranked = length_passed Plan Ranks (length rank) r p.1.1.1.0;
      placed = length_passed Plan RowsByRank (length row) r p.1.1.1.1.0;
      listed = length_passed Plan Coefficients coefficients e p.1.1.1.1.1.0;
      new_listed = length_passed Plan NewCoefficients new_coefficients e p.1.1.1.1.1.1.0;
      fit = p.1.1.1.1.1.1.1.0;
      right = p.1.1.1.1.1.1.1.1.0;
    }
