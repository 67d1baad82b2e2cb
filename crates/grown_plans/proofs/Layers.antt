-- The checks that growing makes of a matrix, made again for a plan: another layer, and no fault either. Assumes nothing.
use Rattle.std.proofs.Common.{◌≡◌, ℕ, ◌+◌, ◌*◌, ◌≤◌, Bool, ltb, List, [], ◌∷◌, length, None, ap}
use Rattle.checks.specs.declared.Check.{Check}
use Rattle.checks.specs.declared.Check.TheVariants as check
use Rattle.checks.specs.declared.Layer.TheVariants.{Matrix, Plan}
use Rattle.checks.specs.Lists.{first_where}
use Rattle.checks.specs.Verdicts.{fault_if, lowest}
use Rattle.checks.proofs.Refusals.{fault_passed, all_passed, all_none}
use Rattle.matrix.specs.declared.sizes.Size.{Size}
use Rattle.matrix.specs.declared.sizes.Size.TheVariants.{Rows, Entries, Sweeps, Tiles, SeedSweep}
use Rattle.matrix.specs.declared.tables.Table.TheVariants.{RowStarts, Columns, Seed, TileTable, Marks}
use Rattle.matrix.specs.Sizes.{value_of, limit_of, size_fault}
use Rattle.matrix.specs.Tables.{length_fault}
use Rattle.matrix.specs.Patterns.{Pattern, bad_start, bad_column, bad_row, starts_fault, columns_fault, rows_fault, matrix_fault}
use Rattle.matrix.proofs.Passed.{size_passed, size_none, length_passed}
use Rattle.growing.specs.Verdicts.{growing_fault, sizes_fault, lengths_fault, seed_fault}

-- a test that fails makes no fault in any layer
other_layer : (check : Check) (place : ℕ) (bad : Bool) → fault_if Matrix check place bad ≡ None → fault_if Plan check place bad ≡ None
other_layer check place bad e = ap (fault_if Plan check place) (fault_passed Matrix check place bad e)

other_lowest : (check : Check) (bad : ℕ → Bool) (n : ℕ) → lowest Matrix check bad n ≡ None → lowest Plan check bad n ≡ None
other_lowest check bad n e = other_layer check (first_where bad n) (ltb (first_where bad n) n) e

other_matrix : (m : Pattern) → matrix_fault Matrix m ≡ None → matrix_fault Plan m ≡ None
other_matrix m e =
    let p = all_passed (starts_fault Matrix m ∷ columns_fault Matrix m ∷ rows_fault Matrix m ∷ []) e in
    all_none (starts_fault Plan m ∷ columns_fault Plan m ∷ rows_fault Plan m ∷ []) (
      other_lowest check.RowStart (bad_start m) (length m.starts) p.0,
      (other_lowest check.Column (bad_column m) (length m.columns) p.1.0, (other_lowest check.Row (bad_row m) m.rows p.1.1.0, tt)),
    )

-- a size within its limits, and that it passes
pub record Sized (s : Size) : Type 0 where
  pub low : 1 ≤ value_of s
  pub high : value_of s ≤ limit_of s
  pub passes : size_fault Plan s ≡ None

sized : (s : Size) → size_fault Matrix s ≡ None → Sized s
sized s e =
    let p = size_passed Matrix s e in
    record { low = p.0; high = p.1; passes = size_none Plan s p.0 p.1 }

-- what growing's checks leave for a plan
pub record Planned (m : Pattern) (t k : ℕ) : Type 0 where
  pub rows : Sized (Rows m.rows)
  pub entries : Sized (Entries m.entries)
  pub sweeps : Sized (Sweeps t)
  pub tiles : Sized (Tiles k)
  pub started : length m.starts ≡ m.rows + 1
  pub columned : length m.columns ≡ m.entries
  pub accepted : matrix_fault Plan m ≡ None

pub planned : (m : Pattern) (t k s : ℕ) (seed : List ℕ) (cells marked : ℕ) → growing_fault m t k s seed cells marked ≡ None → Planned m t k
planned m t k s seed cells marked e =
    let p = all_passed (sizes_fault m t k s ∷ lengths_fault m t seed cells marked ∷ matrix_fault Matrix m ∷ seed_fault k seed ∷ []) e in
    let sizes = all_passed (size_fault Matrix (Rows m.rows) ∷ size_fault Matrix (Entries m.entries) ∷ size_fault Matrix (Sweeps t) ∷ size_fault Matrix (Tiles k) ∷ size_fault Matrix (SeedSweep s t) ∷ []) p.0 in
    let lengths = all_passed (length_fault Matrix RowStarts (length m.starts) (m.rows + 1) ∷ length_fault Matrix Columns (length m.columns) m.entries ∷ length_fault Matrix Seed (length seed) m.rows
    ∷ length_fault Matrix TileTable cells (t * m.rows) ∷ length_fault Matrix Marks marked m.entries ∷ []) p.1.0 in
    record {
      rows = sized (Rows m.rows) sizes.0;
      entries = sized (Entries m.entries) sizes.1.0;
      sweeps = sized (Sweeps t) sizes.1.1.0;
      tiles = sized (Tiles k) sizes.1.1.1.0;
      started = length_passed Matrix RowStarts (length m.starts) (m.rows + 1) lengths.0;
      columned = length_passed Matrix Columns (length m.columns) m.entries lengths.1.0;
      accepted = other_matrix m p.1.1.0;
    }
