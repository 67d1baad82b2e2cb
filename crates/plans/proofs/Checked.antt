-- What the checks of laying out say in numbers, both ways. Assumes nothing.
use Rattle.std.proofs.Common.{◌≡◌, ℕ, ◌+◌, ◌*◌, ◌<◌, ◌≤◌, List, [], ◌∷◌, length, None, Option}
use Rattle.std.proofs.lemmas.Bool.{ltb-true, lt-ltb, not-false, not_from_true}
use Rattle.checks.specs.declared.Check.TheVariants.{Tile}
use Rattle.checks.specs.declared.Layer.TheVariants.{Plan}
use Rattle.checks.specs.declared.Fault.{Fault}
use Rattle.checks.specs.Lists.{at}
use Rattle.checks.specs.Verdicts.{first_fault}
use Rattle.checks.proofs.Firsts.{lowest_passed, lowest_none}
use Rattle.checks.proofs.Refusals.{all_passed, all_none}
use Rattle.matrix.specs.declared.sizes.Size.TheVariants.{Rows, Entries, Sweeps, Tiles}
use Rattle.matrix.specs.declared.tables.Table.TheVariants as table
use Rattle.matrix.specs.Sizes.{size_fault}
use Rattle.matrix.specs.Tables.{length_fault}
use Rattle.matrix.specs.Patterns.{matrix_fault}
use Rattle.matrix.proofs.Passed.{size_passed, size_none, length_passed, length_none}
use Rattle.plans.specs.Tilings.{Tiling, points_of}
use Rattle.plans.specs.Opening.{bad_tile, tiles_fault, laying_out_fault}

-- a tiling, and tables of these lengths, in numbers
pub record Passes (l : Tiling) (schedule starts words : ℕ) : Type 0 where
  pub rows : (1 ≤ l.pattern.rows) × (l.pattern.rows ≤ 1_048_576)
  pub entries : (1 ≤ l.pattern.entries) × (l.pattern.entries ≤ 16_777_216)
  pub sweeps : (1 ≤ l.sweeps) × (l.sweeps ≤ 16)
  pub tiles : (1 ≤ l.count) × (l.count ≤ 64)
  pub scheduled : schedule ≡ points_of l
  pub started : starts ≡ l.count * l.sweeps + 1
  pub waiting : words ≡ l.count
  pub row_starts : length l.pattern.starts ≡ l.pattern.rows + 1
  pub columns : length l.pattern.columns ≡ l.pattern.entries
  pub long : length l.tiles ≡ points_of l
  pub accepted : matrix_fault Plan l.pattern ≡ None
  pub below : (p : ℕ) → p < length l.tiles → at l.tiles p < l.count

module _ (l : Tiling) (schedule starts words : ℕ) where
  abbrev sizes : List (Option Fault)
  sizes = size_fault Plan (Rows l.pattern.rows) ∷ size_fault Plan (Entries l.pattern.entries) ∷ size_fault Plan (Sweeps l.sweeps) ∷ size_fault Plan (Tiles l.count) ∷ []

  abbrev lengths : List (Option Fault)
  lengths =
      length_fault Plan table.Schedule schedule (points_of l) ∷ length_fault Plan table.ScheduleStarts starts (l.count * l.sweeps + 1) ∷ length_fault Plan table.WaitWords words l.count
      ∷ length_fault Plan table.NewRowStarts (length l.pattern.starts) (l.pattern.rows + 1) ∷ length_fault Plan table.NewColumns (length l.pattern.columns) l.pattern.entries ∷ length_fault Plan table.NewTileTable (length l.tiles) (points_of l) ∷ []

  abbrev checks : List (Option Fault)
  checks = first_fault sizes ∷ first_fault lengths ∷ matrix_fault Plan l.pattern ∷ tiles_fault l.count l.tiles ∷ []

  pub none_from_passes : Passes l schedule starts words → laying_out_fault l schedule starts words ≡ None
  none_from_passes p = all_none checks (
    all_none sizes (
      size_none Plan (Rows l.pattern.rows) p.rows.0 p.rows.1,
      (size_none Plan (Entries l.pattern.entries) p.entries.0 p.entries.1, (size_none Plan (Sweeps l.sweeps) p.sweeps.0 p.sweeps.1, (size_none Plan (Tiles l.count) p.tiles.0 p.tiles.1, tt))),
    ),
    (
      all_none lengths (
        length_none Plan table.Schedule schedule (points_of l) p.scheduled,
        (
          length_none Plan table.ScheduleStarts starts (l.count * l.sweeps + 1) p.started,
          (
            length_none Plan table.WaitWords words l.count p.waiting,
            (
              length_none Plan table.NewRowStarts (length l.pattern.starts) (l.pattern.rows + 1) p.row_starts,
              (length_none Plan table.NewColumns (length l.pattern.columns) l.pattern.entries p.columns, (length_none Plan table.NewTileTable (length l.tiles) (points_of l) p.long, tt)),
            ),
          ),
        ),
      ),
      (p.accepted, (lowest_none Plan Tile (bad_tile l.count l.tiles) (length l.tiles) (λ i h. not_from_true _ (lt-ltb _ _ (p.below i h))), tt)),
    ),
  )

  pub passes : laying_out_fault l schedule starts words ≡ None → Passes l schedule starts words
  passes e =
      let a = all_passed checks e in
      let s = all_passed sizes a.0 in
      let n = all_passed lengths a.1.0 in
      record {
        rows = size_passed Plan (Rows l.pattern.rows) s.0;
        entries = size_passed Plan (Entries l.pattern.entries) s.1.0;
        sweeps = size_passed Plan (Sweeps l.sweeps) s.1.1.0;
        tiles = size_passed Plan (Tiles l.count) s.1.1.1.0;
        scheduled = length_passed Plan table.Schedule schedule (points_of l) n.0;
        started = length_passed Plan table.ScheduleStarts starts (l.count * l.sweeps + 1) n.1.0;
        waiting = length_passed Plan table.WaitWords words l.count n.1.1.0;
        row_starts = length_passed Plan table.NewRowStarts (length l.pattern.starts) (l.pattern.rows + 1) n.1.1.1.0;
        columns = length_passed Plan table.NewColumns (length l.pattern.columns) l.pattern.entries n.1.1.1.1.0;
        long = length_passed Plan table.NewTileTable (length l.tiles) (points_of l) n.1.1.1.1.1.0;
        accepted = a.1.1.0;
        below = λ p h. ltb-true _ _ (not-false _ (lowest_passed Plan Tile (bad_tile l.count l.tiles) (length l.tiles) a.1.1.1.0 p h));
      }
