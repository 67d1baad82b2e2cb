-- What laying out and opening check, first failing check first, each at its lowest place. Assumes nothing.
use Rattle.std.specs.Prelude.{ℕ, ◌+◌, ◌*◌, Bool, not, List, [], ◌∷◌, length, Option, ◌==◌, nat_lt}
use Rattle.checks.specs.declared.Check.TheVariants.{Tile, Lawful, ScheduleStart, Schedule, WaitWord}
use Rattle.checks.specs.declared.Layer.TheVariants.{Plan}
use Rattle.checks.specs.declared.Fault.{Fault}
use Rattle.checks.specs.Lists.{at}
use Rattle.checks.specs.Verdicts.{lowest, first_fault}
use Rattle.matrix.specs.declared.sizes.Size.TheVariants.{Rows, Entries, Sweeps, Tiles}
use Rattle.matrix.specs.declared.tables.Table.TheVariants as table
use Rattle.matrix.specs.Sizes.{size_fault}
use Rattle.matrix.specs.Tables.{length_fault}
use Rattle.matrix.specs.Patterns.{matrix_fault}
use Rattle.plans.specs.Tilings.{Tiling, points_of, overtaken_at, schedule_of, schedule_starts_of}
use Rattle.plans.specs.Words.{wait_words_of}

-- a tiling, and the tables laid out for it
pub record Tables : Type 0 where
  pub tiling : Tiling
  pub schedule : List ℕ
  pub starts : List ℕ
  pub words : List ℕ

-- the sizes R, E, T and k
abbrev pub sizes_fault : Tiling → Option Fault
sizes_fault l = first_fault (size_fault Plan (Rows l.pattern.rows) ∷ size_fault Plan (Entries l.pattern.entries) ∷ size_fault Plan (Sweeps l.sweeps) ∷ size_fault Plan (Tiles l.count) ∷ [])

-- the lengths of the three tables laid out, then of the three that they are laid out for
abbrev pub lengths_fault : Tiling → ℕ → ℕ → ℕ → Option Fault
lengths_fault l schedule starts words = first_fault (
    length_fault Plan table.Schedule schedule (points_of l)
    ∷ length_fault Plan table.ScheduleStarts starts (l.count * l.sweeps + 1)
    ∷ length_fault Plan table.WaitWords words l.count
    ∷ length_fault Plan table.NewRowStarts (length l.pattern.starts) (l.pattern.rows + 1)
    ∷ length_fault Plan table.NewColumns (length l.pattern.columns) l.pattern.entries
    ∷ length_fault Plan table.NewTileTable (length l.tiles) (points_of l)
    ∷ [])

-- a tile that is not below k
abbrev pub bad_tile : ℕ → List ℕ → ℕ → Bool
bad_tile tiles cells p = not (nat_lt (at cells p) tiles)

-- the first tile that is not below k
abbrev pub tiles_fault : ℕ → List ℕ → Option Fault
tiles_fault tiles cells = lowest Plan Tile (bad_tile tiles cells) (length cells)

-- what laying out checks, of tables of these lengths: sizes, lengths, matrix, tiles
abbrev pub laying_out_fault : Tiling → ℕ → ℕ → ℕ → Option Fault
laying_out_fault l schedule starts words = first_fault (sizes_fault l ∷ lengths_fault l schedule starts words ∷ matrix_fault Plan l.pattern ∷ tiles_fault l.count l.tiles ∷ [])

-- the first point that is directly preceded by one of a higher tile
abbrev pub lawful_fault : Tiling → Option Fault
lawful_fault l = lowest Plan Lawful (overtaken_at l) (length l.tiles)

-- two tables differ at a place
abbrev pub differs : List ℕ → List ℕ → ℕ → Bool
differs xs ys i = not (at xs i == at ys i)

-- the first schedule start that is not the defined one
abbrev pub starts_fault : Tiling → List ℕ → Option Fault
starts_fault l starts = lowest Plan ScheduleStart (differs starts (schedule_starts_of l)) (length starts)

-- the first row of the schedule that is not the defined one
abbrev pub schedule_fault : Tiling → List ℕ → Option Fault
schedule_fault l schedule = lowest Plan Schedule (differs schedule (schedule_of l)) (length schedule)

-- the first wait word that is not the defined one
abbrev pub words_fault : Tiling → List ℕ → Option Fault
words_fault l words = lowest Plan WaitWord (differs words (wait_words_of l)) (length words)

-- what opening checks: all that laying out does, then that the tiling is lawful and the tables are as defined
abbrev pub opening_fault : Tables → Option Fault
opening_fault x = first_fault (
    laying_out_fault x.tiling (length x.schedule) (length x.starts) (length x.words)
    ∷ lawful_fault x.tiling
    ∷ starts_fault x.tiling x.starts
    ∷ schedule_fault x.tiling x.schedule
    ∷ words_fault x.tiling x.words
    ∷ [])

-- the tables that laying out defines for a tiling
abbrev pub laid_out : Tiling → Tables
laid_out l = record { tiling = l; schedule = schedule_of l; starts = schedule_starts_of l; words = wait_words_of l }
