-- A matrix with a tile table: which point precedes which, what is lawful, the schedule and who waits. Assumes nothing.
-- Sweeps are counted from 0 here: point c, i stands at index c * R + i of the tile table.
use Rattle.std.specs.Prelude.{ℕ, ◌+◌, ◌*◌, ◌/◌, ◌%◌, Bool, not, List, map}
use Rattle.checks.specs.Lists.{at, upto, every}
use Rattle.matrix.specs.Patterns.{Pattern, linked}
use Rattle.points.specs.Points.{Precedes, Tiles, tile_rows, waits_by, overtaken}
use Rattle.points.specs.Schedules.{schedule, begins}
use Rattle.points.specs.Sweeps.{sweep_precedes}

-- T sweeps, k tiles and the tile table, with the matrix in the new numbering
pub record Tiling : Type 0 where
  pub pattern : Pattern
  pub sweeps : ℕ
  pub count : ℕ
  pub tiles : List ℕ

-- how many points there are
abbrev pub points_of : Tiling → ℕ
points_of l = l.sweeps * l.pattern.rows

-- the tile of point c, i
abbrev pub tile_of : Tiling → Tiles
tile_of l c i = at l.tiles (c * l.pattern.rows + i)

-- which point directly precedes which
abbrev pub precedes : Tiling → Precedes
precedes l = sweep_precedes (linked l.pattern)

-- the point at an index of the tile table is directly preceded by one of a higher tile
abbrev pub overtaken_at : Tiling → ℕ → Bool
overtaken_at l q = overtaken (precedes l) l.pattern.rows l.sweeps (tile_of l) (q / l.pattern.rows) (q % l.pattern.rows)

-- no point is directly preceded by one of a higher tile
abbrev pub lawful : Tiling → Bool
lawful l = every (λ q. not (overtaken_at l q)) (upto (points_of l))

-- the rows of tile t in a sweep, rising
abbrev pub rows_in : Tiling → ℕ → ℕ → List ℕ
rows_in l t c = tile_rows l.pattern.rows (tile_of l) t c

-- the points' rows by tile, then sweep, then row
abbrev pub schedule_of : Tiling → List ℕ
schedule_of l = schedule l.pattern.rows l.sweeps l.count (tile_of l)

-- start number t * T + c is where tile t begins in a sweep, and the last is the schedule's end
abbrev pub schedule_starts_of : Tiling → List ℕ
schedule_starts_of l = map (begins l.pattern.rows l.sweeps (tile_of l)) (upto (l.count * l.sweeps + 1))

-- tile u waits for tile t
abbrev pub waits : Tiling → ℕ → ℕ → Bool
waits l u t = waits_by (precedes l) l.pattern.rows l.sweeps (tile_of l) u t
