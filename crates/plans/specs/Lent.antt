-- The tiling that is lent, and that a checked tile table holds. Assumes nothing.
use Rattle.std.specs.Prelude.{ℕ, List}
use Rattle.matrix.specs.declared.pattern.Matrix.{Matrix}
use Rattle.matrix.specs.Lent.{pattern_of}
use Rattle.plans.specs.declared.lent.Tiling.{Tiling as LentTiling}
use Rattle.plans.specs.declared.table.TileTable.{TileTable}
use Rattle.plans.specs.Tilings.{Tiling}

-- the tiling of a matrix, sizes and a tile table
abbrev pub tiling_from : Matrix → ℕ → ℕ → List ℕ → Tiling
tiling_from matrix sweeps tiles cells = record { pattern = pattern_of matrix; sweeps = sweeps; count = tiles; tiles = cells }

-- the tiling that is lent
abbrev pub tiling_lent : LentTiling → Tiling
tiling_lent t = tiling_from t.matrix t.sweeps t.tiles t.cells.now

-- the tiling that a checked tile table holds
abbrev pub tiling_of : TileTable → Tiling
tiling_of x = tiling_lent x.tiling
