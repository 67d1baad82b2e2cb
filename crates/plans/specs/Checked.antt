-- What a checked tile table has passed, in numbers. Assumes nothing.
use Rattle.std.specs.Prelude.{◌≡◌, ℕ, ◌+◌, ◌*◌, ◌<◌, ◌≤◌, length}
use Rattle.checks.specs.Lists.{at}
use Rattle.matrix.specs.declared.pattern.Matrix.{Matrix}
use Rattle.plans.specs.declared.lent.Tiling.{Tiling as LentTiling}

-- rows and entries within their limits
abbrev pub Sized : Matrix → Type 0
Sized m = (1 ≤ m.rows) × (m.rows ≤ 1_048_576) × (1 ≤ m.entries) × (m.entries ≤ 16_777_216)

-- sweeps and tiles within their limits
abbrev pub Counted : LentTiling → Type 0
Counted t = (1 ≤ t.sweeps) × (t.sweeps ≤ 16) × (1 ≤ t.tiles) × (t.tiles ≤ 64)

-- row starts, columns and cells have their lengths
abbrev pub Long : LentTiling → Type 0
Long t = (length t.matrix.starts.now ≡ t.matrix.rows + 1) × (length t.matrix.columns.now ≡ t.matrix.entries) × (length t.cells.now ≡ t.sweeps * t.matrix.rows)

-- schedule, starts and words of these lengths have room for what is laid out
abbrev pub Laid : LentTiling → ℕ → ℕ → ℕ → Type 0
Laid t schedule starts words = (schedule ≡ t.sweeps * t.matrix.rows) × (starts ≡ t.tiles * t.sweeps + 1) × (words ≡ t.tiles)

-- every cell is below the number of tiles
abbrev pub Below : LentTiling → Type 0
Below t = (p : ℕ) → p < length t.cells.now → at t.cells.now p < t.tiles
