-- The lines of the engine's listing. Assumes nothing.
use Rattle.std.specs.Prelude.{ℕ, List, ◌++◌, codes, decimal}
use Rattle.checks.specs.Lists.{at}
use Rattle.listing.specs.Digits.{hexadecimal, short_hexadecimal}
use Rattle.listing.specs.Refusals.{newline}
use Rattle.listing.specs.Lines.{heading, numbered}
use Rattle.engine.specs.declared.solution.Tile.{Tile}
use Rattle.engine.specs.Solutions.{Solved}

-- a tile's number, its points and its wait word
abbrev pub tile_line : ℕ → Tile → List ℕ
tile_line u t = codes "tile " ++ (decimal u ++ (codes " points " ++ (decimal t.points ++ (codes " waits " ++ (short_hexadecimal 16 t.waits ++ newline)))))

-- a row's number, its rank and its value's bits, in so many digits
abbrev pub row_line : ℕ → ℕ → ℕ → ℕ → List ℕ
row_line digits v rank bits = codes "row " ++ (decimal v ++ (codes " rank " ++ (decimal rank ++ (codes " value " ++ (hexadecimal digits bits ++ newline)))))

-- a line for each tile
abbrev pub tiles_text : List Tile → List ℕ
tiles_text tiles = numbered tile_line 0 tiles

-- `bits` are what is printed of a value
abbrev pub rows_text : {V : Type 0} → ℕ → (V → ℕ) → List ℕ → List V → List ℕ
rows_text digits bits ranks values = numbered (λ v x. row_line digits v (at ranks v) (bits x)) 0 values

-- the whole listing of what R rows, T sweeps and k tiles come to
abbrev pub listing_text : {V : Type 0} → ℕ → ℕ → ℕ → ℕ → (V → ℕ) → Solved V → List ℕ
listing_text rows sweeps tiles digits bits s = (heading rows sweeps tiles ++ tiles_text s.tiles) ++ rows_text digits bits s.ranks s.values
