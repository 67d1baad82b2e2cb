use Rattle.std.proofs.Common.{◌≡◌, ◌++◌, take, string_bytes}
use Rattle.std.specs.List.{flat_map}
use Rattle.tile_report.specs.Tiles.{cell}
use Rattle.tile_report.proofs.tiles.push_cells.Given as goal

abbrev pub invariant-loop-tile : goal.invariant-loop-tile
invariant-loop-tile l = string_bytes l.text ≡ string_bytes l.initial.text ++ flat_map cell (take l.tile-index l.cells)
