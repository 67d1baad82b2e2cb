use Rattle.std.proofs.Common.{◌≡◌, ◌*◌, take}
use Rattle.numbering.specs.Order.{remapped_tiles}
use Rattle.numbering.proofs.remapping.move_tiles.Given as goal

abbrev pub invariant-loop-sweep : goal.invariant-loop-sweep
invariant-loop-sweep l = take (l.sweep * l.rows.rows) l.new_tile_table ≡ remapped_tiles (l.rows.rows) l.sweep l.rows.list.now l.tile_table
