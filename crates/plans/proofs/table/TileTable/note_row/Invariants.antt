use Rattle.std.proofs.Common.{◌≡◌, take, fold}
use Rattle.std.specs.List.{flat_map}
use Rattle.plans.specs.Pairs.{link_pairs, noted, lowered}
use Rattle.plans.proofs.table.TileTable.note_row.Given as goal

abbrev pub invariant-loop-column : goal.invariant-loop-column
invariant-loop-column l = (l.notes.words.ghost_name ≡ l.initial.notes.words.ghost_name)
    × (l.notes.words.now ≡ fold (noted l.self.tiling.cells.now) l.initial.notes.words.now (flat_map (link_pairs l.self.tiling.matrix.rows l.self.tiling.sweeps l.v) (take l.column-index l.column-items)))
    × (l.notes.lowest ≡ fold (lowered l.self.tiling.cells.now) l.initial.notes.lowest (flat_map (link_pairs l.self.tiling.matrix.rows l.self.tiling.sweeps l.v) (take l.column-index l.column-items)))
