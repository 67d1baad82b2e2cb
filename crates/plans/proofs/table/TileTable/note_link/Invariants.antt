use Rattle.std.proofs.Common.{◌≡◌, fold}
use Rattle.std.specs.List.{flat_map}
use Rattle.checks.specs.Lists.{upto}
use Rattle.plans.specs.Pairs.{sweep_pairs, noted, lowered}
use Rattle.plans.proofs.table.TileTable.note_link.Given as goal

abbrev pub invariant-loop-sweep : goal.invariant-loop-sweep
invariant-loop-sweep l = (l.notes.words.ghost_name ≡ l.initial.notes.words.ghost_name)
    × (l.notes.words.now ≡ fold (noted l.self.tiling.cells.now) l.initial.notes.words.now (flat_map (sweep_pairs l.self.tiling.matrix.rows l.self.tiling.sweeps l.v l.w) (upto l.sweep)))
    × (l.notes.lowest ≡ fold (lowered l.self.tiling.cells.now) l.initial.notes.lowest (flat_map (sweep_pairs l.self.tiling.matrix.rows l.self.tiling.sweeps l.v l.w) (upto l.sweep)))
