use Rattle.std.proofs.Common.{◌≡◌, fold}
use Rattle.std.specs.List.{flat_map}
use Rattle.checks.specs.Lists.{upto}
use Rattle.plans.specs.Pairs.{row_pairs, noted, lowered}
use Rattle.plans.specs.Lent.{tiling_of}
use Rattle.plans.proofs.table.TileTable.note_waits.Given as goal

abbrev pub invariant-loop-v : goal.invariant-loop-v
invariant-loop-v l = (l.notes.words.ghost_name ≡ l.initial.notes.words.ghost_name)
    × (l.notes.words.now ≡ fold (noted l.self.tiling.cells.now) l.initial.notes.words.now (flat_map (row_pairs (tiling_of l.self)) (upto l.v)))
    × (l.notes.lowest ≡ fold (lowered l.self.tiling.cells.now) l.initial.notes.lowest (flat_map (row_pairs (tiling_of l.self)) (upto l.v)))
