use Rattle.std.proofs.Common.{length, ap, ◌∙◌}
use Rattle.std.specs.List.{flat_map}
use Rattle.checks.specs.Lists.{upto}
use Rattle.plans.specs.Pairs.{sweep_pairs, noted, lowered}
use Rattle.plans.proofs.Folds.{fold_more}
use Rattle.plans.proofs.Noted.{length_all_noted}
use Rattle.plans.proofs.table.TileTable.note_link.Goals as goal

pub note_sweep-requires-clause-words : goal.note_sweep-requires-clause-words
note_sweep-requires-clause-words c =
    let t = c.args.self.now.tiling in
    ap length c.loop-sweep.invariant.1 ∙ length_all_noted t.cells.now c.args.notes.now.words.now (flat_map (sweep_pairs t.matrix.rows t.sweeps c.args.v c.args.w) (upto c.loop-sweep.sweep)) ∙ c.requires.words

pub loop-sweep-preserved : goal.loop-sweep-preserved
loop-sweep-preserved c =
    let x = c.args.self.now in
    let notes = c.args.notes.now in
    let g = sweep_pairs x.tiling.matrix.rows x.tiling.sweeps c.args.v c.args.w in (
      c.note_sweep.ensures.same_words ∙ c.loop-sweep.invariant.0,
      fold_more (noted x.tiling.cells.now) notes.words.now g c.loop-sweep.sweep c.loop-sweep.notes.words.now c.note_sweep.new.notes.words.now c.loop-sweep.invariant.1 c.note_sweep.ensures.words,
      fold_more (lowered x.tiling.cells.now) notes.lowest g c.loop-sweep.sweep c.loop-sweep.notes.lowest c.note_sweep.new.notes.lowest c.loop-sweep.invariant.2 c.note_sweep.ensures.lowest,
    )
