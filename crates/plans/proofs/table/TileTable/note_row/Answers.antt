use Rattle.std.proofs.Common.{◌<◌, length, take, sym, ap, ◌∙◌, subst}
use Rattle.std.specs.List.{flat_map}
use Rattle.checks.specs.declared.Layer.TheVariants.{Plan}
use Rattle.checks.specs.Lists.{at}
use Rattle.matrix.specs.Lent.{pattern_of}
use Rattle.plans.specs.Pairs.{link_pairs}
use Rattle.plans.proofs.Accepted.{part_below}
use Rattle.plans.proofs.Noted.{length_all_noted}
use Rattle.plans.proofs.table.TileTable.note_row.Goals as goal

pub note_link-requires-clause-words : goal.note_link-requires-clause-words
note_link-requires-clause-words c =
    let t = c.args.self.now.tiling in
    ap length c.loop-column.invariant.1 ∙ length_all_noted t.cells.now c.args.notes.now.words.now (flat_map (link_pairs t.matrix.rows t.sweeps c.args.v) (take c.loop-column.column-index c.row-column-items.result.now)) ∙ c.requires.words

pub note_link-requires-clause-w : goal.note_link-requires-clause-w
note_link-requires-clause-w c =
    let x = c.args.self.now in
    subst (λ xs. at xs c.loop-column.column-index < x.tiling.matrix.rows) (sym c.row-column-items.ensures)
    (part_below Plan (pattern_of x.tiling.matrix) x.accepted c.args.v c.loop-column.column-index (subst (λ xs. c.loop-column.column-index < length xs) c.row-column-items.ensures c.loop-column-test.true))
