use Rattle.std.proofs.Common.{◌+◌, length, take, ap, ◌∙◌, arith}
use Rattle.matrix.specs.Lent.{pattern_of}
use Rattle.matrix.specs.Patterns.{row_part}
use Rattle.std.proofs.lemmas.List.Folds.{length-flat_map-take}
use Rattle.numbering.proofs.Stretches.{parts_more}
use Rattle.numbering.proofs.carrying.gather_entries.Goals as goal

pub put_part-requires : goal.put_part-requires
put_part-requires g c =
    omega
    (arith, length-flat_map-take (row_part (pattern_of c.args.matrix.now) c.args.from.now) c.args.rows.now c.loop-row.row-index 0 c.loop-row-test.true, ap length c.row-part.ensures, c.loop-row.invariant.0)

pub loop-row-preserved : goal.loop-row-preserved
loop-row-preserved g c =
    let more =
    parts_more (row_part (pattern_of c.args.matrix.now) c.args.from.now) c.args.rows.now c.loop-row.to c.loop-row.row-index 0 c.loop-row.place c.loop-row-test.true c.loop-row.invariant.0
    c.loop-row.invariant.1 (omega arith) c.row-part.result.now c.row-part.ensures in
    (more.0, ap (take (c.loop-row.place + length c.row-part.result.now)) c.put_part.ensures ∙ more.1)
