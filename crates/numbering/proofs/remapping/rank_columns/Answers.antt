use Rattle.std.proofs.Common.{arith}
use Rattle.std.proofs.lemmas.List.Edits.{map_over_more}
use Rattle.std.proofs.lemmas.List.{get_or_default}
use Rattle.checks.specs.Lists.{at}
use Rattle.numbering.proofs.remapping.rank_columns.Goals as goal

pub loop-column-preserved : goal.loop-column-preserved
loop-column-preserved c =
    let i = c.loop-column.column-index in
    let ys = c.loop-column.columns in
    map_over_more (at c.args.ranks.now) c.args.columns.now ys i (at ys i) c.loop-column-test.true c.loop-column.invariant (get_or_default ys i 0 (at ys i) (omega arith))
