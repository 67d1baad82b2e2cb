use Rattle.std.proofs.Common.{length, arith}
use Rattle.std.proofs.lemmas.List.FromFn.{fill_by_all}
use Rattle.checks.specs.Lists.{at}
use Rattle.growing.specs.Marks.{remark}
use Rattle.growing.proofs.marking.mark_row.Goals as goal

pub returns : goal.returns
returns c =
    fill_by_all (λ e. remark (at c.args.tiles.now c.args.row) (at c.args.tiles.now (at c.args.columns.now e)) (at c.args.marks.now e))
    c.loop-e.marks (length c.args.columns.now) 0 (omega (arith, c.requires.marks)) (λ k l. c.loop-e.invariant.0 k (omega arith))
