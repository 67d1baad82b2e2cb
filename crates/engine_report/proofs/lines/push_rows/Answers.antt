use Rattle.std.proofs.Common.{◌*◌, string_bytes, ap, ◌∙◌, ap₂}
use Rattle.checks.specs.Lists.{at}
use Rattle.listing.proofs.NumberedLines.{numbered_more, numbered_all}
use Rattle.engine_report.specs.Lines.{row_line}
use Rattle.engine_report.proofs.lines.push_rows.Goals as goal

pub loop-row-preserved : goal.loop-row-preserved
loop-row-preserved g c =
    let v = c.loop-row.row in
    numbered_more (λ v x. row_line (2 * g.K.Filed.width) v (at c.args.ranks.now v) (g.K.Filed.printed x)) c.args.values.now v c.index-values-row.result _
    (string_bytes c.loop-row.text) (string_bytes c.push_row.new.text) c.loop-row-test.true c.index-values-row.is
    (ap₂ (λ w n. row_line (2 * w) v n c.bits-number.result) c.width.ensures c.number_at.ensures ∙ ap (row_line (2 * g.K.Filed.width) v (at c.args.ranks.now v)) c.bits-number.ensures) c.in_ok-push_row.ensures c.loop-row.invariant

pub returns : goal.returns
returns g c =
    numbered_all (λ v x. row_line (2 * g.K.Filed.width) v (at c.args.ranks.now v) (g.K.Filed.printed x)) c.args.values.now c.loop-row.row (string_bytes c.loop-row.text) c.loop-row-test.false c.loop-row.invariant
