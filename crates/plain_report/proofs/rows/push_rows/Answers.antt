use Rattle.std.proofs.Common.{◌*◌, ◌++◌, string_bytes, ap, ◌∙◌}
use Rattle.listing.proofs.NumberedLines.{numbered_all}
use Rattle.plain_report.specs.Lines.{row_line}
use Rattle.plain_report.proofs.RowLines.{numbered_map}
use Rattle.plain_report.proofs.rows.push_rows.Goals as goal

pub returns : goal.returns
returns g c =
    let digits = 2 * g.K.Filed.width in
    numbered_all (λ v x. row_line digits v (g.K.Filed.printed x)) c.args.values.now c.loop-row.row-counter (string_bytes c.loop-row.text) c.loop-row-test.false c.loop-row.invariant
    ∙ ap (λ rows. string_bytes c.args.text.now ++ rows) (numbered_map (row_line digits) g.K.Filed.printed 0 c.args.values.now)
