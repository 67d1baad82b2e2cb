use Rattle.std.proofs.Common.{◌≡◌, ◌*◌, ◌++◌, drop, string_bytes}
use Rattle.listing.specs.Lines.{numbered}
use Rattle.plain_report.specs.Lines.{row_line}
use Rattle.plain_report.proofs.rows.push_rows.Given as goal

-- what is written and what is still to come are the whole text
abbrev pub invariant-loop-row : goal.invariant-loop-row
invariant-loop-row g l =
    string_bytes l.text ++ numbered (λ v x. row_line (2 * g.K.Filed.width) v (g.K.Filed.printed x)) l.row-counter (drop l.row-counter l.values)
    ≡ string_bytes l.initial.text ++ numbered (λ v x. row_line (2 * g.K.Filed.width) v (g.K.Filed.printed x)) 0 l.values
