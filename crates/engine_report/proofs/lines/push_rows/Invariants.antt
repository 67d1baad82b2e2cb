use Rattle.std.proofs.Common.{◌≡◌, ◌*◌, ◌++◌, drop, string_bytes}
use Rattle.checks.specs.Lists.{at}
use Rattle.listing.specs.Lines.{numbered}
use Rattle.engine_report.specs.Lines.{row_line}
use Rattle.engine_report.proofs.lines.push_rows.Given as goal

abbrev pub invariant-loop-row : goal.invariant-loop-row
invariant-loop-row g l =
    string_bytes l.text ++ numbered (λ v x. row_line (2 * g.K.Filed.width) v (at l.ranks v) (g.K.Filed.printed x)) l.row (drop l.row l.values)
    ≡ string_bytes l.initial.text ++ numbered (λ v x. row_line (2 * g.K.Filed.width) v (at l.ranks v) (g.K.Filed.printed x)) 0 l.values
