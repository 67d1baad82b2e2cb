use Rattle.std.proofs.Common.{◌≡◌, take}
use Rattle.numbering.specs.Order.{carried_rows}
use Rattle.numbering.proofs.carrying.gather_rows.Given as goal

abbrev pub invariant-loop-i : goal.invariant-loop-i
invariant-loop-i g l = take l.i l.to ≡ carried_rows (take l.i l.rows.list.now) l.from
