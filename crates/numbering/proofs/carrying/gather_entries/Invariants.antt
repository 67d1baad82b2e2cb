use Rattle.std.proofs.Common.{◌≡◌, length, take}
use Rattle.matrix.specs.Lent.{pattern_of}
use Rattle.numbering.specs.Order.{carried_entries}
use Rattle.numbering.proofs.carrying.gather_entries.Given as goal

abbrev pub invariant-loop-row : goal.invariant-loop-row
invariant-loop-row g l =
    (l.place ≡ length (carried_entries (pattern_of l.matrix) (take l.row-index l.rows) l.from))
    × (take l.place l.to ≡ carried_entries (pattern_of l.matrix) (take l.row-index l.rows) l.from)
