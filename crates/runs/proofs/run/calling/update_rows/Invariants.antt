use Rattle.std.proofs.Common.{◌≡◌, drop, fold}
use Rattle.arithmetic.specs.Sweeps.{updated}
use Rattle.arithmetic.specs.Lent.{equations_of}
use Rattle.runs.proofs.run.calling.update_rows.Given as goal

-- the rows still to come make of the vector what all of them make of the first one
abbrev pub invariant-loop-row : goal.invariant-loop-row
invariant-loop-row g l =
    let f = updated (g.K.Arithmetic.means l.arithmetic) (equations_of l.equations) in
    fold f l.vector (drop l.row-index l.rows) ≡ fold f l.initial.vector l.rows
