use Rattle.std.proofs.Common.{◌≡◌, ◌-◌, fold}
use Rattle.std.specs.List.{range_with_len}
use Rattle.arithmetic.specs.Sweeps.{updated, swept}
use Rattle.arithmetic.specs.Lent.{equations_of}
use Rattle.arithmetic.proofs.sweeping.sweep.Given as goal

-- the rows still to come make of the vector what all rows make of the first one
abbrev pub invariant-loop-row : goal.invariant-loop-row
invariant-loop-row g l =
    let m = g.K.Arithmetic.means l.arithmetic in
    let s = equations_of l.system in
    fold (updated m s) l.vector (range_with_len l.row (l.system.matrix.rows - l.row)) ≡ swept m s l.initial.vector
