use Rattle.std.proofs.Common.{◌≡◌, fold}
use Rattle.std.specs.List.{zip}
use Rattle.arithmetic.specs.Sweeps.{with_entry, own_coefficient}
use Rattle.arithmetic.proofs.sweeping.row_value.Given as goal

-- the entries still to come give what the whole row gives
abbrev pub invariant-loop-column : goal.invariant-loop-column
invariant-loop-column g l =
    let f = with_entry (g.K.Arithmetic.means l.arithmetic) l.row l.vector in
    let left = zip l.column-iterator.a.rest.now l.column-iterator.b.rest.now in
    let all = zip l.columns l.coefficients in
    (fold f l.acc left ≡ fold f l.initial.acc all) × (fold (own_coefficient l.row) l.diagonal left ≡ fold (own_coefficient l.row) l.initial.diagonal all)
