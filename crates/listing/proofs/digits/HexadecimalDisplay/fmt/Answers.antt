use Rattle.std.proofs.Common.{arith}
use Rattle.listing.proofs.Sixteens.{filled_digits}
use Rattle.listing.proofs.digits.HexadecimalDisplay.fmt.Goals as goal

pub returns-clause-writes : goal.returns-clause-writes
returns-clause-writes g c =
    let h = c.args.self.now in
    let digits = filled_digits h.digits h.number c.lowest-number.result (omega arith) (omega arith) c.lowest-number.ensures in
    rw (c.laid_out.ensures, c.in_radix.ensures, digits) at c.write.ensures.writes
