use Rattle.std.proofs.Common.{arith}
use Rattle.listing.proofs.Sixteens.{short_digits}
use Rattle.listing.proofs.digits.ShortHexadecimalDisplay.fmt.Goals as goal

pub returns-clause-writes : goal.returns-clause-writes
returns-clause-writes g c = rw (c.in_radix.ensures, short_digits 15 c.args.self.now.0 (omega arith) (omega arith)) at c.write.ensures.writes
