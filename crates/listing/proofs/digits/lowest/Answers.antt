use Rattle.std.proofs.Common.{suc, ◌^◌, sym, arith, rules}
use Rattle.std.proofs.Math.Nat.{lt_of_not-le, mod-eq_of_lt}
use Rattle.listing.proofs.Sixteens.{power_positive}
use Rattle.listing.proofs.digits.lowest.Goals as goal

pub nonzero_rem-result : goal.nonzero_rem-result
nonzero_rem-result c = search (rules, power_positive)

pub returns-in-None : goal.returns-in-None
returns-in-None c =
    let large = lt_of_not-le {n = suc (16 ^ c.args.digits)} {m = 2 ^ 64} (λ l. c.in-None.ensures l) in
    sym (mod-eq_of_lt (omega arith))
