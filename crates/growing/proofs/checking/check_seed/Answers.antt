use Rattle.std.proofs.Common.{◌≡◌, length, Some, sym, rules}
use Rattle.checks.specs.declared.Check.TheVariants.{Seed}
use Rattle.checks.specs.declared.Layer.TheVariants.{Matrix}
use Rattle.checks.proofs.Firsts.{lowest_refused, lowest_none}
use Rattle.growing.specs.Verdicts.{bad_seed, seed_fault}
use Rattle.growing.proofs.checking.check_seed.Goals as goal

pub returns-in_err-refuse_if : goal.returns-in_err-refuse_if
returns-in_err-refuse_if c =
    let e : seed_fault c.args.tiles c.args.seed.now ≡ Some c.in_err-refuse_if.field-0.0 = lowest_refused Matrix Seed (bad_seed c.args.tiles c.args.seed.now) (length c.args.seed.now) c.loop-row.row c.in_err-refuse_if.field-0.0 (search rules) c.loop-row.invariant (search rules) in
    search (rules, e)

pub returns : goal.returns
returns c = sym (lowest_none Matrix Seed (bad_seed c.args.tiles c.args.seed.now) (length c.args.seed.now) (search rules))
