use Rattle.std.proofs.Common.{◌≡◌, length, Some, sym, arith, rules, below_more}
use Rattle.checks.specs.declared.Check.TheVariants.{RowStart}
use Rattle.checks.proofs.Firsts.{lowest_refused, lowest_none}
use Rattle.checks.proofs.Refusals.{fault_passed}
use Rattle.matrix.specs.Patterns.{bad_start, starts_fault}
use Rattle.matrix.specs.Lent.{pattern_of}
use Rattle.matrix.proofs.pattern.Matrix.check_row_starts.Goals as goal

pub returns-in_err-refuse_if : goal.returns-in_err-refuse_if
returns-in_err-refuse_if c =
    let m = pattern_of c.args.self.now in
    let e : starts_fault c.args.layer m ≡ Some c.in_err-refuse_if.field-0.0 = lowest_refused c.args.layer RowStart (bad_start m) (length m.starts) c.loop-i.i c.in_err-refuse_if.field-0.0 (search rules) c.loop-i.invariant (search rules) in
    search (rules, e)

pub loop-i-preserved : goal.loop-i-preserved
loop-i-preserved c = below_more _ _ c.loop-i.invariant (search (rules, fault_passed))

pub returns : goal.returns
returns c = sym (lowest_none c.args.layer RowStart (bad_start (pattern_of c.args.self.now)) (length c.args.self.now.starts.now) (λ k l. c.loop-i.invariant k (omega arith)))
