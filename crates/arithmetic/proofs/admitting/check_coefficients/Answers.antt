use Rattle.std.proofs.Common.{◌≡◌, length, Some, sym, ap, ◌∙◌, arith, rules, below_more}
use Rattle.checks.specs.declared.Check.TheVariants.{Coefficient}
use Rattle.checks.specs.Verdicts.{fault_if}
use Rattle.checks.proofs.Firsts.{lowest_refused, lowest_none}
use Rattle.checks.proofs.Refusals.{fault_passed}
use Rattle.matrix.specs.Lent.{pattern_of}
use Rattle.arithmetic.specs.Admitting.{bad_at, bad_coefficient, coefficients_fault}
use Rattle.arithmetic.proofs.Items.{passes_here}
use Rattle.arithmetic.proofs.admitting.check_coefficients.Goals as goal

pub returns-in_err-refuse_if : goal.returns-in_err-refuse_if
returns-in_err-refuse_if g c =
    let m = g.K.Arithmetic.means c.args.arithmetic.now in
    let p = pattern_of c.args.matrix.now in
    let here = passes_here (bad_at m p c.loop-e.e) c.args.coefficients.now c.loop-e.e c.index-coefficients-e.result c.loop-e-test.true c.index-coefficients-e.is in
    let fault = c.in_err-refuse_if.field-0.0 in
    let e : coefficients_fault c.args.layer m p c.args.coefficients.now ≡ Some fault =
    lowest_refused c.args.layer Coefficient (bad_coefficient m p c.args.coefficients.now) (length c.args.coefficients.now) c.loop-e.e fault c.loop-e-test.true c.loop-e.invariant
    (ap (fault_if c.args.layer Coefficient c.loop-e.e) (here ∙ sym c.is_bad_coefficient-bad.ensures) ∙ sym c.in_err-refuse_if.ensures) in
    search (rules, e)

pub loop-e-preserved : goal.loop-e-preserved
loop-e-preserved g c =
    let m = g.K.Arithmetic.means c.args.arithmetic.now in
    let p = pattern_of c.args.matrix.now in
    let here = passes_here (bad_at m p c.loop-e.e) c.args.coefficients.now c.loop-e.e c.index-coefficients-e.result c.loop-e-test.true c.index-coefficients-e.is in
    below_more _ _ c.loop-e.invariant (here ∙ sym c.is_bad_coefficient-bad.ensures ∙ fault_passed c.args.layer Coefficient c.loop-e.e c.is_bad_coefficient-bad.result (sym c.in_ok-refuse_if.ensures))

pub returns : goal.returns
returns g c = sym (lowest_none c.args.layer Coefficient (bad_coefficient (g.K.Arithmetic.means c.args.arithmetic.now) (pattern_of c.args.matrix.now) c.args.coefficients.now) (length c.args.coefficients.now) (λ k l. c.loop-e.invariant k (omega arith)))
