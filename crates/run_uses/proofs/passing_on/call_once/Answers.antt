use Rattle.std.proofs.Common.{ap, ◌∙◌, ap₂}
use Rattle.std.proofs.lemmas.Result.{err_from_is_err_and}
use Rattle.checks.proofs.Refusals.{then_later, then_last}
use Rattle.plans.specs.Held.{tiling_held}
use Rattle.runs.specs.Calls.{advanced}
use Rattle.runs.specs.Held.{closing_of}
use Rattle.run_uses.proofs.Fresh.{fresh_call}
use Rattle.run_uses.proofs.passing_on.call_once.Goals as goal

pub returns-in_err-answer : goal.returns-in_err-answer
returns-in_err-answer g c =
    let m = g.K.Arithmetic.means c.args.system.now.arithmetic.now in
    let l = tiling_held c.args.system.now.plan.now in
    let begun = c.in_ok-run.ensures in
    let refused = c.in_err-answer.ensures in
    let fault = refused.answer ∙ fresh_call m l c.args.system.now.coefficients.now c.args.system.now.right_hand_side.now c.args.vector.now c.args.number c.in_ok-run.run' begun.answer begun.sizes begun.fresh in
    let p = err_from_is_err_and c.from_residual-in_err-answer.result c.from_residual-in_err-answer.ensures.1 in
    rw (p.1, p.2) (record { answer = then_later begun.answer (then_last fault); closing = tt; values = refused.values })

pub returns : goal.returns
returns g c =
    let m = g.K.Arithmetic.means c.args.system.now.arithmetic.now in
    let l = tiling_held c.args.system.now.plan.now in
    let begun = c.in_ok-run.ensures in
    let called = c.in_ok-answer.ensures in
    let fault = called.answer ∙ fresh_call m l c.args.system.now.coefficients.now c.args.system.now.right_hand_side.now c.args.vector.now c.args.number c.in_ok-run.run' begun.answer begun.sizes begun.fresh in
    record {
      answer = then_later begun.answer (then_last fault);
      closing = c.close-closing.ensures ∙ ap₂ (λ n p. closing_of n.tiles p) (called.sizes ∙ begun.sizes) (called.progress ∙ ap (advanced l c.args.number) begun.fresh);
      values = called.values;
    }
