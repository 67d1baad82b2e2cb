use Rattle.std.proofs.Common.{false, ap, ◌∙◌, ap₂}
use Rattle.checks.specs.Verdicts.{unless_refused}
use Rattle.checks.proofs.Refusals.{then_last}
use Rattle.plans.specs.Held.{tiling_held}
use Rattle.runs.specs.Calls.{tile_fault, tile_swept, advanced}
use Rattle.runs.specs.Held.{equations_with}
use Rattle.run_uses.proofs.Fresh.{fresh_call, fresh_points}
use Rattle.run_uses.proofs.reading.points_of_one_call.Goals as goal

pub returns : goal.returns
returns g c =
    let m = g.K.Arithmetic.means c.args.system.now.arithmetic.now in
    let l = tiling_held c.args.system.now.plan.now in
    let cs = c.args.system.now.coefficients.now in
    let bs = c.args.system.now.right_hand_side.now in
    let x = c.args.vector.now in
    let u = c.args.number in
    let begun = c.in_ok-run.ensures in
    let fault = c.tile.ensures.answer ∙ fresh_call m l cs bs x u c.in_ok-run.run' begun.answer begun.sizes begun.fresh in
    let progress = c.tile.ensures.progress ∙ ap₂ (λ v p. unless_refused v (advanced l u p) p) fault begun.fresh in
    record {
      answer = begun.answer;
      count = ap (λ r. r.points) c.close-closing.ensures ∙ ap (λ p. p.points) progress ∙ fresh_points l u (tile_fault l (λ _. false) u);
      values = c.tile.ensures.values ∙ ap (λ v. unless_refused v (tile_swept m (equations_with l cs bs) l u x) x) (then_last fault);
    }
