use Rattle.std.proofs.Common.{◌*◌, length, vec_items, sym, ap, ◌∙◌, subst}
use Rattle.std.proofs.lemmas.List.{with_items_is}
use Rattle.std.proofs.lemmas.Result.{err_from_is_err_and}
use Rattle.growing.specs.Verdicts.{growing_fault}
use Rattle.checks.proofs.Refusals.{both_passed}
use Rattle.numbering.specs.Order.{carried_rows}
use Rattle.preparing.specs.Failing.{Fails}
use Rattle.preparing.specs.Posed.{matrix_of}
use Rattle.preparing.specs.Held.{posed_by}
use Rattle.preparing.proofs.Failures.{none_fails}
use Rattle.preparing.proofs.Stepwise.{back_passes}
use Rattle.engine.proofs.Stepwise.{running_is, rows_long, solved_is}
use Rattle.engine.proofs.solving.solve.Goals as goal

pub returns-in_err-tiles : goal.returns-in_err-tiles
returns-in_err-tiles g c =
    let m = g.K.Arithmetic.means c.args.arithmetic.now in
    let p = posed_by c.args.problem.now in
    let prepared = c.in_ok-ranking.ensures in
    let q = err_from_is_err_and c.from_residual-in_err-tiles.result c.from_residual-in_err-tiles.ensures.1 in
    rw (q.1, q.2) (subst (λ o. Fails o c.in_err-tiles.field-0.0) (running_is m p prepared.0 c.in_ok-ranking.field-0 prepared.1 _ _ _ c.as_slice.ensures.value c.as_slice-2.ensures.value c.as_mut_slice.ensures.value) c.in_err-tiles.ensures)

pub returns-in_err-values : goal.returns-in_err-values
returns-in_err-values g c =
    let m = g.K.Arithmetic.means c.args.arithmetic.now in
    let p = posed_by c.args.problem.now in
    let x = c.in_ok-ranking.field-0 in
    let prepared = c.in_ok-ranking.ensures in
    let ran = c.in_ok-tiles.ensures in
    let v = c.run_prepared.new.vector in
    let kept = with_items_is x.figures.vector v (c.run_prepared.auto.vector ∙ c.as_mut_slice.ensures.len) in
    let long = rows_long m p prepared.0 x prepared.1 _ _ _ c.as_slice.ensures.value c.as_slice-2.ensures.value c.as_mut_slice.ensures.value ran.0 in
    let n = length c.as_slice-3.result.now in
    let grown = (both_passed (growing_fault (matrix_of p) p.sweeps p.tiles p.seed_sweep p.seed (p.sweeps * (matrix_of p).rows) (matrix_of p).entries) _ prepared.0).0 in
    let passes = back_passes p grown _ _ prepared.1.0.0 prepared.1.0.1 n (ap length (c.as_slice-3.ensures.value ∙ kept) ∙ c.run_prepared.auto.vector ∙ long) in
    let q = err_from_is_err_and c.from_residual-in_err-values.result c.from_residual-in_err-values.ensures.1 in
    rw (q.1, q.2) (none_fails _ _ c.in_err-values.field-0.0 passes c.in_err-values.ensures)

pub returns : goal.returns
returns g c =
    let m = g.K.Arithmetic.means c.args.arithmetic.now in
    let p = posed_by c.args.problem.now in
    let x = c.in_ok-ranking.field-0 in
    let prepared = c.in_ok-ranking.ensures in
    let ran = c.in_ok-tiles.ensures in
    let v = c.run_prepared.new.vector in
    let kept = with_items_is x.figures.vector v (c.run_prepared.auto.vector ∙ c.as_mut_slice.ensures.len) in
    let cs_is = c.as_slice.ensures.value in
    let bs_is = c.as_slice-2.ensures.value in
    let start_is = c.as_mut_slice.ensures.value in (
      sym (running_is m p prepared.0 x prepared.1 _ _ _ cs_is bs_is start_is) ∙ ran.0,
      solved_is m p prepared.0 x prepared.1 _ _ _ cs_is bs_is start_is ran.0 (vec_items x.ranking.ranks) (vec_items c.in_ok-tiles.tiles) v (vec_items c.in_ok-values.values) prepared.1.0.0 ran.1.0 ran.1.1
          (c.in_ok-values.ensures.1 ∙ ap (carried_rows (vec_items x.ranking.ranks)) (c.as_slice-3.ensures.value ∙ kept)),
    )
