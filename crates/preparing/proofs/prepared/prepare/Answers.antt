use Rattle.std.proofs.Common.{ap, ◌∙◌}
use Rattle.std.proofs.lemmas.Result.{err_from_is_err_and}
use Rattle.numbering.specs.Order.{carried_rows, carried_entries}
use Rattle.plans.specs.Tilings.{schedule_of, schedule_starts_of}
use Rattle.plans.specs.Words.{wait_words_of}
use Rattle.preparing.specs.Posed.{matrix_of}
use Rattle.preparing.specs.Held.{posed_by}
use Rattle.preparing.proofs.Failures.{none_fails}
use Rattle.preparing.proofs.Stepwise.{carrying_fails, preparing_none, laying_none}
use Rattle.preparing.proofs.prepared.prepare.Goals as goal

pub returns-in_err-figures : goal.returns-in_err-figures
returns-in_err-figures g c =
    let p = posed_by c.args.problem.now in
    let new = c.in_ok-ranking.ensures in
    let q = err_from_is_err_and c.from_residual-in_err-figures.result c.from_residual-in_err-figures.ensures.1 in
    rw (q.1, q.2) (carrying_fails p new.0 _ _ new.1.0.0 new.1.0.1 c.in_err-figures.field-0.0 c.in_err-figures.ensures)

pub returns-in_err-layout : goal.returns-in_err-layout
returns-in_err-layout g c =
    let p = posed_by c.args.problem.now in
    let new = c.in_ok-ranking.ensures in
    let q = err_from_is_err_and c.from_residual-in_err-layout.result c.from_residual-in_err-layout.ensures.1 in
    rw (q.1, q.2) (none_fails _ _ c.in_err-layout.field-0.0 (laying_none p new.0 _ _ new.1.0.0 new.1.0.1 _ (c.lend.ensures ∙ new.1.1)) c.in_err-layout.ensures)

pub returns : goal.returns
returns g c =
    let p = posed_by c.args.problem.now in
    let new = c.in_ok-ranking.ensures in
    let carried = c.in_ok-figures.ensures in
    let laid = c.in_ok-layout.ensures.1 in
    let l_is = c.lend.ensures ∙ new.1.1 in
    let row_is = new.1.0.1 in (
      preparing_none p new.0 _ _ new.1.0.0 row_is carried.0,
      (
        new.1.0,
        new.1.1,
        (
          carried.1.0 ∙ ap (λ r. carried_entries (matrix_of p) r p.equations.coefficients) row_is,
          carried.1.1 ∙ ap (λ r. carried_rows r p.equations.rhs) row_is,
          carried.1.2 ∙ ap (λ r. carried_rows r p.start) row_is,
        ),
        (laid.0 ∙ ap schedule_of l_is, laid.1 ∙ ap schedule_starts_of l_is, laid.2 ∙ ap wait_words_of l_is),
      ),
    )
