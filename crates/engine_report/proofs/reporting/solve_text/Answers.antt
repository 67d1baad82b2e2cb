use Rattle.std.proofs.Common.{ap, ◌∙◌}
use Rattle.std.proofs.lemmas.Result.{IfOk-weaker}
use Rattle.engine_report.specs.Reports.{problem_text_of}
use Rattle.engine_report.proofs.reporting.solve_text.Goals as goal

pub returns : goal.returns
returns g c =
    let m = g.K.Arithmetic.means c.args.arithmetic.now in
    IfOk-weaker c.problem_text.result _ _ (λ text e. e ∙ ap (problem_text_of m g.F.Filed.width g.F.Filed.printed) (c.pose-problem.ensures ∙ c.in_ok-tables.ensures)) c.problem_text.ensures
