use Rattle.std.proofs.Common.{◌≡◌, Some, None, sym, refl, ap, ◌∙◌, rules}
use Rattle.std.proofs.lemmas.Result.{err_from_is_err_and}
use Rattle.checks.specs.Verdicts.{unless_refused}
use Rattle.plans.specs.Opening.{opening_fault}
use Rattle.plans.specs.Lent.{tiling_of, tiling_lent}
use Rattle.plans.specs.Held.{tables_lent, tables_held}
use Rattle.plans.proofs.Opened.{opening_is, is_lawful, is_started, is_scheduled, is_waiting}
use Rattle.plans.proofs.plan.Plan.open.Goals as goal

pub returns-in_err-check_laid_out : goal.returns-in_err-check_laid_out
returns-in_err-check_laid_out c =
    let y = c.args.layout in
    let x = tables_lent c.args.tiling y in
    let p = err_from_is_err_and c.from_residual-in_err-check_laid_out.result c.from_residual-in_err-check_laid_out.ensures.1 in
    let v : Some c.in_err-check_laid_out.field-0.0 ≡ opening_fault x = opening_is x.tiling y.schedule.now y.starts.now y.words.now (tiling_of c.in_ok-table.table) (Some c.in_err-check_laid_out.field-0.0) c.in_err-check_laid_out.ensures (ap tiling_lent c.in_ok-table.ensures.table) c.in_ok-table.ensures.fault in
    rw (p.1, p.2) (record { fault = v; held = ap (λ o. unless_refused o x (tables_held c.args.self.now)) v; same = refl })

pub invariant_of-self : goal.invariant_of-self
invariant_of-self c =
    let t = c.in_ok-table.table in
    let y = c.args.layout in
    let e = sym c.in_ok-check_laid_out.ensures in
    record {
      rises = is_lawful (tiling_of t) y.schedule.now y.starts.now y.words.now e t.long.2;
      scheduled = is_scheduled (tiling_of t) y.schedule.now y.starts.now y.words.now e t.sized.0 t.counted.0 t.long.2 t.below (search rules);
      started = is_started (tiling_of t) y.schedule.now y.starts.now y.words.now e (search rules);
      waiting = is_waiting (tiling_of t) y.schedule.now y.starts.now y.words.now e (search rules);
    }

pub returns : goal.returns
returns c =
    let y = c.args.layout in
    let x = tables_lent c.args.tiling y in
    let v : None ≡ opening_fault x = opening_is x.tiling y.schedule.now y.starts.now y.words.now (tiling_of c.in_ok-table.table) None c.in_ok-check_laid_out.ensures (ap tiling_lent c.in_ok-table.ensures.table) c.in_ok-table.ensures.fault in
    record {
      fault = v;
      held = ap (λ t. tables_lent t y) {y = c.args.tiling} c.in_ok-table.ensures.table ∙ ap (λ o. unless_refused o x (tables_held c.args.self.now)) v;
      same = tt;
    }
