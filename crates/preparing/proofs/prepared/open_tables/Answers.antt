use Rattle.std.proofs.Common.{◌≡◌, ℕ, List, vec_items, ap, ◌∙◌, ap₂}
use Rattle.checks.specs.Verdicts.{unless_refused}
use Rattle.plans.specs.Tilings.{Tiling}
use Rattle.plans.specs.Opening.{Tables, opening_fault}
use Rattle.plans.specs.Held.{tables_lent, tables_held}
use Rattle.preparing.specs.Renumbered.{tiling_in}
use Rattle.preparing.specs.Layouts.{tables_in}
use Rattle.preparing.proofs.prepared.open_tables.Goals as goal

pub returns : goal.returns
returns c =
    let y = c.args.layout.now in
    let laid = c.lend-2.ensures in
    let same : tables_lent c.lend.result c.lend-2.result ≡ tables_in c.args.tables.now y =
    ap₂ (λ (t : Tiling) (s : List ℕ). record { tiling = t; schedule = s; starts = c.lend-2.result.starts.now; words = c.lend-2.result.words.now }) c.lend.ensures laid.schedule
    ∙ ap₂ (λ (s w : List ℕ). record { tiling = tiling_in c.args.tables.now; schedule = vec_items y.schedule; starts = s; words = w }) laid.starts laid.words in
    record {
      fault = c.open.ensures.fault ∙ ap opening_fault same;
      held = c.open.ensures.held ∙ ap (λ (t : Tables). unless_refused (opening_fault t) t (tables_held c.args.plan.now)) same;
      same = c.open.ensures.same;
    }
