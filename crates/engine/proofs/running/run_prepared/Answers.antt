use Rattle.std.proofs.Common.{◌≡◌, [], ◌∷◌, sym, ap, ◌∙◌, subst}
use Rattle.std.proofs.lemmas.Result.{err_from_is_err_and}
use Rattle.checks.specs.Lists.{upto}
use Rattle.checks.proofs.Refusals.{all_none}
use Rattle.arithmetic.specs.Sweeps.{plain}
use Rattle.plans.specs.Tilings.{Tiling}
use Rattle.plans.specs.Opening.{opening_fault}
use Rattle.plans.specs.Held.{tiling_held}
use Rattle.runs.specs.Calls.{beginning_fault}
use Rattle.runs.specs.Held.{equations_with}
use Rattle.runs.specs.Law.{Law}
use Rattle.runs.proofs.Rising.{rising_plain}
use Rattle.preparing.specs.Layouts.{tables_in}
use Rattle.preparing.proofs.Tables.{left_is}
use Rattle.engine.specs.Solutions.{tiles_of}
use Rattle.engine.proofs.running.run_prepared.Goals as goal

pub returns-in_err-describe_tiles : goal.returns-in_err-describe_tiles
returns-in_err-describe_tiles g c =
    let p = err_from_is_err_and c.from_residual-in_err-describe_tiles.result c.from_residual-in_err-describe_tiles.ensures.1 in
    rw (p.1, p.2) tt

pub returns : goal.returns
returns g c =
    let m = g.K.Arithmetic.means c.args.arithmetic.now in
    let handed = tables_in c.args.tables.now c.args.layout.now in
    let l = handed.tiling in
    let cs = c.args.coefficients.now in
    let bs = c.args.right_hand_side.now in
    let x = c.args.vector.now in
    let plan = c.open_tables.new.plan in
    let opened = c.in_ok-open_tables.ensures in
    let ran = c.in_ok-_closing.ensures in
    let held : tiling_held plan ≡ l = ap (λ t. t.tiling) (opened.held ∙ left_is _ _ opened.fault) in
    let calls = c.as_slice.ensures.value ∙ c.in_ok-calls.ensures ∙ ap (λ (t : Tiling). upto t.count) (sym held) in
    let values = rising_plain m (tiling_held plan) cs bs x c.stands.ensures.lawful c.stands.ensures.tells c.in_ok-_closing._closing c.run_tiles.new.vector
    (subst (λ k. Law m (tiling_held plan) cs bs x k c.in_ok-_closing._closing c.run_tiles.new.vector) calls ran.law) in (
      all_none (opening_fault handed ∷ beginning_fault m l.pattern cs bs x ∷ []) (sym opened.fault, (ap (λ (t : Tiling). beginning_fault m t.pattern cs bs x) (sym held) ∙ sym ran.answer, tt)),
      (c.in_ok-describe_tiles.ensures ∙ ap tiles_of held, values ∙ ap (λ (t : Tiling). plain m (equations_with t cs bs) x t.sweeps) held),
    )
