use Rattle.std.proofs.Common.{◌≡◌, not, position, sym, refl, ap, ◌∙◌}
use Rattle.std.specs.Option.{option_map}
use Rattle.std.specs.Result.{result_err}
use Rattle.checks.specs.Verdicts.{fault_at}
use Rattle.checks.proofs.Places.{lowest_position}
use Rattle.arithmetic.specs.Admitting.{bad_value}
use Rattle.arithmetic.proofs.admitting.check_values.Goals as goal

pub returns : goal.returns
returns g c =
    let m = g.K.Arithmetic.means c.args.arithmetic.now in
    let values = c.args.values.now in
    let found : result_err c.refuse_found.result ≡ option_map (fault_at c.args.layer c.args.check) (position (λ v. not (m.value_admissible v)) values) = c.refuse_found.ensures ∙ ap (option_map (fault_at c.args.layer c.args.check)) c.bad_row.ensures in
    found ∙ sym (lowest_position c.args.layer c.args.check (λ v. not (m.value_admissible v)) (bad_value m values) values (λ k l. refl))
