use Rattle.std.proofs.Common.{◌≡◌, vec_items, rules, tests, IfOk, subst}
use Rattle.std.proofs.lemmas.Iterator.{items_from_collect}
use Rattle.std.proofs.lemmas.Iterator.Consumers.{YieldsList-at, YieldsList-from_filter_map}
use Rattle.case_file.specs.Elements.{one_element}
use Rattle.case_file.proofs.Whole.{parts_come, all_found}
use Rattle.case_file.proofs.parts.Part.elements.Goals as goal

pub returns : goal.returns
returns g c =
    let width = g.K.Filed.width in
    let bytes = c.args.self.now.bytes.now in
    let parts = parts_come width bytes c.chunks_exact.result (search rules) c.chunks_exact.ensures.rest (search rules) in
    subst (λ xs. IfOk c.collect.result (λ v. vec_items v ≡ xs)) (all_found width g.K.Filed.filed bytes)
    (items_from_collect _ c.collect.ensures.ran (YieldsList-from_filter_map _ (one_element width g.K.Filed.filed) (YieldsList-at c.filter_map.ensures.source parts) c.filter_map.ensures.closure (λ x r q k. search (rules, tests))))
