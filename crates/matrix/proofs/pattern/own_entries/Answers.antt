use Rattle.std.proofs.Common.{rules, ◌^◌, ◌-◌, ◌≤◌, length}
use Rattle.std.proofs.lemmas.Iterator.{YieldsList-from_slice}
use Rattle.std.proofs.lemmas.Iterator.Adapters.{fits_from_length, at_most_from_yields_List}
use Rattle.matrix.proofs.pattern.own_entries.Goals as goal

-- at most one for each element
pub sum-requires-clause-fits : goal.sum-requires-clause-fits
sum-requires-clause-fits c =
    let few : length c.args.part.now ≤ 2 ^ 64 - 1 = search rules in
    fits_from_length _ _ (2 ^ 64 - 1) (2 ^ 64) (at_most_from_yields_List (YieldsList-from_slice c.args.part.now cc) few) c.map.ensures.closure (search rules) (λ x r q k. search rules)
