use Rattle.std.proofs.Common.{◌<◌, not, ◌&&◌, leb, sym, ap, ◌∙◌, arith}
use Rattle.std.proofs.lemmas.Bool.{leb-false}
use Rattle.checks.specs.declared.Check.TheVariants.{NoSuchTile, TileDone, TileWaiting}
use Rattle.checks.specs.declared.Layer.TheVariants.{Run}
use Rattle.checks.specs.Verdicts.{fault_if, lowest}
use Rattle.checks.proofs.Firsts.{lowest_same}
use Rattle.checks.proofs.Refusals.{fault_passed, then_later, then_last}
use Rattle.plans.specs.Tilings.{waits}
use Rattle.plans.specs.Words.{bit}
use Rattle.plans.specs.Held.{tiling_held}
use Rattle.runs.proofs.run.Run.check_tile.Goals as goal

pub returns : goal.returns
returns c =
    let l = tiling_held c.args.plan.now in
    let u = c.args.number in
    let done = bit c.args.self.now.done in
    let k = c.tiles-tiles.ensures.value in
    let inside : u < l.count = omega (arith, k, leb-false _ _ (fault_passed Run NoSuchTile u _ (sym c.in_ok-refuse_if.ensures))) in
    let waiting = c.check_done.ensures ∙ ap (lowest Run TileWaiting (λ t. bit c.wait_word.result t && not (done t))) k ∙ lowest_same Run TileWaiting _ (λ t. waits l u t && not (done t)) l.count (λ t h. ap (λ b. b && not (done t)) (c.wait_word.ensures.tells inside t h)) in
    then_later (c.in_ok-refuse_if.ensures ∙ ap (λ n. fault_if Run NoSuchTile u (leb n u)) k)
    (then_later (c.in_ok-refuse_if-2.ensures ∙ ap (fault_if Run TileDone u) c.has.ensures) (then_last waiting))
