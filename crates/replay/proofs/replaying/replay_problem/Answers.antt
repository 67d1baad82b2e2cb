use Rattle.std.proofs.Common.{◌*◌, ◌++◌, ap, ◌∙◌, ap₂}
use Rattle.listing.specs.Lines.{heading}
use Rattle.plans.specs.Tilings.{Tiling}
use Rattle.preparing.specs.Posed.{matrix_of, tiling_of, renumbered}
use Rattle.preparing.specs.Held.{posed_by}
use Rattle.preparing.proofs.Failures.{answers_as}
use Rattle.engine.proofs.Stepwise.{l_is, equations_new, start_new, running_is}
use Rattle.replay.specs.Traces.{trace}
use Rattle.replay.specs.Replays.{begun}
use Rattle.replay.proofs.replaying.replay_problem.Goals as goal

pub returns : goal.returns
returns g c =
    let m = g.K.Arithmetic.means c.args.arithmetic.now in
    let p = posed_by c.args.problem.now in
    let x = c.in_ok-tables.field-0 in
    let prepared = c.in_ok-tables.ensures in
    let digits = 2 * g.F.Filed.width in
    let bits = g.F.Filed.printed in
    let calls = c.args.calls.now in
    let same = equations_new m p prepared.0 x prepared.1 _ _ _ c.as_slice.ensures.value c.as_slice-2.ensures.value c.as_mut_slice.ensures.value in
    let start = start_new m p prepared.0 x prepared.1 _ _ _ c.as_slice.ensures.value c.as_slice-2.ensures.value c.as_mut_slice.ensures.value in
    let tiling = l_is m p prepared.0 x prepared.1 _ _ _ c.as_slice.ensures.value c.as_slice-2.ensures.value c.as_mut_slice.ensures.value in
    answers_as _ _ _ _ c.replay_prepared.result (running_is m p prepared.0 x prepared.1 _ _ _ c.as_slice.ensures.value c.as_slice-2.ensures.value c.as_mut_slice.ensures.value)
    (λ text e. e ∙ ap₂ (λ s (l : Tiling). heading l.pattern.rows l.sweeps l.count ++ trace m s l digits bits (begun c.as_mut_slice.result.now) calls) same tiling
    ∙ ap (λ y. heading (matrix_of p).rows p.sweeps p.tiles ++ trace m (renumbered p) (tiling_of p) digits bits (begun y) calls) start)
    c.replay_prepared.ensures
