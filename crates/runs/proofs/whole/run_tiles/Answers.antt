use Rattle.std.proofs.Common.{length, take, sym, subst}
use Rattle.std.proofs.lemmas.List.{take_more, take_all}
use Rattle.plans.specs.Held.{tiling_held}
use Rattle.runs.specs.Histories.{Reached}
use Rattle.runs.proofs.Accepted.{begun_lengths, lengths_are}
use Rattle.runs.proofs.Kept.{whole_law}
use Rattle.runs.proofs.whole.run_tiles.Goals as goal

pub loop-number-preserved : goal.loop-number-preserved
loop-number-preserved g c =
    let s = c.args.system.now in
    let calls = c.args.calls.now in
    let i = c.loop-number.number-index in
    let next = c.tile.ensures.history c.args.vector.now (take i calls) c.loop-number.invariant in
    subst (λ cs. Reached (g.K.Arithmetic.means s.arithmetic.now) (tiling_held s.plan.now) s.coefficients.now s.right_hand_side.now c.args.vector.now cs c.tile.new.self c.tile.new.vector) (sym (take_more calls i 0 c.loop-number-test.true)) next

pub returns-clause-law : goal.returns-clause-law
returns-clause-law g c =
    let s = c.args.system.now in
    let m = g.K.Arithmetic.means s.arithmetic.now in
    let l = tiling_held s.plan.now in
    let cs = s.coefficients.now in
    let bs = s.right_hand_side.now in
    let x = c.args.vector.now in
    let long = lengths_are l.pattern (length cs) (length bs) (length x) (begun_lengths m l.pattern cs bs x (sym c.in_ok-run.ensures.answer)) in
    let reached = subst (λ calls. Reached m l cs bs x calls c.loop-number.run c.loop-number.vector) (take_all _ c.args.calls.now c.loop-number-test.false) c.loop-number.invariant in
    whole_law m l cs bs x c.stands.ensures.lawful c.stands.ensures.tells s.plan.now.table.sized.0 long.0 long.1 c.args.calls.now c.loop-number.run c.loop-number.vector reached c.close.result c.close.ensures
