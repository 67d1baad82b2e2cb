use Rattle.std.proofs.Common.{◌<◌, [], ◌∙◌, arith}
use Rattle.std.proofs.lemmas.Bool.{lt-ltb, and_from, cond-true}
use Rattle.arithmetic.specs.Sweeps.{updated}
use Rattle.arithmetic.specs.Lent.{equations_of}
use Rattle.plans.specs.Tilings.{rows_in}
use Rattle.plans.specs.Held.{tiling_held}
use Rattle.runs.proofs.Walks.{through_more}
use Rattle.runs.proofs.run.calling.sweep_tile.Goals as goal

pub loop-sweep-preserved : goal.loop-sweep-preserved
loop-sweep-preserved g c =
    let m = g.K.Arithmetic.means c.args.system.now.arithmetic.now in
    let l = tiling_held c.args.system.now.plan.now in
    let inside : c.loop-sweep.sweep < l.sweeps = omega (arith, c.sweeps-sweep-end.ensures.value, c.loop-sweep-test.true) in
    let rows = c.part-rows.ensures.value ∙ cond-true _ (rows_in l c.args.number c.loop-sweep.sweep) [] (and_from _ _ (lt-ltb _ _ c.requires) (lt-ltb _ _ inside)) in
    through_more (λ s i y. updated m (equations_of c.equations-equations.result) y i) (rows_in l c.args.number) c.loop-sweep.sweep c.args.vector.now c.loop-sweep.vector _ c.part-rows.result.now c.loop-sweep.invariant rows c.update_rows.ensures
