use Rattle.arithmetic.specs.Sweeps.{updated}
use Rattle.arithmetic.specs.Lent.{equations_of}
use Rattle.arithmetic.proofs.SweepSteps.{count_more}
use Rattle.arithmetic.proofs.sweeping.sweep.Goals as goal

pub loop-row-preserved : goal.loop-row-preserved
loop-row-preserved g c = count_more (updated (g.K.Arithmetic.means c.args.arithmetic.now) (equations_of c.args.system.now)) c.loop-row.row _ c.loop-row.vector _ c.loop-row-test.true c.update.ensures c.loop-row.invariant
