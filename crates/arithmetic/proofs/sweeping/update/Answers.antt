use Rattle.std.proofs.Common.{refl}
use Rattle.arithmetic.specs.Lent.{equations_of}
use Rattle.arithmetic.proofs.SweepSteps.{updated_at, updated_past, updated_beyond}
use Rattle.arithmetic.proofs.sweeping.update.Goals as goal
use Rattle.arithmetic.proofs.sweeping.update.Goals.{else-at-system-via-then-at-system+else-at-vector, else-at-system-via-else-at-system}

pub returns-then-at-vector : goal.returns-then-at-vector
returns-then-at-vector g c =
    updated_at (g.K.Arithmetic.means c.args.arithmetic.now) (equations_of c.args.system.now) c.args.vector.now c.args.row
    c.row-columns.result.now c.row-coefficients.result.now _ c.index-system-at.result _ c.if-at-system.true refl c.row-columns.ensures c.row-coefficients.ensures c.row_value-value.ensures

pub returns-else-at-system : goal.returns-else-at-system
returns-else-at-system g c =
    let m = g.K.Arithmetic.means c.args.arithmetic.now in
    elim c.else-at-system.branch [
      | else-at-system-via-then-at-system+else-at-vector w ↦ updated_beyond m (equations_of c.args.system.now) c.args.vector.now c.args.row w.if-at-vector.false
      | else-at-system-via-else-at-system w ↦ updated_past m (equations_of c.args.system.now) c.args.vector.now c.args.row w.if-at-system.false
    ]
