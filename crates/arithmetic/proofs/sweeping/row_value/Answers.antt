use Rattle.arithmetic.specs.Sweeps.{with_entry, own_coefficient}
use Rattle.arithmetic.proofs.RowSteps.{walk_all, finished_some, finished_none}
use Rattle.arithmetic.proofs.Zips.{zip_all}
use Rattle.arithmetic.proofs.sweeping.row_value.Goals as goal

pub returns-in-Some-diagonal : goal.returns-in-Some-diagonal
returns-in-Some-diagonal g c =
    let m = g.K.Arithmetic.means c.args.arithmetic.now in
    let done = zip_all c.loop-column.column-iterator.a.rest.now c.loop-column.column-iterator.b.rest.now c.in-None.ensures.steps in
    finished_some m (walk_all (with_entry m c.args.row c.args.vector.now) _ done c.loop-column.invariant.0) (walk_all (own_coefficient c.args.row) _ done c.loop-column.invariant.1) c.finish.ensures c.in-Some-diagonal.is

pub returns-in-None-diagonal : goal.returns-in-None-diagonal
returns-in-None-diagonal g c =
    let m = g.K.Arithmetic.means c.args.arithmetic.now in
    let done = zip_all c.loop-column.column-iterator.a.rest.now c.loop-column.column-iterator.b.rest.now c.in-None.ensures.steps in
    finished_none m (walk_all (with_entry m c.args.row c.args.vector.now) _ done c.loop-column.invariant.0) (walk_all (own_coefficient c.args.row) _ done c.loop-column.invariant.1) c.in-None-diagonal.is
