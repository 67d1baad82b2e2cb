use Rattle.std.proofs.Common.{sym, arith}
use Rattle.points.proofs.Schedules.{begins_along}
use Rattle.plans.specs.Tilings.{tile_of}
use Rattle.plans.specs.Held.{tiling_held}
use Rattle.plans.proofs.Places.{small}
use Rattle.plans.proofs.Readings.{no_points}
use Rattle.plans.proofs.plan.Plan.tile_points.Goals as goal

pub returns-then-tile-self : goal.returns-then-tile-self
returns-then-tile-self c =
    let x = c.args.self.now in
    let y = x.table in
    sym (no_points (tiling_held x) (small (tiling_held x) y.sized.0 y.counted.0 y.long.2 y.below) c.args.tile c.if-tile-self.true)

pub overflow_sub-result : goal.overflow_sub-result
overflow_sub-result c =
    let l = tiling_held c.args.self.now in
    omega (arith, c.start.ensures.value, c.start-2.ensures.value, begins_along l.pattern.rows l.sweeps (tile_of l) c.args.tile l.sweeps (omega arith))

pub returns : goal.returns
returns c =
    let l = tiling_held c.args.self.now in
    omega (arith, c.start.ensures.value, c.start-2.ensures.value, begins_along l.pattern.rows l.sweeps (tile_of l) c.args.tile l.sweeps (omega arith))
