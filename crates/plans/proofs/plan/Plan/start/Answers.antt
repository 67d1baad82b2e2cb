use Rattle.std.proofs.Common.{◌*◌, length, ap, arith}
use Rattle.points.proofs.Schedules.{begins_rises, length_schedule}
use Rattle.plans.specs.Tilings.{tile_of}
use Rattle.plans.specs.Held.{tiling_held}
use Rattle.plans.proofs.Readings.{starts_long, starts_at}
use Rattle.plans.proofs.plan.Plan.start.Goals as goal

pub bounds-self-stretch : goal.bounds-self-stretch
bounds-self-stretch c = let x = c.args.self.now in omega (arith, starts_long (tiling_held x) x.layout.starts.now x.started, c.requires)

pub returns : goal.returns
returns c =
    let x = c.args.self.now in
    let l = tiling_held x in
    let e = starts_at l x.layout.starts.now x.started c.args.stretch c.requires in
    record {
      value = e;
      within = omega (arith, e, begins_rises l.pattern.rows l.sweeps (tile_of l) c.args.stretch (l.count * l.sweeps) c.requires, ap length x.scheduled, length_schedule l.pattern.rows l.sweeps l.count (tile_of l));
    }
