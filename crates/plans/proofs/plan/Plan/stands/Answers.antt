use Rattle.points.proofs.Waits.{waits_told}
use Rattle.plans.specs.Tilings.{tile_of, precedes}
use Rattle.plans.specs.Held.{tiling_held}
use Rattle.plans.proofs.Held.{held_lawful}
use Rattle.plans.proofs.plan.Plan.stands.Goals as goal

pub returns : goal.returns
returns c =
    let l = tiling_held c.args.self.now in
    record { lawful = held_lawful c.args.self.now; tells = waits_told (precedes l) l.pattern.rows l.sweeps l.count (tile_of l) }
