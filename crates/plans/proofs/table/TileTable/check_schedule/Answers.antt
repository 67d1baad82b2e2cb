use Rattle.std.proofs.Common.{arith, rules}
use Rattle.std.proofs.lemmas.Nat.{mul-le}
use Rattle.checks.specs.declared.Check.TheVariants.{ScheduleStart}
use Rattle.checks.specs.declared.Layer.TheVariants.{Plan}
use Rattle.plans.specs.Tilings.{schedule_starts_of}
use Rattle.plans.specs.Lent.{tiling_of}
use Rattle.plans.proofs.Leasts.{other_fault}
use Rattle.plans.proofs.table.TileTable.check_schedule.Goals as goal

pub slice_bounds-ends-end : goal.slice_bounds-ends-end
slice_bounds-ends-end c = let x = c.args.self.now in omega (arith, mul-le x.tiling.tiles x.tiling.sweeps 64 16 x.counted.3 x.counted.1)

pub returns-in_err-refuse_found : goal.returns-in_err-refuse_found
returns-in_err-refuse_found c =
    let e = other_fault Plan ScheduleStart c.args.layout.now.starts.now c.misplaced-misplaced.new.ends (schedule_starts_of (tiling_of c.args.self.now)) c.first_other-other.result c.first_other-other.ensures c.misplaced-misplaced.ensures.starts (omega arith) in
    search (rules, e)

pub returns : goal.returns
returns c =
    let e = other_fault Plan ScheduleStart c.args.layout.now.starts.now c.misplaced-misplaced.new.ends (schedule_starts_of (tiling_of c.args.self.now)) c.first_other-other.result c.first_other-other.ensures c.misplaced-misplaced.ensures.starts (omega arith) in
    search (rules, e)
