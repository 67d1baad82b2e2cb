use Rattle.plans.proofs.Held.{held_passed}
use Rattle.plans.proofs.plan.Plan.passed.Goals as goal

pub returns : goal.returns
returns c = held_passed c.args.self.now
