use Rattle.grown_plans.proofs.Opens.{grown_passes}
use Rattle.grown_plans.proofs.grown_passes.Goals as goal

pub returns : goal.returns
returns c = grown_passes
