use Rattle.grown_plans.proofs.Opens.{grown_opens}
use Rattle.grown_plans.proofs.grown_opens.Goals as goal

pub returns : goal.returns
returns c = grown_opens
