use Rattle.grown_plans.proofs.Opens.{grown_is_lawful}
use Rattle.grown_plans.proofs.grown_is_lawful.Goals as goal

pub returns : goal.returns
returns c = grown_is_lawful
