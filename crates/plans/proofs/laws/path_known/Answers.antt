use Rattle.std.proofs.Common.{refl}
use Rattle.plans.proofs.laws.path_known.Goals as goal

pub returns : goal.returns
returns c = refl
