use Rattle.plans.proofs.Lawful.{laid_out_opens}
use Rattle.plans.proofs.laws.laid_out_opens.Goals as goal

pub returns : goal.returns
returns c = laid_out_opens
