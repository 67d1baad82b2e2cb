use Rattle.plans.proofs.Wordbits.{words_tell}
use Rattle.plans.proofs.laws.words_tell.Goals as goal

pub returns : goal.returns
returns c = words_tell
