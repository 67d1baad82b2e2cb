use Rattle.checks.proofs.Firsts.{lowest_is_lowest}
use Rattle.checks.proofs.lowest_is_lowest.Goals as goal

pub returns : goal.returns
returns c = lowest_is_lowest
