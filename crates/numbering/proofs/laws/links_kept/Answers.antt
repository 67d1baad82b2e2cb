use Rattle.numbering.proofs.Kept.{links_stay}
use Rattle.numbering.proofs.laws.links_kept.Goals as goal

pub returns : goal.returns
returns c = links_stay
