use Rattle.numbering.proofs.Kept.{remapped_accepted}
use Rattle.numbering.proofs.laws.remapped_accepted.Goals as goal

pub returns : goal.returns
returns c = remapped_accepted
