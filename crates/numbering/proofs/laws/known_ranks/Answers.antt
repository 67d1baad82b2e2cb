use Rattle.std.proofs.Common.{refl}
use Rattle.numbering.proofs.laws.known_ranks.Goals as goal

pub returns : goal.returns
returns c = refl
