use Rattle.numbering.proofs.Carried.{tiles_moved}
use Rattle.numbering.proofs.laws.tiles_moved.Goals as goal

pub returns : goal.returns
returns c = tiles_moved
