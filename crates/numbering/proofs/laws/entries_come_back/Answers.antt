use Rattle.numbering.proofs.Kept.{entries_come_back}
use Rattle.numbering.proofs.laws.entries_come_back.Goals as goal

pub returns : goal.returns
returns g c = entries_come_back g.row.K.Denot
