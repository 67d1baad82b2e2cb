use Rattle.numbering.proofs.Carried.{rows_come_back}
use Rattle.numbering.proofs.laws.rows_come_back.Goals as goal

pub returns : goal.returns
returns g c = rows_come_back g.row.K.Denot
