use Rattle.points.proofs.Sweeps.{each_row_plain}
use Rattle.points.proofs.each_row_plain.Goals as goal

pub returns : goal.returns
returns g c = each_row_plain _
