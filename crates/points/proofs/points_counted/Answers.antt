use Rattle.points.proofs.Runs.{points_counted}
use Rattle.points.proofs.points_counted.Goals as goal

pub returns : goal.returns
returns g c = points_counted _
