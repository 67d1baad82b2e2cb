use Rattle.points.proofs.Counts.{points_are_sweeps, all_done}
use Rattle.points.proofs.points_stand.Goals as goal

pub returns : goal.returns
returns c = record { sweeps = points_are_sweeps; whole = all_done }
