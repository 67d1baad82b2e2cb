use Rattle.points.proofs.Schedules.{parts_are_rows}
use Rattle.points.proofs.parts_are_rows.Goals as goal

pub returns : goal.returns
returns c = parts_are_rows
