use Rattle.runs.proofs.Locals.{rows_are_local}
use Rattle.runs.proofs.Alike.{plain_is_plain}
use Rattle.runs.proofs.laws.rows_are_local.Goals as goal

pub returns : goal.returns
returns g c = record { local = rows_are_local; plain = plain_is_plain }
