use Rattle.points.proofs.History.{any_state}
use Rattle.points.proofs.any_state.Goals as goal

pub returns : goal.returns
returns g c = any_state _
