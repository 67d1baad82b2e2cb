use Rattle.points.proofs.Runs.{accepts_exactly, one_is_ready, waited_for_by_higher}
use Rattle.points.proofs.calls_stand.Goals as goal

pub returns : goal.returns
returns c = record { accepted = accepts_exactly; ready = one_is_ready; higher = waited_for_by_higher }
