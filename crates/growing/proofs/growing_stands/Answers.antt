use Rattle.growing.proofs.Whole.{sweeps_are_grown, grown_is_one}
use Rattle.growing.proofs.growing_stands.Goals as goal

pub returns : goal.returns
returns c = record { grown = sweeps_are_grown; alone = grown_is_one }
