use Rattle.points.proofs.History.{each_at_its_turn}
use Rattle.points.proofs.each_at_its_turn.Goals as goal

pub returns : goal.returns
returns c = each_at_its_turn
