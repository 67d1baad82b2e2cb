use Rattle.plans.proofs.Lawful.{lawful_rises, waits_for_lower}
use Rattle.plans.proofs.laws.lawful_rises.Goals as goal

pub returns : goal.returns
returns c = record { rises = lawful_rises; lower = waits_for_lower }
