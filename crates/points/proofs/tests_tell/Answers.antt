use Rattle.points.proofs.Waits.{waits_told, lawful_told}
use Rattle.points.proofs.tests_tell.Goals as goal

pub returns : goal.returns
returns c = record { waits = waits_told; lawful = lawful_told }
