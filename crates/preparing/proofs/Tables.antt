-- What a call leaves in tables that were made for it. Assumes nothing.
use Rattle.std.proofs.Common.{◌≡◌, None, Option, sym, refl}
use Rattle.checks.specs.declared.Fault.{Fault}
use Rattle.checks.specs.Verdicts.{unless_refused}
use Rattle.checks.proofs.Refusals.{left_after}

-- a call that is not refused
pub left_is : {X : Type 0} {verdict : Option Fault} (after before : X) → None ≡ verdict → unless_refused verdict after before ≡ after
left_is after before e = sym (left_after after before e refl)
