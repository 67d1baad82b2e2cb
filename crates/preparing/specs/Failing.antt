-- What a call answers that may want memory. Assumes nothing.
use Rattle.std.specs.Prelude.{◌≡◌, Some, None, Option, Result, MatchResult}
use Rattle.checks.specs.declared.Fault.{Fault}
use Rattle.preparing.specs.declared.failing.Failure.{Failure}
use Rattle.preparing.specs.declared.failing.Failure.TheVariants.{Refusal, NoMemory}

-- a failure is the defined fault, or want of memory
abbrev pub Fails : Option Fault → Failure → Type 0
Fails verdict (Refusal f) = verdict ≡ Some f
Fails verdict (NoMemory e) = Unit {0}

-- a call makes what P holds of where no check fails, and otherwise answers the defined fault; it may also want memory
abbrev pub Answers : {X : Type 0} → Option Fault → (X → Type 0) → Result X Failure → Type 0
Answers verdict P r = MatchResult r (λ x. (verdict ≡ None) × P x) (Fails verdict)
