-- Verdicts: the first failing check, at its lowest place. A verdict is the fault that a call answers, or none. Assumes nothing.
use Rattle.std.specs.Prelude.{◌≡◌, ℕ, ◌<◌, Bool, true, false, cond, List, [], ◌∷◌, Some, None, Option, MatchOption, nat_lt}
use Rattle.std.specs.Option.{option_or}
use Rattle.checks.specs.declared.Check.{Check}
use Rattle.checks.specs.declared.Layer.{Layer}
use Rattle.checks.specs.declared.Fault.{Fault}
use Rattle.checks.specs.Lists.{first_where}

-- the fault of a check at a place
abbrev pub fault_at : Layer → Check → ℕ → Fault
fault_at layer check place = record { check = check; place = place; layer = layer }

-- the fault of a check whose test speaks of one place
abbrev pub fault_if : Layer → Check → ℕ → Bool → Option Fault
fault_if layer check place bad = cond bad (Some (fault_at layer check place)) None

-- the fault of a check at the lowest place below n where its test holds
abbrev pub lowest : Layer → Check → (ℕ → Bool) → ℕ → Option Fault
lowest layer check bad n = fault_if layer check (first_where bad n) (nat_lt (first_where bad n) n)

-- the fault of the first check that fails
abbrev pub first_fault : List (Option Fault) → Option Fault
first_fault [] = None
first_fault (v ∷ vs) = option_or v (first_fault vs)

-- a call that is not refused leaves `after`, a refused one what was there before
abbrev pub unless_refused : {X : Type 0} → Option Fault → X → X → X
unless_refused None after before = after
unless_refused (Some f) after before = before

-- no fault exactly where no place fails; otherwise the fault names the check, the layer and the lowest place that fails
abbrev pub LowestIsLowest : Type 0
LowestIsLowest = (layer : Layer) (check : Check) (bad : ℕ → Bool) (n : ℕ) →
    MatchOption (lowest layer check bad n)
    ((k : ℕ) → k < n → bad k ≡ false)
    (λ f. (f ≡ fault_at layer check f.place) × (f.place < n) × (bad f.place ≡ true) × ((k : ℕ) → k < f.place → bad k ≡ false))
