-- What a verdict says of the checks that it is made of, and of what a call leaves. Assumes nothing.
use Rattle.std.proofs.Common.{◌≡◌, ℕ, Bool, true, false, List, [], ◌∷◌, ◌++◌, Some, None, Option, refl, ap, ◌∙◌, arith}
use Rattle.std.specs.Option.{option_or}
use Rattle.std.specs.List.{AllByRecursion as All}
use Rattle.checks.specs.declared.Check.{Check}
use Rattle.checks.specs.declared.Layer.{Layer}
use Rattle.checks.specs.declared.Fault.{Fault}
use Rattle.checks.specs.Verdicts.{fault_if, first_fault, unless_refused}

module _ {X : Type 0} {verdict : Option Fault} {left : X} (after before : X) where
  pub left_after : None ≡ verdict → left ≡ after → left ≡ unless_refused verdict after before
  left_after v e = e ∙ ap (λ o. unless_refused o after before) v

  pub left_before : {f : Fault} → Some f ≡ verdict → left ≡ before → left ≡ unless_refused verdict after before
  left_before v e = e ∙ ap (λ o. unless_refused o after before) v

-- a check that finds no fault has a test that fails
pub fault_passed : (layer : Layer) (check : Check) (place : ℕ) (bad : Bool) → fault_if layer check place bad ≡ None → bad ≡ false
fault_passed layer check place true e = let z : ◌≡◌ {A = ℕ} 0 1 = cc in absurd (omega arith)
fault_passed layer check place false e = refl

-- and the other way
pub fault_none : (layer : Layer) (check : Check) (place : ℕ) (bad : Bool) → bad ≡ false → fault_if layer check place bad ≡ None
fault_none layer check place bad e = ap (fault_if layer check place) e

-- no fault first and none later
pub both_passed : (v w : Option Fault) → option_or v w ≡ None → (v ≡ None) × (w ≡ None)
both_passed None w e = (refl, e)
both_passed (Some f) w e = let z : ◌≡◌ {A = ℕ} 0 1 = cc in absurd (omega arith)

-- where there is no first fault, no check finds one
pub all_passed : (vs : List (Option Fault)) → first_fault vs ≡ None → All (λ v. v ≡ None) vs
all_passed [] e = tt
all_passed (v ∷ vs) e = let p = both_passed v (first_fault vs) e in (p.0, all_passed vs p.1)

pub all_none : (vs : List (Option Fault)) → All (λ v. v ≡ None) vs → first_fault vs ≡ None
all_none [] h = refl
all_none (v ∷ vs) h = ap (λ o. option_or o (first_fault vs)) h.0 ∙ all_none vs h.1

-- after a check that passed, the later ones decide
pub then_later : {v w answer : Option Fault} → None ≡ v → answer ≡ w → answer ≡ option_or v w
then_later {v} {w} p e = e ∙ ap (λ o. option_or o w) p

-- and the last one by itself
pub then_last : {v answer : Option Fault} → answer ≡ v → answer ≡ option_or v None
then_last {v} e = e ∙ alone v
  where
    alone : (o : Option Fault) → o ≡ option_or o None
    alone None = refl
    alone (Some f) = refl

-- after a check that passes the later ones decide
pub skip : {v : Option Fault} (vs : List (Option Fault)) → v ≡ None → first_fault (v ∷ vs) ≡ first_fault vs
skip vs e = ap (λ o. option_or o (first_fault vs)) e

-- a check after which none fails unless it does
alone : (v : Option Fault) (vs : List (Option Fault)) → (v ≡ None → first_fault vs ≡ None) → first_fault (v ∷ vs) ≡ v
alone None vs h = h refl
alone (Some f) vs h = refl

pub first_append : (vs ws : List (Option Fault)) → first_fault (vs ++ ws) ≡ option_or (first_fault vs) (first_fault ws)
first_append [] ws = refl
first_append (None ∷ vs) ws = first_append vs ws
first_append (Some f ∷ vs) ws = refl

-- the one check that can fail, among others that pass
pub only : (before : List (Option Fault)) (v : Option Fault) (later : List (Option Fault)) → All (λ o. o ≡ None) before → (v ≡ None → All (λ o. o ≡ None) later) → first_fault (before ++ v ∷ later) ≡ v
only before v later h so = first_append before (v ∷ later) ∙ ap (λ o. option_or o (first_fault (v ∷ later))) (all_none before h) ∙ alone v later (λ e. all_none later (so e))
