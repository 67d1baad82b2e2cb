-- A failure of one verdict as a failure of another. Assumes nothing.
use Rattle.std.proofs.Common.{◌≡◌, ℕ, Some, None, Ok, Err, Option, Result, sym, ◌∙◌, subst, arith}
use Rattle.checks.specs.declared.Fault.{Fault}
use Rattle.preparing.specs.declared.failing.Failure.{Failure}
use Rattle.preparing.specs.declared.failing.Failure.TheVariants.{Refusal, NoMemory}
use Rattle.preparing.specs.Failing.{Fails, Answers}

pub fails_as : (v w : Option Fault) (e : Failure) → ((f : Fault) → w ≡ Some f → v ≡ Some f) → Fails w e → Fails v e
fails_as v w (Refusal f) so h = so f h
fails_as v w (NoMemory e) so h = tt

-- a verdict without a fault has no failure but want of memory
pub none_fails : (v w : Option Fault) (e : Failure) → w ≡ None → Fails w e → Fails v e
none_fails v w e none h = fails_as v w e (λ f some. let z : ◌≡◌ {A = ℕ} 0 1 = cc in absurd (omega arith)) h

-- an answer by one verdict is one by an equal verdict
pub answers_as : {X : Type 0} (v w : Option Fault) (P Q : X → Type 0) (r : Result X Failure) → w ≡ v → ((x : X) → P x → Q x) → Answers w P r → Answers v Q r
answers_as v w P Q (Ok x) e so h = (sym e ∙ h.0, so x h.1)
answers_as v w P Q (Err y) e so h = subst (λ o. Fails o y) e h
