-- One turn of a walk over the sweeps. Assumes nothing.
use Rattle.std.proofs.Common.{◌≡◌, ℕ, ◌+◌, List, fold, sym, ap, ◌∙◌, add-one}
use Rattle.checks.specs.Lists.{upto}
use Rattle.points.specs.Runs.{through}
use Rattle.points.proofs.Uptos.{folded_more}

-- one sweep more
pub through_more : {S : Type 0} (update : ℕ → ℕ → S → S) (rows : ℕ → List ℕ) (n : ℕ) (x y z : S) (is : List ℕ) → y ≡ through update rows n x → is ≡ rows n → z ≡ fold (λ w i. update n i w) y is → z ≡ through update rows (n + 1) x
through_more {S} update rows n x y z is before listed here =
    let step : S → ℕ → S = λ w c. fold (λ v i. update c i v) w (rows c) in
    here ∙ ap (fold (λ w i. update n i w) y) listed ∙ ap (λ w. step w n) before ∙ sym (folded_more step x n) ∙ ap (λ k. fold step x (upto k)) (sym (add-one n))
