-- A test at one element. Assumes nothing.
use Rattle.std.proofs.Common.{◌≡◌, ℕ, zero, suc, ◌<◌, Bool, List, [], ◌∷◌, length, get_or, sym, ap, arith}
use Rattle.checks.specs.Lists.{passes_at}

pub passes_here : {X : Type 0} (p : X → Bool) (xs : List X) (i : ℕ) (x : X) → i < length xs → x ≡ get_or xs i x → passes_at p xs i ≡ p x
passes_here p [] i x l e = absurd (omega arith)
passes_here p (y ∷ ys) zero x l e = ap p (sym e)
passes_here p (y ∷ ys) (suc i) x l e = passes_here p ys i x (omega arith) e
