-- The numbers below n, and one more. Assumes nothing.
use Rattle.std.proofs.Common.{◌≡◌, ℕ, zero, suc, ◌+◌, [], ◌∷◌, ◌++◌, ap, ◌∙◌, add-one, arith}
use Rattle.std.specs.List.{range_with_len}
use Rattle.checks.specs.Lists.{upto}

counting_more : (a n : ℕ) → range_with_len a (suc n) ≡ range_with_len a n ++ (a + n) ∷ []
counting_more a zero = ap (λ x. x ∷ []) (omega arith)
counting_more a (suc n) =
    let e : a + 1 + n ≡ a + suc n = omega arith in
    ap (λ t. a ∷ t) (counting_more (a + 1) n ∙ ap (λ x. range_with_len (a + 1) n ++ x ∷ []) e)

pub upto_more : (n : ℕ) → upto (suc n) ≡ upto n ++ n ∷ []
upto_more n = let e : 0 + n ≡ n = omega arith in counting_more 0 n ∙ ap (λ x. upto n ++ x ∷ []) e

pub upto_next : (n : ℕ) → upto (n + 1) ≡ upto n ++ n ∷ []
upto_next n = ap upto (add-one n) ∙ upto_more n
