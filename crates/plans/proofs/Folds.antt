-- Folds over lists joined one after the other. Assumes nothing.
use Rattle.std.proofs.Common.{◌≡◌, ℕ, suc, ◌+◌, List, [], ◌∷◌, ◌++◌, fold, sym, refl, ap, ◌∙◌, arith}
use Rattle.std.specs.List.{flat_map}
use Rattle.checks.specs.Lists.{upto}
use Rattle.points.proofs.Uptos.{lists_more}

module _ {S X : Type 0} (f : S → X → S) where
  pub folded_append : (a : S) (xs ys : List X) → fold f a (xs ++ ys) ≡ fold f (fold f a xs) ys
  folded_append a [] ys = refl
  folded_append a (x ∷ xs) ys = folded_append (f a x) xs ys

  -- one number more
  pub fold_more : (a : S) (g : ℕ → List X) (n : ℕ) (x y : S) → x ≡ fold f a (flat_map g (upto n)) → y ≡ fold f x (g n) → y ≡ fold f a (flat_map g (upto (n + 1)))
  fold_more a g n x y e q =
      let s : n + 1 ≡ suc n = omega arith in
      q ∙ ap (λ z. fold f z (g n)) e ∙ sym (folded_append a (flat_map g (upto n)) (g n)) ∙ ap (fold f a) (sym (lists_more g n)) ∙ ap (λ m. fold f a (flat_map g (upto m))) (sym s)
