-- A walk over two lists side by side. Assumes nothing.
use Rattle.std.proofs.Common.{◌≡◌, ◌⊎◌, List, [], ◌∷◌, length, refl, ap₂, inl, inr, arith}
use Rattle.std.specs.List.{zip}

module _ {A B : Type 0} where
  pub zip_more : {x : A} {y : B} {xs more : List A} {ys others : List B} → xs ≡ x ∷ more → ys ≡ y ∷ others → zip xs ys ≡ (x, y) ∷ zip more others
  zip_more p q = ap₂ zip p q

  pub zip_first_empty : (xs : List A) (ys : List B) → length xs ≡ 0 → zip xs ys ≡ []
  zip_first_empty [] ys e = refl
  zip_first_empty (x ∷ xs) ys e = absurd (omega arith)

  pub zip_second_empty : (xs : List A) (ys : List B) → length ys ≡ 0 → zip xs ys ≡ []
  zip_second_empty [] ys e = refl
  zip_second_empty (x ∷ xs) [] e = refl
  zip_second_empty (x ∷ xs) (y ∷ ys) e = absurd (omega arith)

  -- neither list has another element to pair
  pub zip_all : {S T : Type 0} {P : S → Type 0} {Q : T → Type 0} (xs : List A) (ys : List B) → ((s : S) × (length xs ≡ 0 × P s)) ⊎ ((t : T) × (length ys ≡ 0 × Q t)) → zip xs ys ≡ []
  zip_all xs ys (inl h) = zip_first_empty xs ys h.1.0
  zip_all xs ys (inr h) = zip_second_empty xs ys h.1.0
