-- Whether a test passes at some element: in lists joined, and at an element that is there. Assumes nothing.
use Rattle.std.proofs.Common.{◌≡◌, ℕ, ◌≤◌, Bool, true, false, cond, eqb, ◌⊎◌, List, [], ◌∷◌, ◌++◌, count_by, sym, refl, ap, ◌∙◌, inl, inr, ⊎_elim, arith}
use Rattle.std.specs.List.{flat_map}
use Rattle.std.proofs.lemmas.List.Sums.{sum_by-cons}
use Rattle.std.proofs.lemmas.Bool.{cases_Bool, both_ways, or_cases, or_left, or_right, eq-eqb, eqb-true}
use Rattle.checks.specs.Lists.{some}

-- two tests that pass together are one
pub same_test : (a b : Bool) → (a ≡ true → b ≡ true) → (b ≡ true → a ≡ true) → a ≡ b
same_test true b to from = sym (to refl)
same_test false true to from = from refl
same_test false false to from = refl

pub some_append : {X : Type 0} (p : X → Bool) (xs ys : List X) → some p (xs ++ ys) ≡ true → (some p xs ≡ true) ⊎ (some p ys ≡ true)
some_append p [] ys e = inr e
some_append p (x ∷ xs) ys e = ⊎_elim (λ q. inl (or_left (p x) (some p xs) q)) (λ q. ⊎_elim (λ r. inl (or_right (p x) (some p xs) r)) (λ r. inr r) (some_append p xs ys q)) (or_cases (p x) (some p (xs ++ ys)) e)

pub some_front : {X : Type 0} (p : X → Bool) (xs ys : List X) → some p xs ≡ true → some p (xs ++ ys) ≡ true
some_front p [] ys e = absurd (both_ways false refl e)
some_front p (x ∷ xs) ys e = ⊎_elim (λ q. or_left (p x) (some p (xs ++ ys)) q) (λ q. or_right (p x) (some p (xs ++ ys)) (some_front p xs ys q)) (or_cases (p x) (some p xs) e)

pub some_back : {X : Type 0} (p : X → Bool) (xs ys : List X) → some p ys ≡ true → some p (xs ++ ys) ≡ true
some_back p [] ys e = e
some_back p (x ∷ xs) ys e = or_right (p x) (some p (xs ++ ys)) (some_back p xs ys e)

module _ {X Y : Type 0} (p : X → Bool) (g : Y → List X) where
  pub some_joined : (ys : List Y) → some p (flat_map g ys) ≡ true → some (λ y. some p (g y)) ys ≡ true
  some_joined [] e = e
  some_joined (y ∷ ys) e = ⊎_elim (λ q. or_left (some p (g y)) _ q) (λ q. or_right (some p (g y)) _ (some_joined ys q)) (some_append p (g y) (flat_map g ys) e)

  pub joined_some : (ys : List Y) → some (λ y. some p (g y)) ys ≡ true → some p (flat_map g ys) ≡ true
  joined_some [] e = e
  joined_some (y ∷ ys) e = ⊎_elim (λ q. some_front p (g y) (flat_map g ys) q) (λ q. some_back p (g y) (flat_map g ys) (joined_some ys q)) (or_cases (some p (g y)) _ e)

module _ (p : ℕ → Bool) where
  -- the element at which the test passes
  pub some_member : (xs : List ℕ) → some p xs ≡ true → (w : ℕ) × (some (eqb w) xs ≡ true) × (p w ≡ true)
  some_member [] e = absurd (both_ways false refl e)
  some_member (x ∷ xs) e = ⊎_elim
      (λ q. (x, or_left (eqb x x) (some (eqb x) xs) (eq-eqb x x refl), q))
      (λ q. let r = some_member xs q in (r.0, or_right (eqb r.0 x) (some (eqb r.0) xs) r.1, r.2))
      (or_cases (p x) (some p xs) e)

  pub member_some : (xs : List ℕ) (w : ℕ) → some (eqb w) xs ≡ true → p w ≡ true → some p xs ≡ true
  member_some [] w m e = absurd (both_ways false refl m)
  member_some (x ∷ xs) w m e = ⊎_elim (λ q. or_left (p x) (some p xs) (ap p (sym (eqb-true w x q)) ∙ e)) (λ q. or_right (p x) (some p xs) (member_some xs w q e)) (or_cases (eqb w x) (some (eqb w) xs) m)

  -- what is counted is there
  pub counted_some : (xs : List ℕ) → 1 ≤ count_by p xs → some p xs ≡ true
  counted_some [] h = absurd (omega arith)
  counted_some (x ∷ xs) h = elim (cases_Bool (p x)) [
    | inl e ↦ or_left (p x) (some p xs) e
    | inr e ↦
        let z : ◌≡◌ {A = ℕ} (cond (p x) 1 0) 0 = rw e in
        or_right (p x) (some p xs) (counted_some xs (omega (arith, z, sum_by-cons (λ y. cond (p y) 1 0) x xs)))
  ]
