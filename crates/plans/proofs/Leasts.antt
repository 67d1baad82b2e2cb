-- The first place where a test passes, told by what is known of it, and where a table is not as defined. Assumes nothing.
use Rattle.std.proofs.Common.{◌≡◌, ℕ, zero, suc, ◌+◌, ◌<◌, ◌≤◌, Bool, true, false, not, eqb, ltb, Option, List, [], ◌∷◌, length, sym, refl, ap, ◌∙◌, subst, inl, inr, arith}
use Rattle.std.specs.List.{position, zip}
use Rattle.std.specs.Option.{option_map}
use Rattle.std.specs.Bool.{then_some}
use Rattle.std.proofs.lemmas.Slice.Zip.{length-zip}
use Rattle.std.proofs.lemmas.Bool.{cases_eq, cond-true, cond-false}
use Rattle.checks.specs.declared.Check.{Check}
use Rattle.checks.specs.declared.Layer.{Layer}
use Rattle.checks.specs.Lists.{first_where, first_from, passes_at}
use Rattle.checks.specs.Verdicts.{fault_at, fault_if, lowest}
use Rattle.checks.proofs.Places.{lowest_position}
use Rattle.plans.specs.Opening.{differs}

module _ (p : ℕ → Bool) where
  from_is : (i n r : ℕ) → i ≤ r → r ≤ i + n → ((k : ℕ) → i ≤ k → k < r → p k ≡ false) → (r < i + n → p r ≡ true) → first_from p i n ≡ r
  from_is i zero r a b none here = omega arith
  from_is i (suc n) r a b none here = elim (cases_eq i r) [
    | inl e ↦ cond-true (p i) i (first_from p (i + 1) n) (subst (λ (x : ℕ). p x ≡ true) (sym e) (here (omega arith))) ∙ e
    | inr ne ↦ cond-false (p i) i (first_from p (i + 1) n) (none i (omega arith) (omega arith)) ∙ from_is (i + 1) n r (omega arith) (omega arith) (λ k l q. none k (omega arith) q) (λ h. here (omega arith))
  ]

  -- r is n, or the first place below n that passes
  pub first_is : (n r : ℕ) → r ≤ n → ((k : ℕ) → k < r → p k ≡ false) → (r < n → p r ≡ true) → first_where p n ≡ r
  first_is n r le none here = from_is 0 n r (omega arith) (omega arith) (λ k a b. none k b) (λ h. here (omega arith))

-- at each place, two tables differ where their entries side by side do
side_by_side : (xs ys : List ℕ) (k : ℕ) → length xs ≡ length ys → k < length xs → differs xs ys k ≡ passes_at (λ pair. not (eqb pair.0 pair.1)) (zip xs ys) k
side_by_side [] ys k n h = absurd (omega arith)
side_by_side (x ∷ xs) [] k n h = absurd (omega arith)
side_by_side (x ∷ xs) (y ∷ ys) zero n h = refl
side_by_side (x ∷ xs) (y ∷ ys) (suc k) n h = side_by_side xs ys k (omega arith) (omega arith)

-- the fault of a table that is not as defined is at the first pair that is not of equals
pub other_fault : (layer : Layer) (check : Check) (xs ds ys : List ℕ) (found : Option ℕ) → found ≡ position (λ pair. not (eqb pair.0 pair.1)) (zip xs ds) → ds ≡ ys → length xs ≡ length ds
    → lowest layer check (differs xs ys) (length xs) ≡ option_map (fault_at layer check) found
other_fault layer check xs ds ys found f e n =
    let long : length (zip xs ds) ≡ length xs = omega (arith, length-zip xs ds) in
    ap (λ (zs : List ℕ). lowest layer check (differs xs zs) (length xs)) (sym e) ∙ ap (lowest layer check (differs xs ds)) (sym long)
    ∙ lowest_position layer check (λ pair. not (eqb pair.0 pair.1)) (differs xs ds) (zip xs ds) (λ k h. side_by_side xs ds k n (omega (arith, long)))
    ∙ ap (option_map (fault_at layer check)) (sym f)

-- the fault of a check at the first place that fails, if there is one below n
pub found_fault : (layer : Layer) (check : Check) (bad : ℕ → Bool) (n r : ℕ) → first_where bad n ≡ r → option_map (fault_at layer check) (then_some (ltb r n) r) ≡ lowest layer check bad n
found_fault layer check bad n r e = by_found (ltb r n) ∙ ap (λ k. fault_if layer check k (ltb k n)) (sym e)
  where
    by_found : (b : Bool) → option_map (fault_at layer check) (then_some b r) ≡ fault_if layer check r b
    by_found true = refl
    by_found false = refl
