-- The first place where a test passes, and what a check makes of it. Assumes nothing.
use Rattle.std.proofs.Common.{◌≡◌, ℕ, zero, suc, ◌+◌, ◌<◌, ◌≤◌, Bool, true, false, cond, ltb, ◌⊎◌, Some, None, sym, refl, ap, ◌∙◌, subst, ap₂, inl, inr, arith, MatchOption}
use Rattle.std.proofs.lemmas.Bool.{cases_eq, cond-true, cond-false, lt-ltb, le-ltb, ltb-true, ltb-false}
use Rattle.checks.specs.declared.Check.{Check}
use Rattle.checks.specs.declared.Layer.{Layer}
use Rattle.checks.specs.declared.Fault.{Fault}
use Rattle.checks.specs.Lists.{first_where, first_from}
use Rattle.checks.specs.Verdicts.{fault_at, fault_if, lowest, LowestIsLowest}

module _ (p : ℕ → Bool) where
  from_is : (i n r : ℕ) → i ≤ r → r < i + n → ((k : ℕ) → i ≤ k → k < r → p k ≡ false) → p r ≡ true → first_from p i n ≡ r
  from_is i zero r a b none here = absurd (omega arith)
  from_is i (suc n) r a b none here = go (cases_eq i r) (λ ne. from_is (i + 1) n r (omega arith) (omega arith) (λ k l q. none k (omega arith) q) here)
    where
      go : (i ≡ r) ⊎ (i ≡ r → ⊥) → ((i ≡ r → ⊥) → first_from p (i + 1) n ≡ r) → cond (p i) i (first_from p (i + 1) n) ≡ r
      go (inl e) later = cond-true (p i) i (first_from p (i + 1) n) (subst (λ (x : ℕ). p x ≡ true) (sym e) here) ∙ e
      go (inr ne) later = cond-false (p i) i (first_from p (i + 1) n) (none i (omega arith) (omega arith)) ∙ later ne

  from_none : (i n : ℕ) → ((k : ℕ) → i ≤ k → k < i + n → p k ≡ false) → first_from p i n ≡ i + n
  from_none i zero none = omega arith
  from_none i (suc n) none = cond-false (p i) i (first_from p (i + 1) n) (none i (omega arith) (omega arith)) ∙ from_none (i + 1) n (λ k l q. none k (omega arith) (omega arith)) ∙ omega arith

  -- the test fails before the first place
  from_before : (i n k : ℕ) → i ≤ k → k < first_from p i n → k < i + n → p k ≡ false
  from_before i zero k a b c = absurd (omega arith)
  from_before i (suc n) k a b c = go (p i) refl (cases_eq i k) b (λ ne q. from_before (i + 1) n k (omega arith) q (omega arith))
    where
      go : (t : Bool) → p i ≡ t → (i ≡ k) ⊎ (i ≡ k → ⊥) → k < cond t i (first_from p (i + 1) n) → ((i ≡ k → ⊥) → k < first_from p (i + 1) n → p k ≡ false) → p k ≡ false
      go true e o q later = absurd (omega arith)
      go false e (inl d) q later = subst (λ (x : ℕ). p x ≡ false) d e
      go false e (inr d) q later = later d q

  -- and passes there, unless it stands at the end
  from_here : (i n : ℕ) → first_from p i n < i + n → p (first_from p i n) ≡ true
  from_here i zero l = absurd (omega arith)
  from_here i (suc n) l = go (p i) refl l (λ q. from_here (i + 1) n (omega arith))
    where
      go : (t : Bool) → p i ≡ t → cond t i (first_from p (i + 1) n) < i + suc n → (first_from p (i + 1) n < i + suc n → p (first_from p (i + 1) n) ≡ true) → p (cond t i (first_from p (i + 1) n)) ≡ true
      go true e q later = e
      go false e q later = later q

module _ (layer : Layer) (check : Check) (bad : ℕ → Bool) (n : ℕ) where
  -- the check finds its fault at r
  pub lowest_found : (r : ℕ) → r < n → ((k : ℕ) → k < r → bad k ≡ false) → bad r ≡ true → lowest layer check bad n ≡ Some (fault_at layer check r)
  lowest_found r l none here =
      let e : first_where bad n ≡ r = from_is bad 0 n r (omega arith) (omega arith) (λ k a b. none k b) here in
      cond-true (ltb (first_where bad n) n) (Some (fault_at layer check (first_where bad n))) None (lt-ltb (first_where bad n) n (omega arith)) ∙ ap (λ k. Some (fault_at layer check k)) e

  -- and finds none
  pub lowest_none : ((k : ℕ) → k < n → bad k ≡ false) → lowest layer check bad n ≡ None
  lowest_none none =
      let e : first_where bad n ≡ 0 + n = from_none bad 0 n (λ k a b. none k (omega arith)) in
      cond-false (ltb (first_where bad n) n) (Some (fault_at layer check (first_where bad n))) None (le-ltb (first_where bad n) n (omega arith))

  -- a refusal at the first place that fails is the fault of the check
  pub lowest_refused : (r : ℕ) (f : Fault) → r < n → ((k : ℕ) → k < r → bad k ≡ false) → fault_if layer check r (bad r) ≡ Some f → lowest layer check bad n ≡ Some f
  lowest_refused r f l none e = here (bad r) refl e
    where
      here : (b : Bool) → bad r ≡ b → fault_if layer check r b ≡ Some f → lowest layer check bad n ≡ Some f
      here true t q = lowest_found r l none t ∙ q
      here false t q = let z : ◌≡◌ {A = ℕ} 0 1 = cc in absurd (omega arith)

  stands : (b : Bool) → ltb (first_where bad n) n ≡ b →
      MatchOption (fault_if layer check (first_where bad n) b) ((k : ℕ) → k < n → bad k ≡ false) (λ f. (f ≡ fault_at layer check f.place) × (f.place < n) × (bad f.place ≡ true) × ((k : ℕ) → k < f.place → bad k ≡ false))
  stands true e =
      let l : first_where bad n < n = ltb-true (first_where bad n) n e in
      (refl, l, from_here bad 0 n (omega arith), λ k q. from_before bad 0 n k (omega arith) q (omega arith))
  stands false e = λ k l. from_before bad 0 n k (omega arith) (omega (arith, ltb-false (first_where bad n) n e)) (omega arith)

  -- a check that finds no fault passes at each place
  pub lowest_passed : lowest layer check bad n ≡ None → (k : ℕ) → k < n → bad k ≡ false
  lowest_passed e = passed (ltb (first_where bad n) n) refl e
    where
      passed : (b : Bool) → ltb (first_where bad n) n ≡ b → fault_if layer check (first_where bad n) b ≡ None → (k : ℕ) → k < n → bad k ≡ false
      passed true t q = let z : ◌≡◌ {A = ℕ} 0 1 = cc in absurd (omega arith)
      passed false t q = stands false t

pub lowest_is_lowest : LowestIsLowest
lowest_is_lowest layer check bad n = stands layer check bad n (ltb (first_where bad n) n) refl

-- two tests that agree below n find the same place
first_same : (p q : ℕ → Bool) (i n : ℕ) → ((k : ℕ) → i ≤ k → k < i + n → p k ≡ q k) → first_from p i n ≡ first_from q i n
first_same p q i zero h = refl
first_same p q i (suc n) h = ap₂ (λ b later. cond b i later) (h i (omega arith) (omega arith)) (first_same p q (i + 1) n (λ k a l. h k (omega arith) (omega arith)))

pub lowest_same : (layer : Layer) (check : Check) (p q : ℕ → Bool) (n : ℕ) → ((k : ℕ) → k < n → p k ≡ q k) → lowest layer check p n ≡ lowest layer check q n
lowest_same layer check p q n h = ap (λ f. fault_if layer check f (ltb f n)) (first_same p q 0 n (λ k a l. h k (omega arith)))
