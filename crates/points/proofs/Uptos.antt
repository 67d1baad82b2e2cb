-- Sums, counts, tests and lists over the numbers below n, one number more. Assumes nothing.
use Rattle.std.proofs.Common.{◌≡◌, ℕ, zero, suc, ◌+◌, ◌<◌, ◌≤◌, Bool, true, false, cond, List, [], ◌∷◌, ◌++◌, fold, sum_by, count_by, filter, sym, refl, ap, ◌∙◌, inl, inr, ⊎_elim, append-nil, arith}
use Rattle.std.specs.List.{range_with_len, flat_map}
use Rattle.std.proofs.lemmas.List.{flat_map_more}
use Rattle.std.proofs.lemmas.List.Sums.{fold_push, sum_by_push}
use Rattle.std.proofs.lemmas.List.Elements.{filter-append}
use Rattle.std.proofs.lemmas.Bool.{cases_eq, both_ways, and_parts, and_from, or_cases, or_left, or_right}
use Rattle.checks.specs.Lists.{upto, some, every}
use Rattle.checks.proofs.Uptos.{upto_more}

pub folded_more : {S : Type 0} (f : S → ℕ → S) (x : S) (n : ℕ) → fold f x (upto (suc n)) ≡ f (fold f x (upto n)) n
folded_more f x n = ap (fold f x) (upto_more n) ∙ fold_push f x (upto n) n

pub sum_more : (f : ℕ → ℕ) (n : ℕ) → sum_by f (upto (suc n)) ≡ sum_by f (upto n) + f n
sum_more f n = ap (sum_by f) (upto_more n) ∙ sum_by_push f (upto n) n

pub count_more : (p : ℕ → Bool) (n : ℕ) → count_by p (upto (suc n)) ≡ count_by p (upto n) + cond (p n) 1 0
count_more p n = sum_more (λ i. cond (p i) 1 0) n

pub kept_in : (p : ℕ → Bool) (n : ℕ) → p n ≡ true → filter p (upto (suc n)) ≡ filter p (upto n) ++ n ∷ []
kept_in p n e = ap (filter p) (upto_more n) ∙ filter-append p (upto n) (n ∷ []) ∙ ap (λ (b : Bool). filter p (upto n) ++ cond b (n ∷ []) []) e

pub kept_out : (p : ℕ → Bool) (n : ℕ) → p n ≡ false → filter p (upto (suc n)) ≡ filter p (upto n)
kept_out p n e = ap (filter p) (upto_more n) ∙ filter-append p (upto n) (n ∷ []) ∙ ap (λ (b : Bool). filter p (upto n) ++ cond b (n ∷ []) []) e ∙ append-nil (filter p (upto n))

pub lists_more : {X : Type 0} (f : ℕ → List X) (n : ℕ) → flat_map f (upto (suc n)) ≡ flat_map f (upto n) ++ f n
lists_more f n = ap (flat_map f) (upto_more n) ∙ sym (flat_map_more f [] (upto n) n)

every_in : (p : ℕ → Bool) (a n : ℕ) → every p (range_with_len a n) ≡ true → (t : ℕ) → a ≤ t → t < a + n → p t ≡ true
every_in p a zero e t h l = absurd (omega arith)
every_in p a (suc n) e t h l =
    let parts = and_parts (p a) (every p (range_with_len (a + 1) n)) e in
    elim (cases_eq t a) [ inl q ↦ ap p q ∙ parts.0 | inr q ↦ every_in p (a + 1) n parts.1 t (omega arith) (omega arith) ]

pub every_at : (p : ℕ → Bool) (n : ℕ) → every p (upto n) ≡ true → (t : ℕ) → t < n → p t ≡ true
every_at p n e t h = every_in p 0 n e t (omega arith) (omega arith)

every_of : (p : ℕ → Bool) (a n : ℕ) → ((t : ℕ) → a ≤ t → t < a + n → p t ≡ true) → every p (range_with_len a n) ≡ true
every_of p a zero h = refl
every_of p a (suc n) h = and_from (p a) _ (h a (omega arith) (omega arith)) (every_of p (a + 1) n (λ t l m. h t (omega arith) (omega arith)))

pub every_from : (p : ℕ → Bool) (n : ℕ) → ((t : ℕ) → t < n → p t ≡ true) → every p (upto n) ≡ true
every_from p n h = every_of p 0 n (λ t l m. h t (omega arith))

some_in : (p : ℕ → Bool) (a n : ℕ) → some p (range_with_len a n) ≡ true → (t : ℕ) × (t < a + n) × (p t ≡ true)
some_in p a zero e = absurd (both_ways false refl e)
some_in p a (suc n) e = ⊎_elim (λ q. (a, omega arith, q)) (λ q. let r = some_in p (a + 1) n q in (r.0, omega (arith, r.1), r.2)) (or_cases (p a) (some p (range_with_len (a + 1) n)) e)

pub some_at : (p : ℕ → Bool) (n : ℕ) → some p (upto n) ≡ true → (t : ℕ) × (t < n) × (p t ≡ true)
some_at p n e = let r = some_in p 0 n e in (r.0, omega (arith, r.1), r.2)

some_of : (p : ℕ → Bool) (a n t : ℕ) → a ≤ t → t < a + n → p t ≡ true → some p (range_with_len a n) ≡ true
some_of p a zero t h l e = absurd (omega arith)
some_of p a (suc n) t h l e = elim (cases_eq t a) [
  | inl q ↦ or_left (p a) (some p (range_with_len (a + 1) n)) (ap p (sym q) ∙ e)
  | inr q ↦ or_right (p a) (some p (range_with_len (a + 1) n)) (some_of p (a + 1) n t (omega arith) (omega arith) e)
]

pub some_from : (p : ℕ → Bool) (n t : ℕ) → t < n → p t ≡ true → some p (upto n) ≡ true
some_from p n t h e = some_of p 0 n t (omega arith) (omega arith) e
