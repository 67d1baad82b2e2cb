-- Sums over the numbers below n. Assumes nothing.
use Rattle.std.proofs.Common.{◌≡◌, ℕ, zero, suc, ◌+◌, ◌*◌, ◌<◌, ◌≤◌, cond, eqb, List, [], ◌∷◌, map, length, take, sum_by, sym, refl, ap, ◌∙◌, ap₂, inl, inr, arith}
use Rattle.std.proofs.lemmas.Nat.{mul-le}
use Rattle.std.proofs.lemmas.List.Sums.{sum_by-cons, sum_by_more}
use Rattle.std.proofs.lemmas.List.{take_all}
use Rattle.std.proofs.lemmas.Bool.{cases_eq, eq-eqb, ne_eqb, cond-true, cond-false}
use Rattle.checks.specs.Lists.{at, totals}

abbrev pub total : (ℕ → ℕ) → ℕ → ℕ
total f zero = 0
total f (suc n) = total f n + f n

pub total_same : (f g : ℕ → ℕ) (n : ℕ) → ((a : ℕ) → a < n → f a ≡ g a) → total f n ≡ total g n
total_same f g zero h = refl
total_same f g (suc n) h = ap₂ ◌+◌ (total_same f g n (λ a q. h a (omega arith))) (h n (omega arith))

pub total_zero : (n : ℕ) → total (λ _. 0) n ≡ 0
total_zero zero = refl
total_zero (suc n) = omega (arith, total_zero n)

pub total_const : (n k : ℕ) → total (λ _. k) n ≡ n * k
total_const zero k = omega arith
total_const (suc n) k = omega (arith, total_const n k)

pub total_plus : (f g : ℕ → ℕ) (n : ℕ) → total (λ a. f a + g a) n ≡ total f n + total g n
total_plus f g zero = refl
total_plus f g (suc n) = omega (arith, total_plus f g n)

pub total_swap : (f : ℕ → ℕ → ℕ) (m n : ℕ) → total (λ a. total (λ b. f a b) n) m ≡ total (λ b. total (λ a. f a b) m) n
total_swap f zero n = sym (total_zero n)
total_swap f (suc m) n = ap (λ x. x + total (λ b. f m b) n) (total_swap f m n) ∙ sym (total_plus (λ b. total (λ a. f a b) m) (λ b. f m b) n)

-- of the numbers below k, one is c
pub pick : (f : ℕ → ℕ) (c k : ℕ) → c < k → total (λ t. cond (eqb c t) (f t) 0) k ≡ f c
pick f c zero h = absurd (omega arith)
pick f c (suc k) h = elim (cases_eq c k) [
  | inl q ↦ omega (arith, above f c k (omega arith), cond-true (eqb c k) (f k) 0 (eq-eqb c k q), ap f q)
  | inr q ↦ omega (arith, pick f c k (omega arith), cond-false (eqb c k) (f k) 0 (ne_eqb c k q))
]
  where
    above : (f : ℕ → ℕ) (c k : ℕ) → k ≤ c → total (λ t. cond (eqb c t) (f t) 0) k ≡ 0
    above f c zero h = refl
    above f c (suc k) h = omega (arith, above f c k (omega arith), cond-false (eqb c k) (f k) 0 (ne_eqb c k (omega arith)))

pub total_rises : (f : ℕ → ℕ) (n d : ℕ) → total f n ≤ total f (n + d)
total_rises f n zero = let e : n + 0 ≡ n = omega arith in rw e (omega arith)
total_rises f n (suc d) = let e : n + suc d ≡ suc (n + d) = omega arith in rw e (omega (arith, total_rises f n d))

-- a list's sum, by its places
pub sum_total : (f : ℕ → ℕ) (xs : List ℕ) (n : ℕ) → n ≤ length xs → sum_by f (take n xs) ≡ total (λ i. f (at xs i)) n
sum_total f xs zero l = refl
sum_total f xs (suc n) l =
    let e : suc n ≡ n + 1 = omega arith in
    ap (λ k. sum_by f (take k xs)) e ∙ sum_by_more f xs n 0 (omega arith) ∙ ap (λ x. x + f (at xs n)) (sum_total f xs n (omega arith))

pub sum_all : (f : ℕ → ℕ) (xs : List ℕ) (n : ℕ) → length xs ≡ n → sum_by f xs ≡ total (λ i. f (at xs i)) n
sum_all f xs n e = sym (ap (sum_by f) (take_all n xs (omega arith))) ∙ sum_total f xs n (omega arith)

totals_from : (a : ℕ) (n : ℕ → ℕ) (xs : List ℕ) (i : ℕ) → i ≤ length xs → at (totals a (map n xs)) i ≡ a + sum_by n (take i xs)
totals_from a n [] zero l = omega arith
totals_from a n [] (suc i) l = absurd (omega arith)
totals_from a n (x ∷ xs) zero l = omega arith
totals_from a n (x ∷ xs) (suc i) l = omega (arith, totals_from (a + n x) n xs i (omega arith), sum_by-cons n x (take i xs))

pub totals_sum : (n : ℕ → ℕ) (xs : List ℕ) (i : ℕ) → i ≤ length xs → at (totals 0 (map n xs)) i ≡ sum_by n (take i xs)
totals_sum n xs i l = omega (arith, totals_from 0 n xs i l)

-- running totals, by their places
pub totals_at : (n : ℕ → ℕ) (xs : List ℕ) (i : ℕ) → i ≤ length xs → at (totals 0 (map n xs)) i ≡ total (λ k. n (at xs k)) i
totals_at n xs i l = omega (arith, totals_from 0 n xs i l, sum_total n xs i l)

pub length_totals : (a : ℕ) (ns : List ℕ) → length (totals a ns) ≡ length ns + 1
length_totals a [] = refl
length_totals a (n ∷ ns) = omega (arith, length_totals (a + n) ns)

pub next_sweep : (s n t : ℕ) → s < t → s * n + n ≤ t * n
next_sweep s n t h = omega (arith, mul-le (suc s) n t n (omega arith) (omega arith))
