-- How many points there are, counted by tiles, by sweeps and by rows. Assumes nothing.
use Rattle.std.proofs.Common.{◌≡◌, ℕ, zero, suc, ◌+◌, ◌*◌, ◌<◌, ◌≤◌, Bool, true, false, cond, eqb, sum_by, count_by, sym, refl, ap, ◌∙◌, ap₂, inl, inr, mul_comm, arith}
use Rattle.std.proofs.lemmas.List.Sums.{length-filter}
use Rattle.std.proofs.lemmas.Bool.{cases_eq, cases_Bool, eq-eqb, ne_eqb, cond-true, cond-false}
use Rattle.checks.specs.Lists.{upto}
use Rattle.points.specs.Points.{Tiles, size}
use Rattle.points.specs.Runs.{and_done, carried, updated}
use Rattle.points.specs.Laws.{PointsAreSweeps, AllDone}
use Rattle.points.proofs.Uptos.{sum_more, count_more}

pub sum_same : (f g : ℕ → ℕ) (n : ℕ) → ((a : ℕ) → a < n → f a ≡ g a) → sum_by f (upto n) ≡ sum_by g (upto n)
sum_same f g zero h = refl
sum_same f g (suc n) h = sum_more f n ∙ ap₂ ◌+◌ (sum_same f g n (λ a q. h a (omega arith))) (h n (omega arith)) ∙ sym (sum_more g n)

pub sum_zero : (n : ℕ) → sum_by (λ _. 0) (upto n) ≡ 0
sum_zero zero = refl
sum_zero (suc n) = sum_more (λ _. 0) n ∙ omega (arith, sum_zero n)

pub sum_one : (n m : ℕ) → sum_by (λ _. m) (upto n) ≡ n * m
sum_one zero m = omega arith
sum_one (suc n) m = sum_more (λ _. m) n ∙ omega (arith, sum_one n m)

sum_plus : (f g : ℕ → ℕ) (n : ℕ) → sum_by (λ a. f a + g a) (upto n) ≡ sum_by f (upto n) + sum_by g (upto n)
sum_plus f g zero = refl
sum_plus f g (suc n) = sum_more (λ a. f a + g a) n ∙ omega (arith, sum_plus f g n, sum_more f n, sum_more g n)

pub sum_swap : (f : ℕ → ℕ → ℕ) (m n : ℕ) → sum_by (λ a. sum_by (λ b. f a b) (upto n)) (upto m) ≡ sum_by (λ b. sum_by (λ a. f a b) (upto m)) (upto n)
sum_swap f zero n = sym (sum_zero n)
sum_swap f (suc m) n =
    sum_more (λ a. sum_by (λ b. f a b) (upto n)) m ∙ ap (λ x. x + sum_by (λ b. f m b) (upto n)) (sum_swap f m n)
    ∙ sym (sum_plus (λ b. sum_by (λ a. f a b) (upto m)) (λ b. f m b) n) ∙ sum_same _ _ n (λ b h. sym (sum_more (λ a. f a b) m))

-- of the numbers below k, one is N
pick : (f : ℕ → ℕ) (N k : ℕ) → N < k → sum_by (λ t. cond (eqb N t) (f t) 0) (upto k) ≡ f N
pick f N zero h = absurd (omega arith)
pick f N (suc k) h = sum_more (λ t. cond (eqb N t) (f t) 0) k ∙ elim (cases_eq N k) [
  | inl q ↦ omega (arith, above k (omega arith), cond-true (eqb N k) (f k) 0 (eq-eqb N k q), ap f q)
  | inr q ↦ omega (arith, pick f N k (omega arith), cond-false (eqb N k) (f k) 0 (ne_eqb N k q))
]
  where
    above : (k : ℕ) → k ≤ N → sum_by (λ t. cond (eqb N t) (f t) 0) (upto k) ≡ 0
    above zero h = refl
    above (suc k) h = sum_more (λ t. cond (eqb N t) (f t) 0) k ∙ omega (arith, above k (omega arith), cond-false (eqb N k) (f k) 0 (ne_eqb N k (omega arith)))

cond_swap : (a b : Bool) → ◌≡◌ {A = ℕ} (cond a (cond b 1 0) 0) (cond b (cond a 1 0) 0)
cond_swap true true = refl
cond_swap true false = refl
cond_swap false true = refl
cond_swap false false = refl

cond_sum : (b : Bool) (f : ℕ → ℕ) (n : ℕ) → cond b (sum_by f (upto n)) 0 ≡ sum_by (λ i. cond b (f i) 0) (upto n)
cond_sum true f n = refl
cond_sum false f n = sym (sum_zero n)

count_all : (p : ℕ → Bool) (n : ℕ) → ((c : ℕ) → c < n → p c ≡ true) → count_by p (upto n) ≡ n
count_all p zero h = refl
count_all p (suc n) h = let e : ◌≡◌ {A = ℕ} (cond (p n) 1 0) 1 = rw (h n (omega arith)) in count_more p n ∙ omega (arith, e, count_all p n (λ c q. h c (omega arith)))

-- of the numbers below n, exactly those below N pass
pub count_front : (p : ℕ → Bool) (N n : ℕ) → N ≤ n → ((c : ℕ) → c < n → c < N → p c ≡ true) → ((c : ℕ) → c < n → p c ≡ true → c < N) → count_by p (upto n) ≡ N
count_front p N zero h front only = omega arith
count_front p N (suc n) h front only = elim (cases_eq N (suc n)) [
  | inl q ↦ count_all p (suc n) (λ c r. front c r (omega arith)) ∙ sym q
  | inr q ↦ elim (cases_Bool (p n)) [
    | inl e ↦ absurd (let lt = only n (omega arith) e in omega arith)
    | inr e ↦ let e' : ◌≡◌ {A = ℕ} (cond (p n) 1 0) 0 = rw e in count_more p n ∙ omega (arith, e', count_front p N n (omega arith) (λ c r. front c (omega arith)) (λ c r. only c (omega arith)))
  ]
]

module _ (R T k : ℕ) (tile : Tiles) where
  size_is : (t : ℕ) → size R T tile t ≡ sum_by (λ c. sum_by (λ i. cond (eqb (tile c i) t) 1 0) (upto R)) (upto T)
  size_is t = sum_same _ _ T (λ c h. length-filter (λ i. eqb (tile c i) t) (upto R))

  -- one tile more
  pub updated_more : (done : ℕ → Bool) (u : ℕ) → u < k → done u ≡ false → updated R T k tile (and_done done u) ≡ updated R T k tile done + size R T tile u
  updated_more done u hu undone =
      sum_same _ (λ t. cond (done t) (size R T tile t) 0 + cond (eqb u t) (size R T tile t) 0) k (λ t h. elim (cases_eq t u) [
        | inl q ↦ rw (eq-eqb t u q, eq-eqb u t (sym q), ap done q ∙ undone) (omega arith)
        | inr q ↦ rw (ne_eqb t u q, ne_eqb u t (λ r. q (sym r))) (omega arith)
      ])
      ∙ sum_plus (λ t. cond (done t) (size R T tile t) 0) (λ t. cond (eqb u t) (size R T tile t) 0) k
      ∙ ap (λ x. updated R T k tile done + x) (pick (size R T tile) u k hu)

  module _ (small : (c i : ℕ) → c < T → i < R → tile c i < k) where
    -- the points of the done tiles, counted by tiles and by points
    updated_points : (done : ℕ → Bool) → updated R T k tile done ≡ sum_by (λ c. sum_by (λ i. cond (done (tile c i)) 1 0) (upto R)) (upto T)
    updated_points done =
        sum_same _ (λ t. sum_by (λ c. sum_by (λ i. cond (eqb (tile c i) t) (cond (done t) 1 0) 0) (upto R)) (upto T)) k (λ t h.
        ap (λ x. cond (done t) x 0) (size_is t) ∙ cond_sum (done t) _ T ∙ sum_same _ _ T (λ c h. cond_sum (done t) _ R ∙ sum_same _ _ R (λ i h. cond_swap (done t) (eqb (tile c i) t))))
        ∙ sum_swap (λ t c. sum_by (λ i. cond (eqb (tile c i) t) (cond (done t) 1 0) 0) (upto R)) k T
        ∙ sum_same _ _ T (λ c hc. sum_swap (λ t i. cond (eqb (tile c i) t) (cond (done t) 1 0) 0) k R
        ∙ sum_same _ _ R (λ i hi. pick (λ t. cond (done t) 1 0) (tile c i) k (small c i hc hi)))

    -- and by rows
    updated_carried : (done : ℕ → Bool) → updated R T k tile done ≡ sum_by (carried T tile done) (upto R)
    updated_carried done = updated_points done ∙ sum_swap (λ c i. cond (done (tile c i)) 1 0) T R

    pub all_points : sum_by (size R T tile) (upto k) ≡ T * R
    all_points = updated_points (λ _. true) ∙ sum_same _ (λ _. R) T (λ c h. sum_one R 1 ∙ omega arith) ∙ sum_one T R

    carried_all : (done : ℕ → Bool) → ((t : ℕ) → t < k → done t ≡ true) → (i : ℕ) → i < R → carried T tile done i ≡ T
    carried_all done all i hi = count_all (λ c. done (tile c i)) T (λ c hc. all (tile c i) (small c i hc hi))

pub points_are_sweeps : PointsAreSweeps
points_are_sweeps R T k tile small = (all_points R T k tile small, updated_carried R T k tile small)

pub all_done : AllDone
all_done R T k tile small done all =
    let c = carried_all R T k tile small done all in
    (c, updated_carried R T k tile small done ∙ sum_same _ (λ _. T) R c ∙ sum_one R T ∙ mul_comm R T)
