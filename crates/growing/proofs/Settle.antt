-- A round that only moves tiles one way settles, at the best table that meets its conditions. Assumes nothing.
use Rattle.std.proofs.Common.{◌≡◌, ℕ, zero, suc, ◌+◌, ◌*◌, ◌<◌, ◌≤◌, Bool, true, false, cond, ◌⊎◌, List, [], ◌∷◌, ◌++◌, map, length, fold, filter, sym, refl, ap, ◌∙◌, subst, inl, inr, ⊎_elim, mul-suc, arith}
use Rattle.std.specs.List.{range_with_len, AllByRecursion as All}
use Rattle.std.proofs.ByRecursion.{All-append}
use Rattle.std.proofs.lemmas.List.FromFn.{fill_by_all, get_or-map-range_with_len, length-map-range_with_len}
use Rattle.std.proofs.lemmas.List.{ext_get_or}
use Rattle.std.proofs.lemmas.Bool.{cases_lt, cases_eq, both_ways}
use Rattle.checks.specs.Lists.{at, upto}
use Rattle.growing.specs.declared.direction.Direction.{Direction}
use Rattle.growing.specs.Growing.{round, rounds}
use Rattle.growing.specs.Directions.{best_of, Better, far}
use Rattle.growing.proofs.Betters as better

-- ---- all of two lists; all that a test keeps

all_parts : {X : Type 0} (P : X → Type 0) (xs ys : List X) → All P (xs ++ ys) → All P xs × All P ys
all_parts P [] ys h = (tt, h)
all_parts P (x ∷ xs) ys h = let r = all_parts P xs ys h.1 in ((h.0, r.0), r.1)

module _ (P : ℕ → Type 0) (f : ℕ → ℕ) (p : ℕ → Bool) where
  to_kept : (a n : ℕ) → ((w : ℕ) → a ≤ w → w < a + n → p w ≡ true → P (f w)) → All P (map f (filter p (range_with_len a n)))
  to_kept a zero h = tt
  to_kept a (suc n) h = go (p a) refl (to_kept (a + 1) n (λ w l r e. h w (omega arith) (omega arith) e))
    where
      go : (b : Bool) → p a ≡ b → All P (map f (filter p (range_with_len (a + 1) n))) → All P (map f (cond b (a ∷ filter p (range_with_len (a + 1) n)) (filter p (range_with_len (a + 1) n))))
      go true e rest = (h a (omega arith) (omega arith) e, rest)
      go false e rest = rest

  from_kept : (a n : ℕ) → All P (map f (filter p (range_with_len a n))) → (w : ℕ) → a ≤ w → w < a + n → p w ≡ true → P (f w)
  from_kept a zero h w l r e = absurd (omega arith)
  from_kept a (suc n) h w l r e = go (p a) refl (cases_eq a w) (λ k ne. from_kept (a + 1) n k w (omega arith) (omega arith) e) h
    where
      go : (b : Bool) → p a ≡ b → (a ≡ w) ⊎ (a ≡ w → ⊥) → (All P (map f (filter p (range_with_len (a + 1) n))) → (a ≡ w → ⊥) → P (f w)) → All P (map f (cond b (a ∷ filter p (range_with_len (a + 1) n)) (filter p (range_with_len (a + 1) n)))) → P (f w)
      go true d (inl q) later k = subst (λ (x : ℕ). P (f x)) q k.0
      go true d (inr q) later k = later k.1 q
      go false d (inl q) later k = absurd (both_ways (p a) d (subst (λ (x : ℕ). p x ≡ true) (sym q) e))
      go false d (inr q) later k = later k q

-- ---- sums over the rows

summed : (ℕ → ℕ) → ℕ → ℕ
summed f zero = 0
summed f (suc n) = summed f n + f n

summed_le : (f g : ℕ → ℕ) (n : ℕ) → ((v : ℕ) → v < n → f v ≤ g v) → summed f n ≤ summed g n
unfolding summed
summed_le f g zero h = omega arith
summed_le f g (suc n) h = let i = summed_le f g n (λ v l. h v (omega arith)) in let k = h n (omega arith) in omega arith

summed_eq : (f g : ℕ → ℕ) (n : ℕ) → ((v : ℕ) → v < n → f v ≤ g v) → summed g n ≤ summed f n → (v : ℕ) → v < n → f v ≡ g v
unfolding summed
summed_eq f g zero h s v l = absurd (omega arith)
summed_eq f g (suc n) h s v l =
    let i = summed_le f g n (λ v l. h v (omega arith)) in
    let k = h n (omega arith) in
    ⊎_elim (λ q. summed_eq f g n (λ v l. h v (omega arith)) (omega arith) v q) (λ q. let e : v ≡ n = omega arith in subst (λ (x : ℕ). f x ≡ g x) (sym e) (omega arith)) (cases_lt v n)

summed_most : (f : ℕ → ℕ) (k n : ℕ) → ((v : ℕ) → v < n → f v ≤ k) → summed f n ≤ k * n
unfolding summed
summed_most f k zero h = omega arith
summed_most f k (suc n) h = let i = summed_most f k n (λ v l. h v (omega arith)) in let j = h n (omega arith) in omega (arith, mul-suc k n)

module _ (d : Direction) (rel : ℕ → ℕ → Bool) (n : ℕ) (near : List ℕ) where
  abbrev pub step : List ℕ → List ℕ
  step g = round (best_of d) rel n near g

  abbrev pub at_step : List ℕ → ℕ → ℕ
  at_step g v = fold (best_of d) (at near v) (map (at g) (filter (rel v) (upto n)) ++ map (at near) (filter (λ u. rel u v) (upto n)))

  is_step : (g : List ℕ) (v : ℕ) → v < n → at (step g) v ≡ at_step g v
  is_step g v l = get_or-map-range_with_len (at_step g) 0 n v v 0 l (omega arith)

  -- a tile better than the best of a list is better than each, and the other way round
  fold_parts : (z a : ℕ) (xs : List ℕ) → Better d z (fold (best_of d) a xs) → Better d z a × All (λ x. Better d z x) xs
  fold_parts z a [] h = (h, tt)
  fold_parts z a (x ∷ xs) h = let r = fold_parts z (best_of d a x) xs h in (better.chain d z (best_of d a x) a r.0 (better.left d a x), (better.chain d z (best_of d a x) x r.0 (better.right d a x), r.1))

  fold_both : (z a : ℕ) (xs : List ℕ) → Better d z a → All (λ x. Better d z x) xs → Better d z (fold (best_of d) a xs)
  fold_both z a [] h q = h
  fold_both z a (x ∷ xs) h q = fold_both z (best_of d a x) xs (better.both d a x z h q.0) q.1

  -- what a tile has to be better than, at row v, where the round starts from g
  pub record Under (g : List ℕ) (v z : ℕ) : Type 0 where
    pub own : Better d z (at near v)
    pub order : (w : ℕ) → w < n → rel v w ≡ true → Better d z (at g w)
    pub reach : (u : ℕ) → u < n → rel u v ≡ true → Better d z (at near u)

  under : (g : List ℕ) (v z : ℕ) → Better d z (at_step g v) → Under g v z
  under g v z h =
      let p = fold_parts z (at near v) (map (at g) (filter (rel v) (upto n)) ++ map (at near) (filter (λ u. rel u v) (upto n))) h in
      let q = all_parts (λ x. Better d z x) (map (at g) (filter (rel v) (upto n))) (map (at near) (filter (λ u. rel u v) (upto n))) p.1 in
      record {
        own = p.0;
        order = λ w l e. from_kept (λ x. Better d z x) (at g) (rel v) 0 n q.0 w (omega arith) (omega arith) e;
        reach = λ u l e. from_kept (λ x. Better d z x) (at near) (λ u. rel u v) 0 n q.1 u (omega arith) (omega arith) e;
      }

  not_under : (g : List ℕ) (v z : ℕ) → Under g v z → Better d z (at_step g v)
  not_under g v z h =
      fold_both z (at near v) (map (at g) (filter (rel v) (upto n)) ++ map (at near) (filter (λ u. rel u v) (upto n))) h.own
      (All-append (λ x. Better d z x) (map (at g) (filter (rel v) (upto n))) (map (at near) (filter (λ u. rel u v) (upto n)))
      (to_kept (λ x. Better d z x) (at g) (rel v) 0 n (λ w a l e. h.order w (omega arith) e))
      (to_kept (λ x. Better d z x) (at near) (λ u. rel u v) 0 n (λ u a l e. h.reach u (omega arith) e)))

  UnderAll : List ℕ → List ℕ → Type 0
  UnderAll g h = (v : ℕ) → v < n → Better d (at g v) (at h v)

  unfoldable pub Meets : List ℕ → Type 0
  Meets h = (v : ℕ) → v < n → Under h v (at h v)

  step_mono : (g h : List ℕ) → UnderAll g h → UnderAll (step g) (step h)
  unfolding UnderAll
  step_mono g h s v l =
      let q = under g v (at_step g v) (better.same d (at_step g v)) in
      let b = not_under h v (at_step g v) (record { own = q.own; order = λ w lw e. better.chain d (at_step g v) (at g w) (at h w) (q.order w lw e) (s w lw); reach = q.reach }) in
      subst (λ (x : ℕ). Better d x (at (step h) v)) (sym (is_step g v l)) (subst (λ (x : ℕ). Better d (at_step g v) x) (sym (is_step h v l)) b)

  rounds_fixed : (c : ℕ) (g : List ℕ) → step g ≡ g → rounds c step g ≡ g
  rounds_fixed zero g e = refl
  rounds_fixed (suc c) g e = ap (rounds c step) e ∙ rounds_fixed c g e

  fixed : (c : ℕ) (g : List ℕ) → step g ≡ g → step (rounds c step g) ≡ rounds c step g
  fixed c g e = ap step (rounds_fixed c g e) ∙ e ∙ sym (rounds_fixed c g e)

  keeps : (h : List ℕ) → Meets h → (g : List ℕ) → UnderAll h g → UnderAll h (step g)
  unfolding Meets UnderAll
  keeps h m g u v l =
      let q = m v l in
      subst (λ (x : ℕ). Better d (at h v) x) (sym (is_step g v l))
      (not_under g v (at h v) (record { own = q.own; order = λ w lw e. better.chain d (at h v) (at h w) (at g w) (q.order w lw e) (u w lw); reach = q.reach }))

  rounds_keeps : (h : List ℕ) → Meets h → (c : ℕ) (g : List ℕ) → UnderAll h g → UnderAll h (rounds c step g)
  rounds_keeps h m zero g u = u
  rounds_keeps h m (suc c) g u = rounds_keeps h m c (step g) (keeps h m g u)

  -- the best table that meets the conditions
  pub record Settled (r : List ℕ) : Type 0 where
    pub size : length r ≡ n
    pub meets : Meets r
    pub past : (h : List ℕ) → Meets h → (v : ℕ) → v < n → Better d (at h v) (at r v)

  pub settled_one : (g h : List ℕ) → Settled g → Settled h → g ≡ h
  settled_one g h p q = ext_get_or 0 g h (p.size ∙ sym q.size) (λ v l. let e = p.size in let lv : v < n = omega arith in better.only d (at g v) (at h v) (q.past g p.meets v lv) (p.past h q.meets v lv))

  module _ (k : ℕ) where
    Good : List ℕ → Type 0
    Good g = (length g ≡ n) × ((v : ℕ) → v < n → at g v ≤ k)

    fold_within : (a : ℕ) (xs : List ℕ) → a ≤ k → All (λ x. x ≤ k) xs → fold (best_of d) a xs ≤ k
    fold_within a [] h q = h
    fold_within a (x ∷ xs) h q = fold_within (best_of d a x) xs (better.within d k a x h q.0) q.1

    step_good : Good near → (g : List ℕ) → Good g → Good (step g)
    unfolding Good
    step_good i g h = (
      length-map-range_with_len (at_step g) 0 n,
      λ v l. subst (λ (x : ℕ). x ≤ k) (sym (is_step g v l))
          (fold_within (at near v) (map (at g) (filter (rel v) (upto n)) ++ map (at near) (filter (λ u. rel u v) (upto n))) (i.1 v l)
          (All-append (λ x. x ≤ k) (map (at g) (filter (rel v) (upto n))) (map (at near) (filter (λ u. rel u v) (upto n)))
          (to_kept (λ x. x ≤ k) (at g) (rel v) 0 n (λ w a q e. h.1 w (omega arith)))
          (to_kept (λ x. x ≤ k) (at near) (λ u. rel u v) 0 n (λ u a q e. i.1 u (omega arith))))),
    )

    rounds_good : Good near → (c : ℕ) (g : List ℕ) → Good g → Good (rounds c step g)
    rounds_good i zero g h = h
    rounds_good i (suc c) g h = rounds_good i c (step g) (step_good i g h)

    far_of : List ℕ → ℕ → ℕ
    far_of g v = far d k (at g v)

    -- a round that does not lessen the sum moves nothing
    unmoved : Good near → (g : List ℕ) → Good g → UnderAll (step g) g → summed (far_of g) n ≤ summed (far_of (step g)) n → step g ≡ g
    unfolding Good UnderAll far_of
    unmoved i g h u s =
        let e = summed_eq (far_of (step g)) (far_of g) n (λ v l. better.nearer d k (at (step g) v) (at g v) (u v l)) s in
        sym (fill_by_all (at_step g) g n 0 h.0 (λ v l. let q = e v l in sym (better.unmoved d k (at (step g) v) (at g v) (u v l) ((step_good i g h).1 v l) (h.1 v l) (omega arith)) ∙ is_step g v l))

    settle : Good near → (c : ℕ) (g : List ℕ) → Good g → UnderAll (step g) g → summed (far_of g) n ≤ c → step (rounds c step g) ≡ rounds c step g
    settle i zero g h u s = fixed zero g (unmoved i g h u (omega arith))
    settle i (suc c) g h u s =
        ⊎_elim (λ l. settle i c (step g) (step_good i g h) (step_mono (step g) g u) (omega arith))
        (λ l. fixed (suc c) g (unmoved i g h u l)) (cases_lt (summed (far_of (step g)) n) (summed (far_of g) n))

    pub settled : length near ≡ n → ((v : ℕ) → v < n → at near v ≤ k) → Settled (rounds (k * n) step near)
    unfolding Good UnderAll Meets far_of
    settled s b =
        let i : Good near = (s, b) in
        let u : UnderAll (step near) near = λ v l. (under near v (at (step near) v) (subst (λ (x : ℕ). Better d (at (step near) v) x) (is_step near v l) (better.same d (at (step near) v)))).own in
        let r = rounds (k * n) step near in
        let f : step r ≡ r = settle i (k * n) near i u (summed_most (far_of near) k n (λ v l. better.most d k (at near v) (b v l))) in
        record {
          size = (rounds_good i (k * n) near i).0;
          meets = λ v l. under r v (at r v) (subst (λ (x : ℕ). Better d (at r v) x) (sym (ap (λ g. at g v) f) ∙ is_step r v l) (better.same d (at r v)));
          past = λ h m v l. rounds_keeps h m (k * n) near (λ w lw. (m w lw).own) v l;
        }
