-- The argument about the order of points: in every tile that is ready each point is updated at its turn. Assumes nothing.
use Rattle.std.proofs.Common.{◌≡◌, ℕ, zero, suc, ◌<◌, ◌≤◌, Bool, true, false, cond, eqb, ◌⊎◌, fold, filter, sym, refl, ap, ◌∙◌, subst, ap₂, inl, inr, ⊎_elim, arith}
use Rattle.std.proofs.lemmas.List.Sums.{fold_push}
use Rattle.std.proofs.lemmas.Bool.{cases_eq, cases_Bool, cases_lt, eqb-true, eqb-false, eq-eqb, ne_eqb, both_ways, or_cases, or_left, or_right}
use Rattle.checks.specs.Lists.{upto}
use Rattle.points.specs.Points.{Precedes, Tiles, Forward, Waits, Turn, tile_rows}
use Rattle.points.specs.Runs.{through, and_done}
use Rattle.points.proofs.Uptos.{folded_more, kept_in, kept_out}

-- row i carried through one sweep more
abbrev pub bump : (ℕ → ℕ) → ℕ → ℕ → ℕ
bump n i j = cond (eqb j i) (suc (n j)) (n j)

pub bump_same : (n : ℕ → ℕ) (i j : ℕ) → j ≡ i → bump n i j ≡ suc (n j)
bump_same n i j e = rw (eq-eqb j i e)

pub bump_other : (n : ℕ → ℕ) (i j : ℕ) → (j ≡ i → ⊥) → bump n i j ≡ n j
bump_other n i j e = rw (ne_eqb j i e)

-- point d, j comes before place c, m in a tile's order
abbrev Before : ℕ → ℕ → ℕ → ℕ → Type 0
Before d j c m = (d ≤ c) × (d ≡ c → j < m)

-- the points that n has carried are those of done tiles
pub record Agrees (R T : ℕ) (tile : Tiles) (done : ℕ → Bool) (n : ℕ → ℕ) : Type 0 where
  pub taken : (d j : ℕ) → d < T → j < R → done (tile d j) ≡ true → d < n j
  pub only : (d j : ℕ) → d < T → j < R → d < n j → done (tile d j) ≡ true
  pub top : (j : ℕ) → j < R → n j ≤ T

-- the points that n has carried are those of done tiles, and those of tile u before place c, m
record Midway (R T : ℕ) (tile : Tiles) (done : ℕ → Bool) (u c m : ℕ) (n : ℕ → ℕ) : Type 0 where
  taken : (d j : ℕ) → d < T → j < R → done (tile d j) ≡ true → d < n j
  reached : (d j : ℕ) → d < T → j < R → tile d j ≡ u → Before d j c m → d < n j
  only : (d j : ℕ) → d < T → j < R → d < n j → (done (tile d j) ≡ true) ⊎ ((tile d j ≡ u) × Before d j c m)
  top : (j : ℕ) → j < R → n j ≤ T

-- with a point's tile done, those of the points that directly precede it are
abbrev pub Closed : Precedes → ℕ → ℕ → Tiles → (ℕ → Bool) → Type 0
Closed pre R T tile done = (c i d j : ℕ) → c < T → i < R → d < T → j < R → pre c i d j ≡ true → done (tile d j) ≡ true → done (tile c i) ≡ true

-- all that tile u waits for is done
abbrev pub Ready : Precedes → ℕ → ℕ → Tiles → (ℕ → Bool) → ℕ → Type 0
Ready pre R T tile done u = (t : ℕ) → Waits pre R T tile u t → done t ≡ true

module _ (pre : Precedes) (R T : ℕ) (tile : Tiles) (forward : Forward pre) where
  start : (done : ℕ → Bool) (u : ℕ) (n : ℕ → ℕ) → Agrees R T tile done n → Midway R T tile done u 0 0 n
  start done u n a = record {
    taken = a.taken;
    reached = λ d j hd hj e b. omega (arith, b.1 (omega arith));
    only = λ d j hd hj h. inl (a.only d j hd hj h);
    top = a.top;
  }

  -- at the end of a sweep
  next_sweep : (done : ℕ → Bool) (u c : ℕ) (n : ℕ → ℕ) → Midway R T tile done u c R n → Midway R T tile done u (suc c) 0 n
  next_sweep done u c n a = record {
    taken = a.taken;
    reached = λ d j hd hj e b. a.reached d j hd hj e (let ne : d ≡ suc c → ⊥ = λ q. omega (arith, b.1 q) in (omega (arith, b.0), λ q. hj));
    only = λ d j hd hj h. ⊎_elim (λ p. inl p) (λ p. inr (p.0, (omega (arith, p.1.0), λ q. omega (arith, p.1.0)))) (a.only d j hd hj h);
    top = a.top;
  }

  -- at the end of a tile
  finish : (done : ℕ → Bool) (u : ℕ) (n : ℕ → ℕ) → Midway R T tile done u T 0 n → Agrees R T tile (and_done done u) n
  finish done u n a = record {
    taken = λ d j hd hj h. ⊎_elim (λ e. a.reached d j hd hj (eqb-true _ _ e) (omega arith, λ q. omega arith)) (λ e. a.taken d j hd hj e) (or_cases (eqb (tile d j) u) (done (tile d j)) h);
    only = λ d j hd hj h. ⊎_elim (λ p. or_right (eqb (tile d j) u) (done (tile d j)) p) (λ p. or_left (eqb (tile d j) u) (done (tile d j)) (eq-eqb _ _ p.0)) (a.only d j hd hj h);
    top = a.top;
  }

  -- a row that is not the tile's
  pass_by : (done : ℕ → Bool) (u c m : ℕ) (n : ℕ → ℕ) → (tile c m ≡ u → ⊥) → Midway R T tile done u c m n → Midway R T tile done u c (suc m) n
  pass_by done u c m n ne a = record {
    taken = a.taken;
    reached = λ d j hd hj e b. a.reached d j hd hj e (b.0, λ q. let ne' : j ≡ m → ⊥ = λ r. ne (ap₂ tile (sym q) (sym r) ∙ e) in omega (arith, b.1 q));
    only = λ d j hd hj h. ⊎_elim (λ p. inl p) (λ p. inr (p.0, (p.1.0, λ q. omega (arith, p.1.1 q)))) (a.only d j hd hj h);
    top = a.top;
  }

  module _ (done : ℕ → Bool) (u : ℕ) (closed : Closed pre R T tile done) (undone : done u ≡ false) (ready : Ready pre R T tile done u) where
    turn : (c m : ℕ) (n : ℕ → ℕ) → c < T → m < R → tile c m ≡ u → Midway R T tile done u c m n → Turn pre R T n c m
    turn c m n hc hm here a = record {
      at = omega (arith, not_yet, by_own c refl);
      older = older;
      newer = newer;
      top = a.top;
    }
      where
        older : (d j : ℕ) → d < T → j < R → pre d j c m ≡ true → d < n j
        older d j hd hj p = elim (cases_eq (tile d j) u) [
          | inl e ↦ a.reached d j hd hj e (forward.onward d j c m p)
          | inr e ↦ a.taken d j hd hj (ready (tile d j) (record { apart = e; c = d; i = j; d = c; j = m; c_in = hd; i_in = hj; d_in = hc; j_in = hm; from = refl; to = here; precedes = p }))
        ]

        too_new : (d j : ℕ) → d < T → j < R → pre c m d j ≡ true → d < n j → ⊥
        too_new d j hd hj p h = ⊎_elim
            (λ e. both_ways (done u) undone (ap done (sym here) ∙ closed c m d j hc hm hd hj p e))
            (λ q. let w = forward.onward c m d j p in let e : d ≡ c = omega (arith, q.1.0, w.0) in omega (arith, q.1.1 e, w.1 (sym e)))
            (a.only d j hd hj h)

        newer : (d j : ℕ) → d < T → j < R → pre c m d j ≡ true → n j ≤ d
        newer d j hd hj p = ⊎_elim (λ (h : d < n j). absurd (too_new d j hd hj p h)) (λ (h : n j ≤ d). h) (cases_lt d (n j))

        not_yet : n m ≤ c
        not_yet = ⊎_elim (λ (h : c < n m). absurd (⊎_elim (λ e. both_ways (done u) undone (ap done (sym here) ∙ e)) (λ q. omega (arith, q.1.1 refl)) (a.only c m hc hm h))) (λ (h : n m ≤ c). h) (cases_lt c (n m))

        by_own : (b : ℕ) → b ≡ c → b ≤ n m
        by_own zero e = omega arith
        by_own (suc b) e = older b m (omega arith) hm (subst (λ x. pre b m x m ≡ true) e (forward.own b m))

    take_up : (c m : ℕ) (n : ℕ → ℕ) → c < T → m < R → tile c m ≡ u → n m ≡ c → Midway R T tile done u c m n → Midway R T tile done u c (suc m) (bump n m)
    take_up c m n hc hm here at a = record {
      taken = λ d j hd hj h. omega (arith, a.taken d j hd hj h, more j);
      reached = λ d j hd hj e b. elim (cases_eq d c) [
        | inl q ↦ elim (cases_eq j m) [
          | inl r ↦ omega (arith, bump_same n m j r, ap n r)
          | inr r ↦ omega (arith, more j, a.reached d j hd hj e (b.0, λ _. omega (arith, b.1 q)))
        ]
        | inr q ↦ omega (arith, more j, a.reached d j hd hj e (b.0, λ q'. absurd (q q')))
      ];
      only = λ d j hd hj h. elim (cases_eq j m) [
        | inl r ↦ elim (cases_eq d c) [
          | inl q ↦ inr (ap₂ tile q r ∙ here, (omega arith, λ _. omega arith))
          | inr q ↦ wider d j (a.only d j hd hj (omega (arith, bump_same n m j r, ap n r)))
        ]
        | inr r ↦ wider d j (a.only d j hd hj (omega (arith, bump_other n m j r)))
      ];
      top = λ j hj. elim (cases_eq j m) [
        | inl r ↦ omega (arith, bump_same n m j r, ap n r)
        | inr r ↦ omega (arith, bump_other n m j r, a.top j hj)
      ];
    }
      where
        more : (j : ℕ) → n j ≤ bump n m j
        more j = elim (cases_eq j m) [ inl r ↦ omega (arith, bump_same n m j r) | inr r ↦ omega (arith, bump_other n m j r) ]

        wider : (d j : ℕ) → (done (tile d j) ≡ true) ⊎ ((tile d j ≡ u) × Before d j c m) → (done (tile d j) ≡ true) ⊎ ((tile d j ≡ u) × Before d j c (suc m))
        wider d j h = ⊎_elim (λ p. inl p) (λ p. inr (p.0, (p.1.0, λ q. omega (arith, p.1.1 q)))) h

    pub still_closed : Closed pre R T tile (and_done done u)
    still_closed c i d j hc hi hd hj p h = ⊎_elim
        (λ e. elim (cases_eq (tile c i) u) [
          | inl q ↦ or_left (eqb (tile c i) u) (done (tile c i)) (eq-eqb _ _ q)
          | inr q ↦ or_right (eqb (tile c i) u) (done (tile c i)) (ready (tile c i) (record { apart = q; c = c; i = i; d = d; j = j; c_in = hc; i_in = hi; d_in = hd; j_in = hj; from = refl; to = eqb-true _ _ e; precedes = p }))
        ])
        (λ e. or_right (eqb (tile c i) u) (done (tile c i)) (closed c i d j hc hi hd hj p e))
        (or_cases (eqb (tile d j) u) (done (tile d j)) h)

    -- what each update keeps at its turn, a whole tile keeps
    module _ {S : Type 0} (update : ℕ → ℕ → S → S) (J : (ℕ → ℕ) → S → Type 0)
        (step : (n : ℕ → ℕ) (x : S) (c i : ℕ) → c < T → i < R → J n x → Turn pre R T n c i → J (bump n i) (update c i x)) where
      abbrev Held : ℕ → ℕ → S → Type 0
      Held c m x = (n : ℕ → ℕ) × Midway R T tile done u c m n × J n x

      rows : (c m : ℕ) (x : S) → c < T → m ≤ R → Held c 0 x → Held c m (fold (λ y i. update c i y) x (filter (λ i. eqb (tile c i) u) (upto m)))
      rows c zero x hc hm h = h
      rows c (suc m) x hc hm h =
          let prev = rows c m x hc (omega arith) h in
          let mine : ℕ → Bool = λ i. eqb (tile c i) u in
          let f : S → ℕ → S = λ y i. update c i y in
          elim (cases_Bool (mine m)) [
            | inl e ↦
                let here = eqb-true _ _ e in
                let now = turn c m prev.0 hc hm here prev.1 in
                subst (Held c (suc m)) (sym (ap (fold f x) (kept_in mine m e) ∙ fold_push f x (filter mine (upto m)) m))
                (bump prev.0 m, take_up c m prev.0 hc hm here now.at prev.1, step prev.0 _ c m hc hm prev.2 now)
            | inr e ↦ subst (Held c (suc m)) (sym (ap (fold f x) (kept_out mine m e)))
                (prev.0, pass_by done u c m prev.0 (eqb-false _ _ e) prev.1, prev.2)
          ]

      sweeps : (c : ℕ) (x : S) → c ≤ T → Held 0 0 x → Held c 0 (through update (tile_rows R tile u) c x)
      sweeps zero x hc h = h
      sweeps (suc c) x hc h =
          let r = rows c R (through update (tile_rows R tile u) c x) (omega arith) (omega arith) (sweeps c x (omega arith) h) in
          subst (Held (suc c) 0) (sym (folded_more (λ y c. fold (λ z i. update c i z) y (tile_rows R tile u c)) x c))
          (r.0, next_sweep done u c r.0 r.1, r.2)

      pub whole_tile : (x : S) → (n : ℕ → ℕ) → Agrees R T tile done n → J n x → (n' : ℕ → ℕ) × Agrees R T tile (and_done done u) n' × J n' (through update (tile_rows R tile u) T x)
      whole_tile x n a h =
          let r = sweeps T x (omega arith) (n, start done u n a, h) in
          (r.0, finish done u r.0 r.1, r.2)
