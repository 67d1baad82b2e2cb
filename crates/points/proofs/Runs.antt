-- What calls and runs keep, which calls are accepted, and that a run can always go on. Assumes nothing.
use Rattle.std.proofs.Common.{◌≡◌, ℕ, zero, suc, ◌+◌, ◌<◌, ◌≤◌, Bool, true, false, not, ◌&&◌, ◌||◌, ltb, ◌⊎◌, List, [], ◌∷◌, fold, sym, refl, ap, ◌∙◌, subst, inl, inr, ⊎_elim, arith}
use Rattle.std.proofs.lemmas.Bool.{cases_eq, cases_Bool, both_ways, or_cases, or_left, or_right, and_parts, and_from, not-true, not_from_false, ltb-true, lt-ltb, cond_both}
use Rattle.checks.specs.Lists.{upto, every}
use Rattle.points.specs.Points.{Precedes, Tiles, Forward, Tells, Turn, size}
use Rattle.points.specs.Runs.{State, accepts, with_tile, call, begin, run, carried, updated, Accepted}
use Rattle.points.specs.Laws.{AcceptsExactly, OneIsReady, WaitedForByHigher, PointsCounted}
use Rattle.points.proofs.Uptos.{every_at, every_from}
use Rattle.points.proofs.Counts.{updated_more, sum_zero, count_front}
use Rattle.points.proofs.Turns.{bump, Agrees, Closed, Ready, whole_tile, still_closed}

pub agrees_carried : (R T : ℕ) (tile : Tiles) (done : ℕ → Bool) (n : ℕ → ℕ) → Agrees R T tile done n → (i : ℕ) → i < R → n i ≡ carried T tile done i
agrees_carried R T tile done n a i hi = sym (count_front (λ c. done (tile c i)) (n i) T (a.top i hi) (λ c hc h. a.only c i hc hi h) (λ c hc h. a.taken c i hc hi h))

-- a tile that is called and accepted, is a tile and is not done
accepts_undone : (waits : ℕ → ℕ → Bool) (k : ℕ) (done : ℕ → Bool) (u : ℕ) → accepts waits k done u ≡ true → (u < k) × (done u ≡ false) × (every (λ t. not (waits u t) || done t) (upto k) ≡ true)
accepts_undone waits k done u e =
    let a = and_parts (ltb u k) (not (done u) && every (λ t. not (waits u t) || done t) (upto k)) e in
    let b = and_parts (not (done u)) (every (λ t. not (waits u t) || done t) (upto k)) a.1 in
    (ltb-true u k a.0, not-true (done u) b.0, b.1)

module _ (pre : Precedes) (R T k : ℕ) (tile : Tiles) (waits : ℕ → ℕ → Bool)
    (small : (c i : ℕ) → c < T → i < R → tile c i < k) (tells : Tells pre R T k tile waits) where
  accepts_ready : (done : ℕ → Bool) (u : ℕ) → accepts waits k done u ≡ true → (u < k) × (done u ≡ false) × Ready pre R T tile done u
  accepts_ready done u e =
      let a = accepts_undone waits k done u e in (
        a.0,
        a.1,
        λ t w.
            let ht : t < k = subst (λ x. x < k) w.from (small w.c w.i w.c_in w.i_in) in
            ⊎_elim (λ q. absurd (both_ways (waits u t) (not-true _ q) (tells.whole u t a.0 ht w))) (λ q. q)
            (or_cases (not (waits u t)) (done t) (every_at (λ t. not (waits u t) || done t) k a.2 t ht)),
      )

  accepts_from : (done : ℕ → Bool) (u : ℕ) → Accepted pre R T k tile done u → accepts waits k done u ≡ true
  accepts_from done u a =
      and_from (ltb u k) _ (lt-ltb u k a.0) (and_from (not (done u)) _ (not_from_false _ a.1)
      (every_from (λ t. not (waits u t) || done t) k (λ t ht.
      elim (cases_Bool (waits u t)) [
        | inl w ↦ or_right (not (waits u t)) (done t) (a.2 t (tells.sound u t a.0 ht w))
        | inr w ↦ or_left (not (waits u t)) (done t) (not_from_false _ w)
      ])))

-- what holds between calls
pub record Good (pre : Precedes) (R T : ℕ) (tile : Tiles) {S : Type 0} (J : (ℕ → ℕ) → S → Type 0) (s : State S) : Type 0 where
  pub closed : Closed pre R T tile s.done
  pub n : ℕ → ℕ
  pub agrees : Agrees R T tile s.done n
  pub holds : J n s.held

-- what each update keeps at its turn, every run keeps: J says it of the state x where row i has been carried through n i sweeps
module _ (pre : Precedes) (R T k : ℕ) (tile : Tiles) (waits : ℕ → ℕ → Bool) (forward : Forward pre)
    (small : (c i : ℕ) → c < T → i < R → tile c i < k) (tells : Tells pre R T k tile waits)
    {S : Type 0} (update : ℕ → ℕ → S → S) (J : (ℕ → ℕ) → S → Type 0)
    (step : (n : ℕ → ℕ) (x : S) (c i : ℕ) → c < T → i < R → J n x → Turn pre R T n c i → J (bump n i) (update c i x)) where
  accepted_keeps : (s : State S) (u : ℕ) → Good pre R T tile J s → accepts waits k s.done u ≡ true → Good pre R T tile J (with_tile update R T k tile waits s u)
  accepted_keeps s u g e =
      let r = accepts_ready pre R T k tile waits small tells s.done u e in
      let w = whole_tile pre R T tile forward s.done u g.closed r.1 r.2 update J step s.held g.n g.agrees g.holds in
      record { closed = still_closed pre R T tile forward s.done u g.closed r.1 r.2; n = w.0; agrees = w.1; holds = w.2 }

  pub call_keeps : (s : State S) (u : ℕ) → Good pre R T tile J s → Good pre R T tile J (call update R T k tile waits s u)
  call_keeps s u g = cond_both (accepts waits k s.done u) _ _ (Good pre R T tile J) (λ e. accepted_keeps s u g e) (λ e. g)

  pub calls_keep : (s : State S) (calls : List ℕ) → Good pre R T tile J s → Good pre R T tile J (fold (call update R T k tile waits) s calls)
  calls_keep s [] g = g
  calls_keep s (u ∷ us) g = calls_keep (call update R T k tile waits s u) us (call_keeps s u g)

  pub begin_good : (x : S) → J (λ _. 0) x → Good pre R T tile J (begin update R T k tile waits x)
  begin_good x h = record {
    closed = λ c i d j hc hi hd hj p e. absurd (both_ways false refl e);
    n = λ _. 0;
    agrees = record {
      taken = λ d j hd hj e. absurd (both_ways false refl e);
      only = λ d j hd hj h. absurd (omega arith);
      top = λ j hj. omega arith;
    };
    holds = h;
  }

  pub run_keeps : (x : S) (calls : List ℕ) → J (λ _. 0) x → Good pre R T tile J (run update R T k tile waits x calls)
  run_keeps x calls h = calls_keep (begin update R T k tile waits x) calls (begin_good x h)

pub accepts_exactly : AcceptsExactly
accepts_exactly pre R T k tile waits lawful tells done u = (accepts_ready pre R T k tile waits lawful.small tells done u, accepts_from pre R T k tile waits lawful.small tells done u)

pub waited_for_by_higher : WaitedForByHigher
waited_for_by_higher pre R T k tile lawful u t w =
    let le = lawful.rises w.c w.i w.d w.j w.c_in w.i_in w.d_in w.j_in w.precedes in
    let ne = w.apart in
    omega (arith, le, w.from, w.to)

pub one_is_ready : OneIsReady
one_is_ready pre R T k tile waits lawful tells done = look k (omega arith)
  where
    lowest : (u : ℕ) → u < k → done u ≡ false → ((t : ℕ) → t < u → done t ≡ true) → accepts waits k done u ≡ true
    lowest u hu undone lower = accepts_from pre R T k tile waits lawful.small tells done u (hu, undone, λ t w. lower t (waited_for_by_higher pre R T k tile lawful u t w))

    look : (m : ℕ) → m ≤ k → ((t : ℕ) → t < m → done t ≡ true) ⊎ ((u : ℕ) × (u < k) × (accepts waits k done u ≡ true) × ((t : ℕ) → t < u → done t ≡ true))
    look zero h = inl (λ t q. absurd (omega arith))
    look (suc m) h = ⊎_elim
        (λ (below : (t : ℕ) → t < m → done t ≡ true). elim (cases_Bool (done m)) [
          | inl e ↦ inl (λ t q. elim (cases_eq t m) [ inl r ↦ ap done r ∙ e | inr r ↦ below t (omega arith) ])
          | inr e ↦ inr (m, omega arith, lowest m (omega arith) e below, below)
        ])
        (λ o. inr o)
        (look m (omega arith))

pub points_counted : (S : Type 0) → PointsCounted S
points_counted S update R T k tile waits start calls = counts (begin update R T k tile waits start) calls (sym (sum_zero k))
  where
    counts : (s : State S) (calls : List ℕ) → s.points ≡ updated R T k tile s.done → let r = fold (call update R T k tile waits) s calls in r.points ≡ updated R T k tile r.done
    counts s [] e = e
    counts s (u ∷ us) e = counts (call update R T k tile waits s u) us
        (cond_both (accepts waits k s.done u) (with_tile update R T k tile waits s u) s (λ r. r.points ≡ updated R T k tile r.done)
        (λ a. let r = accepts_undone waits k s.done u a in ap (λ n. n + size R T tile u) e ∙ sym (updated_more R T k tile s.done u r.0 r.1))
        (λ a. e))
