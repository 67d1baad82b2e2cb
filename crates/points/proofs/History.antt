-- The points that a run updates, one after the other: each at its turn, whatever the state. Assumes nothing.
use Rattle.std.proofs.Common.{◌≡◌, ℕ, ◌+◌, ◌<◌, ◌≤◌, Bool, true, false, cond, eqb, List, [], ◌∷◌, length, get_or, take, fold, sym, refl, ap, ◌∙◌, subst, inl, inr, arith}
use Rattle.std.proofs.lemmas.List.{length_push, take-append-le, take_at, get_or_append_left, get_or_at}
use Rattle.std.proofs.lemmas.List.Sums.{fold_push, sum_by_push}
use Rattle.std.proofs.lemmas.Bool.{cases_eq, cases_lt, cases_Bool, eq-eqb, ne_eqb, cond-true, cond-false}
use Rattle.checks.specs.Lists.{upto}
use Rattle.points.specs.Points.{Precedes, Tiles, Turn, tile_rows}
use Rattle.points.specs.Runs.{State, through, accepts, and_done, with_tile, call, begin, run, noted, taken}
use Rattle.points.specs.Laws.{EachAtItsTurn, AnyState}
use Rattle.points.proofs.Turns.{bump, bump_same, bump_other}
use Rattle.points.proofs.Runs.{run_keeps}

-- the counts matter only by their values
turn_same : (pre : Precedes) (R T : ℕ) (n m : ℕ → ℕ) (c i : ℕ) → ((j : ℕ) → n j ≡ m j) → Turn pre R T n c i → Turn pre R T m c i
turn_same pre R T n m c i e t = record {
  at = sym (e i) ∙ t.at;
  older = λ d j hd hj p. subst (λ x. d < x) (e j) (t.older d j hd hj p);
  newer = λ d j hd hj p. subst (λ x. x ≤ d) (e j) (t.newer d j hd hj p);
  top = λ j hj. subst (λ x. x ≤ T) (e j) (t.top j hj);
}

taken_more : (points : List (ℕ × ℕ)) (c i j : ℕ) → taken (noted c i points) j ≡ taken points j + cond (eqb j i) 1 0
taken_more points c i j = sum_by_push (λ p. cond (eqb j p.1) 1 0) points (c, i)

module _ (pre : Precedes) (R T : ℕ) where
  abbrev InTurn : List (ℕ × ℕ) → ℕ → Type 0
  InTurn points m = Turn pre R T (taken (take m points)) (get_or points m (0, 0)).0 (get_or points m (0, 0)).1

  -- row i has been taken n i times, and each point at its turn
  abbrev History : (ℕ → ℕ) → List (ℕ × ℕ) → Type 0
  History n points = ((i : ℕ) → n i ≡ taken points i) × ((m : ℕ) → m < length points → InTurn points m)

  next : (n : ℕ → ℕ) (points : List (ℕ × ℕ)) (c i : ℕ) → c < T → i < R → History n points → Turn pre R T n c i → History (bump n i) (noted c i points)
  next n points c i hc hi h turn = (counts, turns)
    where
      counts : (j : ℕ) → bump n i j ≡ taken (noted c i points) j
      counts j = elim (cases_eq j i) [
        | inl e ↦ let one : ◌≡◌ {A = ℕ} (cond (eqb j i) 1 0) 1 = rw (eq-eqb j i e) in omega (arith, bump_same n i j e, h.0 j, taken_more points c i j, one)
        | inr e ↦ let none : ◌≡◌ {A = ℕ} (cond (eqb j i) 1 0) 0 = rw (ne_eqb j i e) in omega (arith, bump_other n i j e, h.0 j, taken_more points c i j, none)
      ]

      here : Turn pre R T (taken (take (length points) (noted c i points))) (get_or (noted c i points) (length points) (0, 0)).0 (get_or (noted c i points) (length points) (0, 0)).1
      here =
          subst (λ (p : ℕ × ℕ). Turn pre R T (taken (take (length points) (noted c i points))) p.0 p.1) (sym (get_or_at points (c, i) [] (0, 0) (length points) refl))
          (subst (λ (ps : List (ℕ × ℕ)). Turn pre R T (taken ps) c i) (sym (take_at points ((c, i) ∷ []) (length points) refl)) (turn_same pre R T n (taken points) c i h.0 turn))

      before : (m : ℕ) → m < length points → InTurn (noted c i points) m
      before m l =
          subst (λ (p : ℕ × ℕ). Turn pre R T (taken (take m (noted c i points))) p.0 p.1) (sym (get_or_append_left points ((c, i) ∷ []) (0, 0) m l))
          (subst (λ (ps : List (ℕ × ℕ)). Turn pre R T (taken ps) (get_or points m (0, 0)).0 (get_or points m (0, 0)).1) (sym (take-append-le m points ((c, i) ∷ []) (omega arith))) (h.1 m l))

      turns : (m : ℕ) → m < length (noted c i points) → InTurn (noted c i points) m
      turns m l = elim (cases_lt m (length points)) [
        | inl lt ↦ before m lt
        | inr ge ↦ let e : m ≡ length points = omega (arith, length_push points (c, i)) in subst (InTurn (noted c i points)) (sym e) here
      ]

pub each_at_its_turn : EachAtItsTurn
each_at_its_turn pre forward R T k tile waits lawful tells calls =
    (run_keeps pre R T k tile waits forward lawful.small tells noted (History pre R T) (next pre R T) [] calls ((λ i. refl), λ m l. absurd (omega arith))).holds.1

-- a run over a state beside the run over its points
module _ {S : Type 0} (update : ℕ → ℕ → S → S) (R T k : ℕ) (tile : Tiles) (waits : ℕ → ℕ → Bool) (start : S) where
  abbrev after : List (ℕ × ℕ) → S
  after points = fold (λ x p. update p.0 p.1 x) start points

  by_rows : (c : ℕ) (points : List (ℕ × ℕ)) (rows : List ℕ) → fold (λ z i. update c i z) (after points) rows ≡ after (fold (λ z i. noted c i z) points rows)
  by_rows c points [] = refl
  by_rows c points (i ∷ rows) =
      ap (λ x. fold (λ z i. update c i z) x rows) (sym (fold_push (λ x (p : ℕ × ℕ). update p.0 p.1 x) start points (c, i))) ∙ by_rows c (noted c i points) rows

  by_sweeps : (points : List (ℕ × ℕ)) (rows : ℕ → List ℕ) (sweeps : List ℕ) → fold (λ y c. fold (λ z i. update c i z) y (rows c)) (after points) sweeps ≡ after (fold (λ y c. fold (λ z i. noted c i z) y (rows c)) points sweeps)
  by_sweeps points rows [] = refl
  by_sweeps points rows (c ∷ sweeps) =
      ap (λ x. fold (λ y c. fold (λ z i. update c i z) y (rows c)) x sweeps) (by_rows c points (rows c)) ∙ by_sweeps (fold (λ z i. noted c i z) points (rows c)) rows sweeps

  record Beside (s : State S) (h : State (List (ℕ × ℕ))) : Type 0 where
    done : s.done ≡ h.done
    held : s.held ≡ after h.held

  called : (s : State S) (h : State (List (ℕ × ℕ))) (u : ℕ) → Beside s h → Beside (call update R T k tile waits s u) (call noted R T k tile waits h u)
  called s h u b = elim (cases_Bool (accepts waits k s.done u)) [
    | inl e ↦
        let e' : accepts waits k h.done u ≡ true = ap (λ d. accepts waits k d u) (sym b.done) ∙ e in
        let x = with_tile update R T k tile waits s u in
        let y = with_tile noted R T k tile waits h u in
        subst (λ r. Beside r (call noted R T k tile waits h u)) (sym (cond-true (accepts waits k s.done u) x s e))
        (subst (λ r. Beside x r) (sym (cond-true (accepts waits k h.done u) y h e')) (both b.done b.held))
    | inr e ↦
        let e' : accepts waits k h.done u ≡ false = ap (λ d. accepts waits k d u) (sym b.done) ∙ e in
        subst (λ r. Beside r (call noted R T k tile waits h u)) (sym (cond-false (accepts waits k s.done u) (with_tile update R T k tile waits s u) s e))
        (subst (λ r. Beside s r) (sym (cond-false (accepts waits k h.done u) (with_tile noted R T k tile waits h u) h e')) b)
  ]
    where
      both : s.done ≡ h.done → s.held ≡ after h.held → Beside (with_tile update R T k tile waits s u) (with_tile noted R T k tile waits h u)
      both d x = record {
        done = ap (λ (done : ℕ → Bool). and_done done u) d;
        held = ap (λ y. through update (tile_rows R tile u) T y) x ∙ by_sweeps h.held (tile_rows R tile u) (upto T);
      }

  all_called : (s : State S) (h : State (List (ℕ × ℕ))) (calls : List ℕ) → Beside s h → Beside (fold (call update R T k tile waits) s calls) (fold (call noted R T k tile waits) h calls)
  all_called s h [] b = b
  all_called s h (u ∷ us) b = all_called (call update R T k tile waits s u) (call noted R T k tile waits h u) us (called s h u b)

  beside : (calls : List ℕ) → Beside (run update R T k tile waits start calls) (run noted R T k tile waits [] calls)
  beside calls = all_called (begin update R T k tile waits start) (begin noted R T k tile waits []) calls (record { done = refl; held = refl })

pub any_state : (S : Type 0) → AnyState S
any_state S update R T k tile waits start calls = let b = beside update R T k tile waits start calls in (b.done, b.held)
