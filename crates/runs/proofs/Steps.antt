-- One call more: what a tile call leaves is what the history says. Assumes nothing.
use Rattle.std.proofs.Common.{◌≡◌, ℕ, ◌+◌, Bool, true, false, not, ◌&&◌, ◌||◌, eqb, ltb, leb, List, [], ◌∷◌, ◌++◌, length, Some, None, Option, sym, refl, ap, ◌∙◌, subst, ap₂, arith}
use Rattle.std.specs.Option.{option_or}
use Rattle.std.proofs.lemmas.List.Sums.{fold_push}
use Rattle.std.proofs.lemmas.Bool.{cond-true, cond-false, eq-eqb, ltb-true, lt-ltb, lt-leb, and_from, and_parts, not-true}
use Rattle.checks.specs.declared.Check.TheVariants.{Size, NoSuchTile, TileDone, TileWaiting}
use Rattle.checks.specs.declared.Layer.TheVariants.{Run as run_layer}
use Rattle.checks.specs.declared.Fault.{Fault}
use Rattle.checks.specs.Verdicts.{fault_if, lowest, unless_refused}
use Rattle.checks.proofs.Firsts.{lowest_none, lowest_passed}
use Rattle.checks.proofs.Refusals.{both_passed, all_none, fault_none, only}
use Rattle.arithmetic.specs.Meanings.{Meaning}
use Rattle.arithmetic.specs.Sweeps.{updated}
use Rattle.points.specs.Points.{size}
use Rattle.points.specs.Runs.{State, accepts, with_tile, call}
use Rattle.points.proofs.Uptos.{every_at, every_from}
use Rattle.plans.specs.Tilings.{Tiling, tile_of, waits}
use Rattle.plans.specs.Words.{bit}
use Rattle.plans.proofs.Wordbits.{bit_set, bit_zero}
use Rattle.runs.specs.declared.run.Run.{Run}
use Rattle.runs.specs.Calls.{Sizes, sizes_of, differing_fault, lengths_fault, tile_fault, call_fault, tile_swept, advanced}
use Rattle.runs.specs.Held.{sizes_held, progress_held, equations_with}
use Rattle.runs.specs.Histories.{after, Reached}
use Rattle.runs.proofs.Accepted.{tile_free}

some_none : (f : Fault) → Some f ≡ None → ⊥
some_none f e = let z : ◌≡◌ {A = ℕ} 0 1 = cc in omega arith

settled_is : (a b : Bool) → (a && not b) ≡ false → (not a || b) ≡ true
settled_is true true e = refl
settled_is true false e = sym e
settled_is false b e = refl

settled_not : (a b : Bool) → (not a || b) ≡ true → (a && not b) ≡ false
settled_not true true e = refl
settled_not true false e = sym e
settled_not false b e = refl

-- a call is accepted exactly where no check of its number fails
module _ (l : Tiling) (done : ℕ → Bool) (u : ℕ) where
  pub accepts_none : tile_fault l done u ≡ None → accepts (waits l) l.count done u ≡ true
  accepts_none e =
      let first = both_passed (fault_if run_layer NoSuchTile u (leb l.count u)) _ e in
      let second = both_passed (fault_if run_layer TileDone u (done u)) _ first.1 in
      let third = (both_passed (lowest run_layer TileWaiting (λ t. waits l u t && not (done t)) l.count) None second.1).0 in
      let free = tile_free l done u e in
      let all = lowest_passed run_layer TileWaiting (λ t. waits l u t && not (done t)) l.count third in
      and_from _ _ (lt-ltb u l.count free.0) (and_from _ _ (ap not free.1) (every_from (λ t. not (waits l u t) || done t) l.count (λ t h. settled_is (waits l u t) (done t) (all t h))))

  pub none_accepted : accepts (waits l) l.count done u ≡ true → tile_fault l done u ≡ None
  none_accepted e =
      let first = and_parts (ltb u l.count) _ e in
      let second = and_parts (not (done u)) _ first.1 in
      let inside : leb l.count u ≡ false = lt-leb l.count u (ltb-true u l.count first.0) in
      let fresh : done u ≡ false = not-true (done u) second.0 in
      let none = lowest_none run_layer TileWaiting (λ t. waits l u t && not (done t)) l.count (λ t h. settled_not (waits l u t) (done t) (every_at (λ t. not (waits l u t) || done t) l.count second.1 t h)) in
      ap₂ (λ a b. option_or (fault_if run_layer NoSuchTile u a) (option_or (fault_if run_layer TileDone u b) (option_or (lowest run_layer TileWaiting (λ t. waits l u t && not (done t)) l.count) None))) inside fresh ∙ ap (λ v. option_or v None) none

  pub accepts_some : {f : Fault} → tile_fault l done u ≡ Some f → accepts (waits l) l.count done u ≡ false
  accepts_some {f} e = go (accepts (waits l) l.count done u) refl
    where
      go : (b : Bool) → accepts (waits l) l.count done u ≡ b → b ≡ false
      go true q = absurd (some_none f (sym e ∙ none_accepted q))
      go false q = refl

same_sizes : (l : Tiling) → differing_fault (sizes_of l) (sizes_of l) ≡ None
same_sizes l =
    let size : ℕ → ℕ → Option Fault = λ place a. fault_if run_layer Size place (not (eqb a a)) in
    let same : (place a : ℕ) → size place a ≡ None = λ place a. fault_none run_layer Size place (not (eqb a a)) (ap not (eq-eqb a a refl)) in
    all_none (size 1 l.pattern.rows ∷ size 2 l.pattern.entries ∷ size 3 l.sweeps ∷ size 4 l.count ∷ []) (same 1 l.pattern.rows, (same 2 l.pattern.entries, (same 3 l.sweeps, (same 4 l.count, tt))))

-- a call on the run's own plan and tables turns on its number alone
pub own_call : (n : Sizes) (done : ℕ) (l : Tiling) (coefficients rhs x u : ℕ) → n ≡ sizes_of l → lengths_fault l.pattern coefficients rhs x ≡ None → call_fault n done l coefficients rhs x u ≡ tile_fault l (bit done) u
own_call n done l coefficients rhs x u sized long =
    let same : differing_fault n (sizes_of l) ≡ None = ap (λ a. differing_fault a (sizes_of l)) sized ∙ same_sizes l in
    only (differing_fault n (sizes_of l) ∷ lengths_fault l.pattern coefficients rhs x ∷ []) (tile_fault l (bit done) u) [] (same, (long, tt)) (λ _. tt)

module _ {C V : Type 0} (m : Meaning C V) (l : Tiling) (cs : List C) (bs x : List V) where
  -- at the beginning nothing is done
  pub reached_none : (r : Run) → sizes_held r ≡ sizes_of l → lengths_fault l.pattern (length cs) (length bs) (length x) ≡ None → progress_held r ≡ record { done = 0; points = 0 } → Reached m l cs bs x [] r x
  reached_none r sized long fresh = record {
    sizes = sized;
    lengths = long;
    done = λ t. ap (λ p. bit p.done t) fresh ∙ bit_zero t;
    points = ap (λ p. p.points) fresh;
    values = refl;
  }

  pub after_more : (calls : List ℕ) (u : ℕ) → after m l cs bs x (calls ++ u ∷ []) ≡ call (λ c i y. updated m (equations_with l cs bs) y i) l.pattern.rows l.sweeps l.count (tile_of l) (waits l) (after m l cs bs x calls) u
  after_more calls u = fold_push (call (λ c i y. updated m (equations_with l cs bs) y i) l.pattern.rows l.sweeps l.count (tile_of l) (waits l)) _ calls u

  -- a call is refused as the calls before it decide
  pub fault_is : (calls : List ℕ) (u : ℕ) (r : Run) (v : List V) (answer : Option Fault) → Reached m l cs bs x calls r v
      → answer ≡ call_fault (sizes_held r) r.done l (length cs) (length bs) (length v) u → answer ≡ tile_fault l (after m l cs bs x calls).done u
  fault_is calls u r v answer before answered =
      let done_is : bit r.done ≡ (after m l cs bs x calls).done = λ i t. before.done t i in
      answered ∙ own_call (sizes_held r) r.done l (length cs) (length bs) (length v) u before.sizes before.lengths ∙ ap (λ d. tile_fault l d u) done_is

  module _ (calls : List ℕ) (u : ℕ) (r r' : Run) (v v' : List V) (answer : Option Fault)
      (before : Reached m l cs bs x calls r v)
      (answered : answer ≡ call_fault (sizes_held r) r.done l (length cs) (length bs) (length v) u)
      (sized : sizes_held r' ≡ sizes_held r)
      (long : length v' ≡ length v)
      (progress : progress_held r' ≡ unless_refused answer (advanced l u (progress_held r)) (progress_held r))
      (values : v' ≡ unless_refused answer (tile_swept m (equations_with l cs bs) l u v) v) where
    next : Option Fault → State (List V) → Type 0
    next w s = ((t : ℕ) → bit r'.done t ≡ s.done t) × (r'.points ≡ s.points) × (v' ≡ s.held)

    -- what the call left, by its answer
    left_by : (w : Option Fault) → answer ≡ w → next w (call (λ c i y. updated m (equations_with l cs bs) y i) l.pattern.rows l.sweeps l.count (tile_of l) (waits l) (after m l cs bs x calls) u)
    unfolding next
    left_by None e =
        let yes = accepts_none l (after m l cs bs x calls).done u (sym (fault_is calls u r v answer before answered) ∙ e) in
        let p = progress ∙ ap (λ a. unless_refused a (advanced l u (progress_held r)) (progress_held r)) e in
        let w = values ∙ ap (λ a. unless_refused a (tile_swept m (equations_with l cs bs) l u v) v) e in
        let upd = λ (c i : ℕ) (y : List V). updated m (equations_with l cs bs) y i in
        subst (λ (s : State (List V)). ((t : ℕ) → bit r'.done t ≡ s.done t) × (r'.points ≡ s.points) × (v' ≡ s.held))
        (sym (cond-true _ (with_tile upd l.pattern.rows l.sweeps l.count (tile_of l) (waits l) (after m l cs bs x calls) u) (after m l cs bs x calls) yes)) (
          (λ t. ap (λ q. bit q.done t) p ∙ bit_set r.done u t ∙ ap (λ b. eqb t u || b) (before.done t)),
          ap (λ q. q.points) p ∙ ap (λ n. n + size l.pattern.rows l.sweeps (tile_of l) u) before.points,
          w ∙ ap (tile_swept m (equations_with l cs bs) l u) before.values,
        )
    left_by (Some f) e =
        let no = accepts_some l (after m l cs bs x calls).done u (sym (fault_is calls u r v answer before answered) ∙ e) in
        let p = progress ∙ ap (λ a. unless_refused a (advanced l u (progress_held r)) (progress_held r)) e in
        let w = values ∙ ap (λ a. unless_refused a (tile_swept m (equations_with l cs bs) l u v) v) e in
        let upd = λ (c i : ℕ) (y : List V). updated m (equations_with l cs bs) y i in
        subst (λ (s : State (List V)). ((t : ℕ) → bit r'.done t ≡ s.done t) × (r'.points ≡ s.points) × (v' ≡ s.held))
        (sym (cond-false _ (with_tile upd l.pattern.rows l.sweeps l.count (tile_of l) (waits l) (after m l cs bs x calls) u) (after m l cs bs x calls) no))
        ((λ t. ap (λ q. bit q.done t) p ∙ before.done t), ap (λ q. q.points) p ∙ before.points, w ∙ before.values)

    pub reached_more : Reached m l cs bs x (calls ++ u ∷ []) r' v'
    unfolding next
    reached_more =
        let step = left_by answer refl in
        let e = after_more calls u in
        record {
          sizes = sized ∙ before.sizes;
          lengths = ap (lengths_fault l.pattern (length cs) (length bs)) long ∙ before.lengths;
          done = λ t. step.0 t ∙ ap (λ s. s.done t) (sym e);
          points = step.1 ∙ ap (λ s. s.points) (sym e);
          values = step.2 ∙ ap (λ s. s.held) (sym e);
        }
