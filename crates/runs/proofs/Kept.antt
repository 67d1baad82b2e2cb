-- The law of runs, from what a list of calls gives. Assumes nothing.
use Rattle.std.proofs.Common.{◌≡◌, ℕ, ◌<◌, ◌≤◌, Bool, true, false, cond, not, ◌||◌, eqb, List, [], ◌∷◌, length, get_or, sym, refl, ap, ◌∙◌, subst, inl, inr, ⊎_elim, arith}
use Rattle.std.proofs.lemmas.List.{same_lists}
use Rattle.std.proofs.lemmas.Bool.{and_parts, and_from, or_cases, or_left, or_right, not-true, eqb-false, ne_eqb}
use Rattle.checks.specs.Lists.{upto, every}
use Rattle.arithmetic.specs.Meanings.{Meaning}
use Rattle.arithmetic.specs.Sweeps.{updated, plain}
use Rattle.points.specs.Points.{Lawful, Tells}
use Rattle.points.specs.Runs.{State, run, carried, Accepted}
use Rattle.points.specs.Runs as runs
use Rattle.points.specs.Sweeps.{Symmetric, in_place}
use Rattle.points.specs.Sweeps as points
use Rattle.points.proofs.Uptos.{every_at, every_from}
use Rattle.points.proofs.Counts.{all_done}
use Rattle.points.proofs.Runs.{accepts_exactly, one_is_ready, points_counted}
use Rattle.points.proofs.Sweeps.{each_row_plain}
use Rattle.matrix.specs.Patterns.{Pattern, linked, stores}
use Rattle.plans.specs.Tilings.{Tiling, tile_of, precedes, waits}
use Rattle.plans.specs.Words.{bit}
use Rattle.runs.specs.declared.run.Run.{Run}
use Rattle.runs.specs.declared.run.closing.Closing.{Closing}
use Rattle.runs.specs.declared.run.closing.End.{End}
use Rattle.runs.specs.declared.run.closing.End.TheVariants.{Whole, CutShort}
use Rattle.runs.specs.Instances.{new_value}
use Rattle.runs.specs.Held.{sizes_held, progress_held, equations_with, closing_of}
use Rattle.runs.specs.Histories.{after, Reached}
use Rattle.runs.specs.Law.{Law}
use Rattle.runs.proofs.Locals.{rows_are_local}
use Rattle.runs.proofs.Alike.{run_same, updated_same, in_place_keeps, plain_lengths}
use Rattle.runs.proofs.Steps.{accepts_none, none_accepted}

whole_tells : (b : Bool) → ◌≡◌ {A = End} (cond b Whole CutShort) Whole → b ≡ true
whole_tells true e = refl
whole_tells false e = let z : ◌≡◌ {A = ℕ} 0 1 = cc in absurd (omega arith)

linked_back : (p : Pattern) → Symmetric (linked p)
linked_back p i j e =
    let parts = and_parts (not (eqb i j)) (stores p i j || stores p j i) e in
    let apart : eqb j i ≡ false = ne_eqb j i (λ q. eqb-false i j (not-true (eqb i j) parts.0) (sym q)) in
    and_from _ _ (ap not apart) (⊎_elim (λ a. or_right (stores p j i) (stores p i j) a) (λ b. or_left (stores p j i) (stores p i j) b) (or_cases (stores p i j) (stores p j i) parts.1))

module _ {C V : Type 0} (m : Meaning C V) (l : Tiling) (cs : List C) (bs x : List V) (b : V)
    (lawful : Lawful (precedes l) l.pattern.rows l.sweeps l.count (tile_of l))
    (tells : Tells (precedes l) l.pattern.rows l.sweeps l.count (tile_of l) (waits l))
    (sided : length bs ≡ l.pattern.rows) (begun : length x ≡ l.pattern.rows)
    (calls : List ℕ) (r : Run) (v : List V) (reached : Reached m l cs bs x calls r v) where
  value : ℕ → List V → V
  value = new_value m (equations_with l cs bs) b

  -- the same run, with each row's new value put in its place
  in_its_place : after m l cs bs x calls ≡ run (in_place value) l.pattern.rows l.sweeps l.count (tile_of l) (waits l) x calls
  unfolding value
  in_its_place = run_same l.pattern.rows (λ c i y. updated m (equations_with l cs bs) y i) (in_place value)
      (updated_same m (equations_with l cs bs) b l.pattern.rows sided) (in_place_keeps m (equations_with l cs bs) b l.pattern.rows sided) l.sweeps l.count (tile_of l) (waits l) x calls begun

  done_is : bit r.done ≡ (after m l cs bs x calls).done
  done_is = λ i t. reached.done t i

  plain_is : (c : ℕ) → (plain m (equations_with l cs bs) x c ≡ points.plain value l.pattern.rows x c) × (length (points.plain value l.pattern.rows x c) ≡ l.pattern.rows)
  unfolding value
  plain_is c = plain_lengths m (equations_with l cs bs) b l.pattern.rows sided x begun refl c

  rows_plain : (length v ≡ l.pattern.rows) × ((i : ℕ) (d : V) → i < l.pattern.rows → get_or v i d ≡ get_or (plain m (equations_with l cs bs) x (carried l.sweeps (tile_of l) (bit r.done) i)) i d)
  unfolding value
  rows_plain =
      let each = each_row_plain V l.pattern.rows l.sweeps l.count (linked l.pattern) (tile_of l) (waits l) value x (linked_back l.pattern) lawful tells (rows_are_local m (equations_with l cs bs) b l.pattern.rows) begun calls in
      let held = reached.values ∙ ap (λ s. s.held) in_its_place in
      let same_done = done_is ∙ ap (λ s. s.done) in_its_place in (
        ap length held ∙ each.0,
        λ i d h. ap (λ y. get_or y i d) held ∙ each.1 i d h ∙ ap (λ e. get_or (points.plain value l.pattern.rows x (carried l.sweeps (tile_of l) e i)) i d) (sym same_done)
            ∙ ap (λ y. get_or y i d) (sym (plain_is (carried l.sweeps (tile_of l) (bit r.done) i)).0),
      )

  all_plain : ((t : ℕ) → t < l.count → bit r.done t ≡ true) → v ≡ plain m (equations_with l cs bs) x l.sweeps
  all_plain all =
      let through = all_done l.pattern.rows l.sweeps l.count (tile_of l) lawful.small (bit r.done) all in
      let e = plain_is l.sweeps in
      same_lists v (plain m (equations_with l cs bs) x l.sweeps) (rows_plain.0 ∙ sym (ap length e.0 ∙ e.1))
      (λ i d h. rows_plain.1 i d (subst (λ n. i < n) rows_plain.0 h) ∙ ap (λ c. get_or (plain m (equations_with l cs bs) x c) i d) (through.0 i (subst (λ n. i < n) rows_plain.0 h)))

  pub law : (c : Closing) → c ≡ closing_of (sizes_held r).tiles (progress_held r) → Law m l cs bs x calls c v
  law c e =
      let tiles : (sizes_held r).tiles ≡ l.count = ap (λ n. n.tiles) reached.sizes in
      let e' : c ≡ closing_of l.count (progress_held r) = e ∙ ap (λ k. closing_of k (progress_held r)) tiles in
      let made : Law m l cs bs x calls (closing_of l.count (progress_held r)) v = record {
        rows = rows_plain.1;
        accepted = λ before u.
            let done = (after m l cs bs x before).done in
            let exactly = accepts_exactly (precedes l) l.pattern.rows l.sweeps l.count (tile_of l) (waits l) lawful tells done u in
            (λ none. exactly.0 (accepts_none l done u none), λ a. none_accepted l done u (exactly.1 a));
        ready = λ before.
            let done = (after m l cs bs x before).done in
            ⊎_elim (λ all. inl all) (λ one. inr (one.0, one.1, none_accepted l done one.0 one.2))
            (one_is_ready (precedes l) l.pattern.rows l.sweeps l.count (tile_of l) (waits l) lawful tells done);
        done = reached.done;
        points = reached.points ∙ points_counted (List V) (λ c i y. updated m (equations_with l cs bs) y i) l.pattern.rows l.sweeps l.count (tile_of l) (waits l) x calls
            ∙ ap (runs.updated l.pattern.rows l.sweeps l.count (tile_of l)) (sym done_is);
        whole = (
          λ w. every_at (bit r.done) l.count (whole_tells (every (bit r.done) (upto l.count)) w),
          λ all. ap (λ b. cond b Whole CutShort) (every_from (bit r.done) l.count all),
        );
        finished = λ w. all_plain (every_at (bit r.done) l.count (whole_tells (every (bit r.done) (upto l.count)) w));
      } in
      subst (λ z. Law m l cs bs x calls z v) (sym e') made

-- the same where there is a row
pub whole_law : {C V : Type 0} (m : Meaning C V) (l : Tiling) (cs : List C) (bs x : List V)
    → Lawful (precedes l) l.pattern.rows l.sweeps l.count (tile_of l) → Tells (precedes l) l.pattern.rows l.sweeps l.count (tile_of l) (waits l)
    → 1 ≤ l.pattern.rows → length bs ≡ l.pattern.rows → length x ≡ l.pattern.rows
    → (calls : List ℕ) (r : Run) (v : List V) → Reached m l cs bs x calls r v → (c : Closing) → c ≡ closing_of (sizes_held r).tiles (progress_held r) → Law m l cs bs x calls c v
whole_law m l cs [] x lawful tells some sided begun calls r v reached c e = absurd (omega arith)
whole_law m l cs (b ∷ bs) x lawful tells some sided begun calls r v reached c e = law m l cs (b ∷ bs) x b lawful tells sided begun calls r v reached c e
