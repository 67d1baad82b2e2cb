-- Tiles called in rising order are never refused, so all are done in the end. Assumes nothing.
use Rattle.std.proofs.Common.{◌≡◌, ℕ, zero, suc, ◌<◌, ◌≤◌, true, false, eqb, List, sym, ap, ◌∙◌, subst, inl, inr, arith}
use Rattle.std.proofs.lemmas.Bool.{cases_eq, cases_Bool, both_ways, or_left, or_right, eq-eqb, cond_both}
use Rattle.checks.specs.Lists.{upto}
use Rattle.checks.proofs.Uptos.{upto_more}
use Rattle.arithmetic.specs.Meanings.{Meaning}
use Rattle.arithmetic.specs.Sweeps.{updated, plain}
use Rattle.points.specs.Points.{Lawful, Tells}
use Rattle.points.specs.Runs.{State, accepts, with_tile, call}
use Rattle.points.proofs.Runs.{accepts_exactly, waited_for_by_higher}
use Rattle.plans.specs.Tilings.{Tiling, tile_of, precedes, waits}
use Rattle.runs.specs.declared.run.closing.Closing.{Closing}
use Rattle.runs.specs.Held.{equations_with}
use Rattle.runs.specs.Histories.{after}
use Rattle.runs.specs.Law.{Law}
use Rattle.runs.proofs.Steps.{after_more}

module _ {C V : Type 0} (m : Meaning C V) (l : Tiling) (cs : List C) (bs x : List V)
    (lawful : Lawful (precedes l) l.pattern.rows l.sweeps l.count (tile_of l))
    (tells : Tells (precedes l) l.pattern.rows l.sweeps l.count (tile_of l) (waits l)) where
  -- one call more, of the lowest tile that has not been called
  one_more : (n : ℕ) → n < l.count → (s : State (List V)) → ((t : ℕ) → t < n → s.done t ≡ true)
      → (t : ℕ) → t < suc n → (call (λ c i y. updated m (equations_with l cs bs) y i) l.pattern.rows l.sweeps l.count (tile_of l) (waits l) s n).done t ≡ true
  one_more n h s lower t q =
      cond_both (accepts (waits l) l.count s.done n) (with_tile (λ c i y. updated m (equations_with l cs bs) y i) l.pattern.rows l.sweeps l.count (tile_of l) (waits l) s n) s (λ r. r.done t ≡ true)
      (λ e. elim (cases_eq t n) [ inl same ↦ or_left (eqb t n) (s.done t) (eq-eqb t n same) | inr other ↦ or_right (eqb t n) (s.done t) (lower t (omega arith)) ])
      (λ e. elim (cases_eq t n) [ inl same ↦ ap s.done same ∙ own e | inr other ↦ lower t (omega arith) ])
    where
      own : accepts (waits l) l.count s.done n ≡ false → s.done n ≡ true
      own e = elim (cases_Bool (s.done n)) [
        | inl done ↦ done
        | inr undone ↦ absurd (both_ways (accepts (waits l) l.count s.done n) e
            ((accepts_exactly (precedes l) l.pattern.rows l.sweeps l.count (tile_of l) (waits l) lawful tells s.done n).1
            (h, undone, λ t w. lower t (waited_for_by_higher (precedes l) l.pattern.rows l.sweeps l.count (tile_of l) lawful n t w))))
      ]

  rising_done : (n : ℕ) → n ≤ l.count → (t : ℕ) → t < n → (after m l cs bs x (upto n)).done t ≡ true
  rising_done zero h t q = absurd (omega arith)
  rising_done (suc n) h t q =
      let step = ap (after m l cs bs x) (upto_more n) ∙ after_more m l cs bs x (upto n) n in
      subst (λ (s : State (List V)). s.done t ≡ true) (sym step) (one_more n (omega arith) (after m l cs bs x (upto n)) (rising_done n (omega arith)) t q)

  -- a run over all tiles in rising order leaves the plain values after all sweeps
  pub rising_plain : (c : Closing) (v : List V) → Law m l cs bs x (upto l.count) c v → v ≡ plain m (equations_with l cs bs) x l.sweeps
  rising_plain c v law = law.finished (law.whole.1 (λ t q. law.done t ∙ rising_done l.count (omega arith) t q))
