-- The executable tests tell who waits, and what is lawful. Assumes nothing.
use Rattle.std.proofs.Common.{◌≡◌, ℕ, ◌<◌, ◌≤◌, Bool, true, not, ◌&&◌, eqb, ltb, inl, inr, ⊎_elim, arith}
use Rattle.std.proofs.lemmas.Bool.{cases_lt, cases_Bool, both_ways, and_parts, and_from, not-true, not_from_false, eqb-true, eqb-false, eq-eqb, ne_eqb, ltb-true, lt-ltb}
use Rattle.checks.specs.Lists.{upto, some}
use Rattle.points.specs.Points.{some_point, overtaken}
use Rattle.points.specs.Laws.{WaitsTold, LawfulTold}
use Rattle.points.proofs.Uptos.{some_at, some_from}

module _ (R T : ℕ) (test : ℕ → ℕ → Bool) where
  pub some_point_at : some_point R T test ≡ true → (c : ℕ) × (i : ℕ) × (c < T) × (i < R) × (test c i ≡ true)
  some_point_at e = let p = some_at (λ c. some (test c) (upto R)) T e in let q = some_at (test p.0) R p.2 in (p.0, q.0, p.1, q.1, q.2)

  pub some_point_from : (c i : ℕ) → c < T → i < R → test c i ≡ true → some_point R T test ≡ true
  some_point_from c i hc hi e = some_from (λ c. some (test c) (upto R)) T c hc (some_from (test c) R i hi e)

pub waits_told : WaitsTold
waits_told pre R T k tile = record {
  sound = λ u t hu ht e.
      let p = and_parts (not (eqb t u)) _ e in
      let q = some_point_at R T _ p.1 in
      let x = and_parts (eqb (tile q.0 q.1) t) _ q.4 in
      let r = some_point_at R T _ x.1 in
      let y = and_parts (eqb (tile r.0 r.1) u) _ r.4 in
      record {
        apart = eqb-false t u (not-true _ p.0);
        c = q.0;
        i = q.1;
        d = r.0;
        j = r.1;
        c_in = q.2;
        i_in = q.3;
        d_in = r.2;
        j_in = r.3;
        from = eqb-true _ _ x.0;
        to = eqb-true _ _ y.0;
        precedes = y.1;
      };
  whole = λ u t hu ht w.
      and_from (not (eqb t u)) _ (not_from_false _ (ne_eqb t u w.apart))
      (some_point_from R T (λ c i. eqb (tile c i) t && some_point R T (λ d j. eqb (tile d j) u && pre c i d j)) w.c w.i w.c_in w.i_in (and_from _ _ (eq-eqb _ _ w.from)
      (some_point_from R T (λ d j. eqb (tile d j) u && pre w.c w.i d j) w.d w.j w.d_in w.j_in (and_from _ _ (eq-eqb _ _ w.to) w.precedes))));
}

pub lawful_told : LawfulTold
lawful_told pre R T k tile small = (
  λ none. record {
    small = small;
    rises = λ c i d j hc hi hd hj p. ⊎_elim
        (λ (l : tile d j < tile c i). absurd (both_ways (overtaken pre R T tile d j) (none d j hd hj) (some_point_from R T (λ c i. pre c i d j && ltb (tile d j) (tile c i)) c i hc hi (and_from _ _ p (lt-ltb _ _ l)))))
        (λ (l : tile c i ≤ tile d j). l)
        (cases_lt (tile d j) (tile c i));
  },
  λ lawful d j hd hj. elim (cases_Bool (overtaken pre R T tile d j)) [
    | inl e ↦
        let q = some_point_at R T (λ c i. pre c i d j && ltb (tile d j) (tile c i)) e in
        let x = and_parts (pre q.0 q.1 d j) _ q.4 in
        absurd (omega (arith, ltb-true _ _ x.1, lawful.rises q.0 q.1 d j q.2 q.3 hd hj x.0))
    | inr e ↦ e
  ],
)
