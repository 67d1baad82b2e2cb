-- The pairs that the entries give are exactly the points of which one directly precedes the other. Assumes nothing.
use Rattle.std.proofs.Common.{◌≡◌, ℕ, suc, ◌+◌, ◌*◌, ◌<◌, ◌≤◌, min, max, Bool, true, false, cond, not, ◌&&◌, ◌||◌, eqb, ltb, ◌⊎◌, List, [], ◌∷◌, is_some, sym, refl, ap, ◌∙◌, subst, ap₂, inl, inr, ⊎_elim, arith}
use Rattle.std.proofs.lemmas.Bool.{cases_eq, cases_lt, cases_Bool, both_ways, and_parts, and_from, or_cases, or_left, or_right, not_from_false, eqb-true, eqb-false, eq-eqb, ne_eqb, ltb-true, lt-ltb, cond-true, cond-false}
use Rattle.checks.specs.declared.Layer.{Layer}
use Rattle.checks.specs.Lists.{upto, some}
use Rattle.matrix.specs.Patterns.{row_part, stores, linked, matrix_fault}
use Rattle.points.proofs.Uptos.{some_at, some_from}
use Rattle.plans.specs.Tilings.{Tiling, precedes}
use Rattle.plans.specs.Pairs.{sweep_pairs, link_pairs, row_pairs, all_pairs}
use Rattle.plans.proofs.Members.{some_append, some_front, some_back, some_joined, joined_some, some_member, member_some}
use Rattle.plans.proofs.Accepted.{stored_below, own_stored}

module _ (l : Tiling) (layer : Layer) (ok : is_some (matrix_fault layer l.pattern) ≡ false) where
  abbrev R : ℕ
  R = l.pattern.rows

  abbrev T : ℕ
  T = l.sweeps

  -- a point that directly precedes another, and a test that passes at the two
  pub record Preceding (Q : ℕ × ℕ → Bool) : Type 0 where
    pub c : ℕ
    pub i : ℕ
    pub d : ℕ
    pub j : ℕ
    pub c_in : c < T
    pub i_in : i < R
    pub d_in : d < T
    pub j_in : j < R
    pub pre : precedes l c i d j ≡ true
    pub passes : Q (c * R + i, d * R + j) ≡ true

  link_of : (v w : ℕ) → (v ≡ w → ⊥) → (stores l.pattern v w ≡ true) ⊎ (stores l.pattern w v ≡ true) → linked l.pattern v w ≡ true
  link_of v w ne s = and_from (not (eqb v w)) _ (not_from_false _ (ne_eqb v w ne)) (⊎_elim (λ a. or_left (stores l.pattern v w) (stores l.pattern w v) a) (λ a. or_right (stores l.pattern v w) (stores l.pattern w v) a) s)

  abbrev onward : ℕ → ℕ → ℕ → ℕ → Bool
  onward c i d j = eqb d (suc c) && (eqb i j || linked l.pattern i j)

  abbrev beside : ℕ → ℕ → ℕ → ℕ → Bool
  beside c i d j = eqb d c && (linked l.pattern i j && ltb i j)

  next : (c v w : ℕ) → (stores l.pattern v w ≡ true) ⊎ (stores l.pattern w v ≡ true) → precedes l c v (suc c) w ≡ true
  next c v w s = or_left (onward c v (suc c) w) (beside c v (suc c) w) (and_from _ _ (eq-eqb (suc c) (suc c) refl) (elim (cases_eq v w) [
    | inl e ↦ or_left (eqb v w) (linked l.pattern v w) (eq-eqb v w e)
    | inr e ↦ or_right (eqb v w) (linked l.pattern v w) (link_of v w e s)
  ]))

  same : (c v w : ℕ) → v < w → (stores l.pattern v w ≡ true) ⊎ (stores l.pattern w v ≡ true) → precedes l c v c w ≡ true
  same c v w h s = or_right (onward c v c w) (beside c v c w) (and_from _ _ (eq-eqb c c refl) (and_from _ _ (link_of v w (omega arith) s) (lt-ltb v w h)))

  module _ (Q : ℕ × ℕ → Bool) where
    -- what an entry gives in one sweep
    in_sweep : (v w c : ℕ) → v < R → c < T → stores l.pattern v w ≡ true → some Q (sweep_pairs R T v w c) ≡ true → Preceding Q
    in_sweep v w c hv hc s e = ⊎_elim across within (some_append Q (cond (ltb (c + 1) T) ((c * R + v, (c + 1) * R + w) ∷ (c * R + w, (c + 1) * R + v) ∷ []) []) (cond (eqb v w) [] ((c * R + min v w, c * R + max v w) ∷ [])) e)
      where
        hw : w < R
        hw = stored_below layer l.pattern ok v w s

        step : (a b : ℕ) → a < R → b < R → c + 1 < T → (stores l.pattern a b ≡ true) ⊎ (stores l.pattern b a ≡ true) → Q (c * R + a, (c + 1) * R + b) ≡ true → Preceding Q
        step a b ha hb h q p = record { c = c; i = a; d = suc c; j = b; c_in = hc; i_in = ha; d_in = omega arith; j_in = hb; pre = next c a b q; passes = subst (λ n. Q (c * R + a, n) ≡ true) (omega arith) p }

        both : c + 1 < T → some Q ((c * R + v, (c + 1) * R + w) ∷ (c * R + w, (c + 1) * R + v) ∷ []) ≡ true → Preceding Q
        both h p = ⊎_elim (λ q. step v w hv hw h (inl s) q)
            (λ r. ⊎_elim (λ q. step w v hw hv h (inr s) q) (λ q. absurd (both_ways false refl q)) (or_cases (Q (c * R + w, (c + 1) * R + v)) false r))
            (or_cases (Q (c * R + v, (c + 1) * R + w)) _ p)

        across : some Q (cond (ltb (c + 1) T) ((c * R + v, (c + 1) * R + w) ∷ (c * R + w, (c + 1) * R + v) ∷ []) []) ≡ true → Preceding Q
        across p = elim (cases_Bool (ltb (c + 1) T)) [
          | inl h ↦ both (ltb-true _ _ h) (ap (some Q) (sym (cond-true (ltb (c + 1) T) ((c * R + v, (c + 1) * R + w) ∷ (c * R + w, (c + 1) * R + v) ∷ []) [] h)) ∙ p)
          | inr h ↦ absurd (both_ways false refl (ap (some Q) (sym (cond-false (ltb (c + 1) T) ((c * R + v, (c + 1) * R + w) ∷ (c * R + w, (c + 1) * R + v) ∷ []) [] h)) ∙ p))
        ]

        up : (a b : ℕ) → a < R → b < R → a < b → (stores l.pattern a b ≡ true) ⊎ (stores l.pattern b a ≡ true) → Q (c * R + a, c * R + b) ≡ true → Preceding Q
        up a b ha hb h q p = record { c = c; i = a; d = c; j = b; c_in = hc; i_in = ha; d_in = hc; j_in = hb; pre = same c a b h q; passes = p }

        apart : (v ≡ w → ⊥) → Q (c * R + min v w, c * R + max v w) ≡ true → Preceding Q
        apart ne p = ⊎_elim
            (λ (h : v < w). up v w hv hw h (inl s) (subst (λ n. Q n ≡ true) (the_pair v w (omega arith) (omega arith)) p))
            (λ (h : w ≤ v). up w v hw hv (omega arith) (inr s) (subst (λ n. Q n ≡ true) (the_pair w v (omega arith) (omega arith)) p))
            (cases_lt v w)
          where
            the_pair : (a b : ℕ) → min v w ≡ a → max v w ≡ b → ◌≡◌ {A = ℕ × ℕ} (c * R + min v w, c * R + max v w) (c * R + a, c * R + b)
            the_pair a b x y = ap₂ (λ m n. (c * R + m, c * R + n)) x y

        within : some Q (cond (eqb v w) [] ((c * R + min v w, c * R + max v w) ∷ [])) ≡ true → Preceding Q
        within p = elim (cases_Bool (eqb v w)) [
          | inl h ↦ absurd (both_ways false refl (ap (some Q) (sym (cond-true (eqb v w) [] ((c * R + min v w, c * R + max v w) ∷ []) h)) ∙ p))
          | inr h ↦ ⊎_elim (λ q. apart (eqb-false v w h) q) (λ q. absurd (both_ways false refl q))
              (or_cases (Q (c * R + min v w, c * R + max v w)) false (ap (some Q) (sym (cond-false (eqb v w) [] ((c * R + min v w, c * R + max v w) ∷ []) h)) ∙ p))
        ]

    pub from_pairs : some Q (all_pairs l) ≡ true → Preceding Q
    from_pairs e =
        let v = some_at (λ v. some Q (row_pairs l v)) R (some_joined Q (row_pairs l) (upto R) e) in
        let w = some_member (λ w. some Q (link_pairs R T v.0 w)) (row_part l.pattern l.pattern.columns v.0) (some_joined Q (link_pairs R T v.0) (row_part l.pattern l.pattern.columns v.0) v.2) in
        let c = some_at (λ c. some Q (sweep_pairs R T v.0 w.0 c)) T (some_joined Q (sweep_pairs R T v.0 w.0) (upto T) w.2) in
        in_sweep v.0 w.0 c.0 v.1 c.1 w.1 c.2

    -- an entry's pairs are among all
    give : (v w c : ℕ) → v < R → c < T → stores l.pattern v w ≡ true → some Q (sweep_pairs R T v w c) ≡ true → some Q (all_pairs l) ≡ true
    give v w c hv hc s e =
        joined_some Q (row_pairs l) (upto R) (some_from (λ v. some Q (row_pairs l v)) R v hv
        (joined_some Q (link_pairs R T v) (row_part l.pattern l.pattern.columns v) (member_some (λ w. some Q (link_pairs R T v w)) (row_part l.pattern l.pattern.columns v) w s
        (joined_some Q (sweep_pairs R T v w) (upto T) (some_from (λ c. some Q (sweep_pairs R T v w c)) T c hc e)))))

    module _ (v w c : ℕ) where
      abbrev ahead : List (ℕ × ℕ)
      ahead = (c * R + v, (c + 1) * R + w) ∷ (c * R + w, (c + 1) * R + v) ∷ []

      abbrev level : List (ℕ × ℕ)
      level = (c * R + min v w, c * R + max v w) ∷ []

      give_ahead : v < R → suc c < T → stores l.pattern v w ≡ true → some Q ahead ≡ true → some Q (all_pairs l) ≡ true
      give_ahead hv h s e = give v w c hv (omega arith) s (some_front Q (cond (ltb (c + 1) T) ahead []) (cond (eqb v w) [] level) (ap (some Q) (cond-true (ltb (c + 1) T) ahead [] (lt-ltb _ _ (omega arith))) ∙ e))

      give_level : v < R → c < T → (v ≡ w → ⊥) → stores l.pattern v w ≡ true → some Q level ≡ true → some Q (all_pairs l) ≡ true
      give_level hv h ne s e = give v w c hv h s (some_back Q (cond (ltb (c + 1) T) ahead []) (cond (eqb v w) [] level) (ap (some Q) (cond-false (eqb v w) [] level (ne_eqb v w ne)) ∙ e))

    pub to_pairs : (c i d j : ℕ) → c < T → i < R → d < T → j < R → precedes l c i d j ≡ true → Q (c * R + i, d * R + j) ≡ true → some Q (all_pairs l) ≡ true
    to_pairs c i d j hc hi hd hj p q = ⊎_elim
        (λ a. let r = and_parts (eqb d (suc c)) _ a in across (eqb-true _ _ r.0) (or_cases (eqb i j) (linked l.pattern i j) r.1))
        (λ a. let r = and_parts (eqb d c) _ a in let s = and_parts (linked l.pattern i j) _ r.1 in within (eqb-true _ _ r.0) (ltb-true _ _ s.1) s.0)
        (or_cases (onward c i d j) (beside c i d j) p)
      where
        linked_parts : linked l.pattern i j ≡ true → (stores l.pattern i j ≡ true) ⊎ (stores l.pattern j i ≡ true)
        linked_parts e = or_cases (stores l.pattern i j) (stores l.pattern j i) (and_parts (not (eqb i j)) _ e).1

        across : d ≡ suc c → (eqb i j ≡ true) ⊎ (linked l.pattern i j ≡ true) → some Q (all_pairs l) ≡ true
        across e s =
            let q' : Q (c * R + i, (c + 1) * R + j) ≡ true = subst (λ n. Q (c * R + i, n) ≡ true) (ap (λ n. n * R + j) e ∙ omega arith) q in
            let h : suc c < T = subst (λ n. n < T) e hd in
            ⊎_elim
            (λ a. ahead_of (subst (λ n. stores l.pattern i n ≡ true) (eqb-true i j a) (own_stored layer l.pattern ok i hi)) h q')
            (λ a. ⊎_elim (λ b. ahead_of b h q') (λ b. behind_of b h q') (linked_parts a)) s
          where
            ahead_of : stores l.pattern i j ≡ true → suc c < T → Q (c * R + i, (c + 1) * R + j) ≡ true → some Q (all_pairs l) ≡ true
            ahead_of b h x = give_ahead i j c hi h b (or_left (Q (c * R + i, (c + 1) * R + j)) _ x)

            behind_of : stores l.pattern j i ≡ true → suc c < T → Q (c * R + i, (c + 1) * R + j) ≡ true → some Q (all_pairs l) ≡ true
            behind_of b h x = give_ahead j i c hj h b (or_right (Q (c * R + j, (c + 1) * R + i)) _ (or_left (Q (c * R + i, (c + 1) * R + j)) false x))

        within : d ≡ c → i < j → linked l.pattern i j ≡ true → some Q (all_pairs l) ≡ true
        within e h s =
            let q' : Q (c * R + i, c * R + j) ≡ true = subst (λ n. Q (c * R + i, n * R + j) ≡ true) e q in
            ⊎_elim
            (λ b. give_level i j c hi hc (omega arith) b (or_left (Q (c * R + min i j, c * R + max i j)) false (subst (λ n. Q n ≡ true) (the_pair i j (omega arith) (omega arith)) q')))
            (λ b. give_level j i c hj hc (omega arith) b (or_left (Q (c * R + min j i, c * R + max j i)) false (subst (λ n. Q n ≡ true) (the_pair j i (omega arith) (omega arith)) q')))
            (linked_parts s)
          where
            the_pair : (v w : ℕ) → i ≡ min v w → j ≡ max v w → ◌≡◌ {A = ℕ × ℕ} (c * R + i, c * R + j) (c * R + min v w, c * R + max v w)
            the_pair v w x y = ap₂ (λ m n. (c * R + m, c * R + n)) x y
