-- Marking by one sweep more gives the marks of the sweeps with it. Assumes nothing.
use Rattle.std.proofs.Common.{◌≡◌, ℕ, zero, suc, ◌+◌, ◌-◌, ◌<◌, ◌≤◌, true, false, cond, ◌&&◌, ◌||◌, eqb, ltb, ◌⊎◌, List, [], ◌∷◌, ◌++◌, map, length, take, drop, replicate, sym, refl, ap, ◌∙◌, inl, inr, ⊎_elim, arith}
use lib.ListN.{length-replicate}
use Rattle.std.specs.List.{range_with_len, flat_map}
use Rattle.std.proofs.lemmas.List.FromFn.{fill_by_all}
use Rattle.std.proofs.ByRecursion.{All-get_or}
use Rattle.std.proofs.lemmas.List.{length-map, get_or-map, get_or-drop, ext_get_or}
use Rattle.std.proofs.lemmas.Bool.{cases_order, cases_Bool, and_from, or_left, lt-ltb, le-ltb, eq-eqb, ne_eqb, not_from_false, cond-true, cond-false}
use Rattle.checks.specs.Lists.{at, some}
use Rattle.matrix.specs.Patterns.{Pattern, row_part, stores, linked}
use Rattle.growing.specs.declared.direction.Direction.{Direction}
use Rattle.growing.specs.Growing.{before, mark, marks_of}
use Rattle.growing.specs.Directions.{added}
use Rattle.growing.specs.Marks.{Sound, remark, remarked, remarked_all}
use Rattle.growing.proofs.Orders.{some_at, linked_back, before_added, none_before}
use Rattle.growing.proofs.Rows.{all_row, length_row, length_row_is, length_joined, row_joined}

joined_same : {X : Type 0} (f h : ℕ → List X) (a n : ℕ) → ((v : ℕ) → a ≤ v → v < a + n → f v ≡ h v) → flat_map f (range_with_len a n) ≡ flat_map h (range_with_len a n)
joined_same f h a zero e = refl
joined_same f h a (suc n) e = ap (λ t. t ++ flat_map f (range_with_len (a + 1) n)) (e a (omega arith) (omega arith)) ∙ ap (λ t. h a ++ t) (joined_same f h (a + 1) n (λ v l q. e v (omega arith) (omega arith)))

module _ (d : Direction) (m : Pattern) (g : List ℕ) (grown : List (List ℕ)) (keeps : (v w : ℕ) → v < m.rows → w < m.rows → before m grown v w ≡ true → at g v ≤ at g w) where
  -- where the new sweep does not say that v comes before w, it is as before
  before_kept : (v w : ℕ) → at g w ≤ at g v → before m (added d g grown) v w ≡ before m grown v w
  before_kept v w l = before_added m d g grown v w ∙ ap (λ b. linked m v w && (b || some (λ h. ltb (at h v) (at h w)) grown)) (le-ltb (at g v) (at g w) l)

  before_new : (v w : ℕ) → linked m v w ≡ true → at g v < at g w → before m (added d g grown) v w ≡ true
  before_new v w k l = before_added m d g grown v w ∙ and_from (linked m v w) _ k (or_left (ltb (at g v) (at g w)) _ (lt-ltb (at g v) (at g w) l))

  never_before : (v w : ℕ) → v < m.rows → w < m.rows → at g w < at g v → before m grown v w ≡ false
  never_before v w lv lw l = ⊎_elim (λ t. let k = keeps v w lv lw t in absurd (omega arith)) (λ f. f) (cases_Bool (before m grown v w))

  mark_added : (v w : ℕ) → v < m.rows → w < m.rows → stores m v w ≡ true → mark m (added d g grown) v w ≡ remark (at g v) (at g w) (mark m grown v w)
  mark_added v w lv lw st = go (cases_order (at g v) (at g w))
    where
      differ : (at g v ≡ at g w → ⊥) → linked m v w ≡ true
      differ ne = and_from _ _ (not_from_false _ (ne_eqb v w (λ e. ne (ap (at g) e)))) (or_left (stores m v w) (stores m w v) st)

      go : (at g v ≡ at g w) ⊎ ((at g v < at g w) ⊎ (at g w < at g v)) → mark m (added d g grown) v w ≡ remark (at g v) (at g w) (mark m grown v w)
      go (inl e) =
          ap (λ b. cond b 1 (cond (before m (added d g grown) w v) 2 0)) (before_kept v w (omega arith)) ∙ ap (λ b. cond (before m grown v w) 1 (cond b 2 0)) (before_kept w v (omega arith))
          ∙ sym (cond-false _ _ _ (le-ltb (at g v) (at g w) (omega arith)) ∙ cond-false _ _ _ (le-ltb (at g w) (at g v) (omega arith)))
      go (inr (inl l)) = cond-true _ _ _ (before_new v w (differ (λ e. omega arith)) l) ∙ sym (cond-true _ _ _ (lt-ltb (at g v) (at g w) l))
      go (inr (inr l)) =
          cond-false _ _ _ (before_kept v w (omega arith) ∙ never_before v w lv lw l) ∙ cond-true _ _ _ (before_new w v (linked_back m v w (differ (λ e. omega arith))) l)
          ∙ sym (cond-false _ _ _ (le-ltb (at g v) (at g w) (omega arith)) ∙ cond-true _ _ _ (lt-ltb (at g w) (at g v) l))

  module _ (s : Sound m) (marks : List ℕ) (rows : (v : ℕ) → v < m.rows → row_part m marks v ≡ map (mark m grown v) (row_part m m.columns v)) where
    row_remarked : (v : ℕ) → v < m.rows → remarked g v (row_part m m.columns v) (row_part m marks v) ≡ map (mark m (added d g grown) v) (row_part m m.columns v)
    row_remarked v lv =
        let cols = row_part m m.columns v in
        sym (fill_by_all (λ e. remark (at g v) (at g (at cols e)) (at (row_part m marks v) e)) (map (mark m (added d g grown) v) cols) (length cols) 0 (length-map cols (mark m (added d g grown) v))
        (λ e l.
        get_or-map (mark m (added d g grown) v) cols e 0 0 l
        ∙ mark_added v (at cols e) lv (All-get_or (λ w. w < m.rows) cols e 0 l (all_row m v (λ w. w < m.rows) m.columns s.inside)) (some_at (eqb (at cols e)) cols e 0 l (eq-eqb (at cols e) (at cols e) refl))
        ∙ ap (remark (at g v) (at g (at cols e))) (sym (ap (λ t. at t e) (rows v lv) ∙ get_or-map (mark m grown v) cols e 0 0 l))))

    pub remarked_is : remarked_all m g marks ≡ marks_of m (added d g grown)
    remarked_is = joined_same _ _ 0 m.rows (λ v l q. row_remarked v (omega arith))

module _ (m : Pattern) (s : Sound m) where
  row_long : (grown : List (List ℕ)) (v : ℕ) → v < m.rows → length (map (mark m grown v) (row_part m m.columns v)) ≡ at m.starts (v + 1) - at m.starts v
  row_long grown v l = length-map (row_part m m.columns v) (mark m grown v) ∙ length_row_is m s m.columns v l refl

  pub marks_rows : (grown : List (List ℕ)) (marks : List ℕ) → marks ≡ marks_of m grown → (v : ℕ) → v < m.rows → row_part m marks v ≡ map (mark m grown v) (row_part m m.columns v)
  marks_rows grown marks e v l = ap (λ t. row_part m t v) e ∙ row_joined m s (λ u. map (mark m grown u) (row_part m m.columns u)) (row_long grown) v l

  pub length_marks : (grown : List (List ℕ)) (marks : List ℕ) → marks ≡ marks_of m grown → length marks ≡ length m.columns
  length_marks grown marks e = ap length e ∙ length_joined m s (λ u. map (mark m grown u) (row_part m m.columns u)) (row_long grown) m.rows (omega arith) ∙ s.ends

  at_zeros : (n i : ℕ) → at (replicate n 0) i ≡ 0
  at_zeros zero i = refl
  at_zeros (suc n) zero = refl
  at_zeros (suc n) (suc i) = at_zeros n i

  -- marks that are all 0 are those before any sweep is grown
  pub zeros_rows : (v : ℕ) → row_part m (replicate (length m.columns) 0) v ≡ map (mark m [] v) (row_part m m.columns v)
  zeros_rows v =
      let zeros : List ℕ = replicate (length m.columns) 0 in
      let cols = row_part m m.columns v in
      let n : length (row_part m zeros v) ≡ length cols = length_row m v zeros m.columns (length-replicate (length m.columns) 0) in
      ext_get_or 0 (row_part m zeros v) (map (mark m [] v) cols) (n ∙ sym (length-map cols (mark m [] v)))
      (λ i l. part_zero v i ∙ sym (get_or-map (mark m [] v) cols i 0 0 (omega arith) ∙ cond-false _ _ _ (none_before m v (at cols i)) ∙ cond-false _ _ _ (none_before m (at cols i) v)))
    where
      take_zero : (xs : List ℕ) (k i : ℕ) → ((j : ℕ) → at xs j ≡ 0) → at (take k xs) i ≡ 0
      take_zero xs zero i h = refl
      take_zero [] (suc k) i h = refl
      take_zero (x ∷ xs) (suc k) zero h = h 0
      take_zero (x ∷ xs) (suc k) (suc i) h = take_zero xs k i (λ j. h (suc j))

      part_zero : (v i : ℕ) → at (row_part m (replicate (length m.columns) 0) v) i ≡ 0
      part_zero v i =
          let zeros : List ℕ = replicate (length m.columns) 0 in
          let a = at m.starts v in
          take_zero (drop a zeros) (at m.starts (v + 1) - a) i (λ j. get_or-drop a zeros j 0 ∙ at_zeros (length m.columns) (a + j))
