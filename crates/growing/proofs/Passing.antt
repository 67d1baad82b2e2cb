-- Passes that end where one moves nothing end at the next sweep. Assumes nothing.
use Rattle.std.proofs.Common.{◌≡◌, ℕ, zero, suc, ◌+◌, ◌<◌, ◌≤◌, Bool, true, false, cond, eqb, ◌⊎◌, List, [], ◌∷◌, map, length, fold, sym, refl, ap, ◌∙◌, subst, inl, inr, ⊎_elim, arith}
use Rattle.std.specs.List.{range_with_len, AllByRecursion as All}
use Rattle.std.proofs.ByRecursion.{All-get_or}
use Rattle.std.proofs.lemmas.List.{ext_get_or, get_or-map}
use Rattle.std.proofs.lemmas.Bool.{cases_eq, or_cases, and_parts, eqb-true, cond-true, cond-false, false≢true}
use Rattle.checks.specs.Lists.{at, some}
use Rattle.matrix.specs.Patterns.{Pattern, row_part, stores}
use Rattle.growing.specs.declared.direction.Direction.{Direction}
use Rattle.growing.specs.declared.direction.Direction.TheVariants.{Down, Up}
use Rattle.growing.specs.Growing.{mark}
use Rattle.growing.specs.Greatest.{Tiles, OneWay}
use Rattle.growing.specs.Directions.{Better, pair_of, next, row_first, column_first_of}
use Rattle.growing.specs.Passes.{pulled, entry_step, place, row_entry, row_step, pass_row, pass}
use Rattle.growing.proofs.Betters as better
use Rattle.growing.proofs.Settle.{Meets, settled_one}
use Rattle.growing.proofs.Grows.{next_settled}
use Rattle.growing.proofs.Pairs.{length_pulled, comes, entry_row, entry_column, entry_none}
use Rattle.growing.proofs.Places.{place_below, place_back}
use Rattle.growing.proofs.Rows.{all_row}

-- ---- folds of steps that only make tiles better

Moves : Direction → ℕ → List ℕ → List ℕ → Type 0
Moves d n g h = (length h ≡ n) × ((u : ℕ) → Better d (at h u) (at g u))

module _ (d : Direction) (n c : ℕ) (f : List ℕ → ℕ → List ℕ) (moves : (g : List ℕ) (x : ℕ) → x < c → length g ≡ n → Moves d n g (f g x)) where
  fold_moves : (a k : ℕ) → a + k ≤ c → (g : List ℕ) → length g ≡ n → Moves d n g (fold f g (range_with_len a k))
  unfolding Moves
  fold_moves a zero p g e = (e, λ u. better.same d (at g u))
  fold_moves a (suc k) p g e =
      let s = moves g a (omega arith) e in
      let r = fold_moves (a + 1) k (omega arith) (f g a) s.0 in
      (r.0, λ u. better.chain d (at (fold f (f g a) (range_with_len (a + 1) k)) u) (at (f g a) u) (at g u) (r.1 u) (s.1 u))

  -- where all of them together move nothing, none does
  fold_still : (a k : ℕ) → a + k ≤ c → (g : List ℕ) → length g ≡ n → fold f g (range_with_len a k) ≡ g → (x : ℕ) → a ≤ x → x < a + k → f g x ≡ g
  unfolding Moves
  fold_still a zero p g e h x l q = absurd (omega arith)
  fold_still a (suc k) p g e h x l q =
      let s = moves g a (omega arith) e in
      let r = fold_moves (a + 1) k (omega arith) (f g a) s.0 in
      let same : f g a ≡ g = ext_get_or 0 (f g a) g (s.0 ∙ sym e)
      (λ u lu. better.only d (at (f g a) u) (at g u) (s.1 u) (subst (λ t. Better d (at t u) (at (f g a) u)) h (r.1 u))) in
      ⊎_elim (λ i. subst (λ y. f g y ≡ g) i same)
      (λ i. fold_still (a + 1) k (omega arith) g e (sym (ap (λ t. fold f t (range_with_len (a + 1) k)) same) ∙ h) x (omega arith) (omega arith)) (cases_eq a x)

module _ (c : ℕ) (f : List ℕ → ℕ → List ℕ) (Q : List ℕ → Type 0) (keeps : (g : List ℕ) (x : ℕ) → x < c → Q g → Q (f g x)) where
  fold_keeps : (a k : ℕ) → a + k ≤ c → (g : List ℕ) → Q g → Q (fold f g (range_with_len a k))
  fold_keeps a zero p g q = q
  fold_keeps a (suc k) p g q = fold_keeps (a + 1) k (omega arith) (f g a) (keeps g a (omega arith) q)

some_place : (p : ℕ → Bool) (xs : List ℕ) → some p xs ≡ true → (i : ℕ) × (i < length xs) × (p (at xs i) ≡ true)
some_place p [] e = absurd (false≢true e)
some_place p (x ∷ xs) e = ⊎_elim (λ h. (0, omega arith, h)) (λ h. let r = some_place p xs h in (suc r.0, omega (arith, r.1), r.2)) (or_cases (p x) (some p xs) e)

-- ---- marks and pairs

mark_one : (a b : Bool) → ◌≡◌ {A = ℕ} (cond a 1 (cond b 2 0)) 1 → a ≡ true
mark_one true b e = refl
mark_one false true e = absurd (omega arith)
mark_one false false e = absurd (omega arith)

mark_two : (a b : Bool) → ◌≡◌ {A = ℕ} (cond a 1 (cond b 2 0)) 2 → b ≡ true
mark_two true b e = absurd (omega arith)
mark_two false true e = refl
mark_two false false e = absurd (omega arith)

module _ (m : Pattern) (grown : List (List ℕ)) (v w : ℕ) where
  row_pair : (d : Direction) → mark m grown v w ≡ row_first d → pair_of d m grown v w ≡ true
  row_pair Down e = mark_one _ _ e
  row_pair Up e = mark_two _ _ e

  column_pair : (d : Direction) → mark m grown v w ≡ column_first_of d → pair_of d m grown w v ≡ true
  column_pair Down e = mark_two _ _ e
  column_pair Up e = mark_one _ _ e

  module _ (one : OneWay m grown) (lv : v < m.rows) (lw : w < m.rows) where
    pair_row : (d : Direction) → pair_of d m grown v w ≡ true → mark m grown v w ≡ row_first d
    pair_row Down e = cond-true _ _ _ e
    pair_row Up e = cond-false _ _ _ (one w v lw lv e) ∙ cond-true _ _ _ e

    pair_column : (d : Direction) → pair_of d m grown v w ≡ true → mark m grown w v ≡ column_first_of d
    pair_column Down e = cond-false _ _ _ (one v w lv lw e) ∙ cond-true _ _ _ e
    pair_column Up e = cond-true _ _ _ e

pair_linked : (d : Direction) (m : Pattern) (grown : List (List ℕ)) (v w : ℕ) → pair_of d m grown v w ≡ true → (stores m v w ≡ true) ⊎ (stores m w v ≡ true)
pair_linked Down m grown v w e = or_cases _ _ (and_parts _ _ (and_parts _ _ e).0).1
pair_linked Up m grown v w e = ⊎_elim inr inl (or_cases _ _ (and_parts _ _ (and_parts _ _ e).0).1)

-- the marks of every row are those of the sweeps grown so far
pub record Marked (m : Pattern) (grown : List (List ℕ)) (marks : List ℕ) : Type 0 where
  pub rows : (v : ℕ) → v < m.rows → row_part m marks v ≡ map (mark m grown v) (row_part m m.columns v)
  pub one_way : OneWay m grown

module _ (d : Direction) (m : Pattern) (inside : All (λ w. w < m.rows) m.columns) (grown : List (List ℕ)) (marks near : List ℕ) (k : Marked m grown marks) where
  column_of : ℕ → ℕ → ℕ
  column_of v e = at (row_part m m.columns v) e

  column_inside : (v e : ℕ) → e < length (row_part m m.columns v) → column_of v e < m.rows
  unfolding column_of
  column_inside v e l = All-get_or (λ w. w < m.rows) (row_part m m.columns v) e 0 l (all_row m v (λ w. w < m.rows) m.columns inside)

  mark_of : (v e : ℕ) → v < m.rows → e < length (row_part m m.columns v) → at (row_part m marks v) e ≡ mark m grown v (column_of v e)
  unfolding column_of
  mark_of v e lv l = ap (λ t. at t e) (k.rows v lv) ∙ get_or-map (mark m grown v) (row_part m m.columns v) e 0 0 l

  -- one entry, one row, one pass
  entry_moves : (v w i : ℕ) → v < m.rows → w < m.rows → (g : List ℕ) → length g ≡ m.rows → Moves d m.rows g (entry_step d near v g w i)
  unfolding Moves
  entry_moves v w i lv lw g lg = go (cases_eq i (row_first d)) (cases_eq i (column_first_of d))
    where
      pair : (a b : ℕ) → a < m.rows → b < m.rows → Moves d m.rows g (pulled d near g a b)
      pair a b la lb = (length_pulled d near g a b (omega arith) (omega arith) ∙ lg, λ u. (comes d near g a b (omega arith) (omega arith) u).moves)

      go : (i ≡ row_first d) ⊎ (i ≡ row_first d → ⊥) → (i ≡ column_first_of d) ⊎ (i ≡ column_first_of d → ⊥) → Moves d m.rows g (entry_step d near v g w i)
      go (inl a) b = subst (Moves d m.rows g) (sym (entry_row d near v g w i a)) (pair v w lv lw)
      go (inr a) (inl b) = subst (Moves d m.rows g) (sym (entry_column d near v g w i b)) (pair w v lw lv)
      go (inr a) (inr b) = subst (Moves d m.rows g) (sym (entry_none d near v g w i a b)) (lg, λ u. better.same d (at g u))

  module _ (backward : Bool) where
    row_turn : (v : ℕ) → List ℕ → ℕ → List ℕ
    row_turn v g i = row_entry d backward v (row_part m m.columns v) (row_part m marks v) near g i

    turn_moves : (v : ℕ) → v < m.rows → (g : List ℕ) (i : ℕ) → i < length (row_part m m.columns v) → length g ≡ m.rows → Moves d m.rows g (row_turn v g i)
    unfolding row_turn column_of
    turn_moves v lv g i l lg =
        let e = place backward (length (row_part m m.columns v)) i in
        entry_moves v (at (row_part m m.columns v) e) (at (row_part m marks v) e) lv (column_inside v e (place_below backward (length (row_part m m.columns v)) i l)) g lg

    row_moves : (g : List ℕ) (i : ℕ) → i < m.rows → length g ≡ m.rows → Moves d m.rows g (pass_row d backward m marks near g i)
    unfolding row_step row_turn
    row_moves g i l lg =
        let v = place backward m.rows i in
        let n = length (row_part m m.columns v) in
        fold_moves d m.rows n (row_turn v) (turn_moves v (place_below backward m.rows i l)) 0 n (omega arith) g lg

    pass_moves : (g : List ℕ) → length g ≡ m.rows → Moves d m.rows g (pass d backward m marks near g)
    unfolding pass
    pass_moves g lg = fold_moves d m.rows m.rows (pass_row d backward m marks near) row_moves 0 m.rows (omega arith) g lg

    -- a pass that moves nothing leaves each entry, and so each pair, as it is
    entry_still : (g : List ℕ) → length g ≡ m.rows → pass d backward m marks near g ≡ g → (v e : ℕ) → v < m.rows → e < length (row_part m m.columns v) → entry_step d near v g (column_of v e) (at (row_part m marks v) e) ≡ g
    unfolding pass row_step row_turn column_of
    entry_still g lg h v e lv le =
        let n = length (row_part m m.columns v) in
        let r : row_step d backward v (row_part m m.columns v) (row_part m marks v) near g ≡ g =
        subst (λ u. row_step d backward u (row_part m m.columns u) (row_part m marks u) near g ≡ g) (place_back backward m.rows v lv)
        (fold_still d m.rows m.rows (pass_row d backward m marks near) row_moves 0 m.rows (omega arith) g lg h (place backward m.rows v) (omega arith) (omega (arith, place_below backward m.rows v lv))) in
        subst (λ j. entry_step d near v g (at (row_part m m.columns v) j) (at (row_part m marks v) j) ≡ g) (place_back backward n e le)
        (fold_still d m.rows n (row_turn v) (turn_moves v lv) 0 n (omega arith) g lg r (place backward n e) (omega arith) (omega (arith, place_below backward n e le)))

    pair_still : (g : List ℕ) → length g ≡ m.rows → pass d backward m marks near g ≡ g → (a b : ℕ) → a < m.rows → b < m.rows → pair_of d m grown a b ≡ true → pulled d near g a b ≡ g
    unfolding column_of
    pair_still g lg h a b la lb q = ⊎_elim one two (pair_linked d m grown a b q)
      where
        one : stores m a b ≡ true → pulled d near g a b ≡ g
        one t =
            let r = some_place (eqb b) (row_part m m.columns a) t in
            let e : b ≡ at (row_part m m.columns a) r.0 = eqb-true b _ r.2 in
            let mk : at (row_part m marks a) r.0 ≡ row_first d = mark_of a r.0 la r.1 ∙ ap (mark m grown a) (sym e) ∙ pair_row m grown a b k.one_way la lb d q in
            ap (pulled d near g a) e ∙ sym (entry_row d near a g (at (row_part m m.columns a) r.0) (at (row_part m marks a) r.0) mk) ∙ entry_still g lg h a r.0 la r.1

        two : stores m b a ≡ true → pulled d near g a b ≡ g
        two t =
            let r = some_place (eqb a) (row_part m m.columns b) t in
            let e : a ≡ at (row_part m m.columns b) r.0 = eqb-true a _ r.2 in
            let mk : at (row_part m marks b) r.0 ≡ column_first_of d = mark_of b r.0 lb r.1 ∙ ap (mark m grown b) (sym e) ∙ pair_column m grown a b k.one_way la lb d q in
            ap (λ x. pulled d near g x b) e ∙ sym (entry_column d near b g (at (row_part m m.columns b) r.0) (at (row_part m marks b) r.0) mk) ∙ entry_still g lg h b r.0 lb r.1

  -- what may stand next to `near` stays behind every pass
  module _ (h : List ℕ) (meets : Meets d (pair_of d m grown) m.rows near h) where
    Behind : List ℕ → Type 0
    Behind g = (length g ≡ m.rows) × ((u : ℕ) → u < m.rows → Better d (at h u) (at g u))

    pair_keeps : (g : List ℕ) (a b : ℕ) → a < m.rows → b < m.rows → pair_of d m grown a b ≡ true → Behind g → Behind (pulled d near g a b)
    unfolding Behind Meets
    pair_keeps g a b la lb q u =
        let lg = u.0 in (
          length_pulled d near g a b (omega arith) (omega arith) ∙ lg,
          λ x lx. (comes d near g a b (omega arith) (omega arith) x).past (at h x) (u.1 x lx)
              (λ e. subst (λ y. Better d (at h y) (at near a)) (sym e) ((meets b lb).reach a la q))
              (λ e. subst (λ y. Better d (at h y) (at g b) × Better d (at h y) (at near a)) (sym e)
              (better.chain d (at h a) (at h b) (at g b) ((meets a la).order b lb q) (u.1 b lb), better.chain d (at h a) (at h b) (at near a) ((meets a la).order b lb q) ((meets b lb).reach a la q))),
        )

    entry_keeps : (v e : ℕ) → v < m.rows → e < length (row_part m m.columns v) → (g : List ℕ) → Behind g → Behind (entry_step d near v g (column_of v e) (at (row_part m marks v) e))
    entry_keeps v e lv le g u = go (cases_eq (at (row_part m marks v) e) (row_first d)) (cases_eq (at (row_part m marks v) e) (column_first_of d))
      where
        i : ℕ
        i = at (row_part m marks v) e

        lw : column_of v e < m.rows
        lw = column_inside v e le

        go : (at (row_part m marks v) e ≡ row_first d) ⊎ (at (row_part m marks v) e ≡ row_first d → ⊥) → (at (row_part m marks v) e ≡ column_first_of d) ⊎ (at (row_part m marks v) e ≡ column_first_of d → ⊥)
            → Behind (entry_step d near v g (column_of v e) (at (row_part m marks v) e))
        go (inl a) b = subst Behind (sym (entry_row d near v g (column_of v e) (at (row_part m marks v) e) a)) (pair_keeps g v (column_of v e) lv lw (row_pair m grown v (column_of v e) d (sym (mark_of v e lv le) ∙ a)) u)
        go (inr a) (inl b) = subst Behind (sym (entry_column d near v g (column_of v e) (at (row_part m marks v) e) b)) (pair_keeps g (column_of v e) v lw lv (column_pair m grown v (column_of v e) d (sym (mark_of v e lv le) ∙ b)) u)
        go (inr a) (inr b) = subst Behind (sym (entry_none d near v g (column_of v e) (at (row_part m marks v) e) a b)) u

    row_keeps : (backward : Bool) (g : List ℕ) (i : ℕ) → i < m.rows → Behind g → Behind (pass_row d backward m marks near g i)
    unfolding row_step row_turn column_of
    row_keeps backward g i l u =
        let v = place backward m.rows i in
        let n = length (row_part m m.columns v) in
        fold_keeps n (row_turn backward v) Behind (λ g j lj. entry_keeps v (place backward n j) (place_below backward m.rows i l) (place_below backward n j lj) g) 0 n (omega arith) g u

    pass_keeps : (backward : Bool) (g : List ℕ) → Behind g → Behind (pass d backward m marks near g)
    unfolding pass
    pass_keeps backward g u = fold_keeps m.rows (pass_row d backward m marks near) Behind (row_keeps backward) 0 m.rows (omega arith) g u

    passes_keep : (turns : List Bool) (g : List ℕ) → Behind g → Behind (fold (λ g backward. pass d backward m marks near g) g turns)
    passes_keep [] g u = u
    passes_keep (b ∷ bs) g u = passes_keep bs (pass d b m marks near g) (pass_keeps b g u)

  passes_move : (turns : List Bool) (g : List ℕ) → length g ≡ m.rows → Moves d m.rows g (fold (λ g backward. pass d backward m marks near g) g turns)
  unfolding Moves
  passes_move [] g e = (e, λ u. better.same d (at g u))
  passes_move (b ∷ bs) g e =
      let a = pass_moves b g e in
      let r = passes_move bs (pass d b m marks near g) a.0 in
      (r.0, λ u. better.chain d (at (fold (λ g backward. pass d backward m marks near g) (pass d b m marks near g) bs) u) (at (pass d b m marks near g) u) (at g u) (r.1 u) (a.1 u))

  -- passes from `near` that end where a pass moves nothing end at the next sweep
  pub passes_settle : (top : ℕ) → Tiles m top near → (turns : List Bool) (last : Bool) (g : List ℕ) → g ≡ fold (λ g backward. pass d backward m marks near g) near turns
      → pass d last m marks near g ≡ g → g ≡ next d m top grown near
  unfolding Behind Meets Moves
  passes_settle top t turns last g e still =
      let moves = passes_move turns near t.0 in
      let lg : length g ≡ m.rows = ap length e ∙ moves.0 in
      settled_one d (pair_of d m grown) m.rows near g (next d m top grown near)
      (record {
        size = lg;
        meets = λ v lv. record {
          own = subst (λ x. Better d (at x v) (at near v)) (sym e) (moves.1 v);
          order = λ w lw q. subst (λ x. Better d (at x v) (at g w)) (pair_still last g lg still v w lv lw q) ((comes d near g v w (omega arith) (omega arith) v).order refl);
          reach = λ u lu q. subst (λ x. Better d (at x v) (at near u)) (pair_still last g lg still u v lu lv q) ((comes d near g u v (omega arith) (omega arith) v).reach refl);
        };
        past = λ h f v lv. subst (λ x. Better d (at h v) (at x v)) (sym e) ((passes_keep h f turns near (t.0, λ u lu. (f u lu).own)).1 v lv);
      })
      (next_settled d m top grown near t)
