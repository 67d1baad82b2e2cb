-- What a pull leaves, and pulls one after another. Assumes nothing.
use Rattle.std.proofs.Common.{◌≡◌, ℕ, ◌+◌, ◌<◌, ◌≤◌, Bool, true, false, cond, eqb, ◌||◌, ◌⊎◌, Option, Some, None, List, length, set, fold, sym, refl, ap, ◌∙◌, subst, inl, inr, ⊎_elim, arith, length-set}
use Rattle.std.proofs.lemmas.List.{get_or-set_same, get_or-set_other, set-get_or}
use Rattle.std.proofs.lemmas.List.Sums.{sum_by-set, fold_push}
use Rattle.std.proofs.lemmas.Bool.{cases_eq, false≢true, or_parts, cond-true, cond-false, eq-eqb, ne_eqb}
use Rattle.checks.specs.Lists.{at, upto}
use Rattle.growing.specs.declared.direction.Direction.{Direction}
use Rattle.growing.specs.declared.direction.Direction.TheVariants.{Down, Up}
use Rattle.growing.specs.Directions.{best_of, Better, far, row_first, column_first_of, entry_pair}
use Rattle.growing.specs.Passes.{pulled, far_all, Pulls, entry_step}
use Rattle.growing.proofs.Betters as better
use Rattle.growing.proofs.Rows.{upto_more}

at_set : (g : List ℕ) (i x u : ℕ) → i < length g → ((u ≡ i) × (at (set g i x) u ≡ x)) ⊎ ((u ≡ i → ⊥) × (at (set g i x) u ≡ at g u))
at_set g i x u l = ⊎_elim (λ e. inl (e, ap (λ y. at (set g i x) y) e ∙ get_or-set_same g i x 0 l)) (λ n. inr (n, get_or-set_other g i u x 0 n)) (cases_eq u i)

module _ (d : Direction) (near g : List ℕ) (a b : ℕ) (la : a < length g) (lb : b < length g) where
  bound : ℕ
  bound = best_of d (at g b) (at near a)

  tile : ℕ
  tile = best_of d (at g a) (best_of d (at g b) (at near a))

  pub length_pulled : length (pulled d near g a b) ≡ length g
  length_pulled = length-set (set g b (best_of d (at g b) (at near a))) a (best_of d (at g a) (best_of d (at g b) (at near a))) ∙ length-set g b (best_of d (at g b) (at near a))

  la1 : a < length (set g b (best_of d (at g b) (at near a)))
  la1 = omega (arith, length-set g b (best_of d (at g b) (at near a)))

  -- where a tile comes from
  pub record Comes (u : ℕ) : Type 0 where
    pub moves : Better d (at (pulled d near g a b) u) (at g u)
    pub reach : u ≡ b → Better d (at (pulled d near g a b) u) (at near a)
    pub order : u ≡ a → Better d (at (pulled d near g a b) u) (at g b)
    pub past : (c : ℕ) → Better d c (at g u) → (u ≡ b → Better d c (at near a)) → (u ≡ a → Better d c (at g b) × Better d c (at near a)) → Better d c (at (pulled d near g a b) u)

  pub comes : (u : ℕ) → Comes u
  unfolding bound tile
  comes u =
      elim (at_set (set g b bound) a tile u la1) [
        | inl p ↦
            let from : Better d tile (at g u) = subst (λ i. Better d tile (at g i)) (sym p.0) (better.left d (at g a) bound) in
            record {
              moves = back p.1 (at g u) from;
              reach = λ _. back p.1 (at near a) (better.chain d tile bound (at near a) (better.right d (at g a) bound) (better.right d (at g b) (at near a)));
              order = λ _. back p.1 (at g b) (better.chain d tile bound (at g b) (better.right d (at g a) bound) (better.left d (at g b) (at near a)));
              past = λ c h1 h2 h3. on p.1 c (better.both d (at g a) bound c (subst (λ i. Better d c (at g i)) p.0 h1) (better.both d (at g b) (at near a) c (h3 p.0).0 (h3 p.0).1));
            }
        | inr p ↦ elim (at_set g b bound u lb) [
          | inl q ↦
              let e : at (pulled d near g a b) u ≡ bound = p.1 ∙ q.1 in
              record {
                moves = back e (at g u) (subst (λ i. Better d bound (at g i)) (sym q.0) (better.left d (at g b) (at near a)));
                reach = λ _. back e (at near a) (better.right d (at g b) (at near a));
                order = λ r. absurd (p.0 r);
                past = λ c h1 h2 h3. on e c (better.both d (at g b) (at near a) c (subst (λ i. Better d c (at g i)) q.0 h1) (h2 q.0));
              }
          | inr q ↦
              let e : at (pulled d near g a b) u ≡ at g u = p.1 ∙ q.1 in
              record { moves = back e (at g u) (better.same d (at g u)); reach = λ r. absurd (q.0 r); order = λ r. absurd (p.0 r); past = λ c h1 h2 h3. on e c h1 }
        ]
      ]
    where
      back : {x y : ℕ} → x ≡ y → (z : ℕ) → Better d y z → Better d x z
      back e z h = subst (λ i. Better d i z) (sym e) h

      on : {x y : ℕ} → x ≡ y → (c : ℕ) → Better d c y → Better d c x
      on e c h = subst (λ i. Better d c i) (sym e) h

  pulled_still : bound ≡ at g b → tile ≡ at g a → pulled d near g a b ≡ g
  unfolding bound tile
  pulled_still ex ey = ap (λ x. set (set g b x) a tile) ex ∙ ap (λ z. set z a tile) (set-get_or g b 0) ∙ ap (set g a) ey ∙ set-get_or g a 0

  -- a tile that moves has less far to go
  pulled_nearer : at g a ≤ 255 → at g b ≤ 255 → at near a ≤ 255 → (bound ≡ at g b → ⊥) ⊎ (tile ≡ at g a → ⊥) → far_all d (pulled d near g a b) < far_all d g
  unfolding bound tile
  pulled_nearer ka kb kn ne =
      let first = set g b bound in
      let p = sum_by-set (far d 255) first a tile 0 la1 in
      let q = sum_by-set (far d 255) g b bound 0 lb in
      let kx : bound ≤ 255 = better.within d 255 (at g b) (at near a) kb kn in
      let ky : tile ≤ 255 = better.within d 255 (at g a) bound ka kx in
      let fx = better.nearer d 255 bound (at g b) (better.left d (at g b) (at near a)) in
      let fy = better.nearer d 255 tile (at g a) (better.left d (at g a) bound) in
      let fz = better.nearer d 255 tile bound (better.right d (at g a) bound) in
      let some : (far d 255 bound < far d 255 (at g b)) ⊎ (far d 255 tile < far d 255 (at g a)) =
      ⊎_elim (λ n. inl (better.moved d 255 bound (at g b) (better.left d (at g b) (at near a)) kx kb n)) (λ n. inr (better.moved d 255 tile (at g a) (better.left d (at g a) bound) ky ka n)) ne in
      elim (at_set g b bound a lb) [
        | inl r ↦ let e = ap (λ i. far d 255 (at g i)) r.0 in let f = ap (far d 255) r.1 in ⊎_elim (λ l. omega arith) (λ l. omega arith) some
        | inr r ↦ let f = ap (far d 255) r.1 in ⊎_elim (λ l. omega arith) (λ l. omega arith) some
      ]

  -- the cells written by a pull
  module _ (x y : ℕ) (ka : at g a ≤ 255) (kb : at g b ≤ 255) (kn : at near a ≤ 255) (ex : x ≡ best_of d (at g b) (at near a)) (ey : y ≡ best_of d (at g a) x) where
    pub pull_pulls : (moved : Bool) → (moved ≡ false → (x ≡ at g b) × (y ≡ at g a)) → (moved ≡ true → (x ≡ at g b → ⊥) ⊎ (y ≡ at g a → ⊥)) → Pulls d (λ g. pulled d near g a b) moved g (set (set g b x) a y)
    unfolding bound tile
    pull_pulls moved f t =
        let by : y ≡ best_of d (at g a) (best_of d (at g b) (at near a)) = ey ∙ ap (best_of d (at g a)) ex in
        let is : set (set g b x) a y ≡ pulled d near g a b = ap (λ i. set (set g b i) a y) ex ∙ ap (λ i. set (set g b (best_of d (at g b) (at near a))) a i) by in
        record {
          is_put = is;
          still = λ e. let p = f e in is ∙ pulled_still (sym ex ∙ p.0) (sym by ∙ p.1);
          nearer = λ e. subst (λ z. far_all d z < far_all d g) (sym is) (pulled_nearer ka kb kn (⊎_elim (λ q. inl (λ z. q (ex ∙ z))) (λ q. inr (λ z. q (by ∙ z))) (t e)));
        }

module _ (d : Direction) where
  pub pulls_none : (x : List ℕ) → Pulls d (λ g. g) false x x
  pulls_none x = record { is_put = refl; still = λ _. refl; nearer = λ e. absurd (false≢true e) }

  -- a step under another name
  pub pulls_as : (f h : List ℕ → List ℕ) (b : Bool) (x y : List ℕ) → f x ≡ h x → Pulls d f b x y → Pulls d h b x y
  pulls_as f h b x y e p = record { is_put = p.is_put ∙ e; still = p.still; nearer = p.nearer }

  -- what it leaves under other names
  pub pulls_at : (f : List ℕ → List ℕ) (x : List ℕ) {b c : Bool} {y z : List ℕ} → c ≡ b → z ≡ y → Pulls d f b x y → Pulls d f c x z
  pulls_at f x {b} {c} {y} {z} e i p = subst (λ t. Pulls d f t x z) (sym e) (subst (λ t. Pulls d f b x t) (sym i) p)

  -- one step more, and whether either moved
  pub pulls_then : (f h : List ℕ → List ℕ) (b c : Bool) (x y z : List ℕ) → Pulls d f b x y → Pulls d h c y z → Pulls d (λ g. h (f g)) (b || c) x z
  pulls_then f h b c x y z p q = record {
    is_put = q.is_put ∙ ap h p.is_put;
    still = λ k. let t = or_parts b c k in q.still t.1 ∙ p.still t.0;
    nearer = λ k. by b c refl refl k;
  }
    where
      by : (b' c' : Bool) → b ≡ b' → c ≡ c' → (b' || c') ≡ true → far_all d z < far_all d x
      by true true eb ec k = let i = p.nearer eb in let j = q.nearer ec in omega arith
      by true false eb ec k = let i = p.nearer eb in let j = ap (far_all d) (q.still ec) in omega arith
      by false true eb ec k = let i = ap (far_all d) (p.still eb) in let j = q.nearer ec in omega arith
      by false false eb ec k = absurd (false≢true k)

  -- a loop's step: the i-th of a list of steps
  pub pulls_more : (f : List ℕ → ℕ → List ℕ) (i : ℕ) (b c : Bool) (x y z : List ℕ) → Pulls d (λ g. fold f g (upto i)) b x y → Pulls d (λ g. f g i) c y z → Pulls d (λ g. fold f g (upto (i + 1))) (b || c) x z
  pulls_more f i b c x y z p q =
      pulls_as (λ g. f (fold f g (upto i)) i) (λ g. fold f g (upto (i + 1))) (b || c) x z
      (sym (ap (fold f x) (upto_more i) ∙ fold_push f x (upto i) i))
      (pulls_then (λ g. fold f g (upto i)) (λ g. f g i) b c x y z p q)

module _ (d : Direction) (near : List ℕ) (row : ℕ) (g : List ℕ) (column mark : ℕ) where
  apart : row_first d ≡ column_first_of d → ⊥
  apart = go d
    where
      go : (d : Direction) → row_first d ≡ column_first_of d → ⊥
      go Down e = omega arith
      go Up e = omega arith

  pub entry_row : mark ≡ row_first d → entry_step d near row g column mark ≡ pulled d near g row column
  unfolding entry_step
  entry_row e = cond-true _ _ _ (eq-eqb mark (row_first d) e)

  pub entry_column : mark ≡ column_first_of d → entry_step d near row g column mark ≡ pulled d near g column row
  unfolding entry_step
  entry_column e = cond-false _ _ _ (ne_eqb mark (row_first d) (λ q. apart (sym q ∙ e))) ∙ cond-true _ _ _ (eq-eqb mark (column_first_of d) e)

  pub entry_none : (mark ≡ row_first d → ⊥) → (mark ≡ column_first_of d → ⊥) → entry_step d near row g column mark ≡ g
  unfolding entry_step
  entry_none p q = cond-false _ _ _ (ne_eqb mark (row_first d) p) ∙ cond-false _ _ _ (ne_eqb mark (column_first_of d) q)

  -- a pair, or none, pulls
  by_pair : Option (ℕ × ℕ) → List ℕ
  by_pair None = g
  by_pair (Some p) = pulled d near g p.0 p.1

  entry_by : by_pair (entry_pair d row column mark) ≡ entry_step d near row g column mark
  unfolding entry_step by_pair
  entry_by = go (eqb mark (row_first d)) (eqb mark (column_first_of d))
    where
      go : (p q : Bool) → by_pair (cond p (Some (row, column)) (cond q (Some (column, row)) None)) ≡ cond p (pulled d near g row column) (cond q (pulled d near g column row) g)
      go true q = refl
      go false true = refl
      go false false = refl

  pub entry_pulls : (p : ℕ × ℕ) → entry_pair d row column mark ≡ Some p → pulled d near g p.0 p.1 ≡ entry_step d near row g column mark
  unfolding by_pair
  entry_pulls p e = ap by_pair (sym e) ∙ entry_by

  pub entry_idle : entry_pair d row column mark ≡ None → g ≡ entry_step d near row g column mark
  unfolding by_pair
  entry_idle e = ap by_pair (sym e) ∙ entry_by
