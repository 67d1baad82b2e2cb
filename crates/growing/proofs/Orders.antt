-- The order of the rows: it never holds both ways, so that linked rows never cross; and no row's tile falls. Assumes nothing.
use Rattle.std.proofs.Common.{◌≡◌, ℕ, zero, suc, ◌+◌, ◌-◌, ◌<◌, ◌≤◌, Bool, true, false, not, ◌&&◌, ◌||◌, eqb, ltb, ◌⊎◌, List, [], ◌∷◌, ◌++◌, length, get_or, take, sym, refl, ap, ◌∙◌, subst, inl, inr, ⊎_elim, add-zero, arith}
use Rattle.std.specs.List.{between, AllByRecursion as All}
use Rattle.std.proofs.lemmas.List.Edits.{length-between, get_or-between}
use Rattle.std.proofs.ByRecursion.{All-get_or, All-push}
use Rattle.std.proofs.lemmas.List.{get_or-take, length-take-le}
use Rattle.std.proofs.lemmas.Bool.{cases_lt, cases_Bool, and_parts, and_from, or_cases, or_left, or_right, ltb-true, lt-ltb, and_right, both_ways, not-true, not_from_false, eqb-false, ne_eqb}
use Rattle.checks.specs.Lists.{at, some}
use Rattle.matrix.specs.Patterns.{Pattern, stores, linked}
use Rattle.growing.specs.declared.direction.Direction.{Direction}
use Rattle.growing.specs.declared.direction.Direction.TheVariants.{Down, Up}
use Rattle.growing.specs.Growing.{before, lower, raise, down, up, sweeps}
use Rattle.growing.specs.Greatest.{Tiles, FitsAbove, Grown, OneWay, NeverFalls, NeverCross, NeverAhead, OfAllGrown, TilesStay}
use Rattle.growing.specs.Directions.{next, added}
use Rattle.growing.proofs.Grows.{next_tiles, next_order}
use Rattle.growing.proofs.Whole.{sweeps_are_grown}

or_swap : (a b c : Bool) → (a || (b || c)) ≡ (b || (a || c))
or_swap true true c = refl
or_swap true false c = refl
or_swap false true c = refl
or_swap false false c = refl

or_both : (a b : Bool) → (a || b) ≡ (b || a)
or_both true true = refl
or_both true false = refl
or_both false true = refl
or_both false false = refl

some_push : {X : Type 0} (p : X → Bool) (xs : List X) (y : X) → some p (xs ++ y ∷ []) ≡ (p y || some p xs)
some_push p [] y = refl
some_push p (x ∷ xs) y = ap (λ b. p x || b) (some_push p xs y) ∙ or_swap (p x) (p y) (some p xs)

pub some_at : {X : Type 0} (p : X → Bool) (xs : List X) (i : ℕ) (d : X) → i < length xs → p (get_or xs i d) ≡ true → some p xs ≡ true
some_at p [] i d l e = absurd (omega arith)
some_at p (x ∷ xs) zero d l e = or_left (p x) (some p xs) e
some_at p (x ∷ xs) (suc i) d l e = or_right (p x) (some p xs) (some_at p xs i d (omega arith) e)

-- one more sweep says what it says itself or what was said before
pub some_added : (d : Direction) (p : List ℕ → Bool) (g : List ℕ) (grown : List (List ℕ)) → some p (added d g grown) ≡ (p g || some p grown)
some_added Down p g grown = refl
some_added Up p g grown = some_push p grown g

module _ (m : Pattern) where
  pub linked_back : (v w : ℕ) → linked m v w ≡ true → linked m w v ≡ true
  linked_back v w h =
      let p = and_parts (not (eqb v w)) _ h in
      and_from _ _ (not_from_false _ (ne_eqb w v (λ e. eqb-false v w (not-true _ p.0) (sym e)))) (or_both (stores m w v) (stores m v w) ∙ p.1)

  -- where v comes before w with one more sweep, it did already or the new sweep says so
  pub before_added : (d : Direction) (g : List ℕ) (grown : List (List ℕ)) (v w : ℕ) → before m (added d g grown) v w ≡ (linked m v w && (ltb (at g v) (at g w) || some (λ h. ltb (at h v) (at h w)) grown))
  before_added d g grown v w = ap (λ b. linked m v w && b) (some_added d (λ h. ltb (at h v) (at h w)) g grown)

  before_cases : (d : Direction) (g : List ℕ) (grown : List (List ℕ)) (v w : ℕ) → before m (added d g grown) v w ≡ true → (at g v < at g w) ⊎ (before m grown v w ≡ true)
  before_cases d g grown v w e =
      let p = and_parts (linked m v w) _ (sym (before_added d g grown v w) ∙ e) in
      ⊎_elim (λ q. inl (ltb-true _ _ q)) (λ q. inr (and_from (linked m v w) _ p.0 q)) (or_cases (ltb (at g v) (at g w)) _ p.1)

  KeepsOrder : List (List ℕ) → List ℕ → Type 0
  KeepsOrder grown g = (v w : ℕ) → v < m.rows → w < m.rows → before m grown v w ≡ true → at g v ≤ at g w

  one_way_added : (d : Direction) (g : List ℕ) (grown : List (List ℕ)) → KeepsOrder grown g → OneWay m grown → OneWay m (added d g grown)
  unfolding KeepsOrder
  one_way_added d g grown keeps one v w lv lw e = ⊎_elim (λ t. absurd (never (before_cases d g grown v w e) (before_cases d g grown w v t))) (λ f. f) (cases_Bool _)
    where
      never : (at g v < at g w) ⊎ (before m grown v w ≡ true) → (at g w < at g v) ⊎ (before m grown w v ≡ true) → ⊥
      never (inl a) (inl b) = omega arith
      never (inl a) (inr b) = let q = keeps w v lw lv b in omega arith
      never (inr a) (inl b) = let q = keeps v w lv lw a in omega arith
      never (inr a) (inr b) = both_ways _ (one v w lv lw a) b

  -- before any sweep is grown, no row comes before another
  pub none_before : (v w : ℕ) → before m [] v w ≡ false
  none_before v w = and_right (linked m v w) false refl

  pub one_way_seed : (seed : List ℕ) → OneWay m (seed ∷ [])
  unfolding KeepsOrder
  one_way_seed seed = one_way_added Down seed [] (λ v w lv lw e. absurd (both_ways _ (none_before v w) e)) (λ v w lv lw e. absurd (both_ways _ (none_before v w) e))

  pub one_way_next : (d : Direction) (k : ℕ) (grown : List (List ℕ)) (near : List ℕ) → Tiles m k near → OneWay m grown → OneWay m (added d (next d m k grown near) grown)
  unfolding KeepsOrder
  one_way_next d k grown near t one = one_way_added d (next d m k grown near) grown (next_order d m k grown near t) one

  pub one_way_down : (k n : ℕ) (near : List ℕ) (grown : List (List ℕ)) → Tiles m k near → OneWay m grown → OneWay m (down m k n near grown)
  one_way_down k zero near grown t one = one
  one_way_down k (suc n) near grown t one = one_way_down k n (lower m k grown near) (lower m k grown near ∷ grown) (next_tiles Down m k grown near t) (one_way_next Down k grown near t one)

  one_way_up : (k n : ℕ) (near : List ℕ) (grown : List (List ℕ)) → Tiles m k near → OneWay m grown → OneWay m (up m k n near grown)
  one_way_up k zero near grown t one = one
  one_way_up k (suc n) near grown t one = one_way_up k n (raise m k grown near) (grown ++ raise m k grown near ∷ []) (next_tiles Up m k grown near t) (one_way_next Up k grown near t one)

  seen_before : (gs : List (List ℕ)) (i v w : ℕ) → i < length gs → linked m v w ≡ true → at (get_or gs i []) v < at (get_or gs i []) w → before m gs v w ≡ true
  seen_before gs i v w l h q = and_from (linked m v w) _ h (some_at (λ g. ltb (at g v) (at g w)) gs i [] l (lt-ltb _ _ q))

  never_cross_from : (gs : List (List ℕ)) → OneWay m gs → NeverCross m gs
  never_cross_from gs one i j v w li lj lv lw h q =
      ⊎_elim (λ c. absurd (both_ways _ (one v w lv lw (seen_before gs i v w li h q)) (seen_before gs j w v lj (linked_back v w h) c))) (λ c. c) (cases_lt (at (get_or gs j []) w) (at (get_or gs j []) v))

pub one_way : OfAllGrown OneWay
one_way m t s k seed p l tiles = one_way_up m k (t - s) seed (down m k (s - 1) seed (seed ∷ [])) tiles (one_way_down m k (s - 1) seed (seed ∷ []) tiles (one_way_seed m seed))

pub never_cross : OfAllGrown NeverCross
never_cross m t s k seed p l tiles = never_cross_from m (sweeps m t s k seed) (one_way m t s k seed p l tiles)

pub never_falls : OfAllGrown NeverFalls
never_falls m t s k seed p l tiles i v li lv =
    let g = sweeps_are_grown m t s k seed p l tiles in
    let n = g.count in
    let gs = sweeps m t s k seed in
    let back : i + 1 - 1 ≡ i = omega arith in
    ⊎_elim (λ q. (g.down i q).fits.own v lv) (λ q. subst (λ x. at (get_or gs x []) v ≤ at (get_or gs (i + 1) []) v) back ((g.up (i + 1) q (omega arith)).fits.own v lv)) (cases_lt (i + 1) s)

-- were the linked row lower in the next sweep, it would come before, and pull
pub never_ahead : OfAllGrown NeverAhead
never_ahead m t s k seed p l tiles i v w li lv lw h = ⊎_elim (λ ahead. ⊎_elim (below ahead) (above ahead) (cases_lt (i + 1) s)) (λ q. q) (cases_lt (at (get_or gs (i + 1) []) w) (at (get_or gs i []) v))
  where
    gs : List (List ℕ)
    gs = sweeps m t s k seed

    g : Grown m t s seed gs
    g = sweeps_are_grown m t s k seed p l tiles

    back : linked m w v ≡ true
    back = linked_back m v w h

    below : at (get_or gs (i + 1) []) w < at (get_or gs i []) v → i + 1 < s → at (get_or gs i []) v ≤ at (get_or gs (i + 1) []) w
    below ahead q =
        let n = g.count in
        let fits = (g.down i q).fits in
        let own = fits.own v lv in
        let first : get_or (between (i + 1) s gs) 0 [] ≡ get_or gs (i + 1) [] = get_or-between gs (i + 1) s 0 [] (omega arith) ∙ ap (λ j. get_or gs j []) (add-zero (i + 1)) in
        let long = length-between gs (i + 1) s (omega arith) in
        fits.reach w v lw lv (seen_before m (between (i + 1) s gs) 0 w v (omega arith) back (subst (λ x. at x w < at x v) (sym first) (omega arith)))

    above : at (get_or gs (i + 1) []) w < at (get_or gs i []) v → s ≤ i + 1 → at (get_or gs i []) v ≤ at (get_or gs (i + 1) []) w
    above ahead q =
        let n = g.count in
        let e : i + 1 - 1 ≡ i = omega arith in
        let fits = subst (λ j. FitsAbove m (take (i + 1) gs) (get_or gs j []) (get_or gs (i + 1) [])) e (g.up (i + 1) q (omega arith)).fits in
        let own = fits.own w lw in
        let last : get_or (take (i + 1) gs) i [] ≡ get_or gs i [] = get_or-take (i + 1) gs i [] (omega arith) in
        let long = length-take-le (i + 1) gs (omega arith) in
        fits.reach w v lw lv (seen_before m (take (i + 1) gs) i w v (omega arith) back (subst (λ x. at x w < at x v) (sym last) (omega arith)))

module _ (m : Pattern) (k : ℕ) where
  tiles_down : (n : ℕ) (near : List ℕ) (grown : List (List ℕ)) → Tiles m k near → All (Tiles m k) grown → All (Tiles m k) (down m k n near grown)
  tiles_down zero near grown t all = all
  tiles_down (suc n) near grown t all = let g = next_tiles Down m k grown near t in tiles_down n (lower m k grown near) (lower m k grown near ∷ grown) g (g, all)

  tiles_up : (n : ℕ) (near : List ℕ) (grown : List (List ℕ)) → Tiles m k near → All (Tiles m k) grown → All (Tiles m k) (up m k n near grown)
  tiles_up zero near grown t all = all
  tiles_up (suc n) near grown t all =
      let g = next_tiles Up m k grown near t in tiles_up n (raise m k grown near) (grown ++ raise m k grown near ∷ []) g (All-push (Tiles m k) grown (raise m k grown near) all g)

pub tiles_stay : TilesStay
tiles_stay m t s k seed p l tiles i li =
    let n = (sweeps_are_grown m t s k seed p l tiles).count in
    let gs = sweeps m t s k seed in
    All-get_or (Tiles m k) gs i [] (omega arith) (tiles_up m k (t - s) seed (down m k (s - 1) seed (seed ∷ [])) tiles (tiles_down m k (s - 1) seed (seed ∷ []) tiles (tiles, tt)))
