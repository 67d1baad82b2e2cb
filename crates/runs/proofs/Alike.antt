-- Two ways to update a row that agree on vectors of R values make the same runs and the same plain sweeps. Assumes nothing.
use Rattle.std.proofs.Common.{◌≡◌, ℕ, zero, suc, ◌+◌, ◌<◌, ◌≤◌, Bool, true, false, cond, eqb, List, [], ◌∷◌, length, fold, filter, sym, refl, ap, ◌∙◌, arith}
use Rattle.std.specs.List.{range_with_len, AllByRecursion as All}
use Rattle.std.proofs.lemmas.List.{drop_more, length-set}
use Rattle.checks.specs.Lists.{upto}
use Rattle.points.specs.Points.{Tiles, tile_rows, size}
use Rattle.points.specs.Runs.{State, accepts, and_done, with_tile, call, begin, run}
use Rattle.points.specs.Sweeps.{in_place}
use Rattle.points.specs.Sweeps as points
use Rattle.points.proofs.Uptos.{folded_more}
use Rattle.arithmetic.specs.Meanings.{Meaning}
use Rattle.arithmetic.specs.Sweeps.{Equations, updated, swept, plain}
use Rattle.runs.specs.Instances.{new_value, PlainIsPlain}

counted_below : (a n R : ℕ) → a + n ≤ R → All (λ i. i < R) (range_with_len a n)
counted_below a zero R h = tt
counted_below a (suc n) R h = (omega arith, counted_below (a + 1) n R (omega arith))

pub upto_below : (R : ℕ) → All (λ i. i < R) (upto R)
upto_below R = counted_below 0 R R (omega arith)

kept_all : (P : ℕ → Type 0) (p : ℕ → Bool) (xs : List ℕ) → All P xs → All P (filter p xs)
kept_all P p [] h = tt
kept_all P p (x ∷ xs) h = go (p x) (kept_all P p xs h.1)
  where
    go : (b : Bool) → All P (filter p xs) → All P (cond b (x ∷ filter p xs) (filter p xs))
    go true later = (h.0, later)
    go false later = later

module _ {V : Type 0} (R : ℕ) (f g : ℕ → ℕ → List V → List V)
    (same : (c i : ℕ) (x : List V) → i < R → length x ≡ R → f c i x ≡ g c i x)
    (keeps : (c i : ℕ) (x : List V) → length x ≡ R → length (g c i x) ≡ R) where
  rows_same : (c : ℕ) (is : List ℕ) → All (λ i. i < R) is → (x : List V) → length x ≡ R
      → (fold (λ z i. f c i z) x is ≡ fold (λ z i. g c i z) x is) × (length (fold (λ z i. g c i z) x is) ≡ R)
  rows_same c [] h x l = (refl, l)
  rows_same c (i ∷ is) h x l =
      let later = rows_same c is h.1 (g c i x) (keeps c i x l) in
      (ap (λ z. fold (λ z i. f c i z) z is) (same c i x h.0 l) ∙ later.0, later.1)

  module _ (rows : ℕ → List ℕ) (below : (c : ℕ) → All (λ i. i < R) (rows c)) where
    sweeps_same : (cs : List ℕ) (x : List V) → length x ≡ R
        → (fold (λ y c. fold (λ z i. f c i z) y (rows c)) x cs ≡ fold (λ y c. fold (λ z i. g c i z) y (rows c)) x cs)
        × (length (fold (λ y c. fold (λ z i. g c i z) y (rows c)) x cs) ≡ R)
    sweeps_same [] x l = (refl, l)
    sweeps_same (c ∷ cs) x l =
        let here = rows_same c (rows c) (below c) x l in
        let later = sweeps_same cs (fold (λ z i. g c i z) x (rows c)) here.1 in
        (ap (λ y. fold (λ y c. fold (λ z i. f c i z) y (rows c)) y cs) here.0 ∙ later.0, later.1)

  module _ (T k : ℕ) (tile : Tiles) (waits : ℕ → ℕ → Bool) where
    tile_same : (s : State (List V)) (t : ℕ) → length s.held ≡ R → (with_tile f R T k tile waits s t ≡ with_tile g R T k tile waits s t) × (length (with_tile g R T k tile waits s t).held ≡ R)
    tile_same s t l =
        let e = sweeps_same (tile_rows R tile t) (λ c. kept_all (λ i. i < R) (λ i. eqb (tile c i) t) (upto R) (upto_below R)) (upto T) s.held l in
        (ap (λ h. record { done = and_done s.done t; points = s.points + size R T tile t; held = h }) e.0, e.1)

    call_same : (s : State (List V)) (t : ℕ) → length s.held ≡ R → (call f R T k tile waits s t ≡ call g R T k tile waits s t) × (length (call g R T k tile waits s t).held ≡ R)
    call_same s t l = go (accepts waits k s.done t)
      where
        go : (b : Bool) → (cond b (with_tile f R T k tile waits s t) s ≡ cond b (with_tile g R T k tile waits s t) s) × (length (cond b (with_tile g R T k tile waits s t) s).held ≡ R)
        go true = tile_same s t l
        go false = (refl, l)

    calls_same : (s : State (List V)) (calls : List ℕ) → length s.held ≡ R → fold (call f R T k tile waits) s calls ≡ fold (call g R T k tile waits) s calls
    calls_same s [] l = refl
    calls_same s (t ∷ calls) l =
        let e = call_same s t l in
        ap (λ z. fold (call f R T k tile waits) z calls) e.0 ∙ calls_same (call g R T k tile waits s t) calls e.1

    pub run_same : (x : List V) (calls : List ℕ) → length x ≡ R → run f R T k tile waits x calls ≡ run g R T k tile waits x calls
    run_same x calls l = calls_same (begin g R T k tile waits x) calls l

module _ {C V : Type 0} (m : Meaning C V) (s : Equations C V) (b : V) (R : ℕ) (sided : length s.rhs ≡ R) where
  -- point c, i updated as the plain sweep updates row i
  pub updated_same : (c i : ℕ) (x : List V) → i < R → length x ≡ R → updated m s x i ≡ in_place (new_value m s b) c i x
  updated_same c i x h l = rw (drop_more s.rhs i b (omega arith))

  pub in_place_keeps : (c i : ℕ) (x : List V) → length x ≡ R → length (in_place (new_value m s b) c i x) ≡ R
  in_place_keeps c i x l = length-set x i _ ∙ l

  pub plain_lengths : (x : List V) → length x ≡ R → (rows : s.pattern.rows ≡ R) (c : ℕ) → (plain m s x c ≡ points.plain (new_value m s b) R x c) × (length (points.plain (new_value m s b) R x c) ≡ R)
  plain_lengths x l rows zero = (refl, l)
  plain_lengths x l rows (suc c) =
      let g = in_place (new_value m s b) in
      let before = plain_lengths x l rows c in
      let y = points.plain (new_value m s b) R x c in
      let one = rows_same R (λ _ i z. updated m s z i) g updated_same in_place_keeps c (upto R) (upto_below R) y before.1 in
      let last = folded_more (λ y c. fold (λ z i. g c i z) y (upto R)) x c in
      (ap (swept m s) before.0 ∙ ap (λ n. fold (updated m s) y (upto n)) rows ∙ one.0 ∙ sym last, ap length last ∙ one.1)

pub plain_is_plain : {C V : Type 0} → PlainIsPlain C V
plain_is_plain m s b x sided l c = (plain_lengths m s b s.pattern.rows sided x l refl c).0
