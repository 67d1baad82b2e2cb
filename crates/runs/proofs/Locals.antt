-- A row's new value turns on the rows linked to it; the plain sweep in the words of points. Assumes nothing.
use Rattle.std.proofs.Common.{◌≡◌, ℕ, ◌<◌, ◌≤◌, true, cond, not, ◌&&◌, eqb, ◌⊎◌, List, [], ◌∷◌, length, get_or, drop, None, fold, sym, refl, ap, ◌∙◌, ap₂, inl, inr, arith}
use Rattle.std.specs.List.{zip, AllByRecursion as All}
use Rattle.std.proofs.lemmas.List.{drop_more, drop_all}
use Rattle.std.proofs.lemmas.Bool.{cases_lt, cases_eq, eq-eqb, ne_eqb, or_left, or_right}
use Rattle.checks.specs.Lists.{some}
use Rattle.matrix.specs.Patterns.{Pattern, row_part, stores, linked}
use Rattle.arithmetic.specs.Meanings.{Meaning}
use Rattle.arithmetic.specs.Sweeps.{taken_from, with_entry, own_coefficient, finished_by, row_entries}
use Rattle.runs.specs.Instances.{RowsAreLocal}

-- a list's own elements stand in it
weaken : (j : ℕ) (js ks : List ℕ) → All (λ k. some (eqb k) ks ≡ true) js → All (λ k. some (eqb k) (j ∷ ks) ≡ true) js
weaken j [] ks h = tt
weaken j (k ∷ js) ks h = (or_right _ _ h.0, weaken j js ks h.1)

all_stored : (js : List ℕ) → All (λ j. some (eqb j) js ≡ true) js
all_stored [] = tt
all_stored (j ∷ js) = (or_left _ _ (eq-eqb j j refl), weaken j js js (all_stored js))

module _ (p : Pattern) (i : ℕ) where
  near : ℕ → Type 0
  near j = (j ≡ i) ⊎ (linked p i j ≡ true)

  near_of : (j : ℕ) → stores p i j ≡ true → near j
  unfolding near
  near_of j s = go (cases_eq j i)
    where
      go : (j ≡ i) ⊎ (j ≡ i → ⊥) → (j ≡ i) ⊎ (linked p i j ≡ true)
      go (inl e) = inl e
      go (inr n) = inr (ap₂ (λ a b. not a && b) (ne_eqb i j (λ e. n (sym e))) (or_left (stores p i j) (stores p j i) s))

  all_near : (js : List ℕ) → All (λ j. stores p i j ≡ true) js → All near js
  all_near [] h = tt
  all_near (j ∷ js) h = (near_of j h.0, all_near js h.1)

module _ {C V : Type 0} (m : Meaning C V) (p : Pattern) (i R : ℕ) (x y : List V) (lx : length x ≡ R) (ly : length y ≡ R)
    (agree : (j : ℕ) (v : V) → j < R → (j ≡ i) ⊎ (linked p i j ≡ true) → get_or x j v ≡ get_or y j v) where
  same_read : (acc : V) (a : C) (j : ℕ) → near p i j → taken_from m acc a (drop j x) ≡ taken_from m acc a (drop j y)
  unfolding near
  same_read acc a j n = go (cases_lt j R)
    where
      go : (j < R) ⊎ (R ≤ j) → taken_from m acc a (drop j x) ≡ taken_from m acc a (drop j y)
      go (inl l) =
          ap (taken_from m acc a) (drop_more x j acc (omega arith)) ∙ ap (m.taken_in acc a) (agree j acc l n) ∙ sym (ap (taken_from m acc a) (drop_more y j acc (omega arith)))
      go (inr l) = ap (taken_from m acc a) (drop_all j x (omega arith)) ∙ sym (ap (taken_from m acc a) (drop_all j y (omega arith)))

  same_entry : (acc : V) (j : ℕ) (a : C) → near p i j → with_entry m i x acc (j, a) ≡ with_entry m i y acc (j, a)
  same_entry acc j a n = ap (cond (eqb j i) acc) (same_read acc a j n)

  same_row : (js : List ℕ) (cs : List C) → All (near p i) js → (acc : V) → fold (with_entry m i x) acc (zip js cs) ≡ fold (with_entry m i y) acc (zip js cs)
  same_row [] cs h acc = refl
  same_row (j ∷ js) [] h acc = refl
  same_row (j ∷ js) (a ∷ cs) h acc = ap (λ z. fold (with_entry m i x) z (zip js cs)) (same_entry acc j a h.0) ∙ same_row js cs h.1 (with_entry m i y acc (j, a))

pub rows_are_local : {C V : Type 0} → RowsAreLocal C V
unfolding near
rows_are_local m s b R i x y l lx ly agree =
    let js : List ℕ = row_part s.pattern s.pattern.columns i in
    ap (λ z. finished_by m z (fold (own_coefficient i) None (row_entries s i)))
    (same_row m s.pattern i R x y lx ly agree js (row_part s.pattern s.coefficients i) (all_near s.pattern i js (all_stored js)) (get_or s.rhs i b))
