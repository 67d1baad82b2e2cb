-- A row that is updated at its turn gets the plain sweep's value. Assumes nothing.
use Rattle.std.proofs.Common.{◌≡◌, ℕ, zero, suc, ◌<◌, ◌≤◌, Bool, true, ◌&&◌, ◌||◌, eqb, ltb, ◌⊎◌, List, length, get_or, set, fold, sym, refl, ap, ◌∙◌, subst, inl, inr, ⊎_elim, arith, length-set, get_or-set_other, get_or-set_same}
use Rattle.std.proofs.lemmas.Bool.{cases_eq, cases_lt, cases_order, eqb-true, eq-eqb, ltb-true, lt-ltb, or_cases, or_left, or_right, and_parts, and_from}
use Rattle.checks.specs.Lists.{upto}
use Rattle.points.specs.Points.{Forward, Turn}
use Rattle.points.specs.Runs.{run}
use Rattle.points.specs.Sweeps.{sweep_precedes, Symmetric, in_place, plain, Local}
use Rattle.points.specs.Laws.{EachRowPlain}
use Rattle.points.proofs.Uptos.{folded_more}
use Rattle.points.proofs.Turns.{bump, bump_same, bump_other}
use Rattle.points.proofs.Runs.{run_keeps, agrees_carried}

module _ (linked : ℕ → ℕ → Bool) (c i d j : ℕ) where
  abbrev next : Bool
  next = eqb d (suc c) && (eqb i j || linked i j)

  abbrev same : Bool
  same = eqb d c && (linked i j && ltb i j)

  own_next : d ≡ suc c → i ≡ j → sweep_precedes linked c i d j ≡ true
  own_next e q = or_left next same (and_from _ _ (eq-eqb _ _ e) (or_left (eqb i j) (linked i j) (eq-eqb _ _ q)))

  linked_next : linked i j ≡ true → d ≡ suc c → sweep_precedes linked c i d j ≡ true
  linked_next l e = or_left next same (and_from _ _ (eq-eqb _ _ e) (or_right (eqb i j) (linked i j) l))

  linked_same : linked i j ≡ true → d ≡ c → i < j → sweep_precedes linked c i d j ≡ true
  linked_same l e h = or_right next same (and_from _ _ (eq-eqb _ _ e) (and_from _ _ l (lt-ltb _ _ h)))

  onward : sweep_precedes linked c i d j ≡ true → (c ≤ d) × (c ≡ d → i < j)
  onward p = ⊎_elim
      (λ q. let e = eqb-true _ _ (and_parts (eqb d (suc c)) _ q).0 in (omega arith, λ (s : c ≡ d). absurd (omega arith)))
      (λ q. let r = and_parts (eqb d c) _ q in let e = eqb-true _ _ r.0 in (omega arith, λ _. ltb-true _ _ (and_parts (linked i j) _ r.1).1))
      (or_cases next same p)

pub sweeps_forward : (linked : ℕ → ℕ → Bool) → Forward (sweep_precedes linked)
sweeps_forward linked = record { onward = onward linked; own = λ c i. own_next linked c i (suc c) i refl refl }

module _ {V : Type 0} (value : ℕ → List V → V) where
  -- the values once the rows below m of a sweep have been visited
  abbrev part : List V → ℕ → List V
  part x m = fold (λ y i. in_place value 0 i y) x (upto m)

  part_next : (x : List V) (m : ℕ) → part x (suc m) ≡ set (part x m) m (value m (part x m))
  part_next x m = folded_more (λ y i. in_place value 0 i y) x m

  part_length : (x : List V) (m : ℕ) → length (part x m) ≡ length x
  part_length x zero = refl
  part_length x (suc m) = ap length (part_next x m) ∙ length-set (part x m) m _ ∙ part_length x m

  part_above : (x : List V) (m j : ℕ) (v : V) → m ≤ j → get_or (part x m) j v ≡ get_or x j v
  part_above x zero j v h = refl
  part_above x (suc m) j v h = ap (λ y. get_or y j v) (part_next x m) ∙ get_or-set_other (part x m) m j _ v (omega arith) ∙ part_above x m j v (omega arith)

  part_below : (x : List V) (m j : ℕ) (v : V) → m ≤ length x → j < m → get_or (part x m) j v ≡ value j (part x j)
  part_below x zero j v hm h = absurd (omega arith)
  part_below x (suc m) j v hm h = ap (λ y. get_or y j v) (part_next x m) ∙ elim (cases_eq j m) [
    | inl q ↦ subst (λ a. get_or (set (part x m) m (value m (part x m))) a v ≡ value a (part x a)) (sym q) (get_or-set_same (part x m) m _ v (omega (arith, part_length x m)))
    | inr q ↦ get_or-set_other (part x m) m j _ v q ∙ part_below x m j v (omega arith) (omega arith)
  ]

  module _ (R : ℕ) (start : List V) (long : length start ≡ R) where
    plain_next : (c : ℕ) → plain value R start (suc c) ≡ part (plain value R start c) R
    plain_next c = folded_more (λ y c. fold (λ z i. in_place value c i z) y (upto R)) start c

    plain_length : (c : ℕ) → length (plain value R start c) ≡ R
    plain_length zero = long
    plain_length (suc c) = ap length (plain_next c) ∙ part_length (plain value R start c) R ∙ plain_length c

    -- what the plain sweep finds when it comes to row i
    plain_at : (c i : ℕ) (v : V) → i < R → get_or (plain value R start (suc c)) i v ≡ value i (part (plain value R start c) i)
    plain_at c i v h = ap (λ y. get_or y i v) (plain_next c) ∙ part_below (plain value R start c) R i v (omega (arith, plain_length c)) h

    module _ (T : ℕ) (linked : ℕ → ℕ → Bool) (symmetric : Symmetric linked) (local : Local R linked value) where
      -- each row holds its plain value for the sweeps that it has been carried through
      abbrev Holds : (ℕ → ℕ) → List V → Type 0
      Holds n x = (length x ≡ R) × ((i : ℕ) (v : V) → i < R → get_or x i v ≡ get_or (plain value R start (n i)) i v)

      -- at a point's turn its row finds what the plain sweep finds
      finds : (n : ℕ → ℕ) (x : List V) (c i : ℕ) → c < T → i < R → Holds n x → Turn (sweep_precedes linked) R T n c i → value i x ≡ value i (part (plain value R start c) i)
      finds n x c i hc hi h now = local i x (part (plain value R start c) i) hi h.0 (part_length _ i ∙ plain_length c) look
        where
          late : (j : ℕ) (v : V) → j < R → i ≤ j → n j ≡ c → get_or x j v ≡ get_or (part (plain value R start c) i) j v
          late j v hj le e = h.1 j v hj ∙ ap (λ a. get_or (plain value R start a) j v) e ∙ sym (part_above (plain value R start c) i j v le)

          early : (j : ℕ) (v : V) → j < R → j < i → n j ≡ suc c → get_or x j v ≡ get_or (part (plain value R start c) i) j v
          early j v hj lt e = h.1 j v hj ∙ ap (λ a. get_or (plain value R start a) j v) e ∙ plain_at c j v hj ∙ sym (part_below (plain value R start c) i j v (omega (arith, plain_length c)) lt)

          older : (j : ℕ) → j < R → linked j i ≡ true → (b : ℕ) → b ≡ c → b ≤ n j
          older j hj l zero e = omega arith
          older j hj l (suc b) e = now.older b j (omega arith) hj (linked_next linked b j c i l (sym e))

          not_new : (j : ℕ) → j < R → linked i j ≡ true → n j ≤ suc c
          not_new j hj l = ⊎_elim (λ (lt : suc c < T). now.newer (suc c) j lt hj (linked_next linked c i (suc c) j l refl)) (λ (ge : T ≤ suc c). omega (arith, now.top j hj)) (cases_lt (suc c) T)

          look : (j : ℕ) (v : V) → j < R → (j ≡ i) ⊎ (linked i j ≡ true) → get_or x j v ≡ get_or (part (plain value R start c) i) j v
          look j v hj (inl e) = late j v hj (omega arith) (ap n e ∙ now.at)
          look j v hj (inr l) = elim (cases_order j i) [
            | inl e ↦ late j v hj (omega arith) (ap n e ∙ now.at)
            | inr o ↦ elim o [
              | inl lt ↦ early j v hj lt (omega (arith, now.older c j hc hj (linked_same linked c j c i (symmetric i j l) refl lt), not_new j hj l))
              | inr gt ↦ late j v hj (omega arith) (omega (arith, older j hj (symmetric i j l) c refl, now.newer c j hc hj (linked_same linked c i c j l refl gt)))
            ]
          ]

      step : (n : ℕ → ℕ) (x : List V) (c i : ℕ) → c < T → i < R → Holds n x → Turn (sweep_precedes linked) R T n c i → Holds (bump n i) (in_place value c i x)
      step n x c i hc hi h now = (
        length-set x i _ ∙ h.0,
        λ j v hj. elim (cases_eq j i) [
          | inl q ↦ subst (λ a. get_or (set x i (value i x)) a v ≡ get_or (plain value R start (bump n i a)) a v) (sym q)
              (get_or-set_same x i _ v (omega (arith, h.0)) ∙ finds n x c i hc hi h now ∙ sym (plain_at c i v hi)
              ∙ ap (λ a. get_or (plain value R start a) i v) (sym (bump_same n i i refl ∙ ap suc now.at)))
          | inr q ↦ get_or-set_other x i j _ v q ∙ h.1 j v hj ∙ ap (λ a. get_or (plain value R start a) j v) (sym (bump_other n i j q))
        ],
      )

pub each_row_plain : (V : Type 0) → EachRowPlain V
each_row_plain V R T k linked tile waits value start symmetric lawful tells local long calls =
    let s = run (in_place value) R T k tile waits start calls in
    let g = run_keeps (sweep_precedes linked) R T k tile waits (sweeps_forward linked) lawful.small tells (in_place value)
    (Holds value R start long T linked symmetric local) (step value R start long T linked symmetric local) start calls (long, λ i v h. refl) in
    (g.holds.0, λ i v h. g.holds.1 i v h ∙ ap (λ a. get_or (plain value R start a) i v) (agrees_carried R T tile s.done g.n g.agrees i h))
