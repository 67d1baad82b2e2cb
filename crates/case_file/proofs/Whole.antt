-- The whole elements of a table, one after the other. Assumes nothing.
use Rattle.std.proofs.Common.{◌≡◌, ℕ, zero, suc, ◌+◌, ◌-◌, ◌*◌, ◌/◌, ◌<◌, ◌≤◌, List, ◌∷◌, ◌++◌, map, length, take, drop, Some, None, sym, refl, ap, ap₂, ◌∙◌, subst, arith, length-append, add-one}
use Rattle.std.specs.List.{range_with_len, filter_map, cons_option}
use Rattle.std.specs.Slice.Iter.{chunks_exact_steps, chunks_exact_rest, chunks_exact_size}
use Rattle.std.proofs.Math.Seq.{drop-append-add, take-append_seam}
use Rattle.std.proofs.Math.Nat.{add-div_right, div-eq_of_lt}
use Rattle.std.proofs.lemmas.List.FromFn.{length-map-range_with_len}
use Rattle.std.proofs.lemmas.Bool.{cond-true, eq-eqb}
use Rattle.std.proofs.lemmas.Iterator.{YieldsList}
use Rattle.std.proofs.lemmas.Iterator.Splits.{YieldsList-from_shown_while}
use Rattle.std.proofs.lemmas.List.Edits.{length-between}
use Rattle.std.proofs.lemmas.Nat.{mul-le, div-add-mod'}
use Rattle.checks.specs.Lists.{upto}
use Rattle.case_file.specs.Elements.{one_element, element_count, element_bytes, elements}

-- a whole element ends within the table
pub ends_within : (n width i : ℕ) → i < n / width → i * width + width ≤ n
ends_within n width i h =
    let all = div-add-mod' n width in
    let below : (i + 1) * width ≤ n / width * width = mul-le (i + 1) width (n / width) width (omega arith) (omega arith) in
    omega arith

-- the bytes of each whole element
abbrev pub parts_of : ℕ → List ℕ → List (List ℕ)
parts_of width bytes = map (element_bytes width bytes) (upto (element_count width bytes))

module _ (first rest : List ℕ) where
  -- behind a first element the others stand as they do without it
  later : (width : ℕ) → length first ≡ width → (i k : ℕ) → map (element_bytes width (first ++ rest)) (range_with_len (i + 1) k) ≡ map (element_bytes width rest) (range_with_len i k)
  later width e i zero = refl
  later width e i (suc k) =
      let from : (i + 1) * width ≡ length first + i * width = omega arith in
      let long : (i + 1) * width + width - (i + 1) * width ≡ i * width + width - i * width = omega arith in
      let part : element_bytes width (first ++ rest) (i + 1) ≡ element_bytes width rest i = ap₂ (λ n a. take n (drop a (first ++ rest))) long from ∙ ap (take (i * width + width - i * width)) (drop-append-add first rest (i * width)) in
      ap₂ (λ x xs. x ∷ xs) part (later width e (i + 1) k)

  first_then : (width : ℕ) → 0 < width → length first ≡ width → parts_of width (first ++ rest) ≡ first ∷ parts_of width rest
  first_then width h e =
      let count : length (first ++ rest) / width ≡ suc (length rest / width) = ap (λ n. n / width) {x = length (first ++ rest)} {y = length rest + width} (omega (arith, length-append first rest)) ∙ add-div_right (length rest) h ∙ add-one _ in
      let long : 0 * width + width - 0 * width ≡ length first = omega arith in
      let none : 0 * width ≡ 0 = omega arith in
      let here : element_bytes width (first ++ rest) 0 ≡ first = ap₂ (λ n a. take n (drop a (first ++ rest))) long none ∙ take-append_seam first rest in
      ap (λ n. map (element_bytes width (first ++ rest)) (upto n)) count ∙ ap₂ (λ x xs. x ∷ xs) here (later width e 0 (length rest / width))

module _ {X : Type 0} (width : ℕ) (filed : List ℕ → X) (bytes : List ℕ) where
  found : (i k : ℕ) → ((j : ℕ) → i ≤ j → j < i + k → length (element_bytes width bytes j) ≡ width) → filter_map (one_element width filed) (map (element_bytes width bytes) (range_with_len i k)) ≡ map (λ j. filed (element_bytes width bytes j)) (range_with_len i k)
  found i zero long = refl
  found i (suc k) long = ap₂ cons_option (cond-true _ (Some (filed (element_bytes width bytes i))) None (eq-eqb _ _ (long i (omega arith) (omega arith)))) (found (i + 1) k (λ j a b. long j (omega arith) (omega arith)))

  -- each part is an element
  pub all_found : filter_map (one_element width filed) (parts_of width bytes) ≡ elements width filed bytes
  all_found = found 0 (element_count width bytes) (λ j a b. length-between bytes (j * width) (j * width + width) (ends_within (length bytes) width j (omega arith)) ∙ omega arith)

-- `chunks_exact` gives each part
pub parts_come : (width : ℕ) (bytes : List ℕ) (s : _) → 0 < width → chunks_exact_rest s ≡ bytes → chunks_exact_size s ≡ width → YieldsList (chunks_exact_steps {A = ℕ}) (λ x. x.now) s (parts_of width bytes)
parts_come width bytes s h r n =
    subst (λ ys. YieldsList (chunks_exact_steps {A = ℕ}) (λ x. x.now) s ys) (ap₂ parts_of n r)
    (YieldsList-from_shown_while (chunks_exact_steps {A = ℕ}) (λ x. x.now) (λ t. parts_of (chunks_exact_size t) (chunks_exact_rest t)) (λ t. 0 < chunks_exact_size t)
    (λ a b p e. length-map-range_with_len (element_bytes (chunks_exact_size a) (chunks_exact_rest a)) 0 (element_count (chunks_exact_size a) (chunks_exact_rest a)) ∙ div-eq_of_lt e.1.0)
    (λ a x b p e. (omega (arith, e.0), ap (parts_of (chunks_exact_size a)) e.1.0 ∙ first_then x.now (chunks_exact_rest b) (chunks_exact_size a) p e.1.1 ∙ ap (λ w. x.now ∷ parts_of w (chunks_exact_rest b)) (sym e.0)))
    s (omega arith))
