-- The lowest place of a check, and the place that a search of a list finds. Assumes nothing.
use Rattle.std.proofs.Common.{◌≡◌, ℕ, suc, ◌+◌, ◌<◌, Bool, true, false, cond, not, ltb, Some, None, List, [], ◌∷◌, length, refl, ap, ◌∙◌, arith}
use Rattle.std.specs.List.{position, position_or_len}
use Rattle.std.specs.Option.{option_map}
use Rattle.std.proofs.lemmas.Bool.{cond-true, cond-false}
use Rattle.checks.specs.declared.Check.{Check}
use Rattle.checks.specs.declared.Layer.{Layer}
use Rattle.checks.specs.Lists.{first_where, first_from, passes_at}
use Rattle.checks.specs.Verdicts.{fault_at, fault_if, lowest}

module _ {X : Type 0} (p : X → Bool) (bad : ℕ → Bool) where
  -- a test of places that says what a test of elements says passes first where that does
  place_is : (i : ℕ) (xs : List X) → ((k : ℕ) → k < length xs → bad (i + k) ≡ passes_at p xs k) → first_from bad i (length xs) ≡ i + position_or_len p xs
  place_is i [] h = omega arith
  place_is i (x ∷ xs) h = go (p x) (h 0 (omega arith) ∙ refl) (place_is (i + 1) xs (λ k l. ap bad (omega arith) ∙ h (suc k) (omega arith)))
    where
      go : (t : Bool) → bad (i + 0) ≡ t → first_from bad (i + 1) (length xs) ≡ (i + 1) + position_or_len p xs → cond (bad i) i (first_from bad (i + 1) (length xs)) ≡ i + cond (not t) (1 + position_or_len p xs) 0
      go true b later = cond-true (bad i) i (first_from bad (i + 1) (length xs)) (ap bad (omega arith) ∙ b) ∙ omega arith
      go false b later = cond-false (bad i) i (first_from bad (i + 1) (length xs)) (ap bad (omega arith) ∙ b) ∙ later ∙ omega arith

-- the fault of a check is at the first element that its test finds
pub lowest_position : {X : Type 0} (layer : Layer) (check : Check) (p : X → Bool) (bad : ℕ → Bool) (xs : List X) → ((k : ℕ) → k < length xs → bad k ≡ passes_at p xs k) → lowest layer check bad (length xs) ≡ option_map (fault_at layer check) (position p xs)
lowest_position layer check p bad xs h = ap (λ n. fault_if layer check n (ltb n (length xs))) {x = first_where bad (length xs)} {y = position_or_len p xs} (place_is p bad 0 xs (λ k l. ap bad (omega arith) ∙ h k l) ∙ omega arith) ∙ by_found (ltb (position_or_len p xs) (length xs)) (position_or_len p xs)
  where
    by_found : (b : Bool) (n : ℕ) → fault_if layer check n b ≡ option_map (fault_at layer check) (cond b (Some n) None)
    by_found true n = refl
    by_found false n = refl
