-- One turn of a loop over rows. Assumes nothing.
use Rattle.std.proofs.Common.{◌≡◌, ℕ, suc, ◌+◌, ◌-◌, ◌<◌, ◌≤◌, List, [], ◌∷◌, length, get_or, drop, set, fold, sym, refl, ap, ◌∙◌, ap₂, arith}
use Rattle.std.specs.List.{zip, range_with_len}
use Rattle.std.proofs.lemmas.List.{drop_more, drop_all, set_past}
use Rattle.matrix.specs.Patterns.{row_part}
use Rattle.arithmetic.specs.Meanings.{Meaning}
use Rattle.arithmetic.specs.Sweeps.{Equations, row_entries, row_value_of, placed, updated}

module _ {C V : Type 0} (m : Meaning C V) (s : Equations C V) (x : List V) (i : ℕ) where
  pub updated_at : (js : List ℕ) (cs : List C) (b d value : V) → i < length s.rhs → b ≡ get_or s.rhs i d → js ≡ row_part s.pattern s.pattern.columns i → cs ≡ row_part s.pattern s.coefficients i → value ≡ row_value_of m i (zip js cs) b x → set x i value ≡ updated m s x i
  updated_at js cs b d value l read columns coefficients e =
      let entries : zip js cs ≡ row_entries s i = ap₂ zip columns coefficients in
      let same : value ≡ row_value_of m i (row_entries s i) b x = e ∙ ap (λ row. row_value_of m i row b x) entries in
      rw (drop_more s.rhs i d l, ← read, same)

  pub updated_past : length s.rhs ≤ i → x ≡ updated m s x i
  updated_past l = rw (drop_all i s.rhs l)

  pub updated_beyond : length x ≤ i → x ≡ updated m s x i
  updated_beyond l = go (drop i s.rhs)
    where
      go : (bs : List V) → x ≡ placed i (λ b. row_value_of m i (row_entries s i) b x) x bs
      go [] = refl
      go (b ∷ bs) = sym (set_past x i _ l)

-- a count from i up to n
pub count_more : {S : Type 0} (f : S → ℕ → S) (i n : ℕ) (s t : S) {all : S} → i < n → t ≡ f s i → fold f s (range_with_len i (n - i)) ≡ all → fold f t (range_with_len (i + 1) (n - (i + 1))) ≡ all
count_more f i n s t lt e inv =
    let m : n - i ≡ suc (n - (i + 1)) = omega arith in
    ap (λ x. fold f x (range_with_len (i + 1) (n - (i + 1)))) e ∙ (rw m at inv)
