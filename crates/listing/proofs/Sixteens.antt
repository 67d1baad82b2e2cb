-- The digits that std writes in base 16 are those of listings. Assumes nothing.
use Rattle.std.proofs.Common.{◌≡◌, ℕ, zero, suc, ◌+◌, ◌-◌, ◌*◌, ◌/◌, ◌%◌, ◌^◌, ◌<◌, ◌≤◌, ◌⊎◌, Bool, true, false, cond, ltb, List, [], ◌∷◌, ◌++◌, length, replicate, sym, refl, ap, ap₂, ◌∙◌, inl, inr, arith, append_assoc, append-nil, length-append, add-one}
use Rattle.std.proofs.lemmas.Bool.{cond-true, cond-false, lt-ltb, le-ltb, ltb-true, ltb-false, eq-eqb, ne_eqb}
use Rattle.std.proofs.lemmas.List.{replicate-append-replicate}
use Rattle.std.proofs.Math.Arith.{mod-mul}
use Rattle.std.proofs.Math.Nat.{one-le-pow, pow-suc, mod-le}
use Rattle.std.proofs.lemmas.Nat.{mod_below}
use Rattle.std.specs.Fmt.{digit_glyph, digits, digits_onto, padded_integral, format_spec, char_count}
use Rattle.listing.specs.Digits.{hexadecimal, short_hexadecimal}

one_or_more : (n : ℕ) → (n < 16) ⊎ (16 ≤ n)
one_or_more n = go (ltb n 16) refl
  where
    go : (b : Bool) → ltb n 16 ≡ b → (n < 16) ⊎ (16 ≤ n)
    go true e = inl (ltb-true n 16 e)
    go false e = inr (ltb-false n 16 e)

module _ (k n : ℕ) where
  -- a number of one digit, and one of more
  short_one : n < 16 → short_hexadecimal (suc k) n ≡ digit_glyph false (n % 16) ∷ []
  short_one l = ap (λ b. cond b [] (short_hexadecimal k (n / 16)) ++ digit_glyph false (n % 16) ∷ []) (lt-ltb n 16 l)

  short_more : 16 ≤ n → short_hexadecimal (suc k) n ≡ short_hexadecimal k (n / 16) ++ digit_glyph false (n % 16) ∷ []
  short_more l = ap (λ b. cond b [] (short_hexadecimal k (n / 16)) ++ digit_glyph false (n % 16) ∷ []) (le-ltb n 16 l)

-- the digits of a number, in front of what is written
onto : (k n : ℕ) (acc : List ℕ) → digits_onto k 16 false n acc ≡ short_hexadecimal k n ++ acc
onto zero n acc = refl
onto (suc k) n acc = go (one_or_more n) (onto k (n / 16) (digit_glyph false (n % 16) ∷ acc))
  where
    go : (n < 16) ⊎ (16 ≤ n) → digits_onto k 16 false (n / 16) (digit_glyph false (n % 16) ∷ acc) ≡ short_hexadecimal k (n / 16) ++ digit_glyph false (n % 16) ∷ acc → digits_onto (suc k) 16 false n acc ≡ short_hexadecimal (suc k) n ++ acc
    go (inl l) h = cond-true _ _ _ (eq-eqb (n / 16) 0 (omega arith)) ∙ sym (ap (λ ds. ds ++ acc) (short_one k n l))
    go (inr l) h = cond-false _ _ _ (ne_eqb (n / 16) 0 (λ e. omega arith)) ∙ h ∙ sym (ap (λ ds. ds ++ acc) (short_more k n l) ∙ append_assoc (short_hexadecimal k (n / 16)) (digit_glyph false (n % 16) ∷ []) acc)

-- as many digits as the number has are enough
short_same : (j k n : ℕ) → n < 16 ^ suc j → n < 16 ^ suc k → short_hexadecimal (suc j) n ≡ short_hexadecimal (suc k) n
short_same zero k n p q = let l : n < 16 = omega arith in short_one zero n l ∙ sym (short_one k n l)
short_same (suc j) zero n p q = let l : n < 16 = omega arith in short_one (suc j) n l ∙ sym (short_one zero n l)
short_same (suc j) (suc k) n p q = go (one_or_more n) (short_same j k (n / 16) (omega (arith, pow-suc 16 (suc j))) (omega (arith, pow-suc 16 (suc k))))
  where
    go : (n < 16) ⊎ (16 ≤ n) → short_hexadecimal (suc j) (n / 16) ≡ short_hexadecimal (suc k) (n / 16) → short_hexadecimal (suc (suc j)) n ≡ short_hexadecimal (suc (suc k)) n
    go (inl l) h = short_one (suc j) n l ∙ sym (short_one (suc k) n l)
    go (inr l) h = short_more (suc j) n l ∙ ap (λ ds. ds ++ digit_glyph false (n % 16) ∷ []) h ∙ sym (short_more (suc k) n l)

-- what `{:x}` writes
pub short_digits : (k n : ℕ) → n < 16 ^ suc k → n < 2 ^ 64 → digits 16 false n ≡ short_hexadecimal (suc k) n
unfolding digits
short_digits k n p q = onto 64 n [] ∙ append-nil (short_hexadecimal 64 n) ∙ short_same 63 k n (omega arith) p

zeros : (k : ℕ) → hexadecimal k 0 ≡ replicate k 48
zeros zero = refl
zeros (suc k) = ap (λ ds. ds ++ 48 ∷ []) (zeros k) ∙ replicate-append-replicate k 1 48 ∙ ap (λ i. replicate i 48) (add-one k)

-- zeros in front make the digits as many as are wanted
filled : (k n : ℕ) → n < 16 ^ suc k → replicate (suc k - length (short_hexadecimal (suc k) n)) 48 ++ short_hexadecimal (suc k) n ≡ hexadecimal (suc k) n
filled zero n p = rw (short_one zero n (omega arith))
filled (suc k) n p = go (one_or_more n) (filled k (n / 16) (omega (arith, pow-suc 16 (suc k))))
  where
    go : (n < 16) ⊎ (16 ≤ n) → replicate (suc k - length (short_hexadecimal (suc k) (n / 16))) 48 ++ short_hexadecimal (suc k) (n / 16) ≡ hexadecimal (suc k) (n / 16) → replicate (suc (suc k) - length (short_hexadecimal (suc (suc k)) n)) 48 ++ short_hexadecimal (suc (suc k)) n ≡ hexadecimal (suc (suc k)) n
    go (inl l) h =
        let e : n / 16 ≡ 0 = omega arith in
        let all : suc (suc k) - 1 ≡ suc k = omega arith in
        ap (λ ds. replicate (suc (suc k) - length ds) 48 ++ ds) (short_one (suc k) n l) ∙ ap (λ i. replicate i 48 ++ digit_glyph false (n % 16) ∷ []) all ∙ sym (ap (λ ds. ds ++ digit_glyph false (n % 16) ∷ []) (ap (hexadecimal (suc k)) e ∙ zeros (suc k)))
    go (inr l) h =
        let front : List ℕ = short_hexadecimal (suc k) (n / 16) in
        let e : suc (suc k) - length (front ++ digit_glyph false (n % 16) ∷ []) ≡ suc k - length front = omega (arith, length-append front (digit_glyph false (n % 16) ∷ [])) in
        ap (λ ds. replicate (suc (suc k) - length ds) 48 ++ ds) (short_more (suc k) n l) ∙ ap (λ i. replicate i 48 ++ (front ++ digit_glyph false (n % 16) ∷ [])) e ∙ sym (append_assoc (replicate (suc k - length front) 48) front (digit_glyph false (n % 16) ∷ [])) ∙ ap (λ ds. ds ++ digit_glyph false (n % 16) ∷ []) h

pub power_positive : (k : ℕ) → 0 < 16 ^ k
power_positive k = one-le-pow k 16 (omega arith)

-- the lowest digits are those of the number without its higher ones
lowest_digits : (k n : ℕ) → hexadecimal k (n % 16 ^ k) ≡ hexadecimal k n
lowest_digits zero n = refl
lowest_digits (suc k) n =
    let e : n % 16 ^ suc k ≡ n / 16 % 16 ^ k * 16 + n % 16 = ap (λ m. n % m) (pow-suc 16 k) ∙ mod-mul n {m = 16 ^ k} {c = 16} (power_positive k) (omega arith) in
    let high : n % 16 ^ suc k / 16 ≡ n / 16 % 16 ^ k = omega arith in
    let low : n % 16 ^ suc k % 16 ≡ n % 16 = omega arith in
    ap₂ (λ a b. hexadecimal k a ++ digit_glyph false b ∷ []) high low ∙ ap (λ ds. ds ++ digit_glyph false (n % 16) ∷ []) (lowest_digits k (n / 16))

with_zeros : (k : ℕ) (ds : List ℕ) → padded_integral (format_spec 32 0 4 k (2 ^ 64 - 1)) false [] ds ≡ replicate (k - length ds) 48 ++ ds
unfolding padded_integral char_count
with_zeros k ds =
    let e : k - length ds - 0 - 0 ≡ k - length ds = omega arith in
    ap₂ (λ i t. replicate i 48 ++ t) e (append-nil ds)

-- what `{:0k$x}` writes of them
pub filled_digits : (k n m : ℕ) → 0 < k → n < 2 ^ 64 → m ≡ n % 16 ^ k → padded_integral (format_spec 32 0 4 k (2 ^ 64 - 1)) false [] (digits 16 false m) ≡ hexadecimal k n
filled_digits zero n m h l e = absurd (omega arith)
filled_digits (suc k) n m h l e =
    let small : m < 16 ^ suc k = omega (arith, mod_below n (16 ^ suc k) (power_positive (suc k))) in
    let ds : List ℕ = short_hexadecimal (suc k) m in
    let is : digits 16 false m ≡ ds = short_digits k m small (omega (arith, mod-le n (16 ^ suc k))) in
    let all : replicate (suc k - length ds) 48 ++ ds ≡ hexadecimal (suc k) n = filled k m small ∙ ap (hexadecimal (suc k)) e ∙ lowest_digits (suc k) n in
    ap (padded_integral (format_spec 32 0 4 (suc k) (2 ^ 64 - 1)) false []) is ∙ with_zeros (suc k) ds ∙ all
