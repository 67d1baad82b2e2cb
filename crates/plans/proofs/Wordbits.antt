-- The bits of a word: of one with a bit set, of one made from a test, and that they are all of it. Assumes nothing.
use Rattle.std.proofs.Common.{◌≡◌, ℕ, zero, suc, ◌+◌, ◌-◌, ◌*◌, ◌/◌, ◌%◌, ◌^◌, ◌<◌, ◌≤◌, Bool, true, false, cond, ◌||◌, eqb, ◌⊎◌, sym, refl, ap, ◌∙◌, subst, inl, inr, ⊎_elim, mul_assoc, arith}
use native.Mathlib.Nat.{mul-add-div_right, mul-add-mod_self_right}
use lib.Bits.{bit_or}
use Rattle.std.proofs.lemmas.Nat.{or_shr, or_mod, shl-shr, shr-shr, shr_high, pow-add, pow_below, pow_pos, div_below}
use Rattle.std.proofs.lemmas.List.FromFn.{get_or-map-range_with_len}
use Rattle.std.proofs.lemmas.Bool.{cases_eq, cases_lt, cases_Bool, cases_order, eq-eqb, ne_eqb, eqb-true, eqb-false}
use Rattle.checks.specs.Lists.{at}
use Rattle.points.proofs.Uptos.{sum_more}
use Rattle.plans.specs.Tilings.{Tiling, waits}
use Rattle.plans.specs.Words.{word, bit, wait_words_of, WordsTell}

power_bit : (u t : ℕ) → 2 ^ u / 2 ^ t % 2 ≡ cond (eqb t u) 1 0
power_bit u t = elim (cases_order t u) [
  | inl e ↦ rw (eq-eqb t u e) (ap (λ n. 2 ^ n / 2 ^ t % 2) (sym e) ∙ ap (λ n. n % 2) (ap (λ n. n / 2 ^ t) (omega arith) ∙ shl-shr 1 t))
  | inr o ↦ elim o [
    | inl lt ↦ rw (ne_eqb t u (omega arith)) (higher (u - suc t) (omega arith))
    | inr gt ↦ rw (ne_eqb t u (omega arith)) (let z : 2 ^ u / 2 ^ t < 1 = div_below (2 ^ u) (2 ^ t) 1 (pow_pos t) (omega (arith, pow_below u t gt)) in omega arith)
  ]
]
  where
    higher : (d : ℕ) → suc d + t ≡ u → 2 ^ u / 2 ^ t % 2 ≡ 0
    higher d e = ap (λ n. 2 ^ n / 2 ^ t % 2) (sym e) ∙ ap (λ n. n / 2 ^ t % 2) (pow-add 2 (suc d) t) ∙ ap (λ n. n % 2) (shl-shr (2 ^ suc d) t) ∙ omega arith

two : (a : ℕ) → a < 2 → (a ≡ 0) ⊎ (a ≡ 1)
two a h = elim (cases_eq a 0) [ inl e ↦ inl e | inr e ↦ inr (omega arith) ]

or_bit : (a : ℕ) (b : Bool) → a < 2 → eqb (bit_or a (cond b 1 0)) 1 ≡ (b || eqb a 1)
or_bit a true h = ⊎_elim (λ e. ap (λ n. eqb (bit_or n 1) 1) e) (λ e. ap (λ n. eqb (bit_or n 1) 1) e) (two a h)
or_bit a false h = ⊎_elim (λ e. subst (λ n. eqb (bit_or n 0) 1 ≡ eqb n 1) (sym e) refl) (λ e. subst (λ n. eqb (bit_or n 0) 1 ≡ eqb n 1) (sym e) refl) (two a h)

-- a word with bit u set
pub bit_set : (w u t : ℕ) → bit (bit_or w (2 ^ u)) t ≡ (eqb t u || bit w t)
bit_set w u t =
    ap (λ n. eqb (n % 2) 1) (or_shr w (2 ^ u) t) ∙ ap (λ n. eqb n 1) (or_mod (w / 2 ^ t) (2 ^ u / 2 ^ t) 1)
    ∙ ap (λ n. eqb (bit_or (w / 2 ^ t % 2) n) 1) (power_bit u t) ∙ or_bit (w / 2 ^ t % 2) (eqb t u) (omega arith)

pub bit_zero : (t : ℕ) → bit 0 t ≡ false
bit_zero t = let z : 0 / 2 ^ t < 1 = div_below 0 (2 ^ t) 1 (pow_pos t) (omega (arith, pow_pos t)) in ne_eqb _ _ (omega arith)

-- words with the same bits are the same
pub bits_same : (n a b : ℕ) → a ≤ n → b ≤ n → ((t : ℕ) → bit a t ≡ bit b t) → a ≡ b
bits_same zero a b ha hb same = omega arith
bits_same (suc n) a b ha hb same =
    let low : a % 2 ≡ b % 2 = lowest (same 0) in
    let high : a / 2 ≡ b / 2 = bits_same n (a / 2) (b / 2) (omega arith) (omega arith) (λ t. shifted a t ∙ same (1 + t) ∙ sym (shifted b t)) in
    omega arith
  where
    lowest : bit a 0 ≡ bit b 0 → a % 2 ≡ b % 2
    lowest e = elim (cases_Bool (bit a 0)) [
      | inl h ↦ omega (arith, eqb-true (a / 1 % 2) 1 h, eqb-true (b / 1 % 2) 1 (sym e ∙ h))
      | inr h ↦ let x = eqb-false (a / 1 % 2) 1 h in let y = eqb-false (b / 1 % 2) 1 (sym e ∙ h) in omega arith
    ]

    shifted : (x t : ℕ) → bit (x / 2) t ≡ bit x (1 + t)
    shifted x t = ap (λ n. eqb (n % 2) 1) (shr-shr x 1 t)

module _ (p : ℕ → Bool) where
  one : ℕ → ℕ
  one t = cond (p t) 1 0

  one_times : (t : ℕ) → cond (p t) (2 ^ t) 0 ≡ one t * 2 ^ t
  unfolding one
  one_times t = go (p t)
    where
      go : (b : Bool) → cond b (2 ^ t) 0 ≡ cond b 1 0 * 2 ^ t
      go true = omega arith
      go false = omega arith

  one_below : (t : ℕ) → one t < 2
  unfolding one
  one_below t = go (p t)
    where
      go : (b : Bool) → cond b 1 0 < 2
      go true = omega arith
      go false = omega arith

  word_more : (n : ℕ) → word p (suc n) ≡ one n * 2 ^ n + word p n
  word_more n = sum_more (λ t. cond (p t) (2 ^ t) 0) n ∙ ap (λ x. word p n + x) (one_times n) ∙ omega arith

  word_below : (n : ℕ) → word p n < 2 ^ n
  word_below zero = omega arith
  word_below (suc n) =
      let s : suc n ≡ n + 1 = omega arith in
      let e : 2 ^ suc n ≡ 2 ^ n * 2 = ap (λ x. 2 ^ x) s ∙ pow-add 2 n 1 in
      go (one n) (one_below n) (word p (suc n)) (word_more n) e (word_below n)
    where
      go : (o : ℕ) → o < 2 → (w : ℕ) → w ≡ o * 2 ^ n + word p n → 2 ^ suc n ≡ 2 ^ n * 2 → word p n < 2 ^ n → w < 2 ^ suc n
      go zero l w q e i = omega arith
      go (suc zero) l w q e i = omega arith
      go (suc (suc o)) l w q e i = absurd (omega arith)

  bit_of : (n t : ℕ) → t < n → word p n / 2 ^ t % 2 ≡ one t
  bit_of zero t l = absurd (omega arith)
  bit_of (suc n) t l = ⊎_elim here (λ ne. there (omega arith) ∙ bit_of n t (omega arith)) (cases_eq t n)
    where
      here : t ≡ n → word p (suc n) / 2 ^ t % 2 ≡ one t
      here e =
          let d : word p (suc n) / 2 ^ n ≡ one n = ap (λ x. x / 2 ^ n) (word_more n) ∙ shr_high (one n) n (word p n) (word_below n) in
          let b = one_below n in
          let m : word p (suc n) / 2 ^ n % 2 ≡ one n = omega arith in
          subst (λ x. word p (suc n) / 2 ^ x % 2 ≡ one x) (sym e) m

      there : t < n → word p (suc n) / 2 ^ t % 2 ≡ word p n / 2 ^ t % 2
      there q =
          let k = n - t - 1 in
          let e : k + 1 + t ≡ n = omega arith in
          let f : 2 ^ n ≡ 2 ^ k * 2 * 2 ^ t = ap (λ x. 2 ^ x) (sym e) ∙ pow-add 2 (k + 1) t ∙ ap (λ x. x * 2 ^ t) (pow-add 2 k 1) in
          let g : one n * 2 ^ n ≡ one n * 2 ^ k * 2 * 2 ^ t = ap (λ x. one n * x) f ∙ sym (mul_assoc (one n) (2 ^ k * 2) (2 ^ t)) ∙ ap (λ x. x * 2 ^ t) (sym (mul_assoc (one n) (2 ^ k) 2)) in
          ap (λ x. x / 2 ^ t % 2) (word_more n ∙ ap (λ x. x + word p n) g) ∙ ap (λ x. x % 2) (mul-add-div_right (pow_pos t) (one n * 2 ^ k * 2) (word p n)) ∙ mul-add-mod_self_right (one n * 2 ^ k) 2 (word p n / 2 ^ t)

  -- below n a word's bits are the test's answers
  pub word_bit : (n t : ℕ) → t < n → bit (word p n) t ≡ p t
  unfolding one
  word_bit n t h = ap (λ x. eqb x 1) (bit_of n t h) ∙ go (p t)
    where
      go : (b : Bool) → eqb (cond b 1 0) 1 ≡ b
      go true = refl
      go false = refl

  -- and from n on none is set
  pub word_high : (n t : ℕ) → n ≤ t → bit (word p n) t ≡ false
  word_high n t h =
      let below : word p n < 1 * 2 ^ t = ⊎_elim (λ (q : n < t). omega (arith, word_below n, pow_below n t q)) (λ (q : t ≤ n). let e : n ≡ t = omega arith in omega (arith, word_below n, ap (λ x. 2 ^ x) e)) (cases_lt n t) in
      let z : word p n / 2 ^ t < 1 = div_below (word p n) (2 ^ t) 1 (pow_pos t) below in
      ne_eqb _ _ (omega arith)

pub word_at : (l : Tiling) (u : ℕ) → u < l.count → at (wait_words_of l) u ≡ word (waits l u) l.count
word_at l u h = get_or-map-range_with_len (λ u. word (waits l u) l.count) 0 l.count u u 0 h (omega arith)

pub words_tell : WordsTell
words_tell l u h = (
  λ t lt. ap (λ w. bit w t) (word_at l u h) ∙ word_bit (waits l u) l.count t lt,
  λ t ge. ap (λ w. bit w t) (word_at l u h) ∙ word_high (waits l u) l.count t ge,
)
