-- What noting all pairs leaves: the wait words, and the first point that a higher tile precedes. Assumes nothing.
use Rattle.std.proofs.Common.{◌≡◌, ℕ, ◌+◌, ◌*◌, ◌/◌, ◌%◌, ◌^◌, ◌<◌, ◌≤◌, min, Bool, true, false, cond, not, ◌&&◌, ◌||◌, eqb, ltb, List, [], ◌∷◌, length, set, replicate, is_some, fold, sym, refl, ap, ◌∙◌, subst, inl, inr, ⊎_elim, arith, length-set}
use lib.Bits.{bit_or}
use Rattle.std.proofs.lemmas.List.{ext_get_or, get_or-replicate, length-replicate, get_or-set_same, get_or-set_other}
use Rattle.std.proofs.lemmas.List.FromFn.{length-map-range_with_len}
use Rattle.std.proofs.lemmas.Nat.{div-mul-add, mod-mul-add, div-add-mod', div_below, mod_below, mul-add-lt}
use Rattle.std.proofs.lemmas.Bool.{cases_eq, cases_lt, cases_Bool, and_parts, and_from, and_left, and_right, or_left, or_right, or_from, not-true, not_from_false, eqb-true, eqb-false, eq-eqb, ne_eqb, cond-true, cond-false}
use Rattle.checks.specs.declared.Layer.{Layer}
use Rattle.checks.specs.Lists.{at, some, first_where}
use Rattle.matrix.specs.Patterns.{matrix_fault}
use Rattle.points.proofs.Waits.{some_point_at, some_point_from, waits_told}
use Rattle.plans.specs.Tilings.{Tiling, tile_of, precedes, overtaken_at, waits}
use Rattle.plans.specs.Words.{word, bit, wait_words_of}
use Rattle.plans.specs.Pairs.{all_pairs, noted, lowered}
use Rattle.plans.proofs.Leasts.{first_is}
use Rattle.plans.proofs.Members.{same_test}
use Rattle.plans.proofs.Precedence.{Preceding, from_pairs, to_pairs}
use Rattle.plans.proofs.Wordbits.{bit_set, bit_zero, bits_same, word_bit, word_high, word_at}

module _ (tiles : List ℕ) where
  -- a pair shows that tile u waits for tile t
  abbrev pub shows : ℕ → ℕ → ℕ × ℕ → Bool
  shows u t p = not (eqb t u) && (eqb (at tiles p.0) t && eqb (at tiles p.1) u)

  -- a pair shows that point x is preceded by one of a higher tile
  abbrev pub overtakes : ℕ → ℕ × ℕ → Bool
  overtakes x p = eqb x p.1 && ltb (at tiles p.1) (at tiles p.0)

  length_noted : (words : List ℕ) (p : ℕ × ℕ) → length (noted tiles words p) ≡ length words
  length_noted words p = go (eqb (at tiles p.0) (at tiles p.1))
    where
      go : (b : Bool) → length (cond b words (set words (at tiles p.1) (bit_or (at words (at tiles p.1)) (2 ^ at tiles p.0)))) ≡ length words
      go true = refl
      go false = length-set words (at tiles p.1) _

  pub length_all_noted : (words : List ℕ) (ps : List (ℕ × ℕ)) → length (fold (noted tiles) words ps) ≡ length words
  length_all_noted words [] = refl
  length_all_noted words (p ∷ ps) = length_all_noted (noted tiles words p) ps ∙ length_noted words p

  -- one pair
  noted_bit : (words : List ℕ) (p : ℕ × ℕ) (u t : ℕ) → u < length words → bit (at (noted tiles words p) u) t ≡ (shows u t p || bit (at words u) t)
  noted_bit words p u t h = elim (cases_eq a b) [
    | inl e ↦ ap (λ ws. bit (at ws u) t) (cond-true (eqb a b) words _ (eq-eqb a b e)) ∙ silent (λ x y z. x (sym y ∙ e ∙ z))
    | inr e ↦ ap (λ ws. bit (at ws u) t) (cond-false (eqb a b) words _ (ne_eqb a b e)) ∙ (elim (cases_eq u b) [
      | inl q ↦ subst (λ v. bit (at (set words b (bit_or (at words b) (2 ^ a))) v) t ≡ (shows v t p || bit (at words v) t)) (sym q)
          (ap (λ w. bit w t) (get_or-set_same words b _ 0 (subst (λ v. v < length words) q h)) ∙ bit_set (at words b) a t ∙ ap (λ (s : Bool). s || bit (at words b) t) (told e))
      | inr q ↦ ap (λ w. bit w t) (get_or-set_other words b u _ 0 q) ∙ silent (λ x y z. q (sym z))
    ])
  ]
    where
      a : ℕ
      a = at tiles p.0

      b : ℕ
      b = at tiles p.1

      silent : ((t ≡ u → ⊥) → at tiles p.0 ≡ t → at tiles p.1 ≡ u → ⊥) → bit (at words u) t ≡ (shows u t p || bit (at words u) t)
      silent never = ap (λ (s : Bool). s || bit (at words u) t) (sym none)
        where
          none : shows u t p ≡ false
          none = elim (cases_Bool (shows u t p)) [
            | inl e ↦
                let x = and_parts (not (eqb t u)) _ e in
                let y = and_parts (eqb (at tiles p.0) t) _ x.1 in
                absurd (never (eqb-false t u (not-true _ x.0)) (eqb-true _ _ y.0) (eqb-true _ _ y.1))
            | inr e ↦ e
          ]

      told : (at tiles p.0 ≡ at tiles p.1 → ⊥) → eqb t (at tiles p.0) ≡ shows (at tiles p.1) t p
      told ne = same_test (eqb t (at tiles p.0)) (shows (at tiles p.1) t p)
          (λ e. let q = eqb-true t (at tiles p.0) e in and_from _ _ (not_from_false _ (ne_eqb t (at tiles p.1) (λ r. ne (sym q ∙ r)))) (and_from _ _ (eq-eqb _ _ (sym q)) (eq-eqb (at tiles p.1) (at tiles p.1) refl)))
          (λ e. eq-eqb _ _ (sym (eqb-true _ _ (and_parts (eqb (at tiles p.0) t) _ (and_parts (not (eqb t (at tiles p.1))) _ e).1).0)))

  -- all pairs
  pub all_noted_bit : (words : List ℕ) (ps : List (ℕ × ℕ)) (u t : ℕ) → u < length words → bit (at (fold (noted tiles) words ps) u) t ≡ (some (shows u t) ps || bit (at words u) t)
  all_noted_bit words [] u t h = refl
  all_noted_bit words (p ∷ ps) u t h =
      all_noted_bit (noted tiles words p) ps u t (subst (λ n. u < n) (sym (length_noted words p)) h)
      ∙ ap (λ (s : Bool). some (shows u t) ps || s) (noted_bit words p u t h) ∙ turn (some (shows u t) ps) (shows u t p) (bit (at words u) t)
    where
      turn : (x y z : Bool) → (x || (y || z)) ≡ ((y || x) || z)
      turn true true z = refl
      turn true false z = refl
      turn false true z = refl
      turn false false z = refl

  -- the lowest point so far
  pub record Lowest (low : ℕ) (ps : List (ℕ × ℕ)) (r : ℕ) : Type 0 where
    pub within : r ≤ low
    pub none : (x : ℕ) → x < r → some (overtakes x) ps ≡ false
    pub here : r < low → some (overtakes r) ps ≡ true

  pub all_lowered : (low : ℕ) (ps : List (ℕ × ℕ)) → Lowest low ps (fold (lowered tiles) low ps)
  all_lowered low [] = record { within = omega arith; none = λ x h. refl; here = λ h. absurd (omega arith) }
  all_lowered low (p ∷ ps) = elim (cases_Bool (ltb (at tiles p.1) (at tiles p.0))) [
    | inl e ↦
        let s : lowered tiles low p ≡ min low p.1 = cond-true (ltb (at tiles p.1) (at tiles p.0)) (min low p.1) low e in
        subst (λ n. Lowest low (p ∷ ps) (fold (lowered tiles) n ps)) (sym s) (taken e (all_lowered (min low p.1) ps))
    | inr e ↦
        let s : lowered tiles low p ≡ low = cond-false (ltb (at tiles p.1) (at tiles p.0)) (min low p.1) low e in
        subst (λ n. Lowest low (p ∷ ps) (fold (lowered tiles) n ps)) (sym s) (left e (all_lowered low ps))
  ]
    where
      taken : ltb (at tiles p.1) (at tiles p.0) ≡ true → {r : ℕ} → Lowest (min low p.1) ps r → Lowest low (p ∷ ps) r
      taken e {r} m = record {
        within = omega (arith, m.within);
        none = λ x h. or_from (overtakes x p) _ (and_left (eqb x p.1) _ (ne_eqb x p.1 (omega (arith, m.within)))) (m.none x h);
        here = λ h. ⊎_elim
            (λ (q : r < min low p.1). or_right (overtakes r p) _ (m.here q))
            (λ (q : min low p.1 ≤ r). or_left (overtakes r p) _ (and_from _ _ (eq-eqb r p.1 (omega (arith, m.within))) e))
            (cases_lt r (min low p.1));
      }

      left : ltb (at tiles p.1) (at tiles p.0) ≡ false → {r : ℕ} → Lowest low ps r → Lowest low (p ∷ ps) r
      left e {r} m = record {
        within = m.within;
        none = λ x h. or_from (overtakes x p) _ (and_right (eqb x p.1) _ e) (m.none x h);
        here = λ h. or_right (overtakes r p) _ (m.here h);
      }

module _ (l : Tiling) (layer : Layer) (ok : is_some (matrix_fault layer l.pattern) ≡ false) (rows : 1 ≤ l.pattern.rows) where
  abbrev R : ℕ
  R = l.pattern.rows

  -- a point is overtaken where some pair shows it
  overtaken_shown : (x : ℕ) → x < l.sweeps * R → some (overtakes l.tiles x) (all_pairs l) ≡ overtaken_at l x
  overtaken_shown x h = same_test _ _
      (λ e. let w = from_pairs l layer ok (overtakes l.tiles x) e in shown w)
      (λ e.
      let q = some_point_at R l.sweeps _ e in
      let y = and_parts (precedes l q.0 q.1 (x / R) (x % R)) _ q.4 in
      to_pairs l layer ok (overtakes l.tiles x) q.0 q.1 (x / R) (x % R) q.2 q.3 (div_below x R l.sweeps (omega arith) h) (mod_below x R (omega arith)) y.0
      (and_from _ _ (eq-eqb x (x / R * R + x % R) (sym (div-add-mod' x R))) y.1))
    where
      shown : Preceding l layer ok (overtakes l.tiles x) → overtaken_at l x ≡ true
      shown w =
          let y = and_parts (eqb x (w.d * R + w.j)) _ w.passes in
          let e : x ≡ w.d * R + w.j = eqb-true _ _ y.0 in
          let d : w.d ≡ x / R = sym (ap (λ n. n / R) e ∙ div-mul-add w.d R w.j w.j_in) in
          let j : w.j ≡ x % R = sym (ap (λ n. n % R) e ∙ mod-mul-add w.d R w.j w.j_in) in
          some_point_from R l.sweeps (λ c i. precedes l c i (x / R) (x % R) && ltb (tile_of l (x / R) (x % R)) (tile_of l c i)) w.c w.i w.c_in w.i_in
          (subst (λ n. (precedes l w.c w.i n (x % R) && ltb (tile_of l n (x % R)) (tile_of l w.c w.i)) ≡ true) d
          (subst (λ n. (precedes l w.c w.i w.d n && ltb (tile_of l w.d n) (tile_of l w.c w.i)) ≡ true) j
          (and_from _ _ w.pre y.1)))

  pub lowest_overtaken : (n : ℕ) → n ≡ l.sweeps * R → fold (lowered l.tiles) n (all_pairs l) ≡ first_where (overtaken_at l) n
  lowest_overtaken n e =
      let m = all_lowered l.tiles n (all_pairs l) in
      let w = m.within in
      sym (first_is (overtaken_at l) n _ m.within (λ x h. sym (overtaken_shown x (omega arith)) ∙ m.none x h) (λ h. sym (overtaken_shown _ (omega arith)) ∙ m.here h))

  module _ (long : length l.tiles ≡ l.sweeps * R) (below : (p : ℕ) → p < length l.tiles → at l.tiles p < l.count) where
    waits_shown : (u t : ℕ) → u < l.count → t < l.count → some (shows l.tiles u t) (all_pairs l) ≡ waits l u t
    waits_shown u t hu ht = same_test _ _
        (λ e. let w = from_pairs l layer ok (shows l.tiles u t) e in shown w)
        (λ e. let w = (waits_told (precedes l) R l.sweeps l.count (tile_of l)).sound u t hu ht e in
        to_pairs l layer ok (shows l.tiles u t) w.c w.i w.d w.j w.c_in w.i_in w.d_in w.j_in w.precedes
        (and_from _ _ (not_from_false _ (ne_eqb t u w.apart)) (and_from _ _ (eq-eqb _ _ w.from) (eq-eqb _ _ w.to))))
      where
        shown : Preceding l layer ok (shows l.tiles u t) → waits l u t ≡ true
        shown w =
            let x = and_parts (not (eqb t u)) _ w.passes in
            let y = and_parts (eqb (tile_of l w.c w.i) t) _ x.1 in
            (waits_told (precedes l) R l.sweeps l.count (tile_of l)).whole u t hu ht
            (record { apart = eqb-false t u (not-true _ x.0); c = w.c; i = w.i; d = w.d; j = w.j; c_in = w.c_in; i_in = w.i_in; d_in = w.d_in; j_in = w.j_in; from = eqb-true _ _ y.0; to = eqb-true _ _ y.1; precedes = w.pre })

    none_shown : (u t : ℕ) → l.count ≤ t → some (shows l.tiles u t) (all_pairs l) ≡ false
    none_shown u t h = elim (cases_Bool (some (shows l.tiles u t) (all_pairs l))) [
      | inl e ↦
          let w = from_pairs l layer ok (shows l.tiles u t) e in
          let x = and_parts (not (eqb t u)) _ w.passes in
          let y = and_parts (eqb (tile_of l w.c w.i) t) _ x.1 in
          absurd (omega (arith, eqb-true _ _ y.0, below (w.c * R + w.i) (omega (arith, mul-add-lt w.c R w.i l.sweeps w.c_in w.i_in))))
      | inr e ↦ e
    ]

    pub all_words : fold (noted l.tiles) (replicate l.count 0) (all_pairs l) ≡ wait_words_of l
    all_words =
        let zeros : List ℕ = replicate l.count 0 in
        let long₀ : length zeros ≡ l.count = length-replicate l.count 0 in
        let same_length = length_all_noted l.tiles zeros (all_pairs l) in
        ext_get_or 0 (fold (noted l.tiles) zeros (all_pairs l)) (wait_words_of l) (same_length ∙ long₀ ∙ sym (length-map-range_with_len (λ u. word (waits l u) l.count) 0 l.count))
        (λ u h. let hu : u < l.count = omega arith in word_of u hu)
      where
        or_none : (b : Bool) (t : ℕ) → (b || bit 0 t) ≡ b
        or_none true t = refl
        or_none false t = bit_zero t

        word_of : (u : ℕ) → u < l.count → at (fold (noted l.tiles) (replicate l.count 0) (all_pairs l)) u ≡ at (wait_words_of l) u
        word_of u hu = bits_same (a + b) a b (omega arith) (omega arith) (λ t.
            all_noted_bit l.tiles (replicate l.count 0) (all_pairs l) u t (subst (λ n. u < n) (sym (length-replicate l.count 0)) hu)
            ∙ ap (λ w. some (shows l.tiles u t) (all_pairs l) || bit w t) (get_or-replicate l.count u 0 0 hu) ∙ or_none (some (shows l.tiles u t) (all_pairs l)) t
            ∙ (elim (cases_lt t l.count) [
              | inl lt ↦ waits_shown u t hu lt ∙ sym (word_bit (waits l u) l.count t lt)
              | inr ge ↦ none_shown u t ge ∙ sym (word_high (waits l u) l.count t ge)
            ])
            ∙ ap (λ w. bit w t) (sym (word_at l u hu)))
          where
            a : ℕ
            a = at (fold (noted l.tiles) (replicate l.count 0) (all_pairs l)) u

            b : ℕ
            b = at (wait_words_of l) u
