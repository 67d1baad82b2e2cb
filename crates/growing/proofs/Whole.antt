-- The sweeps that are grown are the greatest and least, and there is one such table. Assumes nothing.
use Rattle.std.proofs.Common.{◌≡◌, ℕ, zero, suc, ◌+◌, ◌-◌, ◌<◌, ◌≤◌, List, [], ◌∷◌, ◌++◌, length, get_or, take, drop, sym, refl, ap, ◌∙◌, subst, ⊎_elim, append-nil, arith, length-append, length-drop}
use lib.Seq.{take-append_seam, drop-append-le, get_or-append_seam, append_snoc}
use Rattle.std.proofs.lemmas.List.{get_or_append_left, ext_get_or, length_push, get_or_push, drop_more, take_all, take_more_same, get_or-take}
use Rattle.std.proofs.lemmas.Bool.{cases_eq}
use Rattle.std.specs.List.{between}
use Rattle.matrix.specs.Patterns.{Pattern}
use Rattle.growing.specs.declared.direction.Direction.TheVariants.{Down, Up}
use Rattle.growing.specs.Growing.{lower, raise, down, up, sweeps}
use Rattle.growing.specs.Greatest.{Tiles, Greatest, Least, Grown, SweepsAreGrown, GrownIsOne}
use Rattle.growing.proofs.Grows.{next_tiles, lower_is_greatest, raise_is_least}

drop_one : (n : ℕ) (xs : List (List ℕ)) → drop (suc n) xs ≡ drop 1 (drop n xs)
drop_one zero xs = refl
drop_one (suc n) [] = refl
drop_one (suc n) (x ∷ xs) = drop_one n xs

getD_of_drop : (n : ℕ) (xs : List (List ℕ)) → get_or (drop n xs) 0 [] ≡ get_or xs n []
getD_of_drop zero xs = refl
getD_of_drop (suc n) [] = refl
getD_of_drop (suc n) (x ∷ xs) = getD_of_drop n xs

least_at : (m : Pattern) {a b : List (List ℕ)} {c d e f : List ℕ} → a ≡ b → c ≡ d → e ≡ f → Least m a c e → Least m b d f
least_at m {a} {b} {c} {d} {e} {f} p q r h = subst (λ x. Least m b d x) r (subst (λ x. Least m b x e) q (subst (λ x. Least m x c e) p h))

greatest_at : (m : Pattern) {a b : List (List ℕ)} {c d e f : List ℕ} → a ≡ b → c ≡ d → e ≡ f → Greatest m a c e → Greatest m b d f
greatest_at m {a} {b} {c} {d} {e} {f} p q r h = subst (λ x. Greatest m b d x) r (subst (λ x. Greatest m b x e) q (subst (λ x. Greatest m x c e) p h))

module _ (m : Pattern) (k : ℕ) where
  -- going down: each sweep is the greatest under the next, by the order of those after it
  Falling : List (List ℕ) → Type 0
  Falling gs = (i : ℕ) → i + 1 < length gs → Greatest m (drop (i + 1) gs) (get_or gs (i + 1) []) (get_or gs i [])

  falling_more : (g : List ℕ) (near : List ℕ) (rest : List (List ℕ)) → Greatest m (near ∷ rest) near g → Falling (near ∷ rest) → Falling (g ∷ near ∷ rest)
  unfolding Falling
  falling_more g near rest h f zero l = subst (λ (x : ℕ). Greatest m (drop x (g ∷ near ∷ rest)) (get_or (g ∷ near ∷ rest) x []) g) (the 1 (zero + 1) (omega arith)) h
    where
      the : (a b : ℕ) → a ≡ b → a ≡ b
      the a b e = e
  falling_more g near rest h f (suc i) l =
      let e : suc (i + 1) ≡ suc i + 1 = omega arith in
      subst (λ (x : ℕ). Greatest m (drop x (g ∷ near ∷ rest)) (get_or (g ∷ near ∷ rest) x []) (get_or (near ∷ rest) i [])) e (f i (omega arith))

  record Fallen (n : ℕ) (near : List ℕ) (rest gs : List (List ℕ)) : Type 0 where
    size : length gs ≡ n + length rest + 1
    ends : drop n gs ≡ near ∷ rest
    falls : Falling gs

  fallen : (n : ℕ) (near : List ℕ) (rest : List (List ℕ)) → Tiles m k near → Falling (near ∷ rest) → Fallen n near rest (down m k n near (near ∷ rest))
  fallen zero near rest t f = record { size = omega arith; ends = refl; falls = f }
  fallen (suc n) near rest t f =
      let g = lower m k (near ∷ rest) near in
      let r = fallen n g (near ∷ rest) (next_tiles Down m k (near ∷ rest) near t) (falling_more g near rest (lower_is_greatest m k (near ∷ rest) near t) f) in
      record { size = omega (arith, r.size); ends = drop_one n _ ∙ ap (drop 1) r.ends; falls = r.falls }

  -- going up: each sweep is the least over the one before, by the order of all before it
  record Risen (n : ℕ) (grown gs : List (List ℕ)) : Type 0 where
    extra : List (List ℕ)
    split : gs ≡ grown ++ extra
    size : length extra ≡ n
    rises : (i : ℕ) → length grown ≤ i → i < length grown + n → Least m (take i gs) (get_or gs (i - 1) []) (get_or gs i [])

  risen : (n : ℕ) (near : List ℕ) (grown : List (List ℕ)) → Tiles m k near → 0 < length grown → get_or grown (length grown - 1) [] ≡ near → Risen n grown (up m k n near grown)
  risen zero near grown t p e = record { extra = []; split = sym (append-nil grown); size = refl; rises = λ i a b. absurd (omega arith) }
  risen (suc n) near grown t p e = risen_more n near grown t p e (risen n (raise m k grown near) (grown ++ raise m k grown near ∷ []) (next_tiles Up m k grown near t) (omega (arith, length_push grown (raise m k grown near)))
      (get_or_push grown (raise m k grown near) [] _ (omega (arith, length_push grown (raise m k grown near)))))
    where
      risen_more : (n : ℕ) (near : List ℕ) (grown : List (List ℕ)) → Tiles m k near → 0 < length grown → get_or grown (length grown - 1) [] ≡ near → Risen n (grown ++ raise m k grown near ∷ []) (up m k n (raise m k grown near) (grown ++ raise m k grown near ∷ [])) → Risen (suc n) grown (up m k n (raise m k grown near) (grown ++ raise m k grown near ∷ []))
      risen_more n near grown t p e r =
          let g = raise m k grown near in
          let gs = up m k n g (grown ++ g ∷ []) in
          let sp : gs ≡ grown ++ g ∷ r.extra = r.split ∙ append_snoc grown g r.extra in
          record {
            extra = g ∷ r.extra;
            split = sp;
            size = omega (arith, r.size);
            rises = λ i a b. ⊎_elim
                (λ q. least_at m
                (sym (take-append_seam grown (g ∷ r.extra)) ∙ ap (take (length grown)) (sym sp) ∙ ap (λ x. take x gs) q)
                (sym e ∙ sym (get_or_append_left grown (g ∷ r.extra) [] (length grown - 1) (omega arith)) ∙ ap (λ x. get_or x (length grown - 1) []) (sym sp) ∙ ap (λ x. get_or gs (x - 1) []) q)
                (sym (get_or-append_seam grown g r.extra []) ∙ ap (λ x. get_or x (length grown) []) (sym sp) ∙ ap (λ x. get_or gs x []) q)
                (raise_is_least m k grown near t))
                (λ q. r.rises i (omega (arith, length_push grown g)) (omega (arith, length_push grown g)))
                (cases_eq (length grown) i);
          }

pub sweeps_are_grown : SweepsAreGrown
unfolding Falling
sweeps_are_grown m t s k seed p l tiles =
    let f = fallen m k (s - 1) seed [] tiles (λ i q. absurd (omega arith)) in
    let g0 = down m k (s - 1) seed (seed ∷ []) in
    let n : length g0 ≡ s = omega (arith, f.size) in
    let e : get_or g0 (s - 1) [] ≡ seed = sym (getD_of_drop (s - 1) g0) ∙ ap (λ x. get_or x 0 []) f.ends in
    let r = risen m k (t - s) seed g0 tiles (omega arith) (ap (λ x. get_or g0 (x - 1) []) n ∙ e) in
    let gs = sweeps m t s k seed in
    let ex = r.extra in
    let look : (i : ℕ) → i < s → get_or g0 i [] ≡ get_or gs i [] = λ i q. sym (get_or_append_left g0 ex [] i (omega arith)) ∙ ap (λ x. get_or x i []) (sym r.split) in
    record {
      count = ap length r.split ∙ length-append g0 ex ∙ omega (arith, r.size);
      seeded = sym (look (s - 1) (omega arith)) ∙ e;
      down = λ i q. greatest_at m
          (sym (take-append_seam (drop (i + 1) g0) ex) ∙ ap (λ x. take x (drop (i + 1) g0 ++ ex)) (length-drop (i + 1) g0 ∙ ap (λ x. x - (i + 1)) n)
          ∙ ap (take (s - (i + 1))) (sym (drop-append-le (i + 1) g0 ex (omega arith)) ∙ ap (drop (i + 1)) (sym r.split)))
          (look (i + 1) (omega arith)) (look i (omega arith)) (f.falls i (omega arith));
      up = λ i a b. r.rises i (omega arith) (omega arith);
    }

-- ---- there is one

pub greatest_one : (m : Pattern) (grown : List (List ℕ)) (near g h : List ℕ) → Greatest m grown near g → Greatest m grown near h → g ≡ h
greatest_one m grown near g h p q =
    ext_get_or 0 g h (p.size ∙ sym q.size) (λ i l. let l2 : i < m.rows = omega (arith, p.size) in let a = p.above h q.fits i l2 in let b = q.above g p.fits i l2 in omega arith)

pub least_one : (m : Pattern) (grown : List (List ℕ)) (near g h : List ℕ) → Least m grown near g → Least m grown near h → g ≡ h
least_one m grown near g h p q =
    ext_get_or 0 g h (p.size ∙ sym q.size) (λ i l. let l2 : i < m.rows = omega (arith, p.size) in let a = p.below h q.fits i l2 in let b = q.below g p.fits i l2 in omega arith)

part_more : (xs : List (List ℕ)) (i s : ℕ) → i < s → s ≤ length xs → between i s xs ≡ get_or xs i [] ∷ between (i + 1) s xs
part_more xs i s l q =
    let e : s - i ≡ suc (s - (i + 1)) = omega arith in
    ap (take (s - i)) (drop_more xs i [] (omega arith)) ∙ ap (λ x. take x (get_or xs i [] ∷ drop (i + 1) xs)) e

part_none : (xs : List (List ℕ)) (i s : ℕ) → s ≤ i → between i s xs ≡ []
part_none xs i s l = let e : s - i ≡ 0 = omega arith in ap (λ x. take x (drop i xs)) e

module _ (m : Pattern) (t s : ℕ) (seed : List ℕ) (gs hs : List (List ℕ)) (p : 0 < s) (l : s ≤ t) (a : Grown m t s seed gs) (b : Grown m t s seed hs) where
  joined_at : (i : ℕ) → i < s → get_or gs i [] ≡ get_or hs i [] → between (i + 1) s gs ≡ between (i + 1) s hs → between i s gs ≡ between i s hs
  joined_at i q e f = part_more gs i s q (omega (arith, a.count)) ∙ ap (λ x. x ∷ between (i + 1) s gs) e ∙ ap (λ x. get_or hs i [] ∷ x) f ∙ sym (part_more hs i s q (omega (arith, b.count)))

  down_same : (d i : ℕ) → i + d + 1 ≡ s → (get_or gs i [] ≡ get_or hs i []) × (between i s gs ≡ between i s hs)
  down_same zero i q =
      let n : s - 1 ≡ i = omega arith in
      let e : get_or gs i [] ≡ get_or hs i [] = subst (λ x. get_or gs x [] ≡ get_or hs x []) n (a.seeded ∙ sym b.seeded) in
      (e, joined_at i (omega arith) e (part_none gs (i + 1) s (omega arith) ∙ sym (part_none hs (i + 1) s (omega arith))))
  down_same (suc d) i q =
      let r = down_same d (i + 1) (omega arith) in
      let e : get_or gs i [] ≡ get_or hs i [] =
      greatest_one m (between (i + 1) s hs) (get_or hs (i + 1) []) (get_or gs i []) (get_or hs i []) (greatest_at m r.1 r.0 refl (a.down i (omega arith))) (b.down i (omega arith)) in
      (e, joined_at i (omega arith) e r.1)

  up_same : (d : ℕ) → s + d ≤ t → (take (s + d) gs ≡ take (s + d) hs)
  up_same zero q =
      let r = (down_same (s - 1) 0 (omega arith)).1 in
      let e : s - 0 ≡ s + 0 = omega arith in
      subst (λ x. take x gs ≡ take x hs) e r
  up_same (suc d) q =
      let r = up_same d (omega arith) in
      let i = s + d in
      let n : i + 1 ≡ s + suc d = omega arith in
      let before_it : get_or gs (i - 1) [] ≡ get_or hs (i - 1) [] = sym (get_or-take i gs (i - 1) [] (omega arith)) ∙ ap (λ x. get_or x (i - 1) []) r ∙ get_or-take i hs (i - 1) [] (omega arith) in
      let e = least_one m (take i hs) (get_or hs (i - 1) []) (get_or gs i []) (get_or hs i []) (least_at m r before_it refl (a.up i (omega arith) (omega arith))) (b.up i (omega arith) (omega arith)) in
      subst (λ x. take x gs ≡ take x hs) n (take_more_same gs hs i [] (omega (arith, a.count)) (omega (arith, b.count)) r e)

pub grown_is_one : GrownIsOne
grown_is_one m t s seed gs hs p l a b =
    let n : s + (t - s) ≡ t = omega arith in
    let e = subst (λ x. take x gs ≡ take x hs) n (up_same m t s seed gs hs p l a b (t - s) (omega arith)) in
    sym (take_all t gs (omega (arith, a.count))) ∙ e ∙ take_all t hs (omega (arith, b.count))
