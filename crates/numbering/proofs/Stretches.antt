-- A list as its stretches one after the other. Assumes nothing.
use Rattle.std.proofs.Common.{◌≡◌, ℕ, zero, suc, ◌+◌, ◌-◌, ◌<◌, ◌≤◌, List, [], ◌∷◌, ◌++◌, map, length, get_or, take, drop, sym, refl, ap, ◌∙◌, subst, ap₂, append-nil, arith, length-append}
use lib.Seq.{paste}
use Rattle.std.specs.List.{between, range_with_len, flat_map}
use Rattle.std.proofs.lemmas.List.{take-append-drop, take_more, drop_more, drop_at, take_at, take_all, drop-drop}
use Rattle.std.proofs.lemmas.List.Edits.{between_none, take-paste}
use Rattle.std.proofs.lemmas.List.Concat.{length-flat_map}
use Rattle.std.proofs.lemmas.List.Folds.{length-flat_map-take}
use Rattle.std.proofs.lemmas.Grind.{flat_map-append}
use Rattle.checks.specs.Lists.{at, totals}
use Rattle.numbering.proofs.Tallies.{total, total_same, totals_at, sum_total}

module _ {X Y : Type 0} (f : X → List Y) where
  pub joined_push : (xs : List X) (x : X) → flat_map f (xs ++ x ∷ []) ≡ flat_map f xs ++ f x
  joined_push xs x = flat_map-append f xs (x ∷ []) ∙ ap (λ zs. flat_map f xs ++ zs) (append-nil (f x))

  pub joined_more : (xs : List X) (i : ℕ) (d : X) → i < length xs → flat_map f (take (i + 1) xs) ≡ flat_map f (take i xs) ++ f (get_or xs i d)
  joined_more xs i d l = ap (flat_map f) (take_more xs i d l) ∙ joined_push (take i xs) (get_or xs i d)

  -- a part of the list, before, at and after one of its elements
  pub joined_cut : (xs : List X) (i : ℕ) (d : X) → i < length xs → flat_map f xs ≡ flat_map f (take i xs) ++ (f (get_or xs i d) ++ flat_map f (drop (i + 1) xs))
  joined_cut xs i d l =
      ap (flat_map f) (sym (take-append-drop i xs)) ∙ flat_map-append f (take i xs) (drop i xs) ∙ ap (λ zs. flat_map f (take i xs) ++ flat_map f zs) (drop_more xs i d l)

  -- a list that is written part by part
  pub parts_more : (xs : List X) (ys : List Y) (i : ℕ) (d : X) (place : ℕ) → i < length xs → place ≡ length (flat_map f (take i xs)) → take place ys ≡ flat_map f (take i xs) → length (flat_map f xs) ≡ length ys
      → (part : List Y) → part ≡ f (get_or xs i d) → (place + length part ≡ length (flat_map f (take (i + 1) xs))) × (take (place + length part) (paste ys place part (length part)) ≡ flat_map f (take (i + 1) xs))
  parts_more xs ys i d place l e inv long part is =
      let more = joined_more xs i d l in
      let room = length-flat_map-take f xs i d l in
      let same : length part ≡ length (f (get_or xs i d)) = ap length is in (
        omega (arith, ap length more, length-append (flat_map f (take i xs)) (f (get_or xs i d))),
        take-paste ys place part (length part) (omega arith) (omega arith) ∙ ap₂ ◌++◌ inv (take_all (length part) part (omega arith) ∙ is) ∙ sym more,
      )

pub joined_same : {Y : Type 0} (f g : ℕ → List Y) (xs : List ℕ) → ((i : ℕ) → i < length xs → f (at xs i) ≡ g (at xs i)) → flat_map f xs ≡ flat_map g xs
joined_same f g [] h = refl
joined_same f g (x ∷ xs) h = ap₂ ◌++◌ (h 0 (omega arith)) (joined_same f g xs (λ i l. h (suc i) (omega arith)))

module _ {Y : Type 0} where
  pub between_at : (xs ys zs : List Y) (i j : ℕ) → length xs ≡ i → length xs + length ys ≡ j → between i j (xs ++ (ys ++ zs)) ≡ ys
  between_at xs ys zs i j p q = ap (take (j - i)) (drop_at xs (ys ++ zs) i p) ∙ take_at ys zs (j - i) (omega arith)

  pub between_all : (xs : List Y) (n : ℕ) → length xs ≡ n → between 0 n xs ≡ xs
  between_all xs n e = take_all (n - 0) xs (omega arith)

  pub between_join : (xs : List Y) (i j k : ℕ) → i ≤ j → j ≤ k → between i j xs ++ between j k xs ≡ between i k xs
  between_join xs i j k p q =
      let e : i + (j - i) ≡ j = omega arith in
      let g : k - i ≡ (j - i) + (k - j) = omega arith in
      ap (λ zs. take (j - i) (drop i xs) ++ take (k - j) zs) (sym (drop-drop (j - i) i xs ∙ ap (λ n. drop n xs) e))
      ∙ take_plus (j - i) (k - j) (drop i xs) ∙ ap (λ n. take n (drop i xs)) (sym g)
    where
      take_plus : (m n : ℕ) (ys : List Y) → take m ys ++ take n (drop m ys) ≡ take (m + n) ys
      take_plus zero n ys = let e : 0 + n ≡ n = omega arith in ap (λ k. take k ys) (sym e)
      take_plus (suc m) n [] = nil n ∙ let e : suc m + n ≡ suc (m + n) = omega arith in ap (λ k. take {A = Y} k []) (sym e)
        where
          nil : (n : ℕ) → ◌≡◌ {A = List Y} (take n []) []
          nil zero = refl
          nil (suc n) = refl
      take_plus (suc m) n (y ∷ ys) = ap (λ zs. y ∷ zs) (take_plus m n ys) ∙ let e : suc m + n ≡ suc (m + n) = omega arith in ap (λ k. take k (y ∷ ys)) (sym e)

  -- stretches that follow one another
  pub joined_stretches : (f : ℕ → ℕ) (xs : List Y) (a n : ℕ) → ((k : ℕ) → a ≤ k → k < a + n → f k ≤ f (k + 1)) → flat_map (λ v. between (f v) (f (v + 1)) xs) (range_with_len a n) ≡ between (f a) (f (a + n)) xs
  joined_stretches f xs a zero rises = let e : a + 0 ≡ a = omega arith in sym (ap (λ k. between (f a) (f k) xs) e ∙ between_none xs (f a))
  joined_stretches f xs a (suc n) rises =
      let e : a + 1 + n ≡ a + suc n = omega arith in
      ap (λ zs. between (f a) (f (a + 1)) xs ++ zs) (joined_stretches f xs (a + 1) n (λ k p q. rises k (omega arith) (omega arith)) ∙ ap (λ k. between (f (a + 1)) (f k) xs) e)
      ∙ between_join xs (f a) (f (a + 1)) (f (a + suc n)) (rises a (omega arith) (omega arith)) (subst (λ k. f (a + 1) ≤ f k) e (climbs (a + 1) n (λ k p q. rises k (omega arith) (omega arith))))
    where
      climbs : (a n : ℕ) → ((k : ℕ) → a ≤ k → k < a + n → f k ≤ f (k + 1)) → f a ≤ f (a + n)
      climbs a zero r = let e : a ≡ a + 0 = omega arith in subst (λ k. f a ≤ f k) e (omega arith)
      climbs a (suc n) r = let e : a + n + 1 ≡ a + suc n = omega arith in subst (λ k. f a ≤ f k) e (omega (arith, climbs a n (λ k p q. r k p (omega arith)), r (a + n) (omega arith) (omega arith)))

  -- the stretch of the i-th part of a joined list
  pub stretch_at : (f : ℕ → List Y) (n : ℕ → ℕ) (xs : List ℕ) (i : ℕ) → i < length xs → ((k : ℕ) → k < length xs → length (f (at xs k)) ≡ n (at xs k)) → between (at (totals 0 (map n xs)) i) (at (totals 0 (map n xs)) (i + 1)) (flat_map f xs) ≡ f (at xs i)
  stretch_at f n xs i l same =
      ap (between (at (totals 0 (map n xs)) i) (at (totals 0 (map n xs)) (i + 1))) (joined_cut f xs i 0 l)
      ∙ between_at (flat_map f (take i xs)) (f (at xs i)) (flat_map f (drop (i + 1) xs)) _ _ (sym low) (omega (arith, low, high, same i l, bump))
    where
      front : (i : ℕ) → i ≤ length xs → length (flat_map f (take i xs)) ≡ total (λ k. n (at xs k)) i
      front i h = length-flat_map f (take i xs) ∙ sum_total (λ x. length (f x)) xs i h ∙ total_same _ _ i (λ k q. same k (omega arith))

      low : at (totals 0 (map n xs)) i ≡ length (flat_map f (take i xs))
      low = totals_at n xs i (omega arith) ∙ sym (front i (omega arith))

      high : at (totals 0 (map n xs)) (i + 1) ≡ total (λ k. n (at xs k)) (i + 1)
      high = totals_at n xs (i + 1) (omega arith)

      bump : total (λ k. n (at xs k)) (i + 1) ≡ length (flat_map f (take i xs)) + n (at xs i)
      bump = let e : i + 1 ≡ suc i = omega arith in ap (total (λ k. n (at xs k))) e ∙ ap (λ x. x + n (at xs i)) (sym (front i (omega arith)))
