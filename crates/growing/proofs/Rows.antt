-- A row's part of a list that has one element for each entry, and such a list put together row by row. Assumes nothing.
use Rattle.std.proofs.Common.{◌≡◌, ℕ, zero, suc, ◌+◌, ◌-◌, ◌<◌, ◌≤◌, min, List, [], ◌∷◌, ◌++◌, length, take, drop, sym, ap, ◌∙◌, append_assoc, zero-add, arith, length-append, length-drop, length-take}
use borrow.Rule.Slice.PartMut.{put_mid}
use Rattle.std.specs.List.{range_with_len, flat_map, AllByRecursion as All}
use Rattle.std.proofs.lemmas.List.FromFn.{map-range_with_len_more}
use Rattle.std.proofs.lemmas.List.Edits.{length-between}
use Rattle.std.proofs.ByRecursion.{All-take, All-drop}
use Rattle.std.proofs.lemmas.List.{map-id, flat_map_more, take_at, drop_at, drop-drop}
use Rattle.checks.specs.Lists.{at, upto}
use Rattle.matrix.specs.Patterns.{Pattern, row_part}
use Rattle.growing.specs.Marks.{Sound}

pub upto_more : (n : ℕ) → upto (n + 1) ≡ upto n ++ n ∷ []
upto_more n = sym (map-id (upto (n + 1))) ∙ map-range_with_len_more (λ i. i) 0 n n (zero-add n) ∙ ap (λ t. t ++ n ∷ []) (map-id (upto n))

joined_split : {X : Type 0} (f : ℕ → List X) (a n k : ℕ) → flat_map f (range_with_len a (n + k)) ≡ flat_map f (range_with_len a n) ++ flat_map f (range_with_len (a + n) k)
joined_split f a zero k = let e : 0 + k ≡ k = omega arith in let z : a ≡ a + 0 = omega arith in ap (λ i. flat_map f (range_with_len a i)) e ∙ ap (λ i. flat_map f (range_with_len i k)) z
joined_split f a (suc n) k =
    let e : suc n + k ≡ suc (n + k) = omega arith in
    let z : a + 1 + n ≡ a + suc n = omega arith in
    ap (λ i. flat_map f (range_with_len a i)) e ∙ ap (λ t. f a ++ t) (joined_split f (a + 1) n k ∙ ap (λ i. flat_map f (range_with_len (a + 1) n) ++ flat_map f (range_with_len i k)) z) ∙ sym (append_assoc (f a) (flat_map f (range_with_len (a + 1) n)) (flat_map f (range_with_len (a + suc n) k)))

pub joined_upto : {X : Type 0} (f : ℕ → List X) (n : ℕ) → flat_map f (upto (n + 1)) ≡ flat_map f (upto n) ++ f n
joined_upto f n = ap (flat_map f) (upto_more n) ∙ sym (flat_map_more f [] (upto n) n)

module _ (m : Pattern) (v : ℕ) where
  pub all_row : {X : Type 0} (P : X → Type 0) (xs : List X) → All P xs → All P (row_part m xs v)
  all_row P xs h = All-take P (at m.starts (v + 1) - at m.starts v) (drop (at m.starts v) xs) (All-drop P (at m.starts v) xs h)

  pub length_row : {X Y : Type 0} (xs : List X) (ys : List Y) → length xs ≡ length ys → length (row_part m xs v) ≡ length (row_part m ys v)
  length_row xs ys e =
      let a = at m.starts v in
      let n = at m.starts (v + 1) - a in
      length-take n (drop a xs) ∙ ap (min n) (length-drop a xs ∙ ap (λ l. l - a) e ∙ sym (length-drop a ys)) ∙ sym (length-take n (drop a ys))

module _ (m : Pattern) (s : Sound m) where
  under_last : (n v : ℕ) → v + n ≡ m.rows → at m.starts v ≤ at m.starts m.rows
  under_last zero v e = let q : v ≡ m.rows = omega arith in let r = ap (at m.starts) q in omega arith
  under_last (suc n) v e = let a = s.rises v (omega arith) in let b = under_last n (v + 1) (omega arith) in omega arith

  -- no row begins past the last entry
  pub starts_within : (v : ℕ) → v ≤ m.rows → at m.starts v ≤ length m.columns
  starts_within v l = let a = under_last (m.rows - v) v (omega arith) in omega (arith, s.ends)

  pub length_row_is : {X : Type 0} (xs : List X) (v : ℕ) → v < m.rows → length xs ≡ length m.columns → length (row_part m xs v) ≡ at m.starts (v + 1) - at m.starts v
  length_row_is xs v l e = length-between xs (at m.starts v) (at m.starts (v + 1)) (let w = starts_within (v + 1) (omega arith) in omega arith)

  -- a list put together from parts as long as the rows' own
  module _ {X : Type 0} (f : ℕ → List X) (long : (v : ℕ) → v < m.rows → length (f v) ≡ at m.starts (v + 1) - at m.starts v) where
    pub length_joined : (v : ℕ) → v ≤ m.rows → length (flat_map f (upto v)) ≡ at m.starts v
    length_joined zero l = sym s.begins
    length_joined (suc v) l =
        let e : v + 1 ≡ suc v = omega arith in
        ap (λ i. length (flat_map f (upto i))) (sym e) ∙ ap length (joined_upto f v) ∙ length-append (flat_map f (upto v)) (f v)
        ∙ omega (arith, length_joined v (omega arith), long v (omega arith), s.rises v (omega arith)) ∙ ap (at m.starts) e

    pub row_joined : (v : ℕ) → v < m.rows → row_part m (flat_map f (upto m.rows)) v ≡ f v
    row_joined v l =
        let k = m.rows - v - 1 in
        let e : m.rows ≡ v + suc k = omega arith in
        let z : 0 + v ≡ v = omega arith in
        let front = flat_map f (upto v) in
        let rest = flat_map f (range_with_len (v + 1) k) in
        let split : flat_map f (upto m.rows) ≡ front ++ (f v ++ rest) = ap (λ i. flat_map f (upto i)) e ∙ joined_split f 0 v (suc k) ∙ ap (λ i. front ++ flat_map f (range_with_len i (suc k))) z in
        ap (λ t. row_part m t v) split
        ∙ ap (take (at m.starts (v + 1) - at m.starts v)) (drop_at front (f v ++ rest) (at m.starts v) (length_joined v (omega arith)))
        ∙ take_at (f v) rest (at m.starts (v + 1) - at m.starts v) (long v l)

    -- a list whose first rows are put together anew: what stands in the next row, and what a write to it leaves
    module _ (old : List X) (v : ℕ) (l : v < m.rows) where
      pub row_before : row_part m (flat_map f (upto v) ++ drop (at m.starts v) old) v ≡ row_part m old v
      row_before = ap (take (at m.starts (v + 1) - at m.starts v)) (drop_at (flat_map f (upto v)) (drop (at m.starts v) old) (at m.starts v) (length_joined v (omega arith)))

      pub row_written : put_mid (at m.starts v) (at m.starts (v + 1) - at m.starts v) (flat_map f (upto v) ++ drop (at m.starts v) old) (f v)
          ≡ flat_map f (upto (v + 1)) ++ drop (at m.starts (v + 1)) old
      row_written =
          let a = at m.starts v in
          let b = at m.starts (v + 1) in
          let front = flat_map f (upto v) in
          let n = length_joined v (omega arith) in
          let e : a + (b - a) ≡ b = omega (arith, s.rises v l) in
          ap (λ t. t ++ (f v ++ drop (b - a) (drop a (front ++ drop a old)))) (take_at front (drop a old) a n)
          ∙ ap (λ t. front ++ (f v ++ drop (b - a) t)) (drop_at front (drop a old) a n)
          ∙ ap (λ t. front ++ (f v ++ t)) (drop-drop (b - a) a old ∙ ap (λ i. drop i old) e)
          ∙ sym (append_assoc front (f v) (drop b old))
          ∙ ap (λ t. t ++ drop b old) (sym (joined_upto f v))
