-- The sweeps in a tile table, one of them written. Assumes nothing.
use Rattle.std.proofs.Common.{◌≡◌, ℕ, zero, suc, ◌+◌, ◌-◌, ◌*◌, ◌<◌, ◌≤◌, ◌⊎◌, List, [], ◌∷◌, ◌++◌, length, take, drop, sym, refl, ap, ◌∙◌, subst, inl, inr, append_assoc, append-nil, length-drop, mul-le-mul_right, suc-mul, arith}
use borrow.Rule.Slice.PartMut.{put_mid}
use Rattle.std.specs.List.{flat_map}
use Rattle.std.proofs.lemmas.List.FromFn.{map-range_with_len_more}
use Rattle.std.proofs.lemmas.List.{flat_map_more, take-take, drop-take, drop-drop, drop_all, take_all, length-take-le, take-append-drop}
use Rattle.matrix.specs.Patterns.{Pattern}
use Rattle.growing.specs.declared.direction.Direction.TheVariants.{Down, Up}
use Rattle.growing.specs.Growing.{down, up}
use Rattle.growing.specs.Passes.{cells, with_cells}
use Rattle.growing.specs.Sweeps.{sweep_at, sweeps_in, Held, Grows, GrownDown, GrownUp}
use Rattle.growing.proofs.Cells.{length_cells, length_with, cells_with, cells_apart}

-- sweeps before another end before it begins
pub row_of : (r c j : ℕ) → c < j → c * r + r ≤ j * r
row_of r c j l = let h : suc c * r ≤ j * r = mul-le-mul_right r l in let e = suc-mul c r in omega arith

pub within : (r j last : ℕ) → j ≤ last → j * r + r ≤ last * r + r
within r j last l = let h : j * r ≤ last * r = mul-le-mul_right r l in omega arith

pub two_within : (r j last : ℕ) → j < last → j * r + r + r ≤ last * r + r
two_within r j last l = let h = row_of r j last l in omega arith

module _ (r : ℕ) (was is : List ℕ) (j : ℕ) (g : List ℕ) (size : length g ≡ r) (fits : j * r + r ≤ length was) (put : is ≡ with_cells (j * r) g was) where
  pub own_sweep : sweep_at r is j ≡ g
  own_sweep = ap (cells (j * r) r) put ∙ cells_with was (j * r) r fits g size

  pub other_sweep : (c : ℕ) → (c < j) ⊎ (j < c) → sweep_at r is c ≡ sweep_at r was c
  other_sweep c (inl l) = ap (cells (c * r) r) put ∙ cells_apart was (j * r) r fits g size (c * r) r (inl (row_of r c j l))
  other_sweep c (inr l) = ap (cells (c * r) r) put ∙ cells_apart was (j * r) r fits g size (c * r) r (inr (row_of r j c l))

  pub other_sweeps : (a n : ℕ) → (a + n ≤ j) ⊎ (j < a) → sweeps_in r is a n ≡ sweeps_in r was a n
  other_sweeps a zero h = refl
  other_sweeps a (suc n) (inl l) = ap (λ t. t ∷ sweeps_in r is (a + 1) n) (other_sweep a (inl (omega arith))) ∙ ap (λ t. sweep_at r was a ∷ t) (other_sweeps (a + 1) n (inl (omega arith)))
  other_sweeps a (suc n) (inr l) = ap (λ t. t ∷ sweeps_in r is (a + 1) n) (other_sweep a (inr l)) ∙ ap (λ t. sweep_at r was a ∷ t) (other_sweeps (a + 1) n (inr (omega arith)))

-- a table is its sweeps one after the other
pub sweeps_whole : (r n : ℕ) (table : List ℕ) → flat_map (λ g. g) (sweeps_in r table 0 n) ≡ take (n * r) table
sweeps_whole r zero table = let e : 0 ≡ 0 * r = omega arith in ap (λ i. take i table) e
sweeps_whole r (suc n) table =
    let e : n + 1 ≡ suc n = omega arith in
    let z : 0 + n ≡ n = omega arith in
    let a = n * r in
    ap (λ i. flat_map (λ g. g) (sweeps_in r table 0 i)) (sym e)
    ∙ ap (flat_map (λ g. g)) (map-range_with_len_more (sweep_at r table) 0 n n z)
    ∙ sym (flat_map_more (λ g. g) [] (sweeps_in r table 0 n) (sweep_at r table n))
    ∙ ap (λ t. t ++ sweep_at r table n) (sweeps_whole r n table ∙ sym (take-take a (a + r) table (omega arith)))
    ∙ ap (λ t. take a (take (a + r) table) ++ t) (sym (drop-take a r table))
    ∙ take-append-drop a (take (a + r) table)
    ∙ ap (λ i. take i table) (sym (suc-mul n r))

-- sweep j is written in the table x, or the next above it
module _ (m : Pattern) (j : ℕ) (was x y marks_were marks_x marks_y : List ℕ) where
  module _ (fits : j * m.rows + m.rows ≤ length x) (long : length y ≡ length x) (put : y ≡ with_cells (j * m.rows) (sweep_at m.rows y j) x) where
    pub down_more : (from : ℕ) → j < from → GrownDown m from (suc j) was x marks_were marks_x → Grows Down m (sweep_at m.rows x (suc j)) (sweep_at m.rows y j) marks_x marks_y → GrownDown m from j was y marks_were marks_y
    down_more from l before step =
        let g = sweep_at m.rows y j in
        let size = length_cells y (j * m.rows) m.rows (omega arith) in
        record {
          kept = other_sweep m.rows x y j g size fits put from (inr l) ∙ before.kept;
          grows = λ k h.
              let p = before.grows k h in
              let n = suc from - suc j in
              let grown = sweeps_in m.rows x (suc j) n in
              let q = step.grows k grown p.1 in
              let e : suc from - j ≡ suc n = omega arith in
              let i : j + 1 ≡ suc j = omega arith in
              let all : g ∷ grown ≡ sweeps_in m.rows y j (suc from - j) =
              ap (λ t. g ∷ t) (sym (other_sweeps m.rows x y j g size fits put (suc j) n (inr (omega arith))) ∙ ap (λ a. sweeps_in m.rows y a n) (sym i)) ∙ ap (sweeps_in m.rows y j) (sym e) in
              (ap (down m k j g) (sym all) ∙ ap (λ t. down m k j t (t ∷ grown)) q.0 ∙ p.0, subst (λ t. Held m k g t marks_y) all q.1);
        }

  module _ (fits : suc j * m.rows + m.rows ≤ length x) (long : length y ≡ length x) (put : y ≡ with_cells (suc j * m.rows) (sweep_at m.rows y (suc j)) x) where
    pub up_more : (t from : ℕ) → suc j < t → GrownUp m t from j was x marks_were marks_x → Grows Up m (sweep_at m.rows x j) (sweep_at m.rows y (suc j)) marks_x marks_y → GrownUp m t from (suc j) was y marks_were marks_y
    up_more t from l before step =
        let g = sweep_at m.rows y (suc j) in
        let size = length_cells y (suc j * m.rows) m.rows (omega arith) in
        record {
          grows = λ k h.
              let p = before.grows k h in
              let grown = sweeps_in m.rows x 0 (suc j) in
              let q = step.grows k grown p.1 in
              let e : t - suc j ≡ suc (t - suc (suc j)) = omega arith in
              let i : suc j + 1 ≡ suc (suc j) = omega arith in
              let z : 0 + suc j ≡ suc j = omega arith in
              let all : grown ++ g ∷ [] ≡ sweeps_in m.rows y 0 (suc (suc j)) =
              ap (λ u. u ++ g ∷ []) (sym (other_sweeps m.rows x y (suc j) g size fits put 0 (suc j) (inl (omega arith))))
              ∙ sym (map-range_with_len_more (sweep_at m.rows y) 0 (suc j) (suc j) z) ∙ ap (sweeps_in m.rows y 0) i in (
                ap (up m k (t - suc (suc j)) g) (sym all) ∙ ap (λ u. up m k (t - suc (suc j)) u (grown ++ u ∷ [])) q.0
                    ∙ ap (λ n. up m k n (sweep_at m.rows x j) grown) (sym e) ∙ p.0,
                subst (λ u. Held m k g u marks_y) all q.1,
              );
        }

-- the table x split behind sweep j, which has new cells g, or the sweep above it has
module _ (m : Pattern) (j : ℕ) (was x front back g marks_were marks_x marks_y : List ℕ) (size : length g ≡ m.rows) (fits : j * m.rows + m.rows + m.rows ≤ length x)
    (in_front : front ≡ take (j * m.rows + m.rows) x) (behind : back ≡ drop (j * m.rows + m.rows) x) where
  above : j * m.rows + m.rows ≡ suc j * m.rows
  above = sym (suc-mul j m.rows)

  pub down_split : (from : ℕ) → j < from → GrownDown m from (suc j) was x marks_were marks_x → Grows Down m (take m.rows back) g marks_x marks_y
      → GrownDown m from j was (put_mid (j * m.rows) (length front - j * m.rows) front g ++ back) marks_were marks_y
  down_split from l before step =
      let r = m.rows in
      let a = j * r in
      let fit : a + r ≤ length x = omega arith in
      let y = put_mid a (length front - a) front g ++ back in
      let long : length front ≡ a + r = ap length in_front ∙ length-take-le (a + r) x fit in
      let none : drop (length front - a) (drop a front) ≡ [] = drop-drop (length front - a) a front ∙ drop_all (a + (length front - a)) front (omega arith) in
      let put : y ≡ with_cells a g x =
      ap (λ t. (t ++ (g ++ drop (length front - a) (drop a front))) ++ back) (ap (take a) in_front ∙ take-take a (a + r) x (omega arith))
      ∙ ap (λ t. (take a x ++ (g ++ t)) ++ back) none
      ∙ append_assoc (take a x) (g ++ []) back
      ∙ ap (λ t. take a x ++ (t ++ back)) (append-nil g)
      ∙ ap (λ t. take a x ++ (g ++ t)) (behind ∙ ap (λ i. drop (a + i) x) (sym size)) in
      let own : sweep_at r y j ≡ g = own_sweep r x y j g size fit put in
      let near : take r back ≡ sweep_at r x (suc j) = ap (take r) behind ∙ ap (λ i. cells i r x) above in
      down_more m j was x y marks_were marks_x marks_y fit (ap length put ∙ length_with x a r fit g size) (put ∙ ap (λ t. with_cells a t x) (sym own)) from l before
      (subst (λ n. Grows Down m n (sweep_at r y j) marks_x marks_y) near (subst (λ t. Grows Down m (take r back) t marks_x marks_y) (sym own) step))

  pub up_split : (t from : ℕ) → suc j < t → GrownUp m t from j was x marks_were marks_x → Grows Up m (take (length front - j * m.rows) (drop (j * m.rows) front)) g marks_x marks_y
      → GrownUp m t from (j + 1) was (front ++ (g ++ drop m.rows back)) marks_were marks_y
  up_split t from l before step =
      let r = m.rows in
      let a = suc j * r in
      let e : j * r + r ≡ a = above in
      let fit : a + r ≤ length x = omega arith in
      let y = front ++ (g ++ drop r back) in
      let put : y ≡ with_cells a g x =
      ap (λ h. h ++ (g ++ drop r back)) (in_front ∙ ap (λ i. take i x) e)
      ∙ ap (λ h. take a x ++ (g ++ h)) (ap (drop r) (behind ∙ ap (λ i. drop i x) e) ∙ drop-drop r a x ∙ ap (λ i. drop (a + i) x) (sym size)) in
      let own : sweep_at r y (suc j) ≡ g = own_sweep r x y (suc j) g size fit put in
      let whole : take (length front - j * r) (drop (j * r) front) ≡ drop (j * r) front = take_all _ _ (omega (arith, length-drop (j * r) front)) in
      let near : take (length front - j * r) (drop (j * r) front) ≡ sweep_at r x j = whole ∙ ap (drop (j * r)) in_front ∙ drop-take (j * r) r x in
      let more : suc j ≡ j + 1 = omega arith in
      subst (λ i. GrownUp m t from i was y marks_were marks_y) more
      (up_more m j was x y marks_were marks_x marks_y fit (ap length put ∙ length_with x a r fit g size) (put ∙ ap (λ h. with_cells a h x) (sym own)) t from l before
      (subst (λ n. Grows Up m n (sweep_at r y (suc j)) marks_x marks_y) near (subst (λ h. Grows Up m (take (length front - j * r) (drop (j * r) front)) h marks_x marks_y) (sym own) step)))
