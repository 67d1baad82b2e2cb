-- A part of a table, read and written. Assumes nothing.
use Rattle.std.proofs.Common.{◌≡◌, ℕ, ◌+◌, ◌-◌, ◌<◌, ◌≤◌, ◌⊎◌, List, ◌++◌, length, take, drop, set, sym, ap, ◌∙◌, inl, inr, arith, length-append, length-drop, length-set}
use Rattle.std.proofs.lemmas.List.{take_at, drop_at, drop-drop, take-append-drop, take-append-le, length-take-le, get_or-take, get_or-drop, set-append_left, set-append_right, take-take, drop-take}
use Rattle.checks.specs.Lists.{at}
use Rattle.growing.specs.Passes.{cells, with_cells}

module _ (table : List ℕ) (a n : ℕ) (fits : a + n ≤ length table) where
  pub length_cells : length (cells a n table) ≡ n
  length_cells = length-take-le n (drop a table) (omega (arith, length-drop a table))

  pub at_cells : (i : ℕ) → i < n → at (cells a n table) i ≡ at table (a + i)
  at_cells i l = get_or-take n (drop a table) i 0 l ∙ get_or-drop a table i 0

  with_own : with_cells a (cells a n table) table ≡ table
  with_own =
      ap (λ x. take a table ++ (cells a n table ++ x)) (ap (λ x. drop (a + x) table) length_cells ∙ sym (drop-drop n a table))
      ∙ ap (λ x. take a table ++ x) (take-append-drop n (drop a table)) ∙ take-append-drop a table

  pub own_with : table ≡ with_cells a (cells a n table) table
  own_with = sym with_own

  module _ (g : List ℕ) (size : length g ≡ n) where
    length_front : length (take a table) ≡ a
    length_front = length-take-le a table (omega arith)

    pub cells_with : cells a n (with_cells a g table) ≡ g
    cells_with = ap (take n) (drop_at (take a table) (g ++ drop (a + length g) table) a length_front) ∙ take_at g (drop (a + length g) table) n size

    drop_with : (b : ℕ) → a + n ≤ b → drop b (with_cells a g table) ≡ drop b table
    drop_with b l =
        let e : a + (n + (b - (a + n))) ≡ b = omega arith in
        let f : a + n + (b - (a + n)) ≡ b = omega arith in
        ap (λ x. drop x (with_cells a g table)) (sym e)
        ∙ sym (drop-drop (n + (b - (a + n))) a (with_cells a g table))
        ∙ ap (drop (n + (b - (a + n)))) (drop_at (take a table) (g ++ drop (a + length g) table) a length_front)
        ∙ sym (drop-drop (b - (a + n)) n (g ++ drop (a + length g) table))
        ∙ ap (drop (b - (a + n))) (drop_at g (drop (a + length g) table) n size)
        ∙ ap (λ x. drop (b - (a + n)) (drop (a + x) table)) size
        ∙ drop-drop (b - (a + n)) (a + n) table
        ∙ ap (λ x. drop x table) f

    take_with : (b : ℕ) → b ≤ a → take b (with_cells a g table) ≡ take b table
    take_with b l = take-append-le b (take a table) (g ++ drop (a + length g) table) (omega (arith, length_front)) ∙ take-take b a table l

    pub length_with : length (with_cells a g table) ≡ length table
    length_with =
        length-append (take a table) (g ++ drop (a + length g) table) ∙ omega (arith, length_front, length-append g (drop (a + length g) table), length-drop (a + length g) table)

    -- what stands elsewhere stays
    pub cells_apart : (b c : ℕ) → (b + c ≤ a) ⊎ (a + n ≤ b) → cells b c (with_cells a g table) ≡ cells b c table
    cells_apart b c (inr l) = ap (take c) (drop_with b l)
    cells_apart b c (inl l) = sym (drop-take b c (with_cells a g table)) ∙ ap (drop b) (take_with (b + c) l) ∙ drop-take b c table

    pub with_with : (h : List ℕ) → length h ≡ n → with_cells a h (with_cells a g table) ≡ with_cells a h table
    with_with h e = ap (λ x. x ++ (h ++ drop (a + length h) (with_cells a g table))) (take_with a (omega arith)) ∙ ap (λ x. take a table ++ (h ++ x)) (drop_with (a + length h) (omega arith))

  -- one cell written
  pub set_cells : (i x : ℕ) → i < n → set table (a + i) x ≡ with_cells a (set (cells a n table) i x) table
  set_cells i x l =
      let g = cells a n table in
      let rest = drop (a + length g) table in
      let e : a + i - a ≡ i = omega arith in
      ap (λ t. set t (a + i) x) own_with
      ∙ set-append_right (take a table) (g ++ rest) a (a + i) x (length-take-le a table (omega arith)) (omega arith)
      ∙ ap (λ j. take a table ++ set (g ++ rest) j x) e
      ∙ ap (λ t. take a table ++ t) (set-append_left g rest i x (omega (arith, length_cells)))
      ∙ ap (λ m. take a table ++ (set g i x ++ drop (a + m) table)) (sym (length-set g i x))
