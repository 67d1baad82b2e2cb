-- One piece more of a text. Assumes nothing.
use Rattle.std.proofs.Common.{◌≡◌, ℕ, ◌+◌, ◌-◌, ◌*◌, ◌<◌, ◌≤◌, List, [], ◌∷◌, ◌++◌, length, take, drop, sym, ap, ◌∙◌, length-append, length-drop, mul-le-mul_right, add-mul, one-mul, arith}
use Rattle.std.specs.List.{between, flat_map}
use Rattle.std.proofs.lemmas.List.{flat_map_more, take_at, drop_at, drop-drop}

module _ {X : Type 0} (piece : X → List ℕ) (start before after : List ℕ) where
  pub pieces_more : (xs : List X) (x : X) {ys : List X} → ys ≡ xs ++ x ∷ [] → before ≡ start ++ flat_map piece xs → after ≡ before ++ piece x → after ≡ start ++ flat_map piece ys
  pieces_more xs x e inv w = w ∙ ap (λ a. a ++ piece x) inv ∙ flat_map_more piece start xs x ∙ ap (λ zs. start ++ flat_map piece zs) (sym e)

-- the part of a table that a loop has left, s rows in: its next row, and the parts that are left then
module _ (table rest row left : List ℕ) (s rows : ℕ) (begins : rest ≡ drop (s * rows) table) (splits : rest ≡ row ++ left) (size : length row ≡ rows) where
  more : (s + 1) * rows ≡ s * rows + rows
  more = add-mul s 1 rows ∙ ap (λ x. s * rows + x) (one-mul rows)

  pub row_taken : row ≡ between (s * rows) (s * rows + rows) table
  row_taken =
      let n : rows ≡ s * rows + rows - s * rows = omega arith in
      sym (take_at row left rows size) ∙ ap (take rows) (sym splits ∙ begins) ∙ ap (λ i. take i (drop (s * rows) table)) n

  pub left_after : left ≡ drop ((s + 1) * rows) table
  left_after = sym (drop_at row left rows size) ∙ ap (drop rows) (sym splits ∙ begins) ∙ drop-drop rows (s * rows) table ∙ ap (λ i. drop i table) (sym more)

  pub ends_within : s * rows ≤ length table → (s + 1) * rows ≤ length table
  ends_within l =
      let a = length-append row left in
      let b = length-drop (s * rows) table in
      let c = ap length splits in
      let d = ap length begins in
      let e = more in
      omega arith

-- a row of the table ends within it
pub row_within : (s rows sweeps : ℕ) → s < sweeps → s * rows + rows ≤ sweeps * rows
row_within s rows sweeps l =
    let m : (s + 1) * rows ≤ sweeps * rows = mul-le-mul_right rows (omega arith) in
    let e : (s + 1) * rows ≡ s * rows + rows = add-mul s 1 rows ∙ ap (λ x. s * rows + x) (one-mul rows) in
    omega arith
