-- One piece more of a text. Assumes nothing.
use Rattle.std.proofs.Common.{◌≡◌, ℕ, List, [], ◌∷◌, ◌++◌, sym, ap, ◌∙◌, append_assoc}
use Rattle.std.specs.List.{flat_map}
use Rattle.std.proofs.lemmas.List.{flat_map_more}

module _ {X : Type 0} (piece : X → List ℕ) (start before after : List ℕ) where
  pub pieces_more : (xs : List X) (x : X) {ys : List X} → ys ≡ xs ++ x ∷ [] → before ≡ start ++ flat_map piece xs → after ≡ before ++ piece x → after ≡ start ++ flat_map piece ys
  pieces_more xs x e inv w = w ∙ ap (λ a. a ++ piece x) inv ∙ flat_map_more piece start xs x ∙ ap (λ zs. start ++ flat_map piece zs) (sym e)
