-- The rows' text of what is printed of each value. Assumes nothing.
use Rattle.std.proofs.Common.{◌≡◌, ℕ, ◌+◌, List, [], ◌∷◌, ◌++◌, map, refl, ap}
use Rattle.listing.specs.Lines.{numbered}

pub numbered_map : {X Y : Type 0} (line : ℕ → Y → List ℕ) (f : X → Y) (v : ℕ) (xs : List X) → numbered (λ i x. line i (f x)) v xs ≡ numbered line v (map f xs)
numbered_map line f v [] = refl
numbered_map line f v (x ∷ xs) = ap (λ later. line v (f x) ++ later) (numbered_map line f (v + 1) xs)
