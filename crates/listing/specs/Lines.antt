-- The lines of listings. Assumes nothing.
use Rattle.std.specs.Prelude.{ℕ, ◌+◌, List, [], ◌∷◌, ◌++◌, codes, decimal}
use Rattle.listing.specs.Refusals.{newline}

-- the first line of a listing of tiles
abbrev pub heading : ℕ → ℕ → ℕ → List ℕ
heading rows sweeps tiles = codes "rows " ++ (decimal rows ++ (codes " sweeps " ++ (decimal sweeps ++ (codes " tiles " ++ (decimal tiles ++ newline)))))

-- a line for each element, numbered from v on
abbrev pub numbered : {X : Type 0} → (ℕ → X → List ℕ) → ℕ → List X → List ℕ
numbered line v [] = []
numbered line v (x ∷ xs) = line v x ++ numbered line (v + 1) xs
