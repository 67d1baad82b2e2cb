-- The known meshes, as one table: what the definitions give for each. Assumes nothing.
use Rattle.std.specs.Prelude.{◌≡◌, ℕ, Bool, true, false, ◌&&◌, List, [], ◌∷◌, ◌==◌}
use Rattle.checks.specs.Lists.{every}
use Rattle.matrix.specs.Patterns.{Pattern}
use Rattle.growing.specs.Growing.{tile_table_of, marks}

-- In a path each row stores itself and its neighbours, itself first.
abbrev pub path3 : Pattern
path3 = record { rows = 3; entries = 7; starts = 0 ∷ 2 ∷ 5 ∷ 7 ∷ []; columns = 0 ∷ 1 ∷ 1 ∷ 0 ∷ 2 ∷ 2 ∷ 1 ∷ [] }

abbrev pub path4 : Pattern
path4 = record { rows = 4; entries = 10; starts = 0 ∷ 2 ∷ 5 ∷ 8 ∷ 10 ∷ []; columns = 0 ∷ 1 ∷ 1 ∷ 0 ∷ 2 ∷ 2 ∷ 1 ∷ 3 ∷ 3 ∷ 2 ∷ [] }

-- whether two tables are the same
abbrev pub same : List ℕ → List ℕ → Bool
same [] [] = true
same [] (y ∷ ys) = false
same (x ∷ xs) [] = false
same (x ∷ xs) (y ∷ ys) = x == y && same xs ys

-- what a definition gives for a mesh, and what it should give
pub record Line : Type 0 where
  pub is : List ℕ
  pub should : List ℕ

abbrev pub stands : Line → Bool
stands x = same x.is x.should

abbrev pub known : List Line
known =
    record { is = tile_table_of path3 2 1 2 (1 ∷ 0 ∷ 0 ∷ []); should = 1 ∷ 0 ∷ 0 ∷ 1 ∷ 1 ∷ 0 ∷ [] }
    ∷ record { is = marks path3 2 1 2 (1 ∷ 0 ∷ 0 ∷ []); should = 0 ∷ 2 ∷ 0 ∷ 1 ∷ 2 ∷ 0 ∷ 1 ∷ [] }
    ∷ record { is = tile_table_of path3 2 2 2 (1 ∷ 0 ∷ 0 ∷ []); should = 0 ∷ 0 ∷ 0 ∷ 1 ∷ 0 ∷ 0 ∷ [] }
    ∷ record { is = tile_table_of path4 2 2 4 (1 ∷ 2 ∷ 3 ∷ 0 ∷ []); should = 0 ∷ 0 ∷ 0 ∷ 0 ∷ 1 ∷ 2 ∷ 3 ∷ 0 ∷ [] }
    ∷ record { is = tile_table_of path4 2 1 4 (1 ∷ 2 ∷ 3 ∷ 0 ∷ []); should = 1 ∷ 2 ∷ 3 ∷ 0 ∷ 2 ∷ 3 ∷ 3 ∷ 3 ∷ [] }
    ∷ []

abbrev pub KnownMeshes : Type 0
KnownMeshes = every stands known ≡ true
