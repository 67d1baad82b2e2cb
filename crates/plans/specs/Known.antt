-- A known mesh: the path of three rows, renumbered, laid out. Assumes nothing.
use Rattle.std.specs.Prelude.{◌≡◌, ℕ, List, [], ◌∷◌, map}
use Rattle.plans.specs.Tilings.{Tiling, schedule_of, schedule_starts_of}
use Rattle.plans.specs.Words.{wait_words_of}

-- two sweeps, two tiles
abbrev pub path : Tiling
path = record {
  pattern = record { rows = 3; entries = 7; starts = 0 ∷ 2 ∷ 5 ∷ 7 ∷ []; columns = 0 ∷ 1 ∷ 1 ∷ 2 ∷ 0 ∷ 2 ∷ 1 ∷ [] };
  sweeps = 2;
  count = 2;
  tiles = 0 ∷ 0 ∷ 1 ∷ 0 ∷ 1 ∷ 1 ∷ [];
}

-- what is, and what it should be
abbrev pub path_lines : List (List ℕ × List ℕ)
path_lines =
    (schedule_of path, 0 ∷ 1 ∷ 0 ∷ 2 ∷ 1 ∷ 2 ∷ [])
    ∷ (schedule_starts_of path, 0 ∷ 2 ∷ 3 ∷ 4 ∷ 6 ∷ [])
    ∷ (wait_words_of path, 0 ∷ 1 ∷ [])
    ∷ []

abbrev pub PathKnown : Type 0
PathKnown = map (λ line. line.0) path_lines ≡ map (λ line. line.1) path_lines
