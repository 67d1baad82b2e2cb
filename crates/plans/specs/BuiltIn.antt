-- The tiling of the built-in plan: one row that stores itself, one sweep, one tile. Assumes nothing.
use Rattle.std.specs.Prelude.{[], ◌∷◌}
use Rattle.plans.specs.Tilings.{Tiling}

-- one row, one sweep, one tile
abbrev pub built_in_tiling : Tiling
built_in_tiling = record { pattern = record { rows = 1; entries = 1; starts = 0 ∷ 1 ∷ []; columns = 0 ∷ [] }; sweeps = 1; count = 1; tiles = 0 ∷ [] }
