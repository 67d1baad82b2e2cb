-- What a problem comes to, or why it is refused. Assumes nothing.
use Rattle.std.specs.Prelude.{ℕ, List, [], ◌∷◌, map, Option}
use Rattle.checks.specs.declared.Fault.{Fault}
use Rattle.checks.specs.Lists.{at, upto}
use Rattle.checks.specs.Verdicts.{first_fault}
use Rattle.arithmetic.specs.Meanings.{Meaning}
use Rattle.arithmetic.specs.Sweeps.{plain}
use Rattle.numbering.specs.Order.{carried_rows}
use Rattle.plans.specs.Tilings.{Tiling}
use Rattle.plans.specs.Words.{wait_words_of}
use Rattle.runs.specs.Calls.{beginning_fault, points_of}
use Rattle.engine.specs.declared.solution.Tile.{Tile}
use Rattle.preparing.specs.Posed.{Posed, ranks_of, tiling_of, renumbered, start_of, preparing_fault}

-- a problem is refused for what cannot be prepared, and for what beginning checks; for nothing between these and after
abbrev pub solving_fault : {C V : Type 0} → Meaning C V → Posed C V → Option Fault
solving_fault m p = first_fault (preparing_fault p ∷ beginning_fault m (tiling_of p).pattern (renumbered p).coefficients (renumbered p).rhs (start_of p) ∷ [])

-- the points and the wait word of each tile
abbrev pub tiles_of : Tiling → List Tile
tiles_of l = map (λ u. record { points = points_of l u; waits = at (wait_words_of l) u }) (upto l.count)

-- the rank of each row, the tiles, and the value of each row
pub record Solved (V : Type 0) : Type 0 where
  pub ranks : List ℕ
  pub tiles : List Tile
  pub values : List V

-- the values are the plain ones of the renumbered equations, carried back to the original rows
abbrev pub solved : {C V : Type 0} → Meaning C V → Posed C V → Solved V
solved m p = record {
  ranks = ranks_of p;
  tiles = tiles_of (tiling_of p);
  values = carried_rows (ranks_of p) (plain m (renumbered p) (start_of p) p.sweeps);
}
