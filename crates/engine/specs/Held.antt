-- What a clause reads of a solution. Assumes nothing.
use Rattle.std.specs.Prelude.{vec_items}
use Rattle.engine.specs.declared.solution.Solution.{Solution}
use Rattle.engine.specs.Solutions.{Solved}

-- what a solution holds
abbrev pub solved_by : {V : Type 0} → Solution V → Solved V
solved_by s = record { ranks = vec_items s.ranks; tiles = vec_items s.tiles; values = vec_items s.values }
