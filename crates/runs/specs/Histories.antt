-- What a list of tile calls makes of a start. Assumes nothing.
use Rattle.std.specs.Prelude.{◌≡◌, ℕ, List, length, None}
use Rattle.arithmetic.specs.Meanings.{Meaning}
use Rattle.arithmetic.specs.Sweeps.{updated}
use Rattle.points.specs.Runs.{State, run}
use Rattle.plans.specs.Tilings.{Tiling, tile_of, waits}
use Rattle.plans.specs.Words.{bit}
use Rattle.runs.specs.declared.run.Run.{Run}
use Rattle.runs.specs.Calls.{sizes_of, lengths_fault}
use Rattle.runs.specs.Held.{sizes_held, equations_with}

-- the done tiles, the updated points and the values after a list of calls, refused ones among them
abbrev pub after : {C V : Type 0} → Meaning C V → Tiling → List C → List V → List V → List ℕ → State (List V)
after m l cs bs x calls = run (λ c i y. updated m (equations_with l cs bs) y i) l.pattern.rows l.sweeps l.count (tile_of l) (waits l) x calls

-- a run and a vector are what the calls give from the start x
pub record Reached {C V : Type 0} (m : Meaning C V) (l : Tiling) (cs : List C) (bs x : List V) (calls : List ℕ) (r : Run) (v : List V) : Type 0 where
  pub sizes : sizes_held r ≡ sizes_of l
  pub lengths : lengths_fault l.pattern (length cs) (length bs) (length v) ≡ None
  pub done : (t : ℕ) → bit r.done t ≡ (after m l cs bs x calls).done t
  pub points : r.points ≡ (after m l cs bs x calls).points
  pub values : v ≡ (after m l cs bs x calls).held
