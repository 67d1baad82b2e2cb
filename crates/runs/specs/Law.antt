-- The law that every run keeps, in the words of the subject. Assumes nothing.
use Rattle.std.specs.Prelude.{◌≡◌, ℕ, ◌<◌, true, cond, ◌⊎◌, ◌↔◌, List, None, sum_by, slice_index_or}
use Rattle.checks.specs.Lists.{upto}
use Rattle.arithmetic.specs.Meanings.{Meaning}
use Rattle.arithmetic.specs.Sweeps.{plain}
use Rattle.points.specs.Runs.{carried, Accepted}
use Rattle.plans.specs.Tilings.{Tiling, tile_of, precedes}
use Rattle.plans.specs.Words.{bit}
use Rattle.runs.specs.declared.run.closing.Closing.{Closing}
use Rattle.runs.specs.declared.run.closing.End.TheVariants.{Whole}
use Rattle.runs.specs.Calls.{tile_fault, points_of}
use Rattle.runs.specs.Held.{equations_with}
use Rattle.runs.specs.Histories.{after}

-- a closed run over a tiling, with coefficients and a right-hand side, that has come from the start x to the values v by a list of calls
pub record Law {C V : Type 0} (m : Meaning C V) (l : Tiling) (cs : List C) (bs x : List V) (calls : List ℕ) (c : Closing) (v : List V) : Type 0 where
  -- each unknown holds the plain value for the sweeps that the done tiles have carried it through
  pub rows : (i : ℕ) (d : V) → i < l.pattern.rows → slice_index_or v i d ≡ slice_index_or (plain m (equations_with l cs bs) x (carried l.sweeps (tile_of l) (bit c.done) i)) i d
  -- after any list of calls, exactly those calls are accepted that name a tile which is not done and all of whose waited-for tiles are
  pub accepted : (before : List ℕ) (u : ℕ) → let done = (after m l cs bs x before).done in
      (tile_fault l done u ≡ None) ↔ Accepted (precedes l) l.pattern.rows l.sweeps l.count (tile_of l) done u
  -- after any list of calls, all tiles are done or one is ready
  pub ready : (before : List ℕ) → let done = (after m l cs bs x before).done in
      ((t : ℕ) → t < l.count → done t ≡ true) ⊎ ((u : ℕ) × (u < l.count) × (tile_fault l done u ≡ None))
  -- the done tiles are those whose calls were accepted
  pub done : (t : ℕ) → bit c.done t ≡ (after m l cs bs x calls).done t
  -- the updated points are those of the done tiles
  pub points : c.points ≡ sum_by (λ t. cond (bit c.done t) (points_of l t) 0) (upto l.count)
  -- whole exactly where all tiles are done
  pub whole : (c.end ≡ Whole) ↔ ((t : ℕ) → t < l.count → bit c.done t ≡ true)
  -- and then the values are the plain ones after T sweeps
  pub finished : c.end ≡ Whole → v ≡ plain m (equations_with l cs bs) x l.sweeps
