-- What beginning and tile calls refuse, and what an accepted call leaves. Assumes nothing.
use Rattle.std.specs.Prelude.{ℕ, ◌+◌, ◌^◌, Bool, not, ◌&&◌, List, [], ◌∷◌, length, Option, ◌==◌, bit_or, nat_le}
use Rattle.checks.specs.declared.Check.TheVariants.{Size, RightHandSide, Vector, NoSuchTile, TileDone, TileWaiting}
use Rattle.checks.specs.declared.Layer.TheVariants.{Run}
use Rattle.checks.specs.declared.Fault.{Fault}
use Rattle.checks.specs.Lists.{upto, every}
use Rattle.checks.specs.Verdicts.{fault_if, lowest, first_fault}
use Rattle.matrix.specs.declared.tables.Table.TheVariants.{NewCoefficients, NewRightHandSide, NewVector}
use Rattle.matrix.specs.Tables.{length_fault}
use Rattle.matrix.specs.Patterns.{Pattern}
use Rattle.arithmetic.specs.Meanings.{Meaning}
use Rattle.arithmetic.specs.Sweeps.{Equations, updated}
use Rattle.arithmetic.specs.Admitting.{coefficients_fault, values_fault}
use Rattle.points.specs.Points.{size}
use Rattle.points.specs.Runs.{through}
use Rattle.plans.specs.Tilings.{Tiling, tile_of, rows_in, waits}
use Rattle.plans.specs.Words.{bit}

-- the sizes R, E, T and k
pub record Sizes : Type 0 where
  pub rows : ℕ
  pub entries : ℕ
  pub sweeps : ℕ
  pub tiles : ℕ

-- the sizes of a tiling
abbrev pub sizes_of : Tiling → Sizes
sizes_of l = record { rows = l.pattern.rows; entries = l.pattern.entries; sweeps = l.sweeps; tiles = l.count }

-- what a run has come to: the done tiles as a word, and the updated points
pub record Progress : Type 0 where
  pub done : ℕ
  pub points : ℕ

-- the lengths of the coefficients, the right-hand side and the vector
abbrev pub lengths_fault : Pattern → ℕ → ℕ → ℕ → Option Fault
lengths_fault p coefficients rhs x =
    first_fault (length_fault Run NewCoefficients coefficients p.entries ∷ length_fault Run NewRightHandSide rhs p.rows ∷ length_fault Run NewVector x p.rows ∷ [])

-- what beginning checks: the lengths, then the coefficients, the right-hand side and the vector
abbrev pub beginning_fault : {C V : Type 0} → Meaning C V → Pattern → List C → List V → List V → Option Fault
beginning_fault m p cs bs x =
    first_fault (lengths_fault p (length cs) (length bs) (length x) ∷ coefficients_fault Run m p cs ∷ values_fault Run RightHandSide m bs ∷ values_fault Run Vector m x ∷ [])

-- plan and run differ in a size
abbrev pub differing_fault : Sizes → Sizes → Option Fault
differing_fault a b =
    first_fault (fault_if Run Size 1 (not (a.rows == b.rows)) ∷ fault_if Run Size 2 (not (a.entries == b.entries)) ∷ fault_if Run Size 3 (not (a.sweeps == b.sweeps)) ∷ fault_if Run Size 4 (not (a.tiles == b.tiles)) ∷ [])

-- a call of tile u where the tiles `done` are done: there is no such tile, it is done, or it waits for one that isn't
abbrev pub tile_fault : Tiling → (ℕ → Bool) → ℕ → Option Fault
tile_fault l done u = first_fault (fault_if Run NoSuchTile u (nat_le l.count u) ∷ fault_if Run TileDone u (done u) ∷ lowest Run TileWaiting (λ t. waits l u t && not (done t)) l.count ∷ [])

-- what a tile call checks: the sizes, the lengths, the number
abbrev pub call_fault : Sizes → ℕ → Tiling → ℕ → ℕ → ℕ → ℕ → Option Fault
call_fault n done l coefficients rhs x u = first_fault (differing_fault n (sizes_of l) ∷ lengths_fault l.pattern coefficients rhs x ∷ tile_fault l (bit done) u ∷ [])

-- how many points tile u has
abbrev pub points_of : Tiling → ℕ → ℕ
points_of l u = size l.pattern.rows l.sweeps (tile_of l) u

-- tile u's points updated, sweep by sweep and rows rising, each as the plain sweep updates one row
abbrev pub tile_swept : {C V : Type 0} → Meaning C V → Equations C V → Tiling → ℕ → List V → List V
tile_swept m s l u x = through (λ c i y. updated m s y i) (rows_in l u) l.sweeps x

-- tile u done and its points counted
abbrev pub advanced : Tiling → ℕ → Progress → Progress
advanced l u p = record { done = bit_or p.done (2 ^ u); points = p.points + points_of l u }

-- all tiles are done
abbrev pub all_done : ℕ → ℕ → Bool
all_done tiles done = every (bit done) (upto tiles)
