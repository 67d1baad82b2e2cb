-- What is promised of plans, in the words of the subject. Assumes nothing.
use Rattle.std.specs.Prelude.{◌≡◌, ℕ, ◌<◌, true, None}
use Rattle.points.specs.Points.{Lawful}
use Rattle.plans.specs.Tilings.{Tiling, tile_of, precedes, lawful, waits}
use Rattle.plans.specs.Opening.{laying_out_fault, lawful_fault, opening_fault, laid_out}

-- a lawful tiling that can be laid out is lawful in the sense of the order of points
abbrev pub LawfulRises : Type 0
LawfulRises = (l : Tiling) (schedule starts words : ℕ) → laying_out_fault l schedule starts words ≡ None → lawful l ≡ true
    → Lawful (precedes l) l.pattern.rows l.sweeps l.count (tile_of l)

-- in a lawful tiling a tile is only waited for by higher tiles
abbrev pub WaitsForLower : Type 0
WaitsForLower = (l : Tiling) (schedule starts words : ℕ) → laying_out_fault l schedule starts words ≡ None → lawful l ≡ true
    → (u t : ℕ) → u < l.count → t < l.count → waits l u t ≡ true → t < u

-- what laying out makes of a tiling opens, unless the tiling is not lawful
abbrev pub LaidOutOpens : Type 0
LaidOutOpens = (l : Tiling) (schedule starts words : ℕ) → laying_out_fault l schedule starts words ≡ None
    → (opening_fault (laid_out l) ≡ lawful_fault l) × (lawful l ≡ true → opening_fault (laid_out l) ≡ None)
