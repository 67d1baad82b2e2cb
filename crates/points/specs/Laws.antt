-- The laws of runs, in the words of the subject. Assumes nothing.
use Rattle.std.specs.Prelude.{◌≡◌, ℕ, ◌+◌, ◌*◌, ◌<◌, Bool, true, false, ◌⊎◌, ◌↔◌, List, [], length, get_or, take, fold, sum_by, slice_index_or}
use Rattle.std.specs.List.{between}
use Rattle.checks.specs.Lists.{upto}
use Rattle.points.specs.Points.{Precedes, Tiles, Forward, Lawful, Waits, Tells, Turn, tile_rows, size, waits_by, overtaken}
use Rattle.points.specs.Runs.{accepts, run, noted, taken, carried, updated, Accepted}
use Rattle.points.specs.Sweeps.{sweep_precedes, Symmetric, in_place, plain, Local}
use Rattle.points.specs.Schedules.{schedule, begins}

-- whatever the calls, each point is updated at its turn: after all points that directly precede it, and before all that it directly precedes
abbrev pub EachAtItsTurn : Type 0
EachAtItsTurn = (pre : Precedes) → Forward pre → (R T k : ℕ) (tile : Tiles) (waits : ℕ → ℕ → Bool)
    → Lawful pre R T k tile → Tells pre R T k tile waits
    → (calls : List ℕ) → let points = (run noted R T k tile waits [] calls).held in
    (m : ℕ) → m < length points → Turn pre R T (taken (take m points)) (get_or points m (0, 0)).0 (get_or points m (0, 0)).1

-- what calls make of any state is what those points make of it, one after the other
abbrev pub AnyState : Type 0 → Type 0
AnyState S = (update : ℕ → ℕ → S → S) (R T k : ℕ) (tile : Tiles) (waits : ℕ → ℕ → Bool) (start : S) (calls : List ℕ)
    → let s = run update R T k tile waits start calls in let points = run noted R T k tile waits [] calls in
    (s.done ≡ points.done) × (s.held ≡ fold (λ x p. update p.0 p.1 x) start points.held)

-- after any list of calls each row holds its plain value for the sweeps that the done tiles have carried it through
abbrev pub EachRowPlain : Type 0 → Type 0
EachRowPlain V = (R T k : ℕ) (linked : ℕ → ℕ → Bool) (tile : Tiles) (waits : ℕ → ℕ → Bool) (value : ℕ → List V → V) (start : List V)
    → Symmetric linked → Lawful (sweep_precedes linked) R T k tile → Tells (sweep_precedes linked) R T k tile waits → Local R linked value → length start ≡ R
    → (calls : List ℕ) → let s = run (in_place value) R T k tile waits start calls in
    (length s.held ≡ R) × ((i : ℕ) (v : V) → i < R → slice_index_or s.held i v ≡ slice_index_or (plain value R start (carried T tile s.done i)) i v)

-- exactly those calls are accepted whose number is below k, whose tile is not done, and all of whose waited-for tiles are
abbrev pub AcceptsExactly : Type 0
AcceptsExactly = (pre : Precedes) (R T k : ℕ) (tile : Tiles) (waits : ℕ → ℕ → Bool)
    → Lawful pre R T k tile → Tells pre R T k tile waits
    → (done : ℕ → Bool) (u : ℕ) → (accepts waits k done u ≡ true) ↔ Accepted pre R T k tile done u

-- until all tiles are done one is ready, namely the lowest that is not
abbrev pub OneIsReady : Type 0
OneIsReady = (pre : Precedes) (R T k : ℕ) (tile : Tiles) (waits : ℕ → ℕ → Bool)
    → Lawful pre R T k tile → Tells pre R T k tile waits
    → (done : ℕ → Bool)
    → ((t : ℕ) → t < k → done t ≡ true)
    ⊎ ((u : ℕ) × (u < k) × (accepts waits k done u ≡ true) × ((t : ℕ) → t < u → done t ≡ true))

-- a tile is only waited for by higher tiles
abbrev pub WaitedForByHigher : Type 0
WaitedForByHigher = (pre : Precedes) (R T k : ℕ) (tile : Tiles) → Lawful pre R T k tile → (u t : ℕ) → Waits pre R T tile u t → t < u

-- after any list of calls the updated points are those of the done tiles
abbrev pub PointsCounted : Type 0 → Type 0
PointsCounted S = (update : ℕ → ℕ → S → S) (R T k : ℕ) (tile : Tiles) (waits : ℕ → ℕ → Bool) (start : S) (calls : List ℕ)
    → let s = run update R T k tile waits start calls in s.points ≡ updated R T k tile s.done

-- the points of the done tiles are the sweeps that the rows have been carried through, and all tiles have T * R points
abbrev pub PointsAreSweeps : Type 0
PointsAreSweeps = (R T k : ℕ) (tile : Tiles) → ((c i : ℕ) → c < T → i < R → tile c i < k)
    → (sum_by (size R T tile) (upto k) ≡ T * R) × ((done : ℕ → Bool) → updated R T k tile done ≡ sum_by (carried T tile done) (upto R))

-- with all tiles done every row has been carried through T sweeps, and T * R points have been updated
abbrev pub AllDone : Type 0
AllDone = (R T k : ℕ) (tile : Tiles) → ((c i : ℕ) → c < T → i < R → tile c i < k)
    → (done : ℕ → Bool) → ((t : ℕ) → t < k → done t ≡ true)
    → ((i : ℕ) → i < R → carried T tile done i ≡ T) × (updated R T k tile done ≡ T * R)

-- the parts of the schedule, from one beginning to the next, are the tiles' rows of a sweep; and the last beginning is the schedule's end, T * R
abbrev pub PartsAreRows : Type 0
PartsAreRows = (R T k : ℕ) (tile : Tiles)
    → (length (schedule R T k tile) ≡ begins R T tile (k * T))
    × ((t c : ℕ) → t < k → c < T → between (begins R T tile (t * T + c)) (begins R T tile (t * T + c + 1)) (schedule R T k tile) ≡ tile_rows R tile t c)
    × (((c i : ℕ) → c < T → i < R → tile c i < k) → begins R T tile (k * T) ≡ T * R)

-- the executable test of waiting tells who waits for whom
abbrev pub WaitsTold : Type 0
WaitsTold = (pre : Precedes) (R T k : ℕ) (tile : Tiles) → Tells pre R T k tile (waits_by pre R T tile)

-- a table of k tiles is lawful exactly where no point is directly preceded by one of a higher tile
abbrev pub LawfulTold : Type 0
LawfulTold = (pre : Precedes) (R T k : ℕ) (tile : Tiles) → ((c i : ℕ) → c < T → i < R → tile c i < k)
    → ((d j : ℕ) → d < T → j < R → overtaken pre R T tile d j ≡ false) ↔ Lawful pre R T k tile
