-- What growing means: a sweep below is the greatest, and a sweep above the least, that keeps the order of the rows. Assumes nothing.
use Rattle.std.specs.Prelude.{◌≡◌, ℕ, ◌+◌, ◌-◌, ◌<◌, ◌≤◌, true, false, List, [], length, get_or, take, slice_index_or}
use Rattle.std.specs.List.{between}
use Rattle.checks.specs.Lists.{at}
use Rattle.matrix.specs.Patterns.{Pattern, linked}
use Rattle.growing.specs.Growing.{before, lower, raise, sweeps}

-- g may stand one sweep below `near`
pub record FitsBelow (m : Pattern) (grown : List (List ℕ)) (near g : List ℕ) : Type 0 where
  pub own : (v : ℕ) → v < m.rows → at g v ≤ at near v
  pub order : (v w : ℕ) → v < m.rows → w < m.rows → before m grown v w ≡ true → at g v ≤ at g w
  pub reach : (v w : ℕ) → v < m.rows → w < m.rows → before m grown v w ≡ true → at g w ≤ at near v

-- g may stand one sweep above `near`
pub record FitsAbove (m : Pattern) (grown : List (List ℕ)) (near g : List ℕ) : Type 0 where
  pub own : (v : ℕ) → v < m.rows → at near v ≤ at g v
  pub order : (v w : ℕ) → v < m.rows → w < m.rows → before m grown v w ≡ true → at g v ≤ at g w
  pub reach : (v w : ℕ) → v < m.rows → w < m.rows → before m grown v w ≡ true → at near w ≤ at g v

-- g is the greatest that may stand one sweep below `near`
pub record Greatest (m : Pattern) (grown : List (List ℕ)) (near g : List ℕ) : Type 0 where
  pub size : length g ≡ m.rows
  pub fits : FitsBelow m grown near g
  pub above : (h : List ℕ) → FitsBelow m grown near h → (v : ℕ) → v < m.rows → at h v ≤ at g v

-- g is the least that may stand one sweep above `near`
pub record Least (m : Pattern) (grown : List (List ℕ)) (near g : List ℕ) : Type 0 where
  pub size : length g ≡ m.rows
  pub fits : FitsAbove m grown near g
  pub below : (h : List ℕ) → FitsAbove m grown near h → (v : ℕ) → v < m.rows → at g v ≤ at h v

-- a sweep's tiles: one for each row, below k
abbrev pub Tiles : Pattern → ℕ → List ℕ → Type 0
Tiles m k g = (length g ≡ m.rows) × ((v : ℕ) → v < m.rows → at g v < k)

-- the sweep that is computed downwards is the greatest
abbrev pub LowerIsGreatest : Type 0
LowerIsGreatest = (m : Pattern) (k : ℕ) (grown : List (List ℕ)) (near : List ℕ) → Tiles m k near → Greatest m grown near (lower m k grown near)

-- the sweep that is computed upwards is the least
abbrev pub RaiseIsLeast : Type 0
RaiseIsLeast = (m : Pattern) (k : ℕ) (grown : List (List ℕ)) (near : List ℕ) → Tiles m k near → Least m grown near (raise m k grown near)

-- The whole table: gs lists the T sweeps, lowest first, so that sweep s stands at place s - 1. The seed sweep S is grown first, then
-- those below it, downwards, then those above it, upwards; the rows' order is that of the sweeps grown so far.
pub record Grown (m : Pattern) (t s : ℕ) (seed : List ℕ) (gs : List (List ℕ)) : Type 0 where
  pub count : length gs ≡ t
  pub seeded : get_or gs (s - 1) [] ≡ seed
  pub down : (i : ℕ) → i + 1 < s → Greatest m (between (i + 1) s gs) (slice_index_or gs (i + 1) []) (slice_index_or gs i [])
  pub up : (i : ℕ) → s ≤ i → i < t → Least m (take i gs) (slice_index_or gs (i - 1) []) (slice_index_or gs i [])

-- the sweeps that are computed are the grown ones
abbrev pub SweepsAreGrown : Type 0
SweepsAreGrown = (m : Pattern) (t s k : ℕ) (seed : List ℕ) → 0 < s → s ≤ t → Tiles m k seed → Grown m t s seed (sweeps m t s k seed)

-- there is one such table
abbrev pub GrownIsOne : Type 0
GrownIsOne = (m : Pattern) (t s : ℕ) (seed : List ℕ) (gs hs : List (List ℕ)) → 0 < s → s ≤ t → Grown m t s seed gs → Grown m t s seed hs → gs ≡ hs

-- no two rows come before each other
abbrev pub OneWay : Pattern → List (List ℕ) → Type 0
OneWay m grown = (v w : ℕ) → v < m.rows → w < m.rows → before m grown v w ≡ true → before m grown w v ≡ false

-- no row's tile falls from one sweep to the next
abbrev pub NeverFalls : Pattern → List (List ℕ) → Type 0
NeverFalls m gs = (i v : ℕ) → i + 1 < length gs → v < m.rows → at (slice_index_or gs i []) v ≤ at (slice_index_or gs (i + 1) []) v

-- of two linked rows the one that is lower in some sweep is higher in none
abbrev pub NeverCross : Pattern → List (List ℕ) → Type 0
NeverCross m gs = (i j v w : ℕ) → i < length gs → j < length gs → v < m.rows → w < m.rows → linked m v w ≡ true
    → at (slice_index_or gs i []) v < at (slice_index_or gs i []) w → at (slice_index_or gs j []) v ≤ at (slice_index_or gs j []) w

-- no row's tile is above that of a linked row in the next sweep
abbrev pub NeverAhead : Pattern → List (List ℕ) → Type 0
NeverAhead m gs = (i v w : ℕ) → i + 1 < length gs → v < m.rows → w < m.rows → linked m v w ≡ true → at (slice_index_or gs i []) v ≤ at (slice_index_or gs (i + 1) []) w

-- what holds of every table grown from a seed with tiles below k
abbrev pub OfAllGrown : (Pattern → List (List ℕ) → Type 0) → Type 0
OfAllGrown P = (m : Pattern) (t s k : ℕ) (seed : List ℕ) → 0 < s → s ≤ t → Tiles m k seed → P m (sweeps m t s k seed)

-- every sweep has a tile below k for each row
abbrev pub TilesStay : Type 0
TilesStay = (m : Pattern) (t s k : ℕ) (seed : List ℕ) → 0 < s → s ≤ t → Tiles m k seed → (i : ℕ) → i < t → Tiles m k (slice_index_or (sweeps m t s k seed) i [])
