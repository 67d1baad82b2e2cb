-- Points and tiles: which point directly precedes which, lawful tile tables, who waits for whom. Assumes nothing.
-- Point c, i is row i on its way from c to c + 1 sweeps, so c is its sweep less one: c < T, i < R.
use Rattle.std.specs.Prelude.{◌≡◌, ℕ, suc, ◌<◌, ◌≤◌, Bool, true, not, ◌&&◌, List, length, sum_by, filter, ◌==◌, nat_eq, nat_lt}
use Rattle.checks.specs.Lists.{upto, some}

-- `pre c i d j`: whether point c, i directly precedes point d, j
abbrev pub Precedes : Type 0
Precedes = ℕ → ℕ → ℕ → ℕ → Bool

-- `tile c i`: the tile of point c, i
abbrev pub Tiles : Type 0
Tiles = ℕ → ℕ → ℕ

-- a point only precedes points of later sweeps, or of higher rows in its own sweep; and it precedes its row's next point
pub record Forward (pre : Precedes) : Type 0 where
  pub onward : (c i d j : ℕ) → pre c i d j ≡ true → (c ≤ d) × (c ≡ d → i < j)
  pub own : (c i : ℕ) → pre c i (suc c) i ≡ true

-- there are k tiles, and no point's tile is above that of a point that it directly precedes
pub record Lawful (pre : Precedes) (R T k : ℕ) (tile : Tiles) : Type 0 where
  pub small : (c i : ℕ) → c < T → i < R → tile c i < k
  pub rises : (c i d j : ℕ) → c < T → i < R → d < T → j < R → pre c i d j ≡ true → tile c i ≤ tile d j

-- tile u waits for tile t: another tile, of which a point c, i directly precedes a point d, j of u
pub record Waits (pre : Precedes) (R T : ℕ) (tile : Tiles) (u t : ℕ) : Type 0 where
  pub apart : t ≡ u → ⊥
  pub c : ℕ
  pub i : ℕ
  pub d : ℕ
  pub j : ℕ
  pub c_in : c < T
  pub i_in : i < R
  pub d_in : d < T
  pub j_in : j < R
  pub from : tile c i ≡ t
  pub to : tile d j ≡ u
  pub precedes : pre c i d j ≡ true

-- a test that tells exactly which tile waits for which
pub record Tells (pre : Precedes) (R T k : ℕ) (tile : Tiles) (waits : ℕ → ℕ → Bool) : Type 0 where
  pub sound : (u t : ℕ) → u < k → t < k → waits u t ≡ true → Waits pre R T tile u t
  pub whole : (u t : ℕ) → u < k → t < k → Waits pre R T tile u t → waits u t ≡ true

-- the turn of point c, i, where row j has been carried through n j sweeps: its row has been carried through c sweeps, each point that directly precedes it has been taken, and none that it directly precedes
pub record Turn (pre : Precedes) (R T : ℕ) (n : ℕ → ℕ) (c i : ℕ) : Type 0 where
  pub at : n i ≡ c
  pub older : (d j : ℕ) → d < T → j < R → pre d j c i ≡ true → d < n j
  pub newer : (d j : ℕ) → d < T → j < R → pre c i d j ≡ true → n j ≤ d
  pub top : (j : ℕ) → j < R → n j ≤ T

-- the rows that tile t has in a sweep, rising
abbrev pub tile_rows : ℕ → Tiles → ℕ → ℕ → List ℕ
tile_rows R tile t c = filter (λ i. nat_eq (tile c i) t) (upto R)

-- how many points tile t has
abbrev pub size : ℕ → ℕ → Tiles → ℕ → ℕ
size R T tile t = sum_by (λ c. length (tile_rows R tile t c)) (upto T)

-- whether some point passes a test
abbrev pub some_point : ℕ → ℕ → (ℕ → ℕ → Bool) → Bool
some_point R T test = some (λ c. some (test c) (upto R)) (upto T)

-- whether tile u waits for tile t
abbrev pub waits_by : Precedes → ℕ → ℕ → Tiles → ℕ → ℕ → Bool
waits_by pre R T tile u t = not (t == u) && some_point R T (λ c i. (tile c i == t) && some_point R T (λ d j. (tile d j == u) && pre c i d j))

-- whether point d, j is directly preceded by a point of a higher tile
abbrev pub overtaken : Precedes → ℕ → ℕ → Tiles → ℕ → ℕ → Bool
overtaken pre R T tile d j = some_point R T (λ c i. pre c i d j && nat_lt (tile d j) (tile c i))
