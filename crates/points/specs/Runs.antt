-- Runs: what a list of tile calls makes of any state, and what it has carried and counted. Assumes nothing.
use Rattle.std.specs.Prelude.{◌≡◌, ℕ, ◌+◌, ◌<◌, Bool, true, false, cond, not, ◌&&◌, ◌||◌, List, [], ◌∷◌, ◌++◌, fold, sum_by, count_by, ◌==◌, nat_eq, nat_lt}
use Rattle.checks.specs.Lists.{upto, every}
use Rattle.points.specs.Points.{Precedes, Tiles, Waits, tile_rows, size}

-- the state after the first n sweeps over the rows that each sweep has; `update c i x` is the state x with point c, i updated
abbrev pub through : {S : Type 0} → (ℕ → ℕ → S → S) → (ℕ → List ℕ) → ℕ → S → S
through update rows n x = fold (λ y c. fold (λ z i. update c i z) y (rows c)) x (upto n)

-- a call of tile u is accepted: there is such a tile, it is not done, and every tile that it waits for is
abbrev pub accepts : (ℕ → ℕ → Bool) → ℕ → (ℕ → Bool) → ℕ → Bool
accepts waits k done u = nat_lt u k && (not (done u) && every (λ t. not (waits u t) || done t) (upto k))

-- the done tiles, and u
abbrev pub and_done : (ℕ → Bool) → ℕ → ℕ → Bool
and_done done u t = t == u || done t

-- what a run has come to: the done tiles, the updated points and the state that it updates
pub record State (S : Type 0) : Type 0 where
  pub done : ℕ → Bool
  pub points : ℕ
  pub held : S

module _ {S : Type 0} (update : ℕ → ℕ → S → S) (R T k : ℕ) (tile : Tiles) (waits : ℕ → ℕ → Bool) where
  -- tile t done: its points updated sweep by sweep, rows rising
  abbrev pub with_tile : State S → ℕ → State S
  with_tile s t = record { done = and_done s.done t; points = s.points + size R T tile t; held = through update (tile_rows R tile t) T s.held }

  -- a call that is not accepted changes nothing
  abbrev pub call : State S → ℕ → State S
  call s t = cond (accepts waits k s.done t) (with_tile s t) s

  -- no tile done, no point updated
  abbrev pub begin : S → State S
  begin x = record { done = λ _. false; points = 0; held = x }

  -- any list of calls, from the beginning
  abbrev pub run : S → List ℕ → State S
  run x calls = fold call (begin x) calls

-- a run over this state is the list of the points that it updates, in order
abbrev pub noted : ℕ → ℕ → List (ℕ × ℕ) → List (ℕ × ℕ)
noted c i points = points ++ (c, i) ∷ []

-- how many of some points are row i's
abbrev pub taken : List (ℕ × ℕ) → ℕ → ℕ
taken points i = count_by (λ p. nat_eq i p.1) points

-- through how many sweeps the done tiles have carried row i
abbrev pub carried : ℕ → Tiles → (ℕ → Bool) → ℕ → ℕ
carried T tile done i = count_by (λ c. done (tile c i)) (upto T)

-- how many points the done tiles have
abbrev pub updated : ℕ → ℕ → ℕ → Tiles → (ℕ → Bool) → ℕ
updated R T k tile done = sum_by (λ t. cond (done t) (size R T tile t) 0) (upto k)

-- what makes a call of tile u be accepted
abbrev pub Accepted : Precedes → ℕ → ℕ → ℕ → Tiles → (ℕ → Bool) → ℕ → Type 0
Accepted pre R T k tile done u = (u < k) × (done u ≡ false) × ((t : ℕ) → Waits pre R T tile u t → done t ≡ true)
