-- Growing sweep by sweep in the tile table. Assumes nothing.
use Rattle.std.specs.Prelude.{◌≡◌, ℕ, suc, ◌-◌, ◌*◌, List, [], ◌∷◌, map}
use Rattle.std.specs.List.{range_with_len}
use Rattle.matrix.specs.Patterns.{Pattern}
use Rattle.growing.specs.declared.direction.Direction.{Direction}
use Rattle.growing.specs.Growing.{down, up, marks_of, tile_table_of, marks}
use Rattle.growing.specs.Greatest.{Tiles, OneWay}
use Rattle.growing.specs.Directions.{next, added}
use Rattle.growing.specs.Passes.{cells}

-- sweep c, counted from 0, in a tile table for r rows
abbrev pub sweep_at : ℕ → List ℕ → ℕ → List ℕ
sweep_at r table c = cells (c * r) r table

-- n sweeps from sweep c on
abbrev pub sweeps_in : ℕ → List ℕ → ℕ → ℕ → List (List ℕ)
sweeps_in r table c n = map (sweep_at r table) (range_with_len c n)

-- what is known once the sweeps `grown` are grown, the latest of them `near`
pub record Held (m : Pattern) (k : ℕ) (near : List ℕ) (grown : List (List ℕ)) (marks : List ℕ) : Type 0 where
  pub tiles : Tiles m k near
  pub one_way : OneWay m grown
  pub marked : marks ≡ marks_of m grown

-- what growing one sweep more, `is`, from its neighbour leaves of the sweep and of the marks
pub record Grows (d : Direction) (m : Pattern) (near is marks_were marks_are : List ℕ) : Type 0 where
  pub grows : (k : ℕ) (grown : List (List ℕ)) → Held m k near grown marks_were
      → (is ≡ next d m k grown near) × Held m k is (added d is grown) marks_are

-- down from sweep `from` the sweeps are grown as far as `to`: growing the rest gives all
pub record GrownDown (m : Pattern) (from to : ℕ) (was is marks_were marks_are : List ℕ) : Type 0 where
  pub kept : sweep_at m.rows is from ≡ sweep_at m.rows was from
  pub grows : (k : ℕ) → let seed = sweep_at m.rows was from in
      Held m k seed (seed ∷ []) marks_were
      → (down m k to (sweep_at m.rows is to) (sweeps_in m.rows is to (suc from - to)) ≡ down m k from seed (seed ∷ []))
      × Held m k (sweep_at m.rows is to) (sweeps_in m.rows is to (suc from - to)) marks_are

-- up from sweep `from` the sweeps are grown as far as `to`: growing the rest, t in all, gives all
pub record GrownUp (m : Pattern) (t from to : ℕ) (was is marks_were marks_are : List ℕ) : Type 0 where
  pub grows : (k : ℕ) → Held m k (sweep_at m.rows was from) (sweeps_in m.rows was 0 (suc from)) marks_were
      → (up m k (t - suc to) (sweep_at m.rows is to) (sweeps_in m.rows is 0 (suc to)) ≡ up m k (t - suc from) (sweep_at m.rows was from) (sweeps_in m.rows was 0 (suc from)))
      × Held m k (sweep_at m.rows is to) (sweeps_in m.rows is 0 (suc to)) marks_are

-- the tile table and the marks are the defined ones, whatever number of tiles the seed's are below
pub record Filled (m : Pattern) (t s : ℕ) (seed table marked : List ℕ) : Type 0 where
  pub tiled : (k : ℕ) → Tiles m k seed → table ≡ tile_table_of m t s k seed
  pub marks_are : (k : ℕ) → Tiles m k seed → marked ≡ marks m t s k seed
