-- The known meshes, as one table: what the definitions of every layer give for each, and what it should be. Assumes nothing.
-- All are paths over two sweeps; rows and tiles count from 0, sweeps from 1. After a path stand the sweeps, the seed's sweep and the tiles;
-- in a verdict the tiles come before the seed's sweep.
use Rattle.std.specs.Prelude.{◌≡◌, ℕ, ◌+◌, Bool, true, false, ◌&&◌, ◌||◌, List, [], ◌∷◌, ◌++◌, map, length, Some, None, codes, filter, Option, ◌==◌, from_bits, Float}
use Rattle.std.specs.Float.{binary64}
use Rattle.std.specs.Float.Ieee.{to_bits}
use Rattle.std.specs.List.{flat_map}
use Rattle.checks.specs.declared.Fault.{Fault}
use Rattle.checks.specs.Faults.{line_of}
use Rattle.checks.specs.Lists.{upto, every, totals}
use Rattle.matrix.specs.Patterns.{Pattern}
use Rattle.arithmetic.specs.Kinds.{doubles, minutes, never}
use Rattle.arithmetic.specs.Sweeps.{plain}
use Rattle.growing.specs.Growing.{tile_table_of, marks}
use Rattle.growing.specs.Verdicts.{growing_fault}
use Rattle.plans.specs.Tilings.{Tiling, schedule_of, schedule_starts_of}
use Rattle.plans.specs.Words.{wait_words_of}
use Rattle.runs.specs.Calls.{tile_fault}
use Rattle.runs.specs.Histories.{after}
use Rattle.grown_plans.specs.Grown.{grown_ranks, grown_tiling}
use Rattle.preparing.specs.Posed.{Posed, tiling_of, renumbered, start_of}
use Rattle.engine.specs.Solutions.{solved}

-- whether two tables are the same
abbrev pub same : List ℕ → List ℕ → Bool
same [] [] = true
same [] (y ∷ ys) = false
same (x ∷ xs) [] = false
same (x ∷ xs) (y ∷ ys) = x == y && same xs ys

-- what a definition gives for a mesh, and what it should give
pub record Line : Type 0 where
  pub is : List ℕ
  pub should : List ℕ

-- a line is as it should be
abbrev pub stands : Line → Bool
stands x = same x.is x.should

-- the line that a refused call prints, and nothing of an accepted one
abbrev pub refusal : Option Fault → List ℕ
refusal None = []
refusal (Some f) = line_of f

-- what row v of a path of n rows stores: itself first, and then its neighbours
abbrev pub stored : ℕ → ℕ → List ℕ
stored n v = v ∷ filter (λ w. (w + 1 == v) || v + 1 == w) (upto n)

-- the path of 3 rows
abbrev pub path3 : Pattern
path3 = record { rows = 3; entries = 7; starts = 0 ∷ 2 ∷ 5 ∷ 7 ∷ []; columns = 0 ∷ 1 ∷ 1 ∷ 0 ∷ 2 ∷ 2 ∷ 1 ∷ [] }

-- the path of 4 rows
abbrev pub path4 : Pattern
path4 = record { rows = 4; entries = 10; starts = 0 ∷ 2 ∷ 5 ∷ 8 ∷ 10 ∷ []; columns = 0 ∷ 1 ∷ 1 ∷ 0 ∷ 2 ∷ 2 ∷ 1 ∷ 3 ∷ 3 ∷ 2 ∷ [] }

-- the seeds: two tiles over the path of 3, four over the path of 4
abbrev pub seed3 : List ℕ
seed3 = 1 ∷ 0 ∷ 0 ∷ []

-- four tiles over the path of 4
abbrev pub seed4 : List ℕ
seed4 = 1 ∷ 2 ∷ 3 ∷ 0 ∷ []

-- the paths are as the rule has them
abbrev pub paths : List Line
paths =
    record { is = path3.starts; should = totals 0 (map (λ v. length (stored 3 v)) (upto 3)) }
    ∷ record { is = path3.columns; should = flat_map (stored 3) (upto 3) }
    ∷ record { is = path4.starts; should = totals 0 (map (λ v. length (stored 4 v)) (upto 4)) }
    ∷ record { is = path4.columns; should = flat_map (stored 4) (upto 4) }
    ∷ []

-- the tiles that each seed grows into from sweep 1 and from sweep 2, and the marks of the first
abbrev pub tiles : List Line
tiles =
    record { is = tile_table_of path3 2 1 2 seed3; should = 1 ∷ 0 ∷ 0 ∷ 1 ∷ 1 ∷ 0 ∷ [] }
    ∷ record { is = marks path3 2 1 2 seed3; should = 0 ∷ 2 ∷ 0 ∷ 1 ∷ 2 ∷ 0 ∷ 1 ∷ [] }
    ∷ record { is = tile_table_of path3 2 2 2 seed3; should = 0 ∷ 0 ∷ 0 ∷ 1 ∷ 0 ∷ 0 ∷ [] }
    ∷ record { is = tile_table_of path4 2 2 4 seed4; should = 0 ∷ 0 ∷ 0 ∷ 0 ∷ 1 ∷ 2 ∷ 3 ∷ 0 ∷ [] }
    ∷ record { is = tile_table_of path4 2 1 4 seed4; should = 1 ∷ 2 ∷ 3 ∷ 0 ∷ 2 ∷ 3 ∷ 3 ∷ 3 ∷ [] }
    ∷ []

-- the rank of each row in these tile tables
abbrev pub ranks : List Line
ranks =
    record { is = grown_ranks path3 2 1 2 seed3; should = 2 ∷ 1 ∷ 0 ∷ [] }
    ∷ record { is = grown_ranks path3 2 2 2 seed3; should = 2 ∷ 0 ∷ 1 ∷ [] }
    ∷ record { is = grown_ranks path4 2 2 4 seed4; should = 1 ∷ 2 ∷ 3 ∷ 0 ∷ [] }
    ∷ record { is = grown_ranks path4 2 1 4 seed4; should = 1 ∷ 2 ∷ 3 ∷ 0 ∷ [] }
    ∷ []

-- the path of 3 with its seed in sweep 1, in the new numbering
abbrev pub tiling3 : Tiling
tiling3 = grown_tiling path3 2 1 2 seed3

-- that tiling laid out
abbrev pub layout : List Line
layout =
    record { is = schedule_of tiling3; should = 0 ∷ 1 ∷ 0 ∷ 2 ∷ 1 ∷ 2 ∷ [] }
    ∷ record { is = schedule_starts_of tiling3; should = 0 ∷ 2 ∷ 3 ∷ 4 ∷ 6 ∷ [] }
    ∷ record { is = wait_words_of tiling3; should = 0 ∷ 1 ∷ [] }
    ∷ []

-- tile 1 called before tile 0; 64 tiles and 65; the seed in the last sweep and in the one after it
abbrev pub refusals : List Line
refusals =
    record { is = refusal (tile_fault tiling3 (λ _. false) 1); should = codes "refused 18 place 0 in run" }
    ∷ record { is = refusal (growing_fault path3 2 64 1 seed3 6 7); should = [] }
    ∷ record { is = refusal (growing_fault path3 2 65 1 seed3 6 7); should = codes "refused 1 place 4 in matrix" }
    ∷ record { is = refusal (growing_fault path3 2 2 2 seed3 6 7); should = [] }
    ∷ record { is = refusal (growing_fault path3 2 2 3 seed3 6 7); should = codes "refused 1 place 5 in matrix" }
    ∷ []

-- the bits of some doubles; those of 0 are 0
abbrev pub two : ℕ
two = 0x4000_0000_0000_0000

-- the bits of 3
abbrev pub three : ℕ
three = 0x4008_0000_0000_0000

-- the bits of 4
abbrev pub four : ℕ
four = 0x4010_0000_0000_0000

-- the bits of 5
abbrev pub five : ℕ
five = 0x4014_0000_0000_0000

-- the bits of 8
abbrev pub eight : ℕ
eight = 0x4020_0000_0000_0000

-- the bits of -1
abbrev pub minus_one : ℕ
minus_one = 0xbff0_0000_0000_0000

-- doubles of their bits, and back
abbrev pub doubles_of : List ℕ → List Float
doubles_of = map (from_bits binary64)

-- the bits of doubles
abbrev pub bits_of_doubles : List Float → List ℕ
bits_of_doubles = map (to_bits binary64)

-- the path of 3 with its seed in sweep 1, with coefficients, a right-hand side and a start
abbrev pub posed3 : {C V : Type 0} → List C → List V → List V → Posed C V
posed3 cs bs x = record { equations = record { pattern = path3; coefficients = cs; rhs = bs }; start = x; sweeps = 2; seed_sweep = 1; tiles = 2; seed = seed3 }

-- in doubles: 2 on the diagonal, -1 on every link, 4 0 8 on the right, from 0
abbrev pub in_doubles : Posed Float Float
in_doubles = posed3 (doubles_of (two ∷ minus_one ∷ two ∷ minus_one ∷ minus_one ∷ two ∷ minus_one ∷ [])) (doubles_of (four ∷ 0 ∷ eight ∷ [])) (doubles_of (0 ∷ 0 ∷ 0 ∷ []))

-- in minutes: 7 between rows 0 and 1, 5 between rows 1 and 2, water in row 0 from minute 10 on
abbrev pub in_minutes : Posed ℕ ℕ
in_minutes = posed3 (0 ∷ 7 ∷ 0 ∷ 7 ∷ 5 ∷ 0 ∷ 5 ∷ []) (10 ∷ never ∷ never ∷ []) (never ∷ never ∷ never ∷ [])

-- by new row: the plain values after one sweep and after two, and what a call of tile 0 alone leaves; by original row: the solutions
abbrev pub values : List Line
values =
    record { is = bits_of_doubles (plain doubles (renumbered in_doubles) (start_of in_doubles) 1); should = four ∷ two ∷ three ∷ [] }
    ∷ record { is = bits_of_doubles (plain doubles (renumbered in_doubles) (start_of in_doubles) 2); should = five ∷ four ∷ four ∷ [] }
    ∷ record { is = bits_of_doubles (after doubles (tiling_of in_doubles) (renumbered in_doubles).coefficients (renumbered in_doubles).rhs (start_of in_doubles) (0 ∷ [])).held; should = five ∷ two ∷ 0 ∷ [] }
    ∷ record { is = bits_of_doubles (solved doubles in_doubles).values; should = four ∷ four ∷ five ∷ [] }
    ∷ record { is = (solved minutes in_minutes).values; should = 10 ∷ 17 ∷ never ∷ [] }
    ∷ []

-- all lines
abbrev pub table : List Line
table = paths ++ tiles ++ ranks ++ layout ++ refusals ++ values

-- every line of the table stands
abbrev pub KnownMeshes : Type 0
KnownMeshes = every stands table ≡ true
