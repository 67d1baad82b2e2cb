-- The steps of growing one sweep in place: pulls of pairs, entry by entry, row by row. Assumes nothing.
use Rattle.std.specs.Prelude.{◌≡◌, ℕ, ◌+◌, ◌-◌, ◌<◌, Bool, true, false, cond, List, ◌++◌, length, take, drop, fold, sum_by, ◌==◌, slice_set}
use Rattle.checks.specs.Lists.{at, upto}
use Rattle.matrix.specs.Patterns.{Pattern, row_part}
use Rattle.growing.specs.declared.direction.Direction.{Direction}
use Rattle.growing.specs.Directions.{best_of, far, row_first, column_first_of}

-- n cells of a table from place a on
abbrev pub cells : ℕ → ℕ → List ℕ → List ℕ
cells a n table = take n (drop a table)

-- the table with other cells from place a on
abbrev pub with_cells : ℕ → List ℕ → List ℕ → List ℕ
with_cells a g table = take a table ++ (g ++ drop (a + length g) table)

-- the second row's tile is pulled by the first's in the neighbouring sweep, then the first's by the second's
abbrev pub pulled : Direction → List ℕ → List ℕ → ℕ → ℕ → List ℕ
pulled d near g first second =
    let bound = best_of d (at g second) (at near first) in
    slice_set (slice_set g second bound) first (best_of d (at g first) bound)

-- an entry, by its mark
unfoldable pub entry_step : Direction → List ℕ → ℕ → List ℕ → ℕ → ℕ → List ℕ
entry_step d near row g column mark =
    cond (mark == row_first d) (pulled d near g row column) (cond (mark == column_first_of d) (pulled d near g column row) g)

-- where the i-th of n steps is taken, first to last or last to first
abbrev pub place : Bool → ℕ → ℕ → ℕ
place backward n i = cond backward (n - 1 - i) i

-- the i-th entry of a row
abbrev pub row_entry : Direction → Bool → ℕ → List ℕ → List ℕ → List ℕ → List ℕ → ℕ → List ℕ
row_entry d backward row columns marks near g i =
    let e = place backward (length columns) i in entry_step d near row g (at columns e) (at marks e)

-- all entries of a row, first to last or last to first
unfoldable pub row_step : Direction → Bool → ℕ → List ℕ → List ℕ → List ℕ → List ℕ → List ℕ
row_step d backward row columns marks near g = fold (row_entry d backward row columns marks near) g (upto (length columns))

-- the i-th row of a pass
abbrev pub pass_row : Direction → Bool → Pattern → List ℕ → List ℕ → List ℕ → ℕ → List ℕ
pass_row d backward m marks near g i =
    let v = place backward m.rows i in row_step d backward v (row_part m m.columns v) (row_part m marks v) near g

-- all rows, first to last or last to first
unfoldable pub pass : Direction → Bool → Pattern → List ℕ → List ℕ → List ℕ → List ℕ
pass d backward m marks near g = fold (pass_row d backward m marks near) g (upto m.rows)

-- how far all the tiles of a sweep may still move
abbrev pub far_all : Direction → List ℕ → ℕ
far_all d g = sum_by (far d 255) g

-- what a step f leaves of a sweep, and whether it moved a tile
pub record Pulls (d : Direction) (f : List ℕ → List ℕ) (moved : Bool) (was is : List ℕ) : Type 0 where
  pub is_put : is ≡ f was
  pub still : moved ≡ false → is ≡ was
  pub nearer : moved ≡ true → far_all d is < far_all d was

-- passes from the sweep `was`, in turns, the last of which moved nothing unless `moved`
pub record Settles (d : Direction) (m : Pattern) (marks near : List ℕ) (moved : Bool) (was is : List ℕ) : Type 0 where
  pub turns : List Bool
  pub passed : is ≡ fold (λ g backward. pass d backward m marks near g) was turns
  pub last : Bool
  pub still : moved ≡ false → pass d last m marks near is ≡ is
