-- Marking in place, sweep by sweep. Assumes nothing.
use Rattle.std.specs.Prelude.{◌≡◌, ℕ, ◌+◌, ◌<◌, ◌≤◌, cond, List, map, length, nat_lt}
use Rattle.std.specs.List.{flat_map, AllByRecursion}
use Rattle.checks.specs.Lists.{at, upto}
use Rattle.matrix.specs.Patterns.{Pattern, row_part}

-- what the checks of a matrix leave
pub record Sound (m : Pattern) : Type 0 where
  pub long : length m.starts ≡ m.rows + 1
  pub begins : at m.starts 0 ≡ 0
  pub rises : (v : ℕ) → v < m.rows → at m.starts v ≤ at m.starts (v + 1)
  pub ends : at m.starts m.rows ≡ length m.columns
  pub inside : AllByRecursion (λ w. w < m.rows) m.columns

-- the mark of an entry whose row has tile a and whose column has tile b
abbrev pub remark : ℕ → ℕ → ℕ → ℕ
remark a b old = cond (nat_lt a b) 1 (cond (nat_lt b a) 2 old)

-- a row's marks, by the tiles g
abbrev pub remarked : List ℕ → ℕ → List ℕ → List ℕ → List ℕ
remarked g row columns marks = map (λ e. remark (at g row) (at g (at columns e)) (at marks e)) (upto (length columns))

-- all entries marked by one sweep more
abbrev pub remarked_all : Pattern → List ℕ → List ℕ → List ℕ
remarked_all m g marks = flat_map (λ v. remarked g v (row_part m m.columns v) (row_part m marks v)) (upto m.rows)
