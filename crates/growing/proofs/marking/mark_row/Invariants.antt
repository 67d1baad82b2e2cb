use Rattle.std.proofs.Common.{◌≡◌, ℕ, ◌<◌, ◌≤◌}
use Rattle.checks.specs.Lists.{at}
use Rattle.growing.specs.Marks.{remark}
use Rattle.growing.proofs.marking.mark_row.Given as goal

abbrev pub invariant-loop-e : goal.invariant-loop-e
invariant-loop-e l =
    ((k : ℕ) → k < l.e → at l.marks k ≡ remark (at l.tiles l.row) (at l.tiles (at l.columns k)) (at l.initial.marks k))
    × ((k : ℕ) → l.e ≤ k → at l.marks k ≡ at l.initial.marks k)
