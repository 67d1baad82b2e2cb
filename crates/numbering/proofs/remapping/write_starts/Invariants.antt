use Rattle.std.proofs.Common.{◌≡◌, ℕ, ◌<◌, map, take, drop, sum_by}
use Rattle.std.specs.Slice.Iter.{iter_rest}
use Rattle.checks.specs.Lists.{at, totals}
use Rattle.matrix.specs.Lent.{pattern_of}
use Rattle.numbering.specs.Order.{row_length}
use Rattle.numbering.proofs.remapping.write_starts.Given as goal

abbrev pub invariant-loop-start : goal.invariant-loop-start
invariant-loop-start l =
    (goal.iterator-loop-start).can_next l.left × (goal.iterator-loop-start).is_finite l.left
    × record {
      rest : iter_rest l.left ≡ drop l.start-index l.rows;
      place : l.place ≡ sum_by (row_length (pattern_of l.matrix)) (take l.start-index l.rows);
      written : (k : ℕ) → k < l.start-index → at l.new_starts k ≡ at (totals 0 (map (row_length (pattern_of l.matrix)) l.rows)) k;
    }
