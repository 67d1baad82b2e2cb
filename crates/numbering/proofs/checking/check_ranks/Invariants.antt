use Rattle.std.proofs.Common.{◌≡◌, ℕ, ◌<◌, false}
use Rattle.numbering.specs.Refusals.{bad_rank}
use Rattle.numbering.proofs.checking.check_ranks.Given as goal

abbrev pub invariant-loop-row : goal.invariant-loop-row
invariant-loop-row l = (k : ℕ) → k < l.row → bad_rank l.rows l.numbering.ranks.now l.numbering.rows_by_rank.now k ≡ false
