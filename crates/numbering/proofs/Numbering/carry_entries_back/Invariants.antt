use Rattle.std.proofs.Common.{◌≡◌, ℕ, ◌<◌, drop}
use Rattle.checks.specs.Lists.{at}
use Rattle.matrix.specs.Patterns.{row_part}
use Rattle.numbering.specs.Order.{starts_pattern, remapped}
use Rattle.numbering.proofs.Numbering.carry_entries_back.Given as goal

-- the rows so far hold their parts, and what is left begins where the next rank's row starts
abbrev pub invariant-loop-row : goal.invariant-loop-row
invariant-loop-row g l =
    let m = starts_pattern l.matrix.rows l.matrix.entries l.matrix.starts.now in
    let new = remapped m l.self.ranks.now l.self.rows_by_rank.now in
    (l.rest ≡ drop (at new.starts l.row-index) l.from) × ((k : ℕ) → k < l.row-index → row_part m l.to (at l.self.rows_by_rank.now k) ≡ row_part new l.from k)
