use Rattle.std.proofs.Common.{◌≡◌, ◌++◌, map, take, drop}
use Rattle.checks.specs.Lists.{at}
use Rattle.numbering.proofs.remapping.rank_columns.Given as goal

abbrev pub invariant-loop-column : goal.invariant-loop-column
invariant-loop-column l = l.columns ≡ map (at l.ranks) (take l.column-index l.initial.columns) ++ drop l.column-index l.initial.columns
