use Rattle.std.proofs.Common.{fold}
use Rattle.checks.specs.Lists.{upto}
use Rattle.growing.specs.Passes.{Pulls, row_entry}
use Rattle.growing.proofs.pulling.Growth.pull_row.Given as goal

abbrev pub invariant-loop-i : goal.invariant-loop-i
invariant-loop-i l = Pulls l.self.direction (λ g. fold (row_entry l.self.direction l.backward l.row l.columns l.marks l.self.near.now) g (upto l.i)) l.moved l.initial.own l.own
