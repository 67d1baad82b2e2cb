use Rattle.std.proofs.Common.{fold}
use Rattle.checks.specs.Lists.{upto}
use Rattle.matrix.specs.Lent.{pattern_of}
use Rattle.growing.specs.Passes.{Pulls, pass_row}
use Rattle.growing.proofs.pulling.Growth.pass.Given as goal

abbrev pub invariant-loop-i : goal.invariant-loop-i
invariant-loop-i l = Pulls l.self.direction (λ g. fold (pass_row l.self.direction l.backward (pattern_of l.self.sound.matrix) l.self.marks.now l.self.near.now) g (upto l.i)) l.moved l.initial.own l.own
