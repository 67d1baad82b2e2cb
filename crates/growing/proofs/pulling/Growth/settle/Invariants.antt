use Rattle.std.proofs.Common.{true}
use Rattle.matrix.specs.Lent.{pattern_of}
use Rattle.growing.specs.Passes.{Settles, far_all}
use Rattle.growing.proofs.pulling.Growth.settle.Given as goal

abbrev pub invariant-loop-backward : goal.invariant-loop-backward
invariant-loop-backward l = Settles l.self.direction (pattern_of l.self.sound.matrix) l.self.marks.now l.self.near.now true l.initial.own l.own

-- a pass that moves a tile brings the sweep nearer its end
abbrev pub decreases-loop-backward : goal.decreases-loop-backward
decreases-loop-backward l = far_all l.self.direction l.own
