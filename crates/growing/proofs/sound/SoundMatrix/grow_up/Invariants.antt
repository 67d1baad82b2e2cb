use Rattle.std.proofs.Common.{suc}
use Rattle.matrix.specs.Lent.{pattern_of}
use Rattle.growing.specs.Sweeps.{GrownUp}
use Rattle.growing.proofs.sound.SoundMatrix.grow_up.Given as goal

abbrev pub invariant-loop-sweep : goal.invariant-loop-sweep
invariant-loop-sweep l = GrownUp (pattern_of l.self.matrix) (suc l.last) l.from l.sweep l.initial.tile_table l.tile_table l.initial.marks l.marks
