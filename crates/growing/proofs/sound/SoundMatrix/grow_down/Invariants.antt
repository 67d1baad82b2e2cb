use Rattle.matrix.specs.Lent.{pattern_of}
use Rattle.growing.specs.Sweeps.{GrownDown}
use Rattle.growing.proofs.sound.SoundMatrix.grow_down.Given as goal

abbrev pub invariant-loop-sweep : goal.invariant-loop-sweep
invariant-loop-sweep l = GrownDown (pattern_of l.self.matrix) l.from l.sweep l.initial.tile_table l.tile_table l.initial.marks l.marks
