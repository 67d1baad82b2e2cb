use Rattle.std.proofs.Common.{◌≡◌, ◌++◌, drop}
use Rattle.std.specs.List.{flat_map}
use Rattle.checks.specs.Lists.{at, upto}
use Rattle.matrix.specs.Patterns.{row_part}
use Rattle.matrix.specs.Lent.{pattern_of}
use Rattle.growing.specs.Marks.{remarked}
use Rattle.growing.proofs.sound.SoundMatrix.mark_sweep.Given as goal

-- the rows so far are marked anew, the others not yet
abbrev pub invariant-loop-row : goal.invariant-loop-row
invariant-loop-row l = let m = pattern_of l.self.matrix in
    l.marks ≡ flat_map (λ v. remarked l.tiles v (row_part m m.columns v) (row_part m l.initial.marks v)) (upto l.row) ++ drop (at m.starts l.row) l.initial.marks
