use Rattle.std.proofs.Common.{subst}
use Rattle.matrix.specs.Lent.{pattern_of}
use Rattle.growing.specs.Passes.{Settles}
use Rattle.growing.proofs.Steps.{grows_one}
use Rattle.growing.proofs.sound.SoundMatrix.grow_sweep.Goals as goal

pub returns : goal.returns
returns c =
    let m = pattern_of c.args.self.now.matrix in
    grows_one c.args.direction m c.args.self.now.sound c.args.near.now c.settle.new.own c.args.marks.now _
    (subst (λ g. Settles c.args.direction m c.args.marks.now c.args.near.now _ g c.settle.new.own) c.copy_from_slice.ensures.after c.settle.ensures) c.mark_sweep.ensures
