use Rattle.std.proofs.Common.{◌≡◌, suc, ◌-◌, subst, arith}
use Rattle.matrix.specs.Lent.{pattern_of}
use Rattle.growing.specs.Sweeps.{GrownDown}
use Rattle.growing.proofs.Ranges.{two_within, down_split}
use Rattle.growing.proofs.sound.SoundMatrix.grow_down.Goals as goal

pub loop-sweep-preserved : goal.loop-sweep-preserved
loop-sweep-preserved c =
    let m = pattern_of c.args.self.now.matrix in
    let j = c.loop-sweep.sweep - 1 in
    let e : c.loop-sweep.sweep ≡ suc j = omega arith in
    let h = two_within m.rows j c.args.from (omega arith) in
    let x = c.loop-sweep.tile_table in
    down_split m j c.args.tile_table.now x c.split_at_mut-below.result.0.now c.split_at_mut-below.result.1.now c.grow_sweep.new.own c.args.marks.now c.loop-sweep.marks _ (omega arith)
    (omega (arith, c.requires.fits, c.loop-sweep.auto.tile_table)) c.split_at_mut-below.ensures.front c.split_at_mut-below.ensures.back c.args.from (omega arith)
    (subst (λ i. GrownDown m c.args.from i c.args.tile_table.now x c.args.marks.now c.loop-sweep.marks) e c.loop-sweep.invariant) c.grow_sweep.ensures

pub returns : goal.returns
returns c =
    let m = pattern_of c.args.self.now.matrix in
    let e : c.loop-sweep.sweep ≡ 0 = omega arith in
    subst (λ i. GrownDown m c.args.from i c.args.tile_table.now c.loop-sweep.tile_table c.args.marks.now c.loop-sweep.marks) e c.loop-sweep.invariant
