use Rattle.std.proofs.Common.{◌≡◌, suc, ◌∙◌, subst, arith}
use Rattle.std.proofs.lemmas.List.{length-take-le}
use Rattle.matrix.specs.Lent.{pattern_of}
use Rattle.growing.specs.Sweeps.{GrownUp}
use Rattle.growing.proofs.Ranges.{two_within, up_split}
use Rattle.growing.proofs.sound.SoundMatrix.grow_up.Goals as goal

pub loop-sweep-preserved : goal.loop-sweep-preserved
loop-sweep-preserved c =
    let m = pattern_of c.args.self.now.matrix in
    let j = c.loop-sweep.sweep in
    let h = two_within m.rows j c.args.last (omega arith) in
    let back = c.split_at_mut-below.result.1.now in
    let n = length-take-le m.rows back (omega (arith, c.requires.fits, c.loop-sweep.auto.tile_table, c.split_at_mut-below.ensures.back_len)) in
    up_split m j c.args.tile_table.now c.loop-sweep.tile_table c.split_at_mut-below.result.0.now back c.grow_sweep.new.own c.args.marks.now c.loop-sweep.marks _ (c.grow_sweep.auto.own ∙ n)
    (omega (arith, c.requires.fits, c.loop-sweep.auto.tile_table)) c.split_at_mut-below.ensures.front c.split_at_mut-below.ensures.back (suc c.args.last) c.args.from (omega arith) c.loop-sweep.invariant c.grow_sweep.ensures

pub returns : goal.returns
returns c =
    let m = pattern_of c.args.self.now.matrix in
    let e : c.loop-sweep.sweep ≡ c.args.last = omega (arith, c.loop-sweep.auto.sweep-end c.requires.order) in
    subst (λ i. GrownUp m (suc c.args.last) c.args.from i c.args.tile_table.now c.loop-sweep.tile_table c.args.marks.now c.loop-sweep.marks) e c.loop-sweep.invariant
