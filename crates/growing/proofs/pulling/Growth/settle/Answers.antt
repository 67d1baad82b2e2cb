use Rattle.std.proofs.Common.{true, false, subst}
use Rattle.matrix.specs.Lent.{pattern_of}
use Rattle.growing.specs.Passes.{Pulls, pass}
use Rattle.growing.proofs.Turns.{settles_none, settles_more}
use Rattle.growing.proofs.pulling.Growth.settle.Goals as goal

pub loop-backward-init : goal.loop-backward-init
loop-backward-init c = settles_none c.args.self.now.direction (pattern_of c.args.self.now.sound.matrix) c.args.self.now.marks.now c.args.self.now.near.now c.args.own.now

pub loop-backward-preserved : goal.loop-backward-preserved
loop-backward-preserved c =
    let d = c.args.self.now.direction in
    let m = pattern_of c.args.self.now.sound.matrix in
    let marks = c.args.self.now.marks.now in
    let near = c.args.self.now.near.now in
    settles_more d m marks near c.args.own.now c.loop-backward.own c.pass.new.own true true c.loop-backward.backward c.loop-backward.invariant
    (subst (λ b. Pulls d (pass d c.loop-backward.backward m marks near) b c.loop-backward.own c.pass.new.own) c.loop-backward-test.true c.pass.ensures)

pub returns : goal.returns
returns c =
    let d = c.args.self.now.direction in
    let m = pattern_of c.args.self.now.sound.matrix in
    let marks = c.args.self.now.marks.now in
    let near = c.args.self.now.near.now in
    settles_more d m marks near c.args.own.now c.loop-backward.own c.pass.new.own true false c.loop-backward.backward c.loop-backward.invariant
    (subst (λ b. Pulls d (pass d c.loop-backward.backward m marks near) b c.loop-backward.own c.pass.new.own) c.loop-backward-test.false c.pass.ensures)
