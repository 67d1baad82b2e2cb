use Rattle.std.proofs.Common.{◌≡◌, fold, ap, arith}
use Rattle.checks.specs.Lists.{upto}
use Rattle.matrix.specs.Patterns.{row_part}
use Rattle.matrix.specs.Lent.{pattern_of}
use Rattle.growing.specs.Passes.{row_step, pass_row, pass}
use Rattle.growing.proofs.Pairs.{pulls_more, pulls_as}
use Rattle.growing.proofs.pulling.Growth.pass.Goals as goal

pub loop-i-preserved : goal.loop-i-preserved
loop-i-preserved c =
    let d = c.args.self.now.direction in
    let m = pattern_of c.args.self.now.sound.matrix in
    let marks = c.args.self.now.marks.now in
    let near = c.args.self.now.near.now in
    pulls_more d (pass_row d c.args.backward m marks near) c.loop-i.i _ _ c.args.own.now c.loop-i.own _ c.loop-i.invariant
    (pulls_as d _ (λ g. pass_row d c.args.backward m marks near g c.loop-i.i) _ c.loop-i.own _
    (ap (λ u. row_step d c.args.backward u (row_part m m.columns u) (row_part m marks u) near c.loop-i.own) c.place-row.ensures.is) c.pull_row-moved.ensures)

pub returns : goal.returns
unfolding pass
returns c =
    let d = c.args.self.now.direction in
    let m = pattern_of c.args.self.now.sound.matrix in
    let marks = c.args.self.now.marks.now in
    let near = c.args.self.now.near.now in
    let e : c.loop-i.i ≡ m.rows = omega arith in
    pulls_as d _ (pass d c.args.backward m marks near) _ c.args.own.now _ (ap (λ i. fold (pass_row d c.args.backward m marks near) c.args.own.now (upto i)) e) c.loop-i.invariant
