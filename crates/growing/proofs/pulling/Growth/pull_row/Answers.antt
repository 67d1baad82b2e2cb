use Rattle.std.proofs.Common.{◌≡◌, ℕ, false, List, length, fold, sym, ap, ◌∙◌, arith}
use Rattle.std.proofs.Math.Bool.{or-false}
use Rattle.checks.specs.Lists.{upto, at}
use Rattle.matrix.specs.Patterns.{row_part}
use Rattle.matrix.specs.Lent.{pattern_of}
use Rattle.growing.specs.Passes.{entry_step, row_entry, row_step}
use Rattle.growing.proofs.Pairs.{pulls_none, pulls_more, pulls_as, pulls_at, entry_pulls, entry_idle}
use Rattle.growing.proofs.pulling.Growth.pull_row.Goals as goal
use Rattle.growing.proofs.pulling.Growth.pull_row.Goals.{in-Some, in_default}

pub loop-i-preserved : goal.loop-i-preserved
loop-i-preserved c =
    let d = c.args.self.now.direction in
    let near = c.args.self.now.near.now in
    let columns = c.row-columns.result.now in
    let marks = c.row-marks.result.now in
    let f : List ℕ → ℕ → List ℕ = row_entry d c.args.backward c.args.row columns marks near in
    let g = c.loop-i.own in
    let e = c.place-e.result in
    let taken = ap (λ j. entry_step d near c.args.row g (at columns j) (at marks j)) c.place-e.ensures.is in
    elim c.match-pair.branch [
      | in-Some w ↦
          pulls_at d _ c.args.own.now w.moved-is w.own-is
          (pulls_more d f c.loop-i.i _ _ c.args.own.now g _ c.loop-i.invariant
          (pulls_as d _ (λ g. f g c.loop-i.i) _ g _
          (entry_pulls d near c.args.row g (at columns e) (at marks e) (w.in-Some.first, w.in-Some.second) (sym c.pair-pair.ensures ∙ w.in-Some.is) ∙ taken) w.pull-moved.ensures))
      | in_default w ↦
          pulls_at d _ c.args.own.now (w.moved-is ∙ sym (or-false c.loop-i.moved)) w.own-is
          (pulls_more d f c.loop-i.i c.loop-i.moved false c.args.own.now g g c.loop-i.invariant
          (pulls_as d (λ g. g) (λ g. f g c.loop-i.i) false g g
          (entry_idle d near c.args.row g (at columns e) (at marks e) (sym c.pair-pair.ensures ∙ w.in_default.is) ∙ taken) (pulls_none d g)))
    ]

pub returns : goal.returns
unfolding row_step
returns c =
    let d = c.args.self.now.direction in
    let near = c.args.self.now.near.now in
    let m = pattern_of c.args.self.now.sound.matrix in
    let g = c.args.own.now in
    let columns = c.row-columns.result.now in
    let marks = c.row-marks.result.now in
    let v = c.args.row in
    let e : c.loop-i.i ≡ length columns = omega arith in
    pulls_as d _ (row_step d c.args.backward v (row_part m m.columns v) (row_part m c.args.self.now.marks.now v) near) _ g _
    (ap (λ i. fold (row_entry d c.args.backward v columns marks near) g (upto i)) e
    ∙ ap (λ xs. row_step d c.args.backward v xs marks near g) c.row-columns.ensures
    ∙ ap (λ xs. row_step d c.args.backward v (row_part m m.columns v) xs near g) c.row-marks.ensures)
    c.loop-i.invariant
