use Rattle.std.proofs.Common.{◌≡◌, ℕ, ◌+◌, ◌-◌, ◌<◌, List, ◌++◌, length, drop, sym, refl, ap, ◌∙◌, subst, arith}
use borrow.Rule.Slice.PartMut.{put_mid}
use Rattle.std.specs.List.{flat_map, AllByRecursion as All}
use Rattle.std.proofs.lemmas.List.FromFn.{length-map-range_with_len}
use Rattle.checks.specs.Lists.{at, upto}
use Rattle.matrix.specs.Patterns.{Pattern, row_part}
use Rattle.matrix.specs.Lent.{pattern_of}
use Rattle.growing.specs.Marks.{Sound, remarked}
use Rattle.growing.proofs.Rows.{starts_within, all_row, length_row_is, row_before, row_written}
use Rattle.growing.proofs.sound.SoundMatrix.mark_sweep.Goals as goal

pub slice_bounds-mark_row-end : goal.slice_bounds-mark_row-end
slice_bounds-mark_row-end c = starts_within (pattern_of c.args.self.now.matrix) c.args.self.now.sound (c.loop-row.row + 1) (omega arith)

pub slice_bounds-mark_row-end-in-loop-row : goal.slice_bounds-mark_row-end-in-loop-row
slice_bounds-mark_row-end-in-loop-row c = let h = starts_within (pattern_of c.args.self.now.matrix) c.args.self.now.sound (c.loop-row.row + 1) (omega arith) in omega (arith, c.loop-row.auto.marks, c.requires.marks)

pub mark_row-requires-clause-columns : goal.mark_row-requires-clause-columns
mark_row-requires-clause-columns c =
    let m = pattern_of c.args.self.now.matrix in
    all_row m c.loop-row.row (λ w. w < length c.args.tiles.now) m.columns (subst (λ n. All (λ w. w < n) m.columns) (sym c.requires.tiles) c.args.self.now.sound.inside)

long : (m : Pattern) (s : Sound m) (tiles old : List ℕ) (v : ℕ) → v < m.rows → length (remarked tiles v (row_part m m.columns v) (row_part m old v)) ≡ at m.starts (v + 1) - at m.starts v
long m s tiles old v l = length-map-range_with_len _ 0 (length (row_part m m.columns v)) ∙ length_row_is m s m.columns v l refl

pub loop-row-preserved : goal.loop-row-preserved
loop-row-preserved c =
    let m = pattern_of c.args.self.now.matrix in
    let tiles = c.args.tiles.now in
    let old = c.args.marks.now in
    let v = c.loop-row.row in
    let f : ℕ → List ℕ = λ u. remarked tiles u (row_part m m.columns u) (row_part m old u) in
    let l : v < m.rows = c.loop-row-test.true in
    let marks : c.loop-row.marks ≡ flat_map f (upto v) ++ drop (at m.starts v) old = c.loop-row.invariant in
    let new : c.mark_row.new.marks ≡ f v =
    c.mark_row.ensures ∙ ap (λ t. remarked tiles v (row_part m m.columns v) (row_part m t v)) marks ∙ ap (remarked tiles v (row_part m m.columns v)) (row_before m c.args.self.now.sound f (long m c.args.self.now.sound tiles old) old v l) in
    ap (λ t. put_mid (at m.starts v) (at m.starts (v + 1) - at m.starts v) t c.mark_row.new.marks) marks
    ∙ ap (put_mid (at m.starts v) (at m.starts (v + 1) - at m.starts v) (flat_map f (upto v) ++ drop (at m.starts v) old)) new
    ∙ row_written m c.args.self.now.sound f (long m c.args.self.now.sound tiles old) old v l
