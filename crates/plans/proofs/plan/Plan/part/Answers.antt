use Rattle.std.proofs.Common.{◌≡◌, ℕ, ◌+◌, ◌*◌, ◌<◌, List, [], length, sym, ◌∙◌, subst, arith}
use Rattle.std.specs.List.{between}
use Rattle.std.proofs.lemmas.Bool.{and_from, lt-ltb, cond-true}
use Rattle.checks.specs.Lists.{at}
use Rattle.points.proofs.Schedules.{begins_more}
use Rattle.plans.specs.Tilings.{tile_of, rows_in}
use Rattle.plans.specs.Held.{tiling_held}
use Rattle.plans.proofs.Readings.{rows_below, part_is}
use Rattle.plans.proofs.plan.Plan.part.Goals as goal

pub slice_bounds-result-start-2 : goal.slice_bounds-result-start-2
slice_bounds-result-start-2 c =
    let l = tiling_held c.args.self.now in
    omega (arith, c.start-from.ensures.value, c.start-to.ensures.value, begins_more l.pattern.rows l.sweeps (tile_of l) (c.args.tile * l.sweeps + c.args.sweep))

pub slice_bounds-result-count-2 : goal.slice_bounds-result-count-2
slice_bounds-result-count-2 c =
    let l = tiling_held c.args.self.now in
    omega (arith, c.start-from.ensures.value, c.start-to.ensures.value, begins_more l.pattern.rows l.sweeps (tile_of l) (c.args.tile * l.sweeps + c.args.sweep))

pub returns : goal.returns
returns c =
    let x = c.args.self.now in
    let l = tiling_held x in
    let t = c.args.tile in
    let s = c.args.sweep in
    let e : between c.start-from.result c.start-to.result x.layout.schedule.now ≡ rows_in l t s = part_is l x.layout.schedule.now c.start-from.result c.start-to.result t s x.scheduled c.start-from.ensures.value c.start-to.ensures.value c.if-tile-self.false c.if-sweep-self.false in
    record {
      value = e ∙ sym (cond-true _ (rows_in l t s) [] (and_from _ _ (lt-ltb _ _ c.if-tile-self.false) (lt-ltb _ _ c.if-sweep-self.false)));
      below = subst (λ (xs : List ℕ). (i : ℕ) → i < length xs → at xs i < l.pattern.rows) (sym e) (rows_below l t s);
    }
