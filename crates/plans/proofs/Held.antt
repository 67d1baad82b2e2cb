-- What every plan that is held has passed. Assumes nothing.
use Rattle.std.proofs.Common.{◌≡◌, ◌+◌, ◌*◌, None, refl, ap, ◌∙◌}
use Rattle.checks.specs.declared.Layer.TheVariants.{Plan as PlanLayer}
use Rattle.matrix.specs.Patterns.{matrix_fault}
use Rattle.points.specs.Points.{Lawful}
use Rattle.plans.specs.declared.table.TileTable.{TileTable}
use Rattle.plans.specs.declared.plan.Plan.{Plan}
use Rattle.plans.specs.Tilings.{tile_of, precedes, schedule_of, schedule_starts_of, points_of}
use Rattle.plans.specs.Opening.{laying_out_fault, opening_fault, laid_out}
use Rattle.plans.specs.Lent.{tiling_of}
use Rattle.plans.specs.Held.{tables_from, tiling_held, tables_held}
use Rattle.plans.proofs.Accepted.{none_from}
use Rattle.plans.proofs.Checked.{none_from_passes}
use Rattle.plans.proofs.Lawful.{lawful_rises, laid_out_opens}

-- a checked tile table has passed what laying out checks
pub table_passed : (x : TileTable) → laying_out_fault (tiling_of x) (points_of (tiling_of x)) (x.tiling.tiles * x.tiling.sweeps + 1) x.tiling.tiles ≡ None
table_passed x = none_from_passes (tiling_of x) _ _ _ (record {
  rows = (x.sized.0, x.sized.1);
  entries = (x.sized.2, x.sized.3);
  sweeps = (x.counted.0, x.counted.1);
  tiles = (x.counted.2, x.counted.3);
  scheduled = refl;
  started = refl;
  waiting = refl;
  row_starts = x.long.0;
  columns = x.long.1;
  long = x.long.2;
  accepted = none_from (matrix_fault PlanLayer (tiling_of x).pattern) x.accepted;
  below = x.below;
})

module _ (x : Plan) where
  held_is_laid_out : tables_held x ≡ laid_out (tiling_held x)
  held_is_laid_out =
      let l = tiling_held x in
      ap (λ a. tables_from l a x.layout.starts.now x.layout.words.now) x.scheduled
      ∙ ap (λ b. tables_from l (schedule_of l) b x.layout.words.now) x.started
      ∙ ap (λ c. tables_from l (schedule_of l) (schedule_starts_of l) c) x.waiting

  pub held_passed : opening_fault (tables_held x) ≡ None
  held_passed = ap opening_fault held_is_laid_out ∙ (laid_out_opens (tiling_held x) _ _ _ (table_passed x.table)).1 x.rises

  pub held_lawful : Lawful (precedes (tiling_held x)) (tiling_held x).pattern.rows (tiling_held x).sweeps (tiling_held x).count (tile_of (tiling_held x))
  held_lawful = lawful_rises (tiling_held x) _ _ _ (table_passed x.table) x.rises
