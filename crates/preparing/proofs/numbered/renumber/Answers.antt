use Rattle.std.proofs.Common.{◌≡◌, ℕ, ◌+◌, ◌*◌, List, length, None, ◌∙◌}
use Rattle.std.proofs.lemmas.Result.{err_from_is_err_and}
use Rattle.checks.specs.Verdicts.{first_fault}
use Rattle.matrix.specs.Patterns.{Pattern}
use Rattle.matrix.specs.Lent.{pattern_of}
use Rattle.growing.specs.Growing.{tile_table_of}
use Rattle.numbering.specs.Order.{ranks, inverse}
use Rattle.numbering.specs.Refusals.{order_checks, remap_checks}
use Rattle.grown_plans.proofs.Opens.{grown_passes}
use Rattle.preparing.proofs.Failures.{none_fails}
use Rattle.preparing.proofs.numbered.renumber.Goals as goal

order_passes : (r t : ℕ) (tiles cells : List ℕ) → cells ≡ tiles → first_fault (order_checks r t (length tiles) r r r) ≡ None → first_fault (order_checks r t (length cells) r r r) ≡ None
order_passes r t tiles cells e h = cc

remap_passes : (m : Pattern) (t : ℕ) (tiles first again rank row : List ℕ) → first ≡ tiles → again ≡ tiles → rank ≡ ranks m.rows t first → row ≡ inverse m.rows (ranks m.rows t first)
    → first_fault (remap_checks m t (length tiles) (ranks m.rows t tiles) (inverse m.rows (ranks m.rows t tiles)) (m.rows + 1) m.entries (t * m.rows)) ≡ None
    → first_fault (remap_checks m t (length again) rank row (m.rows + 1) m.entries (t * m.rows)) ≡ None
remap_passes m t tiles first again rank row p q r s h = cc

pub returns-in_err-ranking : goal.returns-in_err-ranking
returns-in_err-ranking c =
    let m = pattern_of c.args.matrix.now in
    let grown = c.in_ok-tile_table.ensures in
    let passes = grown_passes m c.args.seeding.now.sweeps c.args.seeding.now.tiles c.args.seeding.now.seed_sweep c.args.seeding.now.seed.now _ _ grown.0 in
    let p = err_from_is_err_and c.from_residual-in_err-ranking.result c.from_residual-in_err-ranking.ensures.1 in
    rw (p.1, p.2) (none_fails _ _ c.in_err-ranking.field-0.0 (order_passes m.rows c.args.seeding.now.sweeps (tile_table_of m c.args.seeding.now.sweeps c.args.seeding.now.seed_sweep c.args.seeding.now.tiles c.args.seeding.now.seed.now) c.as_slice.result.now (c.as_slice.ensures.value ∙ grown.1) passes.0) c.in_err-ranking.ensures)

pub returns-in_err-tables : goal.returns-in_err-tables
returns-in_err-tables c =
    let m = pattern_of c.args.matrix.now in
    let grown = c.in_ok-tile_table.ensures in
    let ranked = c.in_ok-ranking.ensures.1 in
    let passes = grown_passes m c.args.seeding.now.sweeps c.args.seeding.now.tiles c.args.seeding.now.seed_sweep c.args.seeding.now.seed.now _ _ grown.0 in
    let p = err_from_is_err_and c.from_residual-in_err-tables.result c.from_residual-in_err-tables.ensures.1 in
    rw (p.1, p.2) (none_fails _ _ c.in_err-tables.field-0.0 (remap_passes m c.args.seeding.now.sweeps (tile_table_of m c.args.seeding.now.sweeps c.args.seeding.now.seed_sweep c.args.seeding.now.tiles c.args.seeding.now.seed.now) c.as_slice.result.now c.as_slice-2.result.now _ _ (c.as_slice.ensures.value ∙ grown.1) (c.as_slice-2.ensures.value ∙ grown.1) ranked.0 ranked.1 passes.1) c.in_err-tables.ensures)
