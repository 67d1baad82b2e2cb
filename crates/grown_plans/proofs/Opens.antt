-- What is grown passes every check on the way, and opens. Assumes nothing.
use Rattle.std.proofs.Common.{◌≡◌, ℕ, ◌+◌, ◌*◌, ◌<◌, true, List, length, None, refl}
use Rattle.checks.specs.declared.Layer.TheVariants.{Plan}
use Rattle.checks.specs.Lists.{at}
use Rattle.checks.specs.Verdicts.{first_fault}
use Rattle.matrix.specs.declared.tables.Table.TheVariants.{RowStarts, Columns, TileTable, Ranks, RowsByRank, Spare, NewRowStarts, NewColumns, NewTileTable}
use Rattle.matrix.specs.Patterns.{Pattern}
use Rattle.growing.specs.Growing.{tile_table_of}
use Rattle.growing.specs.Verdicts.{growing_fault}
use Rattle.growing.proofs.Accepted.{accepted}
use Rattle.numbering.specs.Order.{lex, key, ranks, inverse, remapped, remapped_tiles}
use Rattle.numbering.specs.Refusals.{order_checks, remap_tables, remap_checks}
use Rattle.numbering.specs.Laws.{Numbering, Before, Checked}
use Rattle.numbering.proofs.Lexes.{keys_strict, before_lex}
use Rattle.numbering.proofs.Ranking.{ranks_number, rows_rise}
use Rattle.numbering.proofs.Numbered.{numbering_passes}
use Rattle.numbering.proofs.Kept.{remapped_accepted}
use Rattle.plans.specs.Tilings.{Tiling, lawful}
use Rattle.plans.specs.Opening.{laying_out_fault, opening_fault, laid_out}
use Rattle.checks.proofs.Refusals.{all_none}
use Rattle.plans.proofs.Checked.{none_from_passes}
use Rattle.plans.proofs.Lawful.{laid_out_opens}
use Rattle.grown_plans.specs.Grown.{GrownPasses, GrownIsLawful, GrownOpens}
use Rattle.grown_plans.proofs.Tables.{Rising, grown_rises}
use Rattle.matrix.proofs.Passed.{length_none}
use Rattle.grown_plans.proofs.Layers.{Planned, planned}
use Rattle.grown_plans.proofs.Renumbered.{long, below, is_lawful}

-- a rising tile table, ordered and remapped
module _ (m : Pattern) (t k : ℕ) (tiles : List ℕ) (rising : Rising m t k tiles) (fit : Planned m t k) where
  abbrev rank : List ℕ
  rank = ranks m.rows t tiles

  abbrev row : List ℕ
  row = inverse m.rows rank

  abbrev tiling : Tiling
  tiling = record { pattern = remapped m rank row; sweeps = t; count = k; tiles = remapped_tiles m.rows t row tiles }

  num : Numbering m.rows rank row
  num = ranks_number (λ u v. lex (key m.rows t tiles u) (key m.rows t tiles v)) (keys_strict m.rows tiles 0 t) m.rows

  sorted : (i j : ℕ) → i < j → j < m.rows → Before m.rows t tiles (at row i) (at row j)
  sorted i j l h = before_lex m.rows t tiles (at row i) (at row j) (rows_rise (λ u v. lex (key m.rows t tiles u) (key m.rows t tiles v)) (keys_strict m.rows tiles 0 t) m.rows i j l h)

  checked : Checked Plan m rank row
  checked = record { started = fit.started; columned = fit.columned; ranked = num.ranked; placed = num.placed; accepted = fit.accepted; numbered = numbering_passes m.rows rank row num }

  order_passes : first_fault (order_checks m.rows t (length tiles) m.rows m.rows m.rows) ≡ None
  order_passes = all_none (order_checks m.rows t (length tiles) m.rows m.rows m.rows) (
    fit.rows.passes,
    (
      fit.sweeps.passes,
      (
        length_none Plan TileTable (length tiles) (t * m.rows) rising.long,
        (length_none Plan Ranks m.rows m.rows refl, (length_none Plan RowsByRank m.rows m.rows refl, (length_none Plan Spare m.rows m.rows refl, tt))),
      ),
    ),
  )

  tables_pass : first_fault (remap_tables m t (length tiles) (length rank) (length row) (m.rows + 1) m.entries (t * m.rows)) ≡ None
  tables_pass = all_none (remap_tables m t (length tiles) (length rank) (length row) (m.rows + 1) m.entries (t * m.rows)) (
    fit.rows.passes,
    (
      fit.entries.passes,
      (
        fit.sweeps.passes,
        (
          length_none Plan RowStarts (length m.starts) (m.rows + 1) fit.started,
          (
            length_none Plan Columns (length m.columns) m.entries fit.columned,
            (
              length_none Plan TileTable (length tiles) (t * m.rows) rising.long,
              (
                length_none Plan Ranks (length rank) m.rows num.ranked,
                (
                  length_none Plan RowsByRank (length row) m.rows num.placed,
                  (
                    length_none Plan NewRowStarts (m.rows + 1) (m.rows + 1) refl,
                    (length_none Plan NewColumns m.entries m.entries refl, (length_none Plan NewTileTable (t * m.rows) (t * m.rows) refl, tt)),
                  ),
                ),
              ),
            ),
          ),
        ),
      ),
    ),
  )

  remap_passes : first_fault (remap_checks m t (length tiles) rank row (m.rows + 1) m.entries (t * m.rows)) ≡ None
  remap_passes = all_none (remap_checks m t (length tiles) rank row (m.rows + 1) m.entries (t * m.rows)) (tables_pass, (fit.accepted, (checked.numbered, tt)))

  layout_passes : laying_out_fault tiling (t * m.rows) (k * t + 1) k ≡ None
  layout_passes =
      let new = remapped_accepted Plan m rank row checked in
      none_from_passes tiling (t * m.rows) (k * t + 1) k (record {
        rows = (fit.rows.low, fit.rows.high);
        entries = (fit.entries.low, fit.entries.high);
        sweeps = (fit.sweeps.low, fit.sweeps.high);
        tiles = (fit.tiles.low, fit.tiles.high);
        scheduled = refl;
        started = refl;
        waiting = refl;
        row_starts = new.0;
        columns = new.1;
        long = long Plan m t k rank row tiles fit.rows.low rising num checked sorted;
        accepted = new.2;
        below = below Plan m t k rank row tiles fit.rows.low rising num checked sorted;
      })

  tiling_lawful : lawful tiling ≡ true
  tiling_lawful = is_lawful Plan m t k rank row tiles fit.rows.low rising num checked sorted

  tiling_opens : opening_fault (laid_out tiling) ≡ None
  tiling_opens = (laid_out_opens tiling (t * m.rows) (k * t + 1) k layout_passes).1 tiling_lawful

module _ (m : Pattern) (t k s : ℕ) (seed : List ℕ) (cells marked : ℕ) (e : growing_fault m t k s seed cells marked ≡ None) where
  grown : Rising m t k (tile_table_of m t s k seed)
  grown = let a = accepted m t k s seed cells marked e in grown_rises m t s k seed a.first a.last a.tiles

  fit : Planned m t k
  fit = planned m t k s seed cells marked e

pub grown_passes : GrownPasses
grown_passes m t k s seed cells marked e =
    let g = grown m t k s seed cells marked e in
    let f = fit m t k s seed cells marked e in
    let tiles = tile_table_of m t s k seed in
    (order_passes m t k tiles g f, remap_passes m t k tiles g f, layout_passes m t k tiles g f)

pub grown_is_lawful : GrownIsLawful
grown_is_lawful m t k s seed cells marked e = tiling_lawful m t k (tile_table_of m t s k seed) (grown m t k s seed cells marked e) (fit m t k s seed cells marked e)

pub grown_opens : GrownOpens
grown_opens m t k s seed cells marked e = tiling_opens m t k (tile_table_of m t s k seed) (grown m t k s seed cells marked e) (fit m t k s seed cells marked e)
