use Rattle.std.proofs.Common.{ℕ, ◌<◌, length, sym, ◌∙◌, subst, arith}
use Rattle.checks.specs.Lists.{at}
use Rattle.matrix.specs.Lent.{pattern_of}
use Rattle.numbering.proofs.Fits.{length_carried, length_row_part}
use Rattle.numbering.proofs.Remappable.{Remappable, remappable, entries_in_order, new_columns_below}
use Rattle.numbering.proofs.remapping.remap.Goals as goal
use Rattle.numbering.proofs.remapping.remap.Goals.{In_ok-check_remap}

known : (c : In_ok-check_remap) → Remappable (pattern_of c.args.matrix.now) c.args.sweeps (length c.args.tile_table.now) c.args.numbering.now.ranks.now c.args.numbering.now.rows_by_rank.now (length c.args.new_starts.now) (length c.args.new_columns.now) (length c.args.new_tile_table.now)
known c =
    remappable (pattern_of c.args.matrix.now) c.args.sweeps (length c.args.tile_table.now) c.args.numbering.now.ranks.now c.args.numbering.now.rows_by_rank.now (length c.args.new_starts.now) (length c.args.new_columns.now) (length c.args.new_tile_table.now)
    (sym c.in_ok-check_remap.ensures)

pub write_starts-requires : goal.write_starts-requires
write_starts-requires c =
    let k = known (goal.at.write_starts-requires c).In_ok-check_remap in
    let m = pattern_of c.args.matrix.now in
    record {
      room = omega (arith, k.tables.new_started, k.tables.placed);
      parts = λ i l. length_row_part m k.fit m.columns k.tables.columned _ (k.num.inside i (omega (arith, k.tables.placed)));
      small = omega (arith, entries_in_order m k.fit c.args.numbering.now.ranks.now c.args.numbering.now.rows_by_rank.now k.num, k.tables.entries);
    }

pub gather_entries-requires : goal.gather_entries-requires
gather_entries-requires c =
    let k = known (goal.at.gather_entries-requires c).In_ok-check_remap in
    length_carried (pattern_of c.args.matrix.now) k.fit c.args.numbering.now.ranks.now c.args.numbering.now.rows_by_rank.now k.num c.args.matrix.now.columns.now k.tables.columned ∙ sym k.tables.new_columned

pub rank_columns-requires : goal.rank_columns-requires
rank_columns-requires c =
    let k = known (goal.at.rank_columns-requires c).In_ok-check_remap in
    let m = pattern_of c.args.matrix.now in
    subst (λ columns. (e : ℕ) → e < length columns → at columns e < length c.args.numbering.now.ranks.now) (sym c.gather_entries.ensures) (λ e l. omega (arith, new_columns_below m c.args.numbering.now.rows_by_rank.now k.columned e l, k.tables.ranked))

pub invariant_of-rows_by_rank : goal.invariant_of-rows_by_rank
invariant_of-rows_by_rank c = let k = known (goal.at.invariant_of-rows_by_rank c).In_ok-check_remap in record { all = k.tables.placed; within = k.num.inside }

pub move_tiles-requires : goal.move_tiles-requires
move_tiles-requires c = let k = known (goal.at.move_tiles-requires c).In_ok-check_remap in record { tiled = k.tables.tiled; room = k.tables.new_tiled }
