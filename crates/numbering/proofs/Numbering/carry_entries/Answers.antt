use Rattle.std.proofs.Common.{length, sym, ◌∙◌}
use Rattle.numbering.specs.Order.{starts_pattern}
use Rattle.numbering.proofs.Fits.{length_carried}
use Rattle.numbering.proofs.Remappable.{carryable}
use Rattle.numbering.proofs.Numbering.carry_entries.Goals as goal

pub gather_entries-requires : goal.gather_entries-requires
gather_entries-requires g c =
    let rank = c.args.self.now.ranks.now in
    let row = c.args.self.now.rows_by_rank.now in
    let k = carryable c.args.matrix.now.rows c.args.matrix.now.entries c.args.matrix.now.starts.now rank row (length c.args.from.now) (length c.args.to.now) (sym c.in_ok-check_entries.ensures) in
    length_carried (starts_pattern c.args.matrix.now.rows c.args.matrix.now.entries c.args.matrix.now.starts.now) k.fit rank row k.num c.args.from.now k.tables.listed ∙ sym k.tables.new_listed
