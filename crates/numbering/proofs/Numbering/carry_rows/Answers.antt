use Rattle.std.proofs.Common.{length, sym}
use Rattle.numbering.proofs.Passed.{rows_passed}
use Rattle.numbering.proofs.Numbered.{numbering_passed}
use Rattle.numbering.proofs.Numbering.carry_rows.Goals as goal

pub invariant_of-rows_by_rank : goal.invariant_of-rows_by_rank
invariant_of-rows_by_rank g c =
    let p = rows_passed c.args.rows c.args.self.now.ranks.now c.args.self.now.rows_by_rank.now (length c.args.from.now) (length c.args.to.now) (sym c.in_ok-check_rows.ensures) in
    let n = numbering_passed c.args.rows c.args.self.now.ranks.now c.args.self.now.rows_by_rank.now p.ranked p.placed p.right in
    record { all = p.placed; within = n.inside }
