use Rattle.std.proofs.Common.{◌≡◌, Some, sym, arith, rules}
use Rattle.checks.specs.declared.Check.TheVariants.{Rank}
use Rattle.checks.specs.declared.Layer.TheVariants.{Plan}
use Rattle.checks.proofs.Firsts.{lowest_refused, lowest_none}
use Rattle.numbering.specs.Refusals.{bad_rank, ranks_fault}
use Rattle.numbering.proofs.checking.check_ranks.Goals as goal

pub returns-in_err-refuse_if : goal.returns-in_err-refuse_if
returns-in_err-refuse_if c =
    let bad = bad_rank c.args.rows c.args.numbering.now.ranks.now c.args.numbering.now.rows_by_rank.now in
    let e : ranks_fault c.args.rows c.args.numbering.now.ranks.now c.args.numbering.now.rows_by_rank.now ≡ Some c.in_err-refuse_if.field-0.0 = lowest_refused Plan Rank bad c.args.rows c.loop-row.row c.in_err-refuse_if.field-0.0 (search rules) c.loop-row.invariant (search rules) in
    search (rules, e)

pub returns : goal.returns
returns c = sym (lowest_none Plan Rank (bad_rank c.args.rows c.args.numbering.now.ranks.now c.args.numbering.now.rows_by_rank.now) c.args.rows (λ k l. c.loop-row.invariant k (omega arith)))
