use Rattle.std.proofs.Common.{◌≡◌, Some, sym, arith, rules}
use Rattle.checks.specs.declared.Check.TheVariants.{Row}
use Rattle.checks.proofs.Firsts.{lowest_refused, lowest_none}
use Rattle.matrix.specs.Patterns.{bad_row, rows_fault}
use Rattle.matrix.specs.Lent.{pattern_of}
use Rattle.matrix.proofs.pattern.Matrix.check_rows.Goals as goal

pub returns-in_err-refuse_if : goal.returns-in_err-refuse_if
returns-in_err-refuse_if c =
    let m = pattern_of c.args.self.now in
    let e : rows_fault c.args.layer m ≡ Some c.in_err-refuse_if.field-0.0 = lowest_refused c.args.layer Row (bad_row m) m.rows c.loop-row.row c.in_err-refuse_if.field-0.0 (search rules) c.loop-row.invariant (search rules) in
    search (rules, e)

pub returns : goal.returns
returns c = sym (lowest_none c.args.layer Row (bad_row (pattern_of c.args.self.now)) c.args.self.now.rows (λ k l. c.loop-row.invariant k (omega arith)))
