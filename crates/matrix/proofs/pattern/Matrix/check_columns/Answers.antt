use Rattle.std.proofs.Common.{◌≡◌, length, Some, sym, rules}
use Rattle.checks.specs.declared.Check.TheVariants.{Column}
use Rattle.checks.proofs.Firsts.{lowest_refused, lowest_none}
use Rattle.matrix.specs.Patterns.{bad_column, columns_fault}
use Rattle.matrix.specs.Lent.{pattern_of}
use Rattle.matrix.proofs.pattern.Matrix.check_columns.Goals as goal

pub returns-in_err-refuse_if : goal.returns-in_err-refuse_if
returns-in_err-refuse_if c =
    let m = pattern_of c.args.self.now in
    let e : columns_fault c.args.layer m ≡ Some c.in_err-refuse_if.field-0.0 = lowest_refused c.args.layer Column (bad_column m) (length m.columns) c.loop-e.e c.in_err-refuse_if.field-0.0 (search rules) c.loop-e.invariant (search rules) in
    search (rules, e)

pub returns : goal.returns
returns c = sym (lowest_none c.args.layer Column (bad_column (pattern_of c.args.self.now)) (length c.args.self.now.columns.now) (search rules))
