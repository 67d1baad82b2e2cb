use Rattle.std.proofs.Common.{length, sym, rules}
use Rattle.checks.specs.declared.Check.TheVariants.{Tile}
use Rattle.checks.specs.declared.Layer.TheVariants.{Plan}
use Rattle.checks.proofs.Firsts.{lowest_refused, lowest_none}
use Rattle.plans.specs.Opening.{bad_tile}
use Rattle.plans.proofs.table.checking.check_tiles.Goals as goal

pub returns-in_err-refuse_if-clause-fault : goal.returns-in_err-refuse_if-clause-fault
returns-in_err-refuse_if-clause-fault c =
    let e = lowest_refused Plan Tile (bad_tile c.args.tiling.now.tiles c.args.tiling.now.cells.now) (length c.args.tiling.now.cells.now) c.loop-point.point c.in_err-refuse_if.field-0.0 (search rules) c.loop-point.invariant (search rules) in
    search (rules, e)

pub returns-clause-fault : goal.returns-clause-fault
returns-clause-fault c = sym (lowest_none Plan Tile (bad_tile c.args.tiling.now.tiles c.args.tiling.now.cells.now) (length c.args.tiling.now.cells.now) (search rules))
