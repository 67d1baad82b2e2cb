use Rattle.std.proofs.Common.{◌≡◌, ℕ, Some, not, ◌&&◌, sym, rules, arith}
use Rattle.checks.specs.declared.Check.TheVariants.{TileWaiting}
use Rattle.checks.specs.declared.Layer.TheVariants.{Run}
use Rattle.checks.specs.Verdicts.{lowest}
use Rattle.checks.proofs.Firsts.{lowest_refused, lowest_none}
use Rattle.plans.specs.Words.{bit}
use Rattle.runs.proofs.run.tile_set.TileSet.check_done.Goals as goal

pub returns-in_err-refuse_if : goal.returns-in_err-refuse_if
returns-in_err-refuse_if c =
    let bad = λ (t : ℕ). bit c.args.self t && not (bit c.args.done t) in
    let e : lowest Run TileWaiting bad c.args.tiles ≡ Some c.in_err-refuse_if.field-0.0 = lowest_refused Run TileWaiting bad c.args.tiles c.loop-t.t c.in_err-refuse_if.field-0.0 (omega arith) c.loop-t.invariant (search rules) in
    search (rules, e)

pub returns : goal.returns
returns c = sym (lowest_none Run TileWaiting (λ t. bit c.args.self t && not (bit c.args.done t)) c.args.tiles (λ k l. c.loop-t.invariant k (omega arith)))
