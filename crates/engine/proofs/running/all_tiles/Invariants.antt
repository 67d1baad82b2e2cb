use Rattle.std.proofs.Common.{◌≡◌, vec_items}
use Rattle.checks.specs.Lists.{upto}
use Rattle.engine.proofs.running.all_tiles.Given as goal

abbrev pub invariant-loop-tile : goal.invariant-loop-tile
invariant-loop-tile l = vec_items l.numbers ≡ upto l.tile
