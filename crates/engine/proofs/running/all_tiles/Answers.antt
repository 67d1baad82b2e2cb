use Rattle.std.proofs.Common.{[], ◌∷◌, sym, ◌∙◌}
use Rattle.std.proofs.lemmas.Slice.{pushed}
use Rattle.checks.proofs.Uptos.{upto_next}
use Rattle.engine.proofs.running.all_tiles.Goals as goal

pub loop-tile-preserved : goal.loop-tile-preserved
loop-tile-preserved c = pushed (c.loop-tile.tile ∷ []) c.loop-tile.invariant c.in_ok-push.was c.push.ensures.items ∙ sym (upto_next c.loop-tile.tile)
