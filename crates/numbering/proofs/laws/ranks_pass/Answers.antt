use Rattle.numbering.specs.Order.{lex, key, ranks, inverse}
use Rattle.numbering.proofs.Numbered.{numbering_passes}
use Rattle.numbering.proofs.Lexes.{keys_strict}
use Rattle.numbering.proofs.Ranking.{ranks_number}
use Rattle.numbering.proofs.laws.ranks_pass.Goals as goal

pub returns : goal.returns
returns c r t tiles = numbering_passes r (ranks r t tiles) (inverse r (ranks r t tiles)) (ranks_number (λ u v. lex (key r t tiles u) (key r t tiles v)) (keys_strict r tiles 0 t) r)
