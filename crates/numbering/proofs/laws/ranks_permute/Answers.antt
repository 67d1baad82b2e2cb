use Rattle.numbering.specs.Order.{lex, key}
use Rattle.numbering.proofs.Lexes.{keys_strict}
use Rattle.numbering.proofs.Ranking.{ranks_number}
use Rattle.numbering.proofs.laws.ranks_permute.Goals as goal

pub returns : goal.returns
returns c r t tiles = ranks_number (λ u v. lex (key r t tiles u) (key r t tiles v)) (keys_strict r tiles 0 t) r
