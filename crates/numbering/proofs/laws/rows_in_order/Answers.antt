use Rattle.checks.specs.Lists.{at}
use Rattle.numbering.specs.Order.{lex, key, ranks, inverse}
use Rattle.numbering.proofs.Lexes.{keys_strict, before_lex}
use Rattle.numbering.proofs.Ranking.{rows_rise}
use Rattle.numbering.proofs.laws.rows_in_order.Goals as goal

pub returns : goal.returns
returns c r t tiles i j l h =
    let row = inverse r (ranks r t tiles) in
    before_lex r t tiles (at row i) (at row j) (rows_rise (λ u v. lex (key r t tiles u) (key r t tiles v)) (keys_strict r tiles 0 t) r i j l h)
