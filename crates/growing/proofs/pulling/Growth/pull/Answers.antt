use Rattle.std.proofs.Common.{inl, inr, arith}
use Rattle.std.proofs.lemmas.Bool.{not-true, not-false, eqb-true, eqb-false}
use Rattle.growing.proofs.Pairs.{pull_pulls}
use Rattle.growing.proofs.pulling.Growth.pull.Goals as goal

pub returns-then-bound-second_tile : goal.returns-then-bound-second_tile
returns-then-bound-second_tile c =
    pull_pulls c.args.self.now.direction c.args.self.now.near.now c.args.own.now c.args.first c.args.second c.requires.first c.requires.second c.best-bound.result c.best-tile.result
    (omega arith) (omega arith) (omega arith) c.best-bound.ensures c.best-tile.ensures _
    (λ e. absurd (c.if-bound-second_tile.true (eqb-true _ _ (not-false _ e)))) (λ e. inl c.if-bound-second_tile.true)

pub returns-else-bound-second_tile : goal.returns-else-bound-second_tile
returns-else-bound-second_tile c =
    pull_pulls c.args.self.now.direction c.args.self.now.near.now c.args.own.now c.args.first c.args.second c.requires.first c.requires.second c.best-bound.result c.best-tile.result
    (omega arith) (omega arith) (omega arith) c.best-bound.ensures c.best-tile.ensures _
    (λ e. (c.if-bound-second_tile.false, eqb-true _ _ (not-false _ e))) (λ e. inr (eqb-false _ _ (not-true _ e)))
