use Rattle.std.proofs.Common.{sym, ap, ◌∙◌, arith}
use Rattle.checks.specs.Lists.{at}
use Rattle.plans.specs.Words.{bit}
use Rattle.plans.specs.Held.{tiling_held}
use Rattle.plans.proofs.Readings.{words_long, no_word}
use Rattle.plans.proofs.Wordbits.{words_tell}
use Rattle.plans.proofs.plan.Plan.wait_word.Goals as goal

pub returns-then-tile-self-clause-value : goal.returns-then-tile-self-clause-value
returns-then-tile-self-clause-value c = sym (no_word (tiling_held c.args.self.now) c.args.tile c.if-tile-self.true)

pub bounds-self-tile : goal.bounds-self-tile
bounds-self-tile c = let x = c.args.self.now in omega (arith, words_long (tiling_held x) x.layout.words.now x.waiting, c.if-tile-self.false)

pub returns-clause-tells : goal.returns-clause-tells
returns-clause-tells c =
    let x = c.args.self.now in
    λ h t ht. ap (λ xs. bit (at xs c.args.tile) t) x.waiting ∙ (words_tell (tiling_held x) c.args.tile h).0 t ht
