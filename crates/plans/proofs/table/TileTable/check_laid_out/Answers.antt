use Rattle.std.proofs.Common.{arith, rules}
use Rattle.checks.specs.declared.Check.TheVariants.{WaitWord}
use Rattle.checks.specs.declared.Layer.TheVariants.{Plan}
use Rattle.plans.specs.Words.{wait_words_of}
use Rattle.plans.specs.Lent.{tiling_of}
use Rattle.plans.proofs.Leasts.{other_fault}
use Rattle.plans.proofs.table.TileTable.check_laid_out.Goals as goal

pub returns : goal.returns
returns c =
    let e = other_fault Plan WaitWord c.args.layout.now.words.now c.note_waits-overtaken.new.words (wait_words_of (tiling_of c.args.self.now)) c.first_other.result c.first_other.ensures c.note_waits-overtaken.ensures.words (omega arith) in
    search (rules, e)
