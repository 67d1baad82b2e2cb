use Rattle.std.proofs.Common.{◌≡◌, length, replicate, fold, sym, ap, ◌∙◌, arith, rules}
use Rattle.std.specs.List.{flat_map}
use Rattle.std.specs.Option.{option_map}
use Rattle.checks.specs.declared.Check.TheVariants.{Lawful}
use Rattle.checks.specs.declared.Layer.TheVariants.{Plan}
use Rattle.checks.specs.Lists.{upto}
use Rattle.checks.specs.Verdicts.{fault_at}
use Rattle.plans.specs.Tilings.{overtaken_at}
use Rattle.plans.specs.Words.{wait_words_of}
use Rattle.plans.specs.Pairs.{row_pairs, all_pairs, noted, lowered}
use Rattle.plans.specs.Lent.{tiling_of}
use Rattle.plans.proofs.Folds.{fold_more}
use Rattle.plans.proofs.Leasts.{found_fault}
use Rattle.plans.proofs.Noted.{length_all_noted, all_words, lowest_overtaken}
use Rattle.plans.proofs.table.TileTable.note_waits.Goals as goal

pub note_row-requires-clause-words : goal.note_row-requires-clause-words
note_row-requires-clause-words c =
    let x = c.args.self.now in
    ap length c.loop-v.invariant.1 ∙ length_all_noted x.tiling.cells.now c.fill.new.self (flat_map (row_pairs (tiling_of x)) (upto c.loop-v.v)) ∙ omega arith

pub loop-v-preserved : goal.loop-v-preserved
loop-v-preserved c =
    let x = c.args.self.now in
    let g = row_pairs (tiling_of x) in (
      c.note_row.ensures.same_words ∙ c.loop-v.invariant.0,
      fold_more (noted x.tiling.cells.now) c.fill.new.self g c.loop-v.v c.loop-v.notes.words.now c.note_row.new.notes.words.now c.loop-v.invariant.1 c.note_row.ensures.words,
      fold_more (lowered x.tiling.cells.now) (length x.tiling.cells.now) g c.loop-v.v c.loop-v.notes.lowest c.note_row.new.notes.lowest c.loop-v.invariant.2 c.note_row.ensures.lowest,
    )

pub returns-clause-words : goal.returns-clause-words
returns-clause-words c =
    let x = c.args.self.now in
    let l = tiling_of x in
    let e : c.loop-v.v ≡ x.tiling.matrix.rows = omega arith in
    let zeros : c.fill.new.self ≡ replicate x.tiling.tiles 0 = c.fill.ensures.after (λ y e. e) ∙ ap (λ n. replicate n 0) c.requires in
    let is : c.loop-v.notes.words.now ≡ wait_words_of l =
    c.loop-v.invariant.1 ∙ ap (λ n. fold (noted x.tiling.cells.now) c.fill.new.self (flat_map (row_pairs l) (upto n))) e ∙ ap (λ ws. fold (noted x.tiling.cells.now) ws (all_pairs l)) zeros
    ∙ all_words l Plan x.accepted x.sized.0 x.long.2 x.below in
    search (rules, is)

pub returns-clause-lowest : goal.returns-clause-lowest
returns-clause-lowest c =
    let x = c.args.self.now in
    let l = tiling_of x in
    let n = length x.tiling.cells.now in
    let e : c.loop-v.v ≡ x.tiling.matrix.rows = omega arith in
    ap (option_map (fault_at Plan Lawful)) c.then_some.ensures
    ∙ found_fault Plan Lawful (overtaken_at l) n c.loop-v.notes.lowest (sym (c.loop-v.invariant.2 ∙ ap (λ k. fold (lowered x.tiling.cells.now) n (flat_map (row_pairs l) (upto k))) e ∙ lowest_overtaken l Plan x.accepted x.sized.0 n x.long.2))
