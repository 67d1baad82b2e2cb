use Rattle.std.proofs.Common.{◌*◌, [], ◌∷◌, ◌++◌, take, string_bytes, sym, ap, ◌∙◌, ap₂}
use Rattle.std.specs.List.{flat_map}
use Rattle.std.proofs.lemmas.List.{take_more, take_all}
use Rattle.listing.proofs.Pieces.{pieces_more}
use Rattle.replay.specs.Traces.{value_text}
use Rattle.replay.proofs.lines.push_bits.Goals as goal

pub loop-value-preserved : goal.loop-value-preserved
loop-value-preserved g c =
    let values = c.args.values.now in
    let i = c.loop-value.value-index in
    let x = c.value-item.result in
    pieces_more (value_text (2 * g.K.Filed.width) g.K.Filed.printed) (string_bytes c.args.text.now) (string_bytes c.loop-value.text) (string_bytes c.push_value.new.text) (take i values) x
    (take_more values i x c.loop-value-test.true ∙ ap (λ y. take i values ++ y ∷ []) (sym c.value-item.is)) c.loop-value.invariant
    (c.in_ok-push_value.ensures ∙ ap₂ (λ w n. string_bytes c.loop-value.text ++ value_text (2 * w) (λ k. k) n) c.width.ensures c.bits-number.ensures)

pub returns : goal.returns
returns g c = c.loop-value.invariant ∙ ap (λ xs. string_bytes c.args.text.now ++ flat_map (value_text (2 * g.K.Filed.width) g.K.Filed.printed) xs) (take_all _ c.args.values.now c.loop-value-test.false)
