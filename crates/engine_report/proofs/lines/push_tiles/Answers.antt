use Rattle.std.proofs.Common.{get_or, string_bytes, refl}
use Rattle.std.proofs.lemmas.List.{get_or_default}
use Rattle.listing.proofs.NumberedLines.{numbered_more, numbered_all}
use Rattle.engine_report.specs.Lines.{tile_line}
use Rattle.engine_report.proofs.lines.push_tiles.Goals as goal

pub loop-number-preserved : goal.loop-number-preserved
loop-number-preserved c =
    let tiles = c.args.tiles.now in
    let i = c.loop-number.number in
    let tile = get_or tiles i (record { points = 0; waits = 0 }) in
    numbered_more tile_line tiles i tile _ (string_bytes c.loop-number.text) (string_bytes c.push_tile.new.text) c.loop-number-test.true (get_or_default tiles i (record { points = 0; waits = 0 }) tile c.loop-number-test.true) refl
    c.in_ok-push_tile.ensures c.loop-number.invariant

pub returns : goal.returns
returns c = numbered_all tile_line c.args.tiles.now c.loop-number.number (string_bytes c.loop-number.text) c.loop-number-test.false c.loop-number.invariant
