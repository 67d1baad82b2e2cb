use Rattle.std.proofs.Common.{◌≡◌, ◌/◌, ◌++◌, length, ap, ◌∙◌}
use Rattle.std.proofs.Math.Nat.{mul-div_cancel}
use Rattle.listing.specs.Lines.{heading}
use Rattle.tile_report.specs.Tiles.{sweeps_text}
use Rattle.tile_report.proofs.tiles.tiles_listing.Goals as goal

pub returns : goal.returns
returns c =
    let rows = c.args.rows in
    let sweeps = c.args.sweeps in
    let table = c.args.table.now in
    let e : length table / rows ≡ sweeps = ap (λ n. n / rows) c.requires.whole ∙ mul-div_cancel sweeps c.requires.some in
    c.in_ok-push_sweeps.ensures ∙ ap (λ t. t ++ sweeps_text rows table (length table / rows)) c.in_ok-text.ensures ∙ ap (λ n. heading rows sweeps c.args.tiles ++ sweeps_text rows table n) e
