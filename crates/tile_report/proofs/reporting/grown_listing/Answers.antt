use Rattle.std.proofs.Common.{length, sym, ◌∙◌}
use Rattle.matrix.specs.Lent.{pattern_of}
use Rattle.growing.proofs.Accepted.{accepted}
use Rattle.tile_report.proofs.reporting.grown_listing.Goals as goal

pub tiles_listing-requires : goal.tiles_listing-requires
tiles_listing-requires c =
    let x = c.args.seeding.now in
    let a = accepted (pattern_of c.args.matrix.now) x.sweeps x.tiles x.seed_sweep x.seed.now (length c.args.tile_table.now) (length c.args.marks.now) (sym c.in-Ok.ensures.fault) in
    record { some = a.some; whole = c.grow.auto.tile_table ∙ a.cells_are }
