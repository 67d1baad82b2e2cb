use Rattle.std.proofs.Common.{length, sym}
use Rattle.checks.proofs.Refusals.{left_after}
use Rattle.matrix.specs.Lent.{pattern_of}
use Rattle.growing.specs.Growing.{tile_table_of, marks}
use Rattle.growing.proofs.Accepted.{accepted}
use Rattle.growing.proofs.grow.Goals as goal

pub invariant_of-sound : goal.invariant_of-sound
invariant_of-sound c =
    let x = c.args.seeding.now in
    record { sound = (accepted (pattern_of c.args.matrix.now) x.sweeps x.tiles x.seed_sweep x.seed.now (length c.args.tile_table.now) (length c.args.marks.now) (sym c.in_ok-check.ensures)).sound }

pub returns-clause-tiled : goal.returns-clause-tiled
returns-clause-tiled c =
    let m = pattern_of c.args.matrix.now in
    let x = c.args.seeding.now in
    let a = accepted m x.sweeps x.tiles x.seed_sweep x.seed.now (length c.args.tile_table.now) (length c.args.marks.now) (sym c.in_ok-check.ensures) in
    left_after (tile_table_of m x.sweeps x.seed_sweep x.tiles x.seed.now) c.args.tile_table.now c.in_ok-check.ensures (c.grow_all.ensures.tiled x.tiles a.tiles)

pub returns-clause-marked : goal.returns-clause-marked
returns-clause-marked c =
    let m = pattern_of c.args.matrix.now in
    let x = c.args.seeding.now in
    let a = accepted m x.sweeps x.tiles x.seed_sweep x.seed.now (length c.args.tile_table.now) (length c.args.marks.now) (sym c.in_ok-check.ensures) in
    left_after (marks m x.sweeps x.seed_sweep x.tiles x.seed.now) c.args.marks.now c.in_ok-check.ensures (c.grow_all.ensures.marks_are x.tiles a.tiles)
