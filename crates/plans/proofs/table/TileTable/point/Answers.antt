use Rattle.std.proofs.Common.{refl, arith}
use Rattle.std.proofs.lemmas.Nat.{mul-add-lt}
use Rattle.plans.proofs.table.TileTable.point.Goals as goal

pub returns : goal.returns
returns c =
    let x = c.args.self.now in
    record { value = refl; within = omega (arith, x.long.2, mul-add-lt c.args.sweep x.tiling.matrix.rows c.args.row x.tiling.sweeps c.requires.sweep c.requires.row) }
