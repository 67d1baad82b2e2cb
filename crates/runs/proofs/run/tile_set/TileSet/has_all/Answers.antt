use Rattle.std.proofs.Common.{◌≡◌, get_or, refl, rules}
use Rattle.std.proofs.iter.runs.Sources.{ranges}
use Rattle.checks.specs.Lists.{upto}
use Rattle.plans.specs.Words.{bit}
use Rattle.runs.proofs.Every.{every_told}
use Rattle.runs.proofs.run.tile_set.TileSet.has_all.Goals as goal

pub returns : goal.returns
returns c = every_told (bit c.args.self) c.args.tiles c.all.result (λ e t l. let z : get_or (upto c.args.tiles) t 0 ≡ get_or (upto c.args.tiles) t 0 = refl in search (rules, ranges, z)) (λ all. search (rules, ranges))
