-- What a clause reads of a problem. Assumes nothing.
use Rattle.arithmetic.specs.Lent.{equations_of}
use Rattle.preparing.specs.declared.posing.Problem.{Problem}
use Rattle.preparing.specs.Posed.{Posed}

-- what a problem holds
abbrev pub posed_by : {C V : Type 0} → Problem C V → Posed C V
posed_by p = record {
  equations = equations_of p.system;
  start = p.vector.now;
  sweeps = p.seeding.sweeps;
  seed_sweep = p.seeding.seed_sweep;
  tiles = p.seeding.tiles;
  seed = p.seeding.seed.now;
}
