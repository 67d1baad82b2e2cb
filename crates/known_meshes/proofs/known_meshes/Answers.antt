use Rattle.std.proofs.Common.{refl}
use lib.Ieee.{sub, mul, div, of_bits, to_bits}
use Rattle.std.specs.Fmt.{digits}
use Rattle.known_meshes.proofs.known_meshes.Goals as goal

pub returns : goal.returns
unfolding sub mul div of_bits to_bits digits
returns c = refl
