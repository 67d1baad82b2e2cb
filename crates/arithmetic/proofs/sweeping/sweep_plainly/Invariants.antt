use Rattle.std.proofs.Common.{◌≡◌}
use Rattle.arithmetic.specs.Sweeps.{plain}
use Rattle.arithmetic.specs.Lent.{equations_of}
use Rattle.arithmetic.proofs.sweeping.sweep_plainly.Given as goal

abbrev pub invariant-loop-sweep : goal.invariant-loop-sweep
invariant-loop-sweep g l = l.vector ≡ plain (g.K.Arithmetic.means l.arithmetic) (equations_of l.system) l.initial.vector l._sweep
