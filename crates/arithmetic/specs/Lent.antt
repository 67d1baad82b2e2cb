-- The equations that a lent system holds. Assumes nothing.
use Rattle.matrix.specs.Lent.{pattern_of}
use Rattle.arithmetic.specs.declared.system.System.{System}
use Rattle.arithmetic.specs.Sweeps.{Equations}

-- the equations that a lent system holds
abbrev pub equations_of : {C V : Type 0} → System C V → Equations C V
equations_of s = record { pattern = pattern_of s.matrix; coefficients = s.coefficients.now; rhs = s.right_hand_side.now }
