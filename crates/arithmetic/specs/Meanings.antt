-- What an arithmetic means: fixed functions of the operands, over coefficients C and values V. Assumes nothing.
use Rattle.std.specs.Prelude.{Bool}

-- the five answers of an arithmetic
pub record Meaning (C V : Type 0) : Type 0 where
  pub coefficient_admissible : C → Bool
  pub value_admissible : V → Bool
  -- whether a coefficient may stand on the diagonal
  pub diagonal_usable : C → Bool
  -- what an accumulator becomes when a coefficient and a value are taken in
  pub taken_in : V → C → V → V
  -- the new value that an accumulator and a diagonal give
  pub finished : V → C → V
