-- Which coefficients and values a run may be begun with. Assumes nothing.
use Rattle.std.specs.Prelude.{ℕ, Bool, not, ◌&&◌, ◌||◌, List, length, Option}
use Rattle.checks.specs.declared.Check.{Check}
use Rattle.checks.specs.declared.Check.TheVariants.{Coefficient}
use Rattle.checks.specs.declared.Layer.{Layer}
use Rattle.checks.specs.declared.Fault.{Fault}
use Rattle.checks.specs.Lists.{passes_at}
use Rattle.checks.specs.Verdicts.{lowest}
use Rattle.matrix.specs.Patterns.{Pattern, diagonal}
use Rattle.arithmetic.specs.Meanings.{Meaning}

-- coefficient a is not admissible, or is not usable on the diagonal where entry e stands
abbrev pub bad_at : {C V : Type 0} → Meaning C V → Pattern → ℕ → C → Bool
bad_at m p e a = not (m.coefficient_admissible a) || (diagonal p e && not (m.diagonal_usable a))

-- whether entry e has a coefficient that may not stand there
abbrev pub bad_coefficient : {C V : Type 0} → Meaning C V → Pattern → List C → ℕ → Bool
bad_coefficient m p cs e = passes_at (bad_at m p e) cs e

-- whether row i has a value that is not admissible
abbrev pub bad_value : {C V : Type 0} → Meaning C V → List V → ℕ → Bool
bad_value m vs i = passes_at (λ v. not (m.value_admissible v)) vs i

-- the lowest entry with a bad coefficient
abbrev pub coefficients_fault : {C V : Type 0} → Layer → Meaning C V → Pattern → List C → Option Fault
coefficients_fault layer m p cs = lowest layer Coefficient (bad_coefficient m p cs) (length cs)

-- the lowest row with a bad value; `check` says which list is checked
abbrev pub values_fault : {C V : Type 0} → Layer → Check → Meaning C V → List V → Option Fault
values_fault layer check m vs = lowest layer check (bad_value m vs) (length vs)
