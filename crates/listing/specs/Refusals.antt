-- What a refused case prints, and how much input is taken. Assumes nothing.
use Rattle.std.specs.Prelude.{ℕ, List, [], ◌∷◌, ◌++◌, length, Some, None, Option, nat_lt}
use Rattle.checks.specs.declared.Check.TheVariants.{FileLength}
use Rattle.checks.specs.declared.Layer.TheVariants.{File}
use Rattle.checks.specs.declared.Fault.{Fault}
use Rattle.checks.specs.Faults.{line_of}
use Rattle.checks.specs.Verdicts.{fault_if}

-- a line's end
abbrev pub newline : List ℕ
newline = 10 ∷ []

-- the refusal's line, or the text
abbrev pub unless_fault : Option Fault → List ℕ → List ℕ
unless_fault None text = text
unless_fault (Some f) text = line_of f ++ newline

-- an input of more than 16,384 bytes has a wrong length
abbrev pub input_fault : List ℕ → Option Fault
input_fault file = fault_if File FileLength 0 (nat_lt 16_384 (length file))
