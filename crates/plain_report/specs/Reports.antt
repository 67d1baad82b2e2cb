-- What is printed of a case file: the refusal's line, or the values after its plain sweeps. Assumes nothing.
use Rattle.std.specs.Prelude.{ℕ, ◌*◌, List, map}
use Rattle.arithmetic.specs.Meanings.{Meaning}
use Rattle.arithmetic.specs.Kinds.{doubles, minutes}
use Rattle.arithmetic.specs.Sweeps.{Equations, plain, sweeping_fault}
use Rattle.case_file.specs.declared.kinds.Kind.{Kind}
use Rattle.case_file.specs.declared.kinds.Kind.TheVariants.{Doubles, Minutes}
use Rattle.case_file.specs.Numbers.{big}
use Rattle.case_file.specs.Doubles.{double, double_bits}
use Rattle.case_file.specs.Elements.{elements}
use Rattle.case_file.specs.Headers.{header_of, kind_of, reading_fault}
use Rattle.case_file.specs.Contents.{Contents, contents_in, pattern_in}
use Rattle.listing.specs.Refusals.{unless_fault, input_fault}
use Rattle.plain_report.specs.Lines.{plain_text}

-- the equations in a case whose figures take `width` bytes each and are read by `figure`
abbrev pub equations_in : {X : Type 0} → ℕ → (List ℕ → X) → Contents → Equations X X
equations_in width figure t = record {
  pattern = pattern_in t;
  coefficients = elements width figure t.coefficients;
  rhs = elements width figure t.rhs;
}

-- equations swept plainly from a start; `bits` are what is printed of a figure of `width` bytes
abbrev pub system_text : {X : Type 0} → Meaning X X → ℕ → (X → ℕ) → Equations X X → ℕ → List X → List ℕ
system_text m width bits s sweeps start = unless_fault (sweeping_fault m s sweeps start) (plain_text sweeps (2 * width) (map bits (plain m s start sweeps)))

-- a case of one kind, whose figures are read by `figure`
abbrev pub swept_text : {X : Type 0} → Meaning X X → ℕ → (List ℕ → X) → (X → ℕ) → Contents → List ℕ
swept_text m width figure bits t = system_text m width bits (equations_in width figure t) t.sweeps (elements width figure t.vector)

-- a case swept by its kind's arithmetic, with that kind's figures
abbrev pub kind_text_of : Kind → Contents → List ℕ
kind_text_of Doubles t = swept_text doubles 8 double double_bits t
kind_text_of Minutes t = swept_text minutes 4 big (λ x. x) t

-- a file's refusal by its header or tables, or the text of the case in it
abbrev pub file_text_of : List ℕ → List ℕ
file_text_of file = unless_fault (reading_fault file) (kind_text_of (kind_of (header_of file)) (contents_in file))

-- what is printed of a file
abbrev pub reported : List ℕ → List ℕ
reported file = unless_fault (input_fault file) (file_text_of file)
