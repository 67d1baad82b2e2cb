-- What is printed of a case file: the refusal's line, or what its problem comes to. Assumes nothing.
use Rattle.std.specs.Prelude.{ℕ, ◌*◌, List}
use Rattle.arithmetic.specs.Meanings.{Meaning}
use Rattle.arithmetic.specs.Kinds.{doubles, minutes}
use Rattle.case_file.specs.declared.kinds.Kind.{Kind}
use Rattle.case_file.specs.declared.kinds.Kind.TheVariants.{Doubles, Minutes}
use Rattle.case_file.specs.Numbers.{big}
use Rattle.case_file.specs.Doubles.{double, double_bits}
use Rattle.case_file.specs.Headers.{header_of, kind_of, reading_fault}
use Rattle.case_file.specs.Contents.{Contents, contents_in}
use Rattle.listing.specs.Refusals.{unless_fault, input_fault}
use Rattle.preparing.specs.Posed.{Posed, matrix_of}
use Rattle.engine.specs.Solutions.{solving_fault, solved}
use Rattle.engine_report.specs.Lines.{listing_text}
use Rattle.engine_report.specs.Cases.{posed_in}

-- a problem that is solved; `bits` are what is printed of a figure of `width` bytes
abbrev pub problem_text_of : {X : Type 0} → Meaning X X → ℕ → (X → ℕ) → Posed X X → List ℕ
problem_text_of m width bits p = unless_fault (solving_fault m p) (listing_text (matrix_of p).rows p.sweeps p.tiles (2 * width) bits (solved m p))

-- a case of one kind, whose figures are read by `figure`
abbrev pub solved_text : {X : Type 0} → Meaning X X → ℕ → (List ℕ → X) → (X → ℕ) → Contents → List ℕ
solved_text m width figure bits t = problem_text_of m width bits (posed_in width figure t)

-- a case by its kind
abbrev pub kind_text_of : Kind → Contents → List ℕ
kind_text_of Doubles t = solved_text doubles 8 double double_bits t
kind_text_of Minutes t = solved_text minutes 4 big (λ x. x) t

-- the refusal's line of a file that cannot be read, or its case's text
abbrev pub file_text_of : List ℕ → List ℕ
file_text_of file = unless_fault (reading_fault file) (kind_text_of (kind_of (header_of file)) (contents_in file))

-- what is printed of a file
abbrev pub reported : List ℕ → List ℕ
reported file = unless_fault (input_fault file) (file_text_of file)
