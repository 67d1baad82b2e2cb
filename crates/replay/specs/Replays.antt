-- What replay writes of a case file and a list of tile numbers. Assumes nothing.
use Rattle.std.specs.Prelude.{ℕ, ◌*◌, cond, List, ◌++◌, length, drop, nat_le}
use Rattle.arithmetic.specs.Meanings.{Meaning}
use Rattle.arithmetic.specs.Kinds.{doubles, minutes}
use Rattle.case_file.specs.declared.kinds.Kind.{Kind}
use Rattle.case_file.specs.declared.kinds.Kind.TheVariants.{Doubles, Minutes}
use Rattle.case_file.specs.Numbers.{big}
use Rattle.case_file.specs.Doubles.{double, double_bits}
use Rattle.case_file.specs.Headers.{header_of, kind_of, reading_fault}
use Rattle.case_file.specs.Contents.{Contents, contents_in}
use Rattle.listing.specs.Refusals.{unless_fault}
use Rattle.listing.specs.Lines.{heading}
use Rattle.preparing.specs.Posed.{Posed, matrix_of, tiling_of, renumbered, start_of}
use Rattle.engine.specs.Solutions.{solving_fault}
use Rattle.engine_report.specs.Cases.{posed_in}
use Rattle.replay.specs.Traces.{Standing, trace}

-- a run as it is begun
abbrev pub begun : {V : Type 0} → List V → Standing V
begun x = record { progress = record { done = 0; points = 0 }; held = x }

-- the calls over a problem's tiles; `bits` are what is written of a figure of `width` bytes
abbrev pub problem_trace : {X : Type 0} → Meaning X X → ℕ → (X → ℕ) → Posed X X → List ℕ → List ℕ
problem_trace m width bits p calls = heading (matrix_of p).rows p.sweeps p.tiles ++ trace m (renumbered p) (tiling_of p) (2 * width) bits (begun (start_of p)) calls

-- a problem of one kind, or its refusal's line
abbrev pub problem_text_of : {X : Type 0} → Meaning X X → ℕ → (X → ℕ) → Posed X X → List ℕ → List ℕ
problem_text_of m width bits p calls = unless_fault (solving_fault m p) (problem_trace m width bits p calls)

-- a case by its kind
abbrev pub kind_text_of : Kind → Contents → List ℕ → List ℕ
kind_text_of Doubles t calls = problem_text_of doubles 8 double_bits (posed_in 8 double t) calls
kind_text_of Minutes t calls = problem_text_of minutes 4 (λ x. x) (posed_in 4 big t) calls

-- what is written of a file of any length
abbrev pub replayed : List ℕ → List ℕ → List ℕ
replayed file calls = unless_fault (reading_fault file) (kind_text_of (kind_of (header_of file)) (contents_in file) calls)

-- a table that a text has been written into from its start on, where there is room for it
abbrev pub handed_out : List ℕ → List ℕ → List ℕ
handed_out text out = cond (nat_le (length text) (length out)) (text ++ drop (length text) out) out
