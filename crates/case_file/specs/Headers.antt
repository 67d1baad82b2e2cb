-- The header of a file: what stands in it, where each table stands behind it, and what makes it faulty. Assumes nothing.
use Rattle.std.specs.Prelude.{ℕ, ◌+◌, ◌*◌, not, List, [], ◌∷◌, length, is_some, Option, ◌==◌, nat_lt}
use Rattle.std.specs.Option.{unwrap_or}
use Rattle.checks.specs.declared.Check.TheVariants.{FileLength, FileFormat}
use Rattle.checks.specs.declared.Layer.TheVariants.{File}
use Rattle.checks.specs.declared.Fault.{Fault}
use Rattle.checks.specs.Lists.{at, totals}
use Rattle.checks.specs.Verdicts.{fault_if, first_fault}
use Rattle.matrix.specs.declared.sizes.Size.TheVariants.{Rows, Entries, Sweeps, Tiles, SeedSweep}
use Rattle.matrix.specs.Sizes.{size_fault}
use Rattle.case_file.specs.declared.kinds.Kind.{Kind}
use Rattle.case_file.specs.declared.kinds.Kind.TheVariants.{Doubles}
use Rattle.case_file.specs.declared.reading.Header.{Header}
use Rattle.case_file.specs.Kinds.{kind_numbered, width_of}
use Rattle.case_file.specs.Numbers.{number_at}

-- 4 bytes for the length of what follows, then version, kind, T, S and k, a byte each, then 4 bytes for R and 4 for E
abbrev pub header_of : List ℕ → Header
header_of file = record { following = number_at file 0; version = at file 4; kind = at file 5; sweeps = at file 6; seed_sweep = at file 7; tiles = at file 8; rows = number_at file 9; entries = number_at file 13 }

-- the kind whose number the header has; any, where the check of it fails
abbrev pub kind_of : Header → Kind
kind_of h = unwrap_or (kind_numbered h.kind) Doubles

-- the bytes that each table takes, in the file's order: row starts, columns, coefficients, right-hand side, vector, seed
abbrev pub table_lengths_of : Header → List ℕ
table_lengths_of h = (h.rows + 1) * 4 ∷ h.entries * 4 ∷ h.entries * width_of (kind_of h) ∷ h.rows * width_of (kind_of h) ∷ h.rows * width_of (kind_of h) ∷ h.rows ∷ []

-- where each table begins in the file, and where the last one ends
abbrev pub offsets : Header → List ℕ
offsets h = totals 17 (table_lengths_of h)

-- the length of what follows isn't that of a file of so many bytes, then the version, then the kind
abbrev pub format_fault : Header → ℕ → Option Fault
format_fault h size = first_fault (fault_if File FileLength 0 (not (h.following + 4 == size)) ∷ fault_if File FileFormat 4 (not (h.version == 1)) ∷ fault_if File FileFormat 5 (not (is_some (kind_numbered h.kind))) ∷ [])

-- R, E, T, k and S, in this order
abbrev pub sizes_fault : Header → Option Fault
sizes_fault h = first_fault (size_fault File (Rows h.rows) ∷ size_fault File (Entries h.entries) ∷ size_fault File (Sweeps h.sweeps) ∷ size_fault File (Tiles h.tiles) ∷ size_fault File (SeedSweep h.seed_sweep h.sweeps) ∷ [])

-- the tables don't fill a file of so many bytes
abbrev pub tables_fault : Header → ℕ → Option Fault
tables_fault h size = fault_if File FileLength 17 (not (at (offsets h) 6 == size))

-- the format, then the sizes, then whether the tables fill the file
abbrev pub header_fault : Header → ℕ → Option Fault
header_fault h size = first_fault (format_fault h size ∷ sizes_fault h ∷ tables_fault h size ∷ [])

-- a file too short for a header, or with a faulty one
abbrev pub reading_fault : List ℕ → Option Fault
reading_fault file = first_fault (fault_if File FileLength 0 (nat_lt (length file) 17) ∷ header_fault (header_of file) (length file) ∷ [])
