-- What a case holds that is read from a file. Assumes nothing.
use Rattle.std.specs.Prelude.{◌≡◌, ℕ, ◌+◌, List, length}
use Rattle.std.specs.List.{between}
use Rattle.checks.specs.Lists.{at}
use Rattle.case_file.specs.declared.parts.Part.{Part}
use Rattle.case_file.specs.declared.reading.Header.{Header}
use Rattle.case_file.specs.declared.reading.Case.{Case}
use Rattle.case_file.specs.Headers.{kind_of, table_lengths_of, offsets}

-- table i of the file, in the file's order: its offset, its bytes, and how many they are
abbrev pub IsTable : List ℕ → Header → ℕ → Part → Type 0
IsTable file h i p = (p.offset ≡ at (offsets h) i) × (p.bytes.now ≡ between (at (offsets h) i) (at (offsets h) (i + 1)) file) × (length p.bytes.now ≡ at (table_lengths_of h) i)

-- what the header says, and each table where it stands in the file
pub record Holds (file : List ℕ) (h : Header) (c : Case) : Type 0 where
  pub kind : c.kind ≡ kind_of h
  pub sweeps : c.sweeps ≡ h.sweeps
  pub seed_sweep : c.seed_sweep ≡ h.seed_sweep
  pub tiles : c.tiles ≡ h.tiles
  pub rows : c.rows ≡ h.rows
  pub entries : c.entries ≡ h.entries
  pub starts : IsTable file h 0 c.starts
  pub columns : IsTable file h 1 c.columns
  pub coefficients : IsTable file h 2 c.coefficients
  pub right_hand_side : IsTable file h 3 c.right_hand_side
  pub vector : IsTable file h 4 c.vector
  pub seed : IsTable file h 5 c.seed
