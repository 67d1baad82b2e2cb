-- What a case holds: its sizes, the bytes of each table, and the numbers that these stand for. Assumes nothing.
use Rattle.std.specs.Prelude.{ℕ, ◌+◌, List}
use Rattle.std.specs.List.{between}
use Rattle.checks.specs.Lists.{at}
use Rattle.matrix.specs.Patterns.{Pattern}
use Rattle.case_file.specs.declared.reading.Case.{Case}
use Rattle.case_file.specs.Numbers.{big}
use Rattle.case_file.specs.Elements.{elements}
use Rattle.case_file.specs.Headers.{header_of, offsets}

-- the sizes T, S, k, R and E, and the bytes of each table
pub record Contents : Type 0 where
  pub sweeps : ℕ
  pub seed_sweep : ℕ
  pub tiles : ℕ
  pub rows : ℕ
  pub entries : ℕ
  pub starts : List ℕ
  pub columns : List ℕ
  pub coefficients : List ℕ
  pub rhs : List ℕ
  pub vector : List ℕ
  pub seed : List ℕ

-- the bytes of table i of a file, in the file's order
abbrev pub table_bytes : List ℕ → ℕ → List ℕ
table_bytes file i = between (at (offsets (header_of file)) i) (at (offsets (header_of file)) (i + 1)) file

-- what stands in the bytes of a file
abbrev pub contents_in : List ℕ → Contents
contents_in file = record {
  sweeps = (header_of file).sweeps;
  seed_sweep = (header_of file).seed_sweep;
  tiles = (header_of file).tiles;
  rows = (header_of file).rows;
  entries = (header_of file).entries;
  starts = table_bytes file 0;
  columns = table_bytes file 1;
  coefficients = table_bytes file 2;
  rhs = table_bytes file 3;
  vector = table_bytes file 4;
  seed = table_bytes file 5;
}

-- what a case that has been read holds
abbrev pub contents_of : Case → Contents
contents_of c = record {
  sweeps = c.sweeps;
  seed_sweep = c.seed_sweep;
  tiles = c.tiles;
  rows = c.rows;
  entries = c.entries;
  starts = c.starts.bytes.now;
  columns = c.columns.bytes.now;
  coefficients = c.coefficients.bytes.now;
  rhs = c.right_hand_side.bytes.now;
  vector = c.vector.bytes.now;
  seed = c.seed.bytes.now;
}

-- the matrix of a case
abbrev pub pattern_in : Contents → Pattern
pattern_in x = record { rows = x.rows; entries = x.entries; starts = elements 4 big x.starts; columns = elements 4 big x.columns }
