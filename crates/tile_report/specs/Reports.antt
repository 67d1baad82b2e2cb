-- What is printed of a case file: the refusal's line, or its grown tiles. Assumes nothing.
use Rattle.std.specs.Prelude.{ℕ, ◌*◌, List}
use Rattle.matrix.specs.Patterns.{Pattern}
use Rattle.case_file.specs.Contents.{Contents, contents_in, pattern_in}
use Rattle.case_file.specs.Headers.{reading_fault}
use Rattle.growing.specs.Growing.{tile_table_of}
use Rattle.growing.specs.Verdicts.{growing_fault}
use Rattle.listing.specs.Refusals.{unless_fault, input_fault}
use Rattle.tile_report.specs.Tiles.{tiles_text}

-- the grown tiles, in tables of their lengths
abbrev pub grown_text : Pattern → ℕ → ℕ → ℕ → List ℕ → ℕ → ℕ → List ℕ
grown_text m sweeps tiles seed_sweep seed cells marked = unless_fault (growing_fault m sweeps tiles seed_sweep seed cells marked) (tiles_text m.rows sweeps tiles (tile_table_of m sweeps seed_sweep tiles seed))

-- what is printed of a case that has been read
abbrev pub case_text_of : Contents → List ℕ
case_text_of x = grown_text (pattern_in x) x.sweeps x.tiles x.seed_sweep x.seed (x.sweeps * x.rows) x.entries

-- the refusal's line of a file that cannot be read, or its case's text
abbrev pub file_text_of : List ℕ → List ℕ
file_text_of file = unless_fault (reading_fault file) (case_text_of (contents_in file))

-- what is printed of a file
abbrev pub reported : List ℕ → List ℕ
reported file = unless_fault (input_fault file) (file_text_of file)
