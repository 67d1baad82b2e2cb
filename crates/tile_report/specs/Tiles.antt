-- The lines of a grown tile table. Assumes nothing.
use Rattle.std.specs.Prelude.{ℕ, ◌+◌, ◌*◌, List, ◌++◌, codes, decimal}
use Rattle.std.specs.List.{between, flat_map}
use Rattle.checks.specs.Lists.{upto}
use Rattle.listing.specs.Refusals.{newline}
use Rattle.listing.specs.Lines.{heading}

-- one tile, behind a space
abbrev pub cell : ℕ → List ℕ
cell tile = codes " " ++ decimal tile

-- a sweep's number and the tiles of its rows
abbrev pub sweep_line : ℕ → List ℕ → List ℕ
sweep_line sweep cells = (codes "sweep " ++ (decimal sweep ++ codes " tiles")) ++ flat_map cell cells ++ newline

-- the sweeps of a tile table, lowest first, each of R rows
abbrev pub sweeps_text : ℕ → List ℕ → ℕ → List ℕ
sweeps_text rows table sweeps = flat_map (λ c. sweep_line (c + 1) (between (c * rows) (c * rows + rows) table)) (upto sweeps)

-- the whole listing
abbrev pub tiles_text : ℕ → ℕ → ℕ → List ℕ → List ℕ
tiles_text rows sweeps tiles table = heading rows sweeps tiles ++ sweeps_text rows table sweeps
