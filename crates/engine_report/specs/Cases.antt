-- The problem that a case poses. Assumes nothing.
use Rattle.std.specs.Prelude.{◌≡◌, ℕ, List, vec_items}
use Rattle.case_file.specs.Numbers.{big}
use Rattle.case_file.specs.Elements.{elements}
use Rattle.case_file.specs.Contents.{Contents, pattern_in}
use Rattle.preparing.specs.Posed.{Posed}
use Rattle.engine_report.specs.declared.cases.CaseTables.{CaseTables}

-- the problem in a case whose figures take `width` bytes each and are read by `figure`
abbrev pub posed_in : {X : Type 0} → ℕ → (List ℕ → X) → Contents → Posed X X
posed_in width figure t = record {
  equations = record { pattern = pattern_in t; coefficients = elements width figure t.coefficients; rhs = elements width figure t.rhs };
  start = elements width figure t.vector;
  sweeps = t.sweeps;
  seed_sweep = t.seed_sweep;
  tiles = t.tiles;
  seed = elements 1 big t.seed;
}

-- the problem of a case whose tables have been read
abbrev pub posed_with : {X : Type 0} → Contents → CaseTables X → Posed X X
posed_with t x = record {
  equations = record { pattern = record { rows = t.rows; entries = t.entries; starts = vec_items x.starts; columns = vec_items x.columns }; coefficients = vec_items x.coefficients; rhs = vec_items x.right_hand_side };
  start = vec_items x.vector;
  sweeps = t.sweeps;
  seed_sweep = t.seed_sweep;
  tiles = t.tiles;
  seed = vec_items x.seed;
}

-- the tables that were read pose the case's problem
abbrev pub Reads : {X : Type 0} → ℕ → (List ℕ → X) → Contents → CaseTables X → Type 0
Reads width figure t x = posed_with t x ≡ posed_in width figure t
