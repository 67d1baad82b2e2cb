-- What the numbering, remapping and carrying keep, in the subject's words. Assumes nothing.
use Rattle.std.specs.Prelude.{◌≡◌, ℕ, ◌+◌, ◌*◌, ◌<◌, ◌⊎◌, List, length, None}
use Rattle.checks.specs.Lists.{at}
use Rattle.checks.specs.declared.Layer.{Layer}
use Rattle.matrix.specs.Patterns.{Pattern, linked, starts_fault, matrix_fault}
use Rattle.numbering.specs.Order.{tile, ranks, inverse, carried_rows, carried_entries, remapped, remapped_tiles, entries_back}
use Rattle.numbering.specs.Refusals.{ranks_fault}

-- two tables of r numbers below r, each the inverse of the other
pub record Numbering (r : ℕ) (rank row : List ℕ) : Type 0 where
  pub ranked : length rank ≡ r
  pub placed : length row ≡ r
  pub below : (v : ℕ) → v < r → at rank v < r
  pub there : (v : ℕ) → v < r → at row (at rank v) ≡ v
  pub inside : (i : ℕ) → i < r → at row i < r
  pub back : (i : ℕ) → i < r → at rank (at row i) ≡ i

-- ranks are a permutation, whatever the tile table holds, and table 7 is its inverse
abbrev pub RanksPermute : Type 0
RanksPermute = (r t : ℕ) (tiles : List ℕ) → Numbering r (ranks r t tiles) (inverse r (ranks r t tiles))

-- what ordering makes passes the check of ranks
abbrev pub RanksPass : Type 0
RanksPass = (r t : ℕ) (tiles : List ℕ) → ranks_fault r (ranks r t tiles) (inverse r (ranks r t tiles)) ≡ None

-- row v stands before row w: where their tiles first differ v's is lower, or none differ and v is the lower row
abbrev pub Before : ℕ → ℕ → List ℕ → ℕ → ℕ → Type 0
Before r t tiles v w =
    ((c : ℕ) × (c < t) × ((b : ℕ) → b < c → tile r tiles b v ≡ tile r tiles b w) × (tile r tiles c v < tile r tiles c w))
    ⊎ (((c : ℕ) → c < t → tile r tiles c v ≡ tile r tiles c w) × (v < w))

-- the rows by rank stand in lexicographic order of their tile vectors, equal vectors by row number
abbrev pub RowsInOrder : Type 0
RowsInOrder = (r t : ℕ) (tiles : List ℕ) (i j : ℕ) → i < j → j < r → Before r t tiles (at (inverse r (ranks r t tiles)) i) (at (inverse r (ranks r t tiles)) j)

-- a matrix and a numbering of its rows that have passed their checks
pub record Checked (layer : Layer) (m : Pattern) (rank row : List ℕ) : Type 0 where
  pub started : length m.starts ≡ m.rows + 1
  pub columned : length m.columns ≡ m.entries
  pub ranked : length rank ≡ m.rows
  pub placed : length row ≡ m.rows
  pub accepted : matrix_fault layer m ≡ None
  pub numbered : ranks_fault m.rows rank row ≡ None

-- what remapping makes of an accepted matrix is an accepted matrix
abbrev pub RemappedAccepted : Type 0
RemappedAccepted = (layer : Layer) (m : Pattern) (rank row : List ℕ) → Checked layer m rank row
    → (length (remapped m rank row).starts ≡ m.rows + 1) × (length (remapped m rank row).columns ≡ m.entries) × (matrix_fault layer (remapped m rank row) ≡ None)

-- rows are linked in the new numbering exactly where they were
abbrev pub LinksKept : Type 0
LinksKept = (layer : Layer) (m : Pattern) (rank row : List ℕ) → Checked layer m rank row
    → (v w : ℕ) → v < m.rows → w < m.rows → linked (remapped m rank row) (at rank v) (at rank w) ≡ linked m v w

-- each tile moves with its row
abbrev pub TilesMoved : Type 0
TilesMoved = (r t : ℕ) (rank row tiles : List ℕ) → Numbering r rank row → length tiles ≡ t * r
    → (length (remapped_tiles r t row tiles) ≡ t * r) × ((s v : ℕ) → s < t → v < r → tile r (remapped_tiles r t row tiles) s (at rank v) ≡ tile r tiles s v)

-- row elements carried there and back, and back and there, are what they were
abbrev pub RowsComeBack : Type 0 → Type 0
RowsComeBack X = (r : ℕ) (rank row : List ℕ) (xs : List X) → length rank ≡ r → length row ≡ r → length xs ≡ r → ranks_fault r rank row ≡ None
    → (carried_rows rank (carried_rows row xs) ≡ xs) × (carried_rows row (carried_rows rank xs) ≡ xs)

-- and so are entry elements
abbrev pub EntriesComeBack : Type 0 → Type 0
EntriesComeBack X = (layer : Layer) (m : Pattern) (rank row : List ℕ) (xs : List X)
    → length m.starts ≡ m.rows + 1 → length rank ≡ m.rows → length row ≡ m.rows → length xs ≡ m.entries → starts_fault layer m ≡ None → ranks_fault m.rows rank row ≡ None
    → (entries_back m rank row (carried_entries m row xs) ≡ xs) × (carried_entries m row (entries_back m rank row xs) ≡ xs)
