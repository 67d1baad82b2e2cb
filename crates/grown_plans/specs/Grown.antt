-- What growing, ordering, remapping and laying out make of a matrix and a seed, and that it opens. Assumes nothing.
use Rattle.std.specs.Prelude.{◌≡◌, ℕ, ◌+◌, ◌*◌, true, List, length, None}
use Rattle.checks.specs.Verdicts.{first_fault}
use Rattle.matrix.specs.Patterns.{Pattern}
use Rattle.growing.specs.Growing.{tile_table_of}
use Rattle.growing.specs.Verdicts.{growing_fault}
use Rattle.numbering.specs.Order.{ranks, inverse, remapped, remapped_tiles}
use Rattle.numbering.specs.Refusals.{order_checks, remap_checks}
use Rattle.plans.specs.Tilings.{Tiling, lawful}
use Rattle.plans.specs.Opening.{laying_out_fault, opening_fault, laid_out}

-- the rank of each row in the tile table grown from a seed in sweep s
abbrev pub grown_ranks : Pattern → ℕ → ℕ → ℕ → List ℕ → List ℕ
grown_ranks m t s k seed = ranks m.rows t (tile_table_of m t s k seed)

-- the matrix and that tile table in the new numbering
abbrev pub grown_tiling : Pattern → ℕ → ℕ → ℕ → List ℕ → Tiling
grown_tiling m t s k seed =
    let rank = grown_ranks m t s k seed in
    let row = inverse m.rows rank in
    record { pattern = remapped m rank row; sweeps = t; count = k; tiles = remapped_tiles m.rows t row (tile_table_of m t s k seed) }

-- what holds of every matrix and seed that growing accepts, in tables of `cells` tiles and `marked` marks
abbrev pub OfAllAccepted : (Pattern → ℕ → ℕ → ℕ → List ℕ → Type 0) → Type 0
OfAllAccepted P = (m : Pattern) (t k s : ℕ) (seed : List ℕ) (cells marked : ℕ) → growing_fault m t k s seed cells marked ≡ None → P m t s k seed

-- ordering, remapping and laying out accept what is made on the way, in tables of their lengths
abbrev pub GrownPasses : Type 0
GrownPasses = OfAllAccepted (λ m t s k seed.
    let cells = length (tile_table_of m t s k seed) in
    let rank = grown_ranks m t s k seed in
    (first_fault (order_checks m.rows t cells m.rows m.rows m.rows) ≡ None)
    × (first_fault (remap_checks m t cells rank (inverse m.rows rank) (m.rows + 1) m.entries (t * m.rows)) ≡ None)
    × (laying_out_fault (grown_tiling m t s k seed) (t * m.rows) (k * t + 1) k ≡ None))

-- in the tiling that is grown no point is directly preceded by one of a higher tile
abbrev pub GrownIsLawful : Type 0
GrownIsLawful = OfAllAccepted (λ m t s k seed. lawful (grown_tiling m t s k seed) ≡ true)

-- opening accepts what laying out then makes
abbrev pub GrownOpens : Type 0
GrownOpens = OfAllAccepted (λ m t s k seed. opening_fault (laid_out (grown_tiling m t s k seed)) ≡ None)
