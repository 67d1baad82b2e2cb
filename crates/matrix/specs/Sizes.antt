-- The sizes: where each stands among the sizes, and what it may be. Assumes nothing.
use Rattle.std.specs.Prelude.{ℕ, ◌||◌, Option, nat_lt}
use Rattle.checks.specs.declared.Check.TheVariants as check
use Rattle.checks.specs.declared.Layer.{Layer}
use Rattle.checks.specs.declared.Fault.{Fault}
use Rattle.checks.specs.Verdicts.{fault_if}
use Rattle.matrix.specs.declared.sizes.Size.{Size}
use Rattle.matrix.specs.declared.sizes.Size.TheVariants.{Rows, Entries, Sweeps, Tiles, SeedSweep}

-- the place of a size in a fault
abbrev pub place_of : Size → ℕ
place_of (Rows r) = 1
place_of (Entries e) = 2
place_of (Sweeps t) = 3
place_of (Tiles k) = 4
place_of (SeedSweep s t) = 5

-- the value of a size
abbrev pub value_of : Size → ℕ
value_of (Rows r) = r
value_of (Entries e) = e
value_of (Sweeps t) = t
value_of (Tiles k) = k
value_of (SeedSweep s t) = s

-- the greatest that a size may be; the least is 1
abbrev pub limit_of : Size → ℕ
limit_of (Rows r) = 1_048_576
limit_of (Entries e) = 16_777_216
limit_of (Sweeps t) = 16
limit_of (Tiles k) = 64
limit_of (SeedSweep s t) = t

-- a size that is below 1 or above its limit
abbrev pub size_fault : Layer → Size → Option Fault
size_fault layer s = fault_if layer check.Size (place_of s) (nat_lt (value_of s) 1 || nat_lt (limit_of s) (value_of s))
