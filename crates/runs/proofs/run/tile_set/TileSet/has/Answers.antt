use Rattle.std.proofs.Common.{◌≡◌, ℕ, ◌^◌, ◌<◌, ◌≤◌, false, arith}
use Rattle.std.proofs.lemmas.Nat.Bits.{bit_at_above}
use Rattle.std.proofs.lemmas.Bool.{ne_eqb}
use Rattle.plans.specs.Words.{bit}
use Rattle.runs.proofs.run.tile_set.TileSet.has.Goals as goal

-- a word of 64 bits has no bit from 64 on
bit_past : (w t : ℕ) → w < 2 ^ 64 → 64 ≤ t → bit w t ≡ false
bit_past w t h l = ne_eqb _ _ (omega (arith, bit_at_above w 64 t h l))

pub returns : goal.returns
returns c = grind (arith, bit_past)
