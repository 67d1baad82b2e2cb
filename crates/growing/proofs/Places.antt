-- Steps taken first to last or last to first. Assumes nothing.
use Rattle.std.proofs.Common.{◌≡◌, ℕ, ◌<◌, Bool, true, false, refl, arith}
use Rattle.growing.specs.Passes.{place}

pub place_below : (backward : Bool) (n i : ℕ) → i < n → place backward n i < n
place_below true n i l = omega arith
place_below false n i l = l

-- every place has its turn
pub place_back : (backward : Bool) (n i : ℕ) → i < n → place backward n (place backward n i) ≡ i
place_back true n i l = omega arith
place_back false n i l = refl
