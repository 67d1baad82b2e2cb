-- The grown sweeps as a tile table, in which tiles rise from sweep to sweep and in the order of the rows. Assumes nothing.
use Rattle.std.proofs.Common.{◌≡◌, ℕ, zero, suc, ◌+◌, ◌*◌, ◌<◌, ◌≤◌, true, List, [], ◌∷◌, length, get_or, ap, ◌∙◌, inl, inr, suc-mul, arith, length-append}
use Rattle.std.specs.List.{flat_map}
use Rattle.std.proofs.lemmas.List.{get_or_append_left, get_or-append-add}
use Rattle.checks.specs.Lists.{at}
use Rattle.matrix.specs.Patterns.{Pattern, linked}
use Rattle.growing.specs.Growing.{sweeps, tile_table_of}
use Rattle.growing.specs.Greatest.{Tiles, NeverFalls, NeverCross, NeverAhead}
use Rattle.growing.proofs.Whole.{sweeps_are_grown}
use Rattle.growing.proofs.Orders.{never_falls, never_cross, never_ahead, tiles_stay}
use Rattle.numbering.specs.Order.{tile}
use Rattle.numbering.specs.Laws.{Before}

-- sweeps of one length r, one after the other
module _ (r : ℕ) where
  length_sweeps : (gs : List (List ℕ)) → ((c : ℕ) → c < length gs → length (get_or gs c []) ≡ r) → length (flat_map (λ g. g) gs) ≡ length gs * r
  length_sweeps [] level = omega arith
  length_sweeps (g ∷ gs) level =
      let one = level 0 (omega arith) in
      let more = length_sweeps gs (λ c l. level (suc c) (omega arith)) in
      length-append g (flat_map (λ g. g) gs) ∙ omega (arith, suc-mul (length gs) r)

  sweep_tile : (gs : List (List ℕ)) → ((c : ℕ) → c < length gs → length (get_or gs c []) ≡ r) → (c v : ℕ) → c < length gs → v < r → tile r (flat_map (λ g. g) gs) c v ≡ at (get_or gs c []) v
  sweep_tile [] level c v l h = absurd (omega arith)
  sweep_tile (g ∷ gs) level zero v l h =
      let one = level 0 (omega arith) in
      let e : 0 * r + v ≡ v = omega arith in
      ap (at (flat_map (λ g. g) (g ∷ gs))) e ∙ get_or_append_left g (flat_map (λ g. g) gs) 0 v (omega arith)
  sweep_tile (g ∷ gs) level (suc c) v l h =
      let one = level 0 (omega arith) in
      let e : suc c * r + v ≡ length g + (c * r + v) = omega (arith, suc-mul c r) in
      ap (at (flat_map (λ g. g) (g ∷ gs))) e ∙ get_or-append-add g (flat_map (λ g. g) gs) (c * r + v) 0 ∙ sweep_tile gs (λ c l. level (suc c) (omega arith)) c v (omega arith) h

-- tiles below k that rise from sweep to sweep, and inside a sweep from row to linked row in the rows' order
pub record Rising (m : Pattern) (t k : ℕ) (tiles : List ℕ) : Type 0 where
  pub long : length tiles ≡ t * m.rows
  pub small : (c v : ℕ) → c < t → v < m.rows → tile m.rows tiles c v < k
  pub own : (c v : ℕ) → c + 1 < t → v < m.rows → tile m.rows tiles c v ≤ tile m.rows tiles (c + 1) v
  pub next : (c v w : ℕ) → c + 1 < t → v < m.rows → w < m.rows → linked m v w ≡ true → tile m.rows tiles c v ≤ tile m.rows tiles (c + 1) w
  pub order : (c v w : ℕ) → c < t → v < m.rows → w < m.rows → linked m v w ≡ true → Before m.rows t tiles v w → tile m.rows tiles c v ≤ tile m.rows tiles c w

module _ (m : Pattern) (t k : ℕ) (gs : List (List ℕ)) (count : length gs ≡ t) (each : (c : ℕ) → c < t → Tiles m k (get_or gs c [])) (falls : NeverFalls m gs) (cross : NeverCross m gs) (ahead : NeverAhead m gs) where
  level : (c : ℕ) → c < length gs → length (get_or gs c []) ≡ m.rows
  level c l = (each c (omega arith)).0

  abbrev tiles : List ℕ
  tiles = flat_map (λ g. g) gs

  is : (c v : ℕ) → c < t → v < m.rows → tile m.rows tiles c v ≡ at (get_or gs c []) v
  is c v l h = sweep_tile m.rows gs level c v (omega arith) h

  ordered : (c v w : ℕ) → c < t → v < m.rows → w < m.rows → linked m v w ≡ true → Before m.rows t tiles v w → tile m.rows tiles c v ≤ tile m.rows tiles c w
  ordered c v w l hv hw link (inl (d, hd, same, lower)) =
      omega (arith, is c v l hv, is c w l hw, cross d c v w (omega arith) (omega arith) hv hw link (omega (arith, is d v hd hv, is d w hd hw)))
  ordered c v w l hv hw link (inr (same, lower)) = omega (arith, same c l)

  pub rising : Rising m t k (flat_map (λ g. g) gs)
  rising = record {
    long = length_sweeps m.rows gs level ∙ ap (λ n. n * m.rows) count;
    small = λ c v l h. omega (arith, is c v l h, (each c l).1 v h);
    own = λ c v l h. omega (arith, is c v (omega arith) h, is (c + 1) v l h, falls c v (omega arith) h);
    next = λ c v w l hv hw link. omega (arith, is c v (omega arith) hv, is (c + 1) w l hw, ahead c v w (omega arith) hv hw link);
    order = ordered;
  }

-- what is grown from a seed with tiles below k
pub grown_rises : (m : Pattern) (t s k : ℕ) (seed : List ℕ) → 0 < s → s ≤ t → Tiles m k seed → Rising m t k (tile_table_of m t s k seed)
grown_rises m t s k seed p l seeded =
    rising m t k (sweeps m t s k seed) (sweeps_are_grown m t s k seed p l seeded).count (tiles_stay m t s k seed p l seeded)
    (never_falls m t s k seed p l seeded) (never_cross m t s k seed p l seeded) (never_ahead m t s k seed p l seeded)
