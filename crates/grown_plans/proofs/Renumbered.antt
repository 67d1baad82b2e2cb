-- A rising tile table in the order of its rows is lawful in the new numbering. Assumes nothing.
use Rattle.std.proofs.Common.{◌≡◌, ℕ, suc, ◌+◌, ◌*◌, ◌/◌, ◌%◌, ◌<◌, ◌≤◌, true, not, ◌&&◌, ◌||◌, eqb, ltb, List, length, sym, ap, ◌∙◌, subst, ap₂, inl, inr, arith}
use Rattle.std.proofs.lemmas.Nat.{div-add-mod', div_below, mod_below}
use Rattle.std.proofs.lemmas.Bool.{or_cases, and_parts, eqb-true, ltb-true, not_from_false}
use Rattle.checks.specs.declared.Layer.{Layer}
use Rattle.checks.specs.Lists.{at}
use Rattle.matrix.specs.Patterns.{Pattern, linked}
use Rattle.numbering.specs.Order.{tile, remapped, remapped_tiles}
use Rattle.numbering.specs.Laws.{Numbering, Before, Checked}
use Rattle.numbering.proofs.Carried.{tiles_moved}
use Rattle.numbering.proofs.Kept.{links_stay}
use Rattle.points.specs.Points.{Lawful}
use Rattle.points.proofs.Uptos.{every_from}
use Rattle.points.proofs.Waits.{lawful_told}
use Rattle.plans.specs.Tilings.{Tiling, points_of, tile_of, precedes, overtaken_at, lawful}
use Rattle.grown_plans.proofs.Tables.{Rising}

module _ (layer : Layer) (m : Pattern) (t k : ℕ) (rank row tiles : List ℕ) (rows : 1 ≤ m.rows) (rising : Rising m t k tiles)
    (num : Numbering m.rows rank row) (ok : Checked layer m rank row) (sorted : (i j : ℕ) → i < j → j < m.rows → Before m.rows t tiles (at row i) (at row j)) where
  abbrev renumbered : Tiling
  renumbered = record { pattern = remapped m rank row; sweeps = t; count = k; tiles = remapped_tiles m.rows t row tiles }

  pub long : length (remapped_tiles m.rows t row tiles) ≡ t * m.rows
  long = (tiles_moved m.rows t rank row tiles num rising.long).0

  -- the tile of the row of rank i
  is : (c i : ℕ) → c < t → i < m.rows → tile_of renumbered c i ≡ tile m.rows tiles c (at row i)
  is c i l h = ap (tile_of renumbered c) (sym (num.back i h)) ∙ (tiles_moved m.rows t rank row tiles num rising.long).1 c (at row i) l (num.inside i h)

  links : (i j : ℕ) → i < m.rows → j < m.rows → linked (remapped m rank row) i j ≡ linked m (at row i) (at row j)
  links i j hi hj = ap₂ (linked (remapped m rank row)) (sym (num.back i hi)) (sym (num.back j hj)) ∙ links_stay layer m rank row ok (at row i) (at row j) (num.inside i hi) (num.inside j hj)

  small : (c i : ℕ) → c < t → i < m.rows → tile_of renumbered c i < k
  small c i l h = omega (arith, is c i l h, rising.small c (at row i) l (num.inside i h))

  pub below : (p : ℕ) → p < length (remapped_tiles m.rows t row tiles) → at (remapped_tiles m.rows t row tiles) p < k
  below p h = subst (λ q. at (remapped_tiles m.rows t row tiles) q < k) (div-add-mod' p m.rows) (small (p / m.rows) (p % m.rows) (div_below p m.rows t rows (omega (arith, long))) (mod_below p m.rows rows))

  rises : (c i d j : ℕ) → c < t → i < m.rows → d < t → j < m.rows → precedes renumbered c i d j ≡ true → tile_of renumbered c i ≤ tile_of renumbered d j
  rises c i d j hc hi hd hj p = elim (or_cases (eqb d (suc c) && (eqb i j || linked (remapped m rank row) i j)) _ p) [
    | inl later ↦ onward (and_parts (eqb d (suc c)) _ later)
    | inr now ↦ inside (and_parts (eqb d c) _ now)
  ]
    where
      ri : at row i < m.rows
      ri = num.inside i hi

      rj : at row j < m.rows
      rj = num.inside j hj

      along : tile m.rows tiles c (at row i) ≤ tile m.rows tiles d (at row j) → tile_of renumbered c i ≤ tile_of renumbered d j
      along h = omega (arith, is c i hc hi, is d j hd hj)

      onward : (eqb d (suc c) ≡ true) × ((eqb i j || linked (remapped m rank row) i j) ≡ true) → tile_of renumbered c i ≤ tile_of renumbered d j
      onward q =
          let step : c + 1 ≡ d = omega (arith, eqb-true d (suc c) q.0) in
          along (subst (λ x. tile m.rows tiles c (at row i) ≤ tile m.rows tiles x (at row j)) step (elim (or_cases (eqb i j) _ q.1) [
            | inl own ↦ subst (λ x. tile m.rows tiles c (at row i) ≤ tile m.rows tiles (c + 1) (at row x)) (eqb-true i j own) (rising.own c (at row i) (omega arith) ri)
            | inr link ↦ rising.next c (at row i) (at row j) (omega arith) ri rj (sym (links i j hi hj) ∙ link)
          ]))

      inside : (eqb d c ≡ true) × ((linked (remapped m rank row) i j && ltb i j) ≡ true) → tile_of renumbered c i ≤ tile_of renumbered d j
      inside q =
          let r = and_parts (linked (remapped m rank row) i j) _ q.1 in
          along (subst (λ x. tile m.rows tiles c (at row i) ≤ tile m.rows tiles x (at row j)) (sym (eqb-true d c q.0))
          (rising.order c (at row i) (at row j) hc ri rj (sym (links i j hi hj) ∙ r.0) (sorted i j (ltb-true i j r.1) hj)))

  rises_all : Lawful (precedes renumbered) m.rows t k (tile_of renumbered)
  rises_all = record { small = small; rises = rises }

  pub is_lawful : lawful renumbered ≡ true
  is_lawful = every_from (λ q. not (overtaken_at renumbered q)) (points_of renumbered) (λ q h. not_from_false _
      ((lawful_told (precedes renumbered) m.rows t k (tile_of renumbered) small).1 rises_all (q / m.rows) (q % m.rows) (div_below q m.rows t rows h) (mod_below q m.rows rows)))
