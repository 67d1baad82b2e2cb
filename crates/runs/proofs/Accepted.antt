-- What is known of a tile call that no check refuses. Assumes nothing.
use Rattle.std.proofs.Common.{◌≡◌, ℕ, ◌<◌, Bool, false, leb, List, length, None}
use Rattle.std.proofs.lemmas.Bool.{leb-false}
use Rattle.checks.specs.declared.Check.TheVariants.{NoSuchTile, TileDone}
use Rattle.checks.specs.declared.Layer.TheVariants.{Run}
use Rattle.checks.specs.Verdicts.{fault_if}
use Rattle.checks.proofs.Refusals.{fault_passed, both_passed}
use Rattle.matrix.specs.declared.tables.Table.TheVariants.{NewCoefficients, NewRightHandSide, NewVector}
use Rattle.matrix.specs.Tables.{length_fault}
use Rattle.matrix.specs.Patterns.{Pattern}
use Rattle.matrix.proofs.Passed.{length_passed}
use Rattle.arithmetic.specs.Meanings.{Meaning}
use Rattle.plans.specs.Tilings.{Tiling}
use Rattle.plans.specs.Words.{bit}
use Rattle.runs.specs.Calls.{Sizes, sizes_of, differing_fault, lengths_fault, tile_fault, call_fault, beginning_fault}

-- a call of a tile that there is, and that is not done
pub tile_free : (l : Tiling) (done : ℕ → Bool) (u : ℕ) → tile_fault l done u ≡ None → (u < l.count) × (done u ≡ false)
tile_free l done u e =
    let first = both_passed (fault_if Run NoSuchTile u (leb l.count u)) _ e in
    let second = both_passed (fault_if Run TileDone u (done u)) _ first.1 in
    (leb-false l.count u (fault_passed Run NoSuchTile u _ first.0), fault_passed Run TileDone u _ second.0)

pub call_free : (n : Sizes) (done : ℕ) (l : Tiling) (coefficients rhs x u : ℕ) → call_fault n done l coefficients rhs x u ≡ None → (u < l.count) × (bit done u ≡ false)
call_free n done l coefficients rhs x u e =
    let sized = both_passed (differing_fault n (sizes_of l)) _ e in
    let long = both_passed (lengths_fault l.pattern coefficients rhs x) _ sized.1 in
    tile_free l (bit done) u (both_passed (tile_fault l (bit done) u) None long.1).0

-- the right-hand side and the vector have a value for each row
pub lengths_are : (p : Pattern) (coefficients rhs x : ℕ) → lengths_fault p coefficients rhs x ≡ None → (rhs ≡ p.rows) × (x ≡ p.rows)
lengths_are p coefficients rhs x e =
    let first = both_passed (length_fault Run NewCoefficients coefficients p.entries) _ e in
    let second = both_passed (length_fault Run NewRightHandSide rhs p.rows) _ first.1 in
    let third = both_passed (length_fault Run NewVector x p.rows) None second.1 in
    (length_passed Run NewRightHandSide rhs p.rows second.0, length_passed Run NewVector x p.rows third.0)

-- a run that was begun has tables of the right lengths
pub begun_lengths : {C V : Type 0} (m : Meaning C V) (p : Pattern) (cs : List C) (bs x : List V) → beginning_fault m p cs bs x ≡ None → lengths_fault p (length cs) (length bs) (length x) ≡ None
begun_lengths m p cs bs x e = (both_passed (lengths_fault p (length cs) (length bs) (length x)) _ e).0
