-- What a size or a length that passes its check is, and the other way, in every layer. Assumes nothing.
use Rattle.std.proofs.Common.{◌≡◌, ℕ, ◌≤◌, ltb, None}
use Rattle.std.proofs.lemmas.Bool.{or_parts, or_from, ltb-false, le-ltb, eqb-true, eq-eqb, not-false, not_from_true}
use Rattle.checks.specs.declared.Layer.{Layer}
use Rattle.checks.proofs.Refusals.{fault_passed, fault_none}
use Rattle.matrix.specs.declared.sizes.Size.{Size}
use Rattle.matrix.specs.declared.tables.Table.{Table}
use Rattle.matrix.specs.Sizes.{value_of, limit_of, place_of, size_fault}
use Rattle.matrix.specs.Tables.{table_number, length_fault}

pub size_passed : (layer : Layer) (s : Size) → size_fault layer s ≡ None → (1 ≤ value_of s) × (value_of s ≤ limit_of s)
size_passed layer s e =
    let p = or_parts (ltb (value_of s) 1) (ltb (limit_of s) (value_of s)) (fault_passed layer _ (place_of s) _ e) in
    (ltb-false _ _ p.0, ltb-false _ _ p.1)

pub size_none : (layer : Layer) (s : Size) → 1 ≤ value_of s → value_of s ≤ limit_of s → size_fault layer s ≡ None
size_none layer s low high = fault_none layer _ (place_of s) _ (or_from (ltb (value_of s) 1) (ltb (limit_of s) (value_of s)) (le-ltb _ _ low) (le-ltb _ _ high))

pub length_passed : (layer : Layer) (t : Table) (n wanted : ℕ) → length_fault layer t n wanted ≡ None → n ≡ wanted
length_passed layer t n wanted e = eqb-true _ _ (not-false _ (fault_passed layer _ (table_number t) _ e))

pub length_none : (layer : Layer) (t : Table) (n wanted : ℕ) → n ≡ wanted → length_fault layer t n wanted ≡ None
length_none layer t n wanted e = fault_none layer _ (table_number t) _ (not_from_true _ (eq-eqb _ _ e))
