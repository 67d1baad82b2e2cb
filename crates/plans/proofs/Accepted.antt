-- What a matrix has whose checks pass. Assumes nothing.
use Rattle.std.proofs.Common.{◌≡◌, ℕ, ◌<◌, true, false, eqb, List, [], ◌∷◌, length, is_some, Some, None, Option, sym, refl, subst, ⊎_elim, arith}
use Rattle.std.specs.List.{AllByRecursion as All}
use Rattle.std.proofs.ByRecursion.{All-from_get_or, All-drop, All-take, All-get_or}
use Rattle.std.proofs.lemmas.Bool.{both_ways, not-false, ltb-true, eqb-true, or_cases}
use Rattle.checks.specs.declared.Check.TheVariants.{Column, Row}
use Rattle.checks.specs.declared.Layer.{Layer}
use Rattle.checks.specs.Lists.{at, some}
use Rattle.checks.proofs.Firsts.{lowest_passed}
use Rattle.checks.proofs.Refusals.{all_passed}
use Rattle.matrix.specs.Patterns.{Pattern, row_part, stores, bad_column, bad_row, starts_fault, columns_fault, rows_fault, matrix_fault}
use Rattle.plans.proofs.Members.{counted_some}

pub none_from : {X : Type 0} (o : Option X) → is_some o ≡ false → o ≡ None
none_from None e = refl
none_from (Some x) e = absurd (both_ways true e refl)

module _ (layer : Layer) (m : Pattern) (ok : is_some (matrix_fault layer m) ≡ false) where
  none : All (λ v. v ≡ None) (starts_fault layer m ∷ columns_fault layer m ∷ rows_fault layer m ∷ [])
  none = all_passed (starts_fault layer m ∷ columns_fault layer m ∷ rows_fault layer m ∷ []) (none_from (matrix_fault layer m) ok)

  column_below : (e : ℕ) → e < length m.columns → at m.columns e < m.rows
  column_below e h = ltb-true _ _ (not-false _ (lowest_passed layer Column (bad_column m) (length m.columns) none.1.0 e h))

  -- every column of a row names a row
  all_below : (v : ℕ) → All (λ w. w < m.rows) (row_part m m.columns v)
  all_below v = All-take (λ w. w < m.rows) _ _ (All-drop (λ w. w < m.rows) (at m.starts v) m.columns (All-from_get_or (λ w. w < m.rows) m.columns 0 column_below))

  pub part_below : (v i : ℕ) → i < length (row_part m m.columns v) → at (row_part m m.columns v) i < m.rows
  part_below v i h = All-get_or (λ w. w < m.rows) (row_part m m.columns v) i 0 h (all_below v)

  pub stored_below : (v w : ℕ) → stores m v w ≡ true → w < m.rows
  stored_below v w e = inside (row_part m m.columns v) (all_below v) e
    where
      inside : (xs : List ℕ) → All (λ w. w < m.rows) xs → some (eqb w) xs ≡ true → w < m.rows
      inside [] all e = absurd (both_ways false refl e)
      inside (x ∷ xs) all e = ⊎_elim (λ q. subst (λ n. n < m.rows) (sym (eqb-true w x q)) all.0) (λ q. inside xs all.1 q) (or_cases (eqb w x) (some (eqb w) xs) e)

  -- every row stores its own column
  pub own_stored : (v : ℕ) → v < m.rows → stores m v v ≡ true
  own_stored v h = counted_some (eqb v) (row_part m m.columns v) (omega (arith, eqb-true _ _ (not-false _ (lowest_passed layer Row (bad_row m) m.rows none.1.1.0 v h))))
