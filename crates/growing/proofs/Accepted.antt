-- What growing's checks leave where none fails. Assumes nothing.
use Rattle.std.proofs.Common.{◌≡◌, ℕ, ◌+◌, ◌-◌, ◌*◌, ◌<◌, ◌≤◌, false, not, ◌&&◌, ◌||◌, eqb, ltb, List, length, None, sym, refl, ◌∙◌, subst, ⊎_elim, arith}
use Rattle.std.proofs.ByRecursion.{All-from_get_or}
use Rattle.std.proofs.lemmas.Bool.{or_parts, and_cases, ltb-true, ltb-false, eqb-true, eq-eqb, not-false, both_ways}
use Rattle.checks.specs.declared.Check.TheVariants as check
use Rattle.checks.specs.declared.Layer.TheVariants.{Matrix}
use Rattle.checks.specs.Lists.{at}
use Rattle.checks.proofs.Firsts.{lowest_passed}
use Rattle.checks.proofs.Refusals.{fault_passed, both_passed}
use Rattle.matrix.specs.declared.sizes.Size.TheVariants as Size
use Rattle.matrix.specs.declared.sizes.Size.TheVariants.{Rows, Entries, Sweeps, SeedSweep}
use Rattle.matrix.specs.declared.tables.Table.TheVariants as Table
use Rattle.matrix.specs.declared.tables.Table.TheVariants.{RowStarts, Columns, TileTable, Marks}
use Rattle.matrix.specs.Sizes.{size_fault}
use Rattle.matrix.specs.Tables.{length_fault}
use Rattle.matrix.proofs.Passed.{length_passed}
use Rattle.matrix.specs.Patterns.{Pattern, bad_start, bad_column, starts_fault, columns_fault, matrix_fault}
use Rattle.growing.specs.Greatest.{Tiles}
use Rattle.growing.specs.Marks.{Sound}
use Rattle.growing.specs.Verdicts.{growing_fault, sizes_fault, lengths_fault, seed_fault, bad_seed}

module _ (m : Pattern) where
  -- a start that is not bad: 0 if it is the first, not below its predecessor, the number of entries if it is the last
  start_parts : (i : ℕ) → bad_start m i ≡ false → ((eqb i 0 && not (eqb (at m.starts 0) 0)) ≡ false) × (at m.starts (i - 1) ≤ at m.starts i) × ((eqb i m.rows && not (eqb (at m.starts i) m.entries)) ≡ false)
  start_parts i e =
      let p = or_parts ((eqb i 0 && not (eqb (at m.starts 0) 0)) || ltb (at m.starts i) (at m.starts (i - 1))) (eqb i m.rows && not (eqb (at m.starts i) m.entries)) e in
      let q = or_parts (eqb i 0 && not (eqb (at m.starts 0) 0)) (ltb (at m.starts i) (at m.starts (i - 1))) p.0 in
      (q.0, ltb-false (at m.starts i) (at m.starts (i - 1)) q.1, p.1)

  there : (i j a b : ℕ) → i ≡ j → (eqb i j && not (eqb a b)) ≡ false → a ≡ b
  there i j a b d e = ⊎_elim (λ q. absurd (both_ways (eqb i j) q (eq-eqb i j d))) (λ q. eqb-true a b (not-false (eqb a b) q)) (and_cases (eqb i j) (not (eqb a b)) e)

  sound_from : length m.starts ≡ m.rows + 1 → length m.columns ≡ m.entries → ((i : ℕ) → i < length m.starts → bad_start m i ≡ false) → ((e : ℕ) → e < length m.columns → bad_column m e ≡ false) → Sound m
  sound_from long wide starts columns = record {
    long = long;
    begins = there 0 0 (at m.starts 0) 0 refl (start_parts 0 (starts 0 (omega arith))).0;
    rises = λ v l. let e : v + 1 - 1 ≡ v = omega arith in subst (λ i. at m.starts i ≤ at m.starts (v + 1)) e (start_parts (v + 1) (starts (v + 1) (omega arith))).1;
    ends = there m.rows m.rows (at m.starts m.rows) m.entries refl (start_parts m.rows (starts m.rows (omega arith))).2 ∙ sym wide;
    inside = All-from_get_or (λ w. w < m.rows) m.columns 0 (λ e l. ltb-true (at m.columns e) m.rows (not-false _ (columns e l)));
  }

module _ (m : Pattern) (t k s : ℕ) (seed : List ℕ) (cells marked : ℕ) where
  pub record Accepted : Type 0 where
    pub sound : Sound m
    pub some : 0 < m.rows
    pub tiles : Tiles m k seed
    pub first : 0 < s
    pub last : s ≤ t
    pub cells_are : cells ≡ t * m.rows
    pub marked_are : marked ≡ length m.columns

  pub accepted : growing_fault m t k s seed cells marked ≡ None → Accepted
  accepted e =
      let whole = both_passed (sizes_fault m t k s) _ e in
      let after_sizes = both_passed (lengths_fault m t seed cells marked) _ whole.1 in
      let after_lengths = both_passed (matrix_fault Matrix m) _ after_sizes.1 in
      let seed_passed = (both_passed (seed_fault k seed) _ after_lengths.1).0 in
      let rows_size = both_passed (size_fault Matrix (Rows m.rows)) _ whole.0 in
      let entries_size = both_passed (size_fault Matrix (Entries m.entries)) _ rows_size.1 in
      let sweeps_size = both_passed (size_fault Matrix (Sweeps t)) _ entries_size.1 in
      let tiles_size = both_passed (size_fault Matrix (Size.Tiles k)) _ sweeps_size.1 in
      let seed_size = or_parts (ltb s 1) (ltb t s) (fault_passed Matrix check.Size 5 _ (both_passed (size_fault Matrix (SeedSweep s t)) _ tiles_size.1).0) in
      let starts_length = both_passed (length_fault Matrix RowStarts (length m.starts) (m.rows + 1)) _ after_sizes.0 in
      let columns_length = both_passed (length_fault Matrix Columns (length m.columns) m.entries) _ starts_length.1 in
      let seed_length = both_passed (length_fault Matrix Table.Seed (length seed) m.rows) _ columns_length.1 in
      let cells_length = both_passed (length_fault Matrix TileTable cells (t * m.rows)) _ seed_length.1 in
      let marks_length = both_passed (length_fault Matrix Marks marked m.entries) _ cells_length.1 in
      let long = length_passed Matrix RowStarts (length m.starts) (m.rows + 1) starts_length.0 in
      let wide = length_passed Matrix Columns (length m.columns) m.entries columns_length.0 in
      let starts_passed = both_passed (starts_fault Matrix m) _ after_lengths.0 in
      let columns_passed = both_passed (columns_fault Matrix m) _ starts_passed.1 in
      let n = length_passed Matrix Table.Seed (length seed) m.rows seed_length.0 in
      record {
        sound = sound_from m long wide (lowest_passed Matrix check.RowStart (bad_start m) (length m.starts) starts_passed.0) (lowest_passed Matrix check.Column (bad_column m) (length m.columns) columns_passed.0);
        some = let z = ltb-false m.rows 1 (or_parts (ltb m.rows 1) (ltb 1_048_576 m.rows) (fault_passed Matrix check.Size 1 _ rows_size.0)).0 in omega arith;
        tiles = (n, λ v l. ltb-true (at seed v) k (not-false _ (lowest_passed Matrix check.Seed (bad_seed k seed) (length seed) seed_passed v (omega arith))));
        first = omega (arith, ltb-false s 1 seed_size.0);
        last = ltb-false t s seed_size.1;
        cells_are = length_passed Matrix TileTable cells (t * m.rows) cells_length.0;
        marked_are = length_passed Matrix Marks marked m.entries marks_length.0 ∙ sym wide;
      }
