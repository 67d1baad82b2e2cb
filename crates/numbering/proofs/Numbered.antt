-- What ranks and rows by rank are to one another once they have passed their check. Assumes nothing.
use Rattle.std.proofs.Common.{◌≡◌, ℕ, zero, suc, ◌<◌, cond, not, eqb, ltb, List, map, length, None, sum_by, sym, ap, ◌∙◌, inl, inr, arith}
use Rattle.std.proofs.lemmas.List.FromFn.{length-range_with_len, get_or-range_with_len, fill_by_all}
use Rattle.std.proofs.lemmas.List.{length-map, get_or-map, map-id, ext_get_or}
use Rattle.std.proofs.lemmas.Bool.{cases_eq, eqb-true, eq-eqb, ne_eqb, lt-ltb, ltb-true, not-false, not_from_true, or_parts, or_from, cond-true, cond-false}
use Rattle.checks.specs.Lists.{at, upto}
use Rattle.checks.specs.declared.Check.TheVariants.{Rank}
use Rattle.checks.specs.declared.Layer.TheVariants.{Plan}
use Rattle.checks.proofs.Firsts.{lowest_none, lowest_passed}
use Rattle.numbering.specs.Refusals.{bad_rank, ranks_fault}
use Rattle.numbering.specs.Laws.{Numbering}
use Rattle.numbering.proofs.Tallies.{total, total_same, total_swap, pick, sum_all}

-- a map of the numbers below n into themselves that never repeats leaves none out
pub no_gap : (n : ℕ) (f : ℕ → ℕ) → ((v : ℕ) → v < n → f v < n) → ((v w : ℕ) → v < n → w < n → f v ≡ f w → v ≡ w) → (i : ℕ) → i < n → (v : ℕ) × (v < n) × (f v ≡ i)
no_gap zero f small once i hi = absurd (omega arith)
no_gap (suc n) f small once i hi = go (no_gap n f' small' once')
  where
    f' : ℕ → ℕ
    f' v = cond (eqb (f v) n) (f n) (f v)

    f'_moved : (v : ℕ) → f v ≡ n → f' v ≡ f n
    f'_moved v e = cond-true (eqb (f v) n) (f n) (f v) (eq-eqb _ _ e)

    f'_kept : (v : ℕ) → (f v ≡ n → ⊥) → f' v ≡ f v
    f'_kept v e = cond-false (eqb (f v) n) (f n) (f v) (ne_eqb _ _ e)

    small' : (v : ℕ) → v < n → f' v < n
    small' v hv = elim (cases_eq (f v) n) [
      | inl e ↦ let ne : f n ≡ n → ⊥ = λ q. let r = once v n (omega arith) (omega arith) (e ∙ sym q) in omega arith in omega (arith, f'_moved v e, small n (omega arith))
      | inr e ↦ omega (arith, f'_kept v e, small v (omega arith))
    ]

    once' : (v w : ℕ) → v < n → w < n → f' v ≡ f' w → v ≡ w
    once' v w hv hw q = elim (cases_eq (f v) n) [
      | inl e ↦ elim (cases_eq (f w) n) [
        | inl r ↦ once v w (omega arith) (omega arith) (e ∙ sym r)
        | inr r ↦ absurd (let z = once n w (omega arith) (omega arith) (sym (f'_moved v e) ∙ q ∙ f'_kept w r) in omega arith)
      ]
      | inr e ↦ elim (cases_eq (f w) n) [
        | inl r ↦ absurd (let z = once v n (omega arith) (omega arith) (sym (f'_kept v e) ∙ q ∙ f'_moved w r) in omega arith)
        | inr r ↦ once v w (omega arith) (omega arith) (sym (f'_kept v e) ∙ q ∙ f'_kept w r)
      ]
    ]

    go : ((j : ℕ) → j < n → (v : ℕ) × (v < n) × (f' v ≡ j)) → (v : ℕ) × (v < suc n) × (f v ≡ i)
    go prev = elim (cases_eq (f n) i) [
      | inl e ↦ (n, omega arith, e)
      | inr e ↦ elim (cases_eq i n) [
        | inl top ↦
            let r = prev (f n) (omega (arith, small n (omega arith))) in
            elim (cases_eq (f r.0) n) [
              | inl q ↦ (r.0, omega (arith, r.1), q ∙ sym top)
              | inr q ↦ absurd (let z = once r.0 n (omega (arith, r.1)) (omega arith) (sym (f'_kept r.0 q) ∙ r.2) in omega (arith, r.1))
            ]
        | inr low ↦
            let r = prev i (omega arith) in
            elim (cases_eq (f r.0) n) [
              | inl q ↦ absurd (e (sym (f'_moved r.0 q) ∙ r.2))
              | inr q ↦ (r.0, omega (arith, r.1), sym (f'_kept r.0 q) ∙ r.2)
            ]
      ]
    ]

pub turned : {r : ℕ} {rank row : List ℕ} → Numbering r rank row → Numbering r row rank
turned n = record { ranked = n.placed; placed = n.ranked; below = n.inside; there = n.back; inside = n.below; back = n.there }

pub renumbered : {r : ℕ} {rank row : List ℕ} → Numbering r rank row → map (at row) rank ≡ upto r
renumbered {r} {rank} {row} n =
    fill_by_all (λ v. v) (map (at row) rank) r 0 (length-map rank (at row) ∙ n.ranked) (λ v h. get_or-map (at row) rank v 0 0 (omega (arith, n.ranked)) ∙ n.there v h) ∙ map-id (upto r)

-- a table that has each rank at its row is the ranks
pub written : {r : ℕ} {rank row : List ℕ} → Numbering r rank row → (xs : List ℕ) → length xs ≡ r → ((i : ℕ) → i < r → at xs (at row i) ≡ i) → xs ≡ rank
written {r} {rank} {row} n xs long each =
    ext_get_or 0 xs rank (long ∙ sym n.ranked) (λ v l. let h : v < r = omega arith in ap (at xs) (sym (n.there v h)) ∙ each (at rank v) (n.below v h))

-- one way suffices
pub numbering_from : (r : ℕ) (rank row : List ℕ) → length rank ≡ r → length row ≡ r → ((v : ℕ) → v < r → (at rank v < r) × (at row (at rank v) ≡ v)) → Numbering r rank row
numbering_from r rank row lr lw each =
    record {
      ranked = lr;
      placed = lw;
      below = λ v h. (each v h).0;
      there = λ v h. (each v h).1;
      inside = λ i h. let e = met i h in omega (arith, e.1, ap (at row) (sym e.2), (each e.0 e.1).1);
      back = λ i h. let e = met i h in ap (at rank) (ap (at row) (sym e.2) ∙ (each e.0 e.1).1) ∙ e.2;
    }
  where
    met : (i : ℕ) → i < r → (v : ℕ) × (v < r) × (at rank v ≡ i)
    met = no_gap r (at rank) (λ v h. (each v h).0) (λ v w hv hw e. sym (each v hv).1 ∙ ap (at row) e ∙ (each w hw).1)

pub numbering_passed : (r : ℕ) (rank row : List ℕ) → length rank ≡ r → length row ≡ r → ranks_fault r rank row ≡ None → Numbering r rank row
numbering_passed r rank row lr lw e =
    numbering_from r rank row lr lw (λ v h.
    let p = or_parts (not (ltb (at rank v) r)) (not (eqb (at row (at rank v)) v)) (lowest_passed Plan Rank (bad_rank r rank row) r e v h) in
    (ltb-true _ _ (not-false _ p.0), eqb-true _ _ (not-false _ p.1)))

pub numbering_passes : (r : ℕ) (rank row : List ℕ) → Numbering r rank row → ranks_fault r rank row ≡ None
numbering_passes r rank row n =
    lowest_none Plan Rank (bad_rank r rank row) r (λ v h.
    or_from (not (ltb (at rank v) r)) (not (eqb (at row (at rank v)) v)) (not_from_true _ (lt-ltb _ _ (n.below v h))) (not_from_true _ (eq-eqb _ _ (n.there v h))))

module _ {r : ℕ} {rank row : List ℕ} (num : Numbering r rank row) (f : ℕ → ℕ) where
  one : (v : ℕ) → v < r → total (λ i. cond (eqb (at row i) v) (f v) 0) r ≡ f v
  one v h =
      total_same _ (λ i. cond (eqb (at rank v) i) (f v) 0) r (λ i q. ap (λ b. cond b (f v) 0) (same i q)) ∙ pick (λ _. f v) (at rank v) r (num.below v h)
    where
      same : (i : ℕ) → i < r → eqb (at row i) v ≡ eqb (at rank v) i
      same i q = elim (cases_eq (at row i) v) [
        | inl e ↦ eq-eqb _ _ e ∙ sym (eq-eqb (at rank v) i (sym (ap (at rank) e) ∙ num.back i q))
        | inr e ↦ ne_eqb _ _ e ∙ sym (ne_eqb (at rank v) i (λ w. e (sym (ap (at row) w) ∙ num.there v h)))
      ]

  -- a sum over all rows, in the order of their ranks
  pub total_renumbered : total (λ i. f (at row i)) r ≡ total f r
  total_renumbered =
      total_same _ (λ i. total (λ v. cond (eqb (at row i) v) (f v) 0) r) r (λ i h. sym (pick f (at row i) r (num.inside i h)))
      ∙ total_swap (λ i v. cond (eqb (at row i) v) (f v) 0) r r
      ∙ total_same _ f r one

  pub sum_renumbered : sum_by f row ≡ sum_by f (upto r)
  sum_renumbered =
      sum_all f row r num.placed ∙ total_renumbered ∙ total_same f (λ i. f (at (upto r) i)) r (λ v h. ap f (sym (get_or-range_with_len 0 r v 0 h ∙ omega arith)))
      ∙ sym (sum_all f (upto r) r (length-range_with_len 0 r))
