-- The seed, the sweeps below it and the sweeps above it are all. Assumes nothing.
use Rattle.std.proofs.Common.{◌≡◌, ℕ, suc, ◌+◌, ◌-◌, ◌*◌, ◌≤◌, List, [], ◌∷◌, length, replicate, sym, ap, ◌∙◌, subst, suc-mul, arith}
use Rattle.std.specs.List.{flat_map}
use Rattle.std.proofs.lemmas.List.{take_all}
use Rattle.std.proofs.lemmas.Bool.{both_ways}
use Rattle.matrix.specs.Patterns.{Pattern, row_part}
use Rattle.growing.specs.declared.direction.Direction.TheVariants.{Down}
use Rattle.growing.specs.Growing.{down, up, sweeps, marks_of, marks}
use Rattle.growing.specs.Greatest.{Tiles}
use Rattle.growing.specs.Marks.{Sound, remarked_all}
use Rattle.growing.specs.Sweeps.{sweep_at, sweeps_in, Held, GrownDown, GrownUp, Filled}
use Rattle.growing.proofs.Orders.{none_before, one_way_seed}
use Rattle.growing.proofs.Remarks.{zeros_rows, remarked_is}
use Rattle.growing.proofs.Ranges.{sweeps_whole}

module _ (m : Pattern) (s : Sound m) where
  -- the seed alone
  pub seed_held : (k : ℕ) (seed zeros seed_marks : List ℕ) → Tiles m k seed → zeros ≡ replicate (length m.columns) 0 → seed_marks ≡ remarked_all m seed zeros → Held m k seed (seed ∷ []) seed_marks
  seed_held k seed zeros seed_marks t z e = record {
    tiles = t;
    one_way = one_way_seed m seed;
    marked = e ∙ remarked_is Down m seed [] (λ v w lv lw b. absurd (both_ways _ (none_before m v w) b)) s zeros (λ v l. ap (λ u. row_part m u v) z ∙ zeros_rows m s v);
  }

  module _ (from last : ℕ) (order : from ≤ last) (seed x y z zeros seed_marks down_marks up_marks : List ℕ) (long : length z ≡ last * m.rows + m.rows)
      (put : sweep_at m.rows x from ≡ seed) (clear : zeros ≡ replicate (length m.columns) 0) (marked : seed_marks ≡ remarked_all m seed zeros)
      (below : GrownDown m from 0 x y seed_marks down_marks) (above : GrownUp m (suc last) from last y z down_marks up_marks) where
    all_grown : (k : ℕ) → Tiles m k seed → (sweeps_in m.rows z 0 (suc last) ≡ sweeps m (suc last) (suc from) k seed) × (up_marks ≡ marks m (suc last) (suc from) k seed)
    all_grown k t =
        let r = m.rows in
        let held = seed_held k seed zeros seed_marks t clear marked in
        let p = below.grows k (subst (λ g. Held m k g (g ∷ []) seed_marks) (sym put) held) in
        let n : suc from - 0 ≡ suc from = omega arith in
        let n1 : from ≡ suc from - 1 = omega arith in
        let n0 : suc last - suc last ≡ 0 = omega arith in
        let lowest : sweeps_in r y 0 (suc from) ≡ down m k (suc from - 1) seed (seed ∷ []) =
        ap (sweeps_in r y 0) (sym n) ∙ p.0 ∙ ap (λ g. down m k from g (g ∷ [])) put ∙ ap (λ i. down m k i seed (seed ∷ [])) n1 in
        let kept : sweep_at r y from ≡ seed = below.kept ∙ put in
        let grown = sweeps_in r y 0 (suc from) in
        let q = above.grows k (record {
          tiles = subst (Tiles m k) (sym kept) t;
          one_way = (subst (λ i. Held m k (sweep_at r y 0) (sweeps_in r y 0 i) down_marks) n p.1).one_way;
          marked = (subst (λ i. Held m k (sweep_at r y 0) (sweeps_in r y 0 i) down_marks) n p.1).marked;
        }) in
        let all : sweeps_in r z 0 (suc last) ≡ sweeps m (suc last) (suc from) k seed =
        ap (λ i. up m k i (sweep_at r z last) (sweeps_in r z 0 (suc last))) (sym n0) ∙ q.0 ∙ ap (λ g. up m k (suc last - suc from) g grown) kept ∙ ap (up m k (suc last - suc from) seed) lowest in
        (all, q.1.marked ∙ ap (marks_of m) all)

    pub filled : Filled m (suc last) (suc from) seed z up_marks
    filled = record {
      tiled = λ k t. sym (ap (flat_map (λ g. g)) (sym (all_grown k t).0) ∙ sweeps_whole m.rows (suc last) z ∙ take_all (suc last * m.rows) z (omega (arith, suc-mul last m.rows)));
      marks_are = λ k t. (all_grown k t).1;
    }
