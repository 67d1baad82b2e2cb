-- How many tiles are done, and how many points they can have. Assumes nothing.
use Rattle.std.proofs.Common.{◌≡◌, ℕ, zero, suc, ◌+◌, ◌*◌, ◌^◌, ◌<◌, ◌≤◌, Bool, false, cond, ◌||◌, eqb, ◌⊎◌, List, [], ◌∷◌, length, None, count_by, sym, ap, ◌∙◌, subst, inl, inr, mul-le-mul_right, arith}
use lib.Bits.{bit_or}
use Rattle.std.specs.List.{AllByRecursion as All}
use Rattle.std.proofs.lemmas.List.FromFn.{length-range_with_len}
use Rattle.std.proofs.lemmas.List.Sums.{count_by-le-length, length-filter}
use Rattle.std.proofs.ByRecursion.{sum_by_le}
use Rattle.std.proofs.lemmas.Bool.{cases_eq, eq-eqb, ne_eqb}
use Rattle.checks.specs.Lists.{upto}
use Rattle.points.specs.Points.{Tiles, tile_rows, size}
use Rattle.points.proofs.Uptos.{count_more}
use Rattle.points.proofs.Counts.{sum_same}
use Rattle.plans.specs.Tilings.{Tiling, tile_of}
use Rattle.plans.specs.Words.{bit}
use Rattle.plans.proofs.Wordbits.{bit_set}
use Rattle.runs.specs.Calls.{Sizes, call_fault, points_of}
use Rattle.runs.proofs.Accepted.{call_free}

module _ (w u : ℕ) (clear : bit w u ≡ false) where
  after : ℕ → Bool
  after t = bit (bit_or w (2 ^ u)) t

  other : (t : ℕ) → (t ≡ u → ⊥) → after t ≡ bit w t
  unfolding after
  other t n = bit_set w u t ∙ ap (λ b. b || bit w t) (ne_eqb t u n)

  below_same : (n : ℕ) → n ≤ u → count_by after (upto n) ≡ count_by (bit w) (upto n)
  below_same n h = sum_same (λ t. cond (after t) 1 0) (λ t. cond (bit w t) 1 0) n (λ t l. ap (λ b. cond b 1 0) (other t (λ e. omega arith)))

  -- one bit more is set
  pub count_set : (n : ℕ) → u < n → count_by (λ t. bit (bit_or w (2 ^ u)) t) (upto n) ≡ count_by (bit w) (upto n) + 1
  unfolding after
  count_set zero h = absurd (omega arith)
  count_set (suc n) h = go (cases_eq u n) (λ l. count_set n l)
    where
      go : (u ≡ n) ⊎ (u ≡ n → ⊥) → (u < n → count_by after (upto n) ≡ count_by (bit w) (upto n) + 1) → count_by after (upto (suc n)) ≡ count_by (bit w) (upto (suc n)) + 1
      go (inl e) later =
          let a = count_more after n in
          let b = count_more (bit w) n in
          let front = below_same n (omega arith) in
          let now_set : cond {A = ℕ} (after n) 1 0 ≡ 1 = ap (λ b. cond b 1 0) (bit_set w u n ∙ ap (λ b. b || bit w n) (eq-eqb n u (sym e))) in
          let was_clear : cond {A = ℕ} (bit w n) 1 0 ≡ 0 = ap (λ b. cond b 1 0) (subst (λ t. bit w t ≡ false) e clear) in
          omega arith
      go (inr d) later =
          let a = count_more after n in
          let b = count_more (bit w) n in
          let front = later (omega arith) in
          let same : cond {A = ℕ} (after n) 1 0 ≡ cond {A = ℕ} (bit w n) 1 0 = ap (λ b. cond b 1 0) (other n (λ e. d (sym e))) in
          omega arith

-- a tile has no more points than there are
pub size_le : (R T : ℕ) (tile : Tiles) (t : ℕ) → size R T tile t ≤ T * R
size_le R T tile t =
    let e = length-range_with_len 0 T in
    subst (λ n. size R T tile t ≤ n * R) e (sum_by_le (λ c. length (tile_rows R tile t c)) R (upto T) (all_le (upto T)))
  where
    row_le : (c : ℕ) → length (tile_rows R tile t c) ≤ R
    row_le c =
        let p : ℕ → Bool = λ i. eqb (tile c i) t in
        let a = length-filter p (upto R) in
        let b = count_by-le-length p (upto R) in
        let d = length-range_with_len 0 R in
        omega arith

    all_le : (cs : List ℕ) → All (λ c. length (tile_rows R tile t c) ≤ R) cs
    all_le [] = tt
    all_le (c ∷ cs) = (row_le c, all_le cs)

fit : (a b n points : ℕ) → b ≡ a + 1 → b ≤ 64 → n ≤ 16777216 → points ≤ 16777216 * a → (points + n ≤ 16777216 * b) × (points + n ≤ 1073741824)
fit a b n points e h few before = (omega arith, omega arith)

-- one call more leaves a count of points that fits
pub points_fit : (w u n points : ℕ) → u < 64 → bit w u ≡ false → n ≤ 16777216 → points ≤ 16777216 * count_by (bit w) (upto 64)
    → (points + n ≤ 16777216 * count_by (bit (bit_or w (2 ^ u))) (upto 64)) × (points + n ≤ 1073741824)
points_fit w u n points h clear few before =
    fit (count_by (bit w) (upto 64)) (count_by (bit (bit_or w (2 ^ u))) (upto 64)) n points (count_set w u clear 64 h) (count_by-le-length (bit (bit_or w (2 ^ u))) (upto 64)) few before

-- a tile of a plan has no more points than the greatest plan
pub size_few : (R T : ℕ) (tile : Tiles) (t : ℕ) → R ≤ 1048576 → T ≤ 16 → size R T tile t ≤ 16777216
size_few R T tile t h k =
    let a = size_le R T tile t in
    let b : T * R ≤ 16 * R = mul-le-mul_right R k in
    omega arith

-- the points of a call that is not refused fit the count of points
pub call_fits : (n : Sizes) (done points : ℕ) (l : Tiling) (coefficients rhs x u : ℕ) → l.pattern.rows ≤ 1048576 → l.sweeps ≤ 16 → l.count ≤ 64 → points ≤ 16777216 * count_by (bit done) (upto 64)
    → call_fault n done l coefficients rhs x u ≡ None
    → (points_of l u ≤ 16777216) × (points + points_of l u ≤ 1073741824) × (points + points_of l u ≤ 16777216 * count_by (bit (bit_or done (2 ^ u))) (upto 64))
call_fits n done points l coefficients rhs x u rows sweeps tiles few e =
    let free = call_free n done l coefficients rhs x u e in
    let small = size_few l.pattern.rows l.sweeps (tile_of l) u rows sweeps in
    let fit = points_fit done u (points_of l u) points (omega (arith, free.0)) free.1 small few in
    (small, fit.1, fit.0)
