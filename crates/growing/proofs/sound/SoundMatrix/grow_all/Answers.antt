use Rattle.std.proofs.Common.{◌≡◌, ℕ, suc, ◌+◌, ◌-◌, ◌*◌, ◌<◌, ◌≤◌, length, take, drop, replicate, sym, ap, ◌∙◌, subst, suc-mul, arith}
use borrow.Rule.Slice.PartMut.{put_mid}
use Rattle.std.proofs.lemmas.Slice.{between-put_mid}
use Rattle.matrix.specs.Lent.{pattern_of}
use Rattle.growing.specs.Sweeps.{sweep_at, Filled}
use Rattle.growing.proofs.Ranges.{within}
use Rattle.growing.proofs.Fills.{filled}
use Rattle.growing.proofs.sound.SoundMatrix.grow_all.Goals as goal

-- the seed sweep lies within the table, and ends before the last does
record Lies (s t r n : ℕ) : Type 0 where
  order : s - 1 ≤ t - 1
  whole : n ≡ (t - 1) * r + r
  inside : (s - 1) * r + r ≤ n

lies : (s t r n : ℕ) → 0 < s → s ≤ t → n ≡ t * r → Lies s t r n
lies s t r n first last cells =
    let e : t ≡ suc (t - 1) = omega arith in
    let order : s - 1 ≤ t - 1 = omega arith in
    let whole : n ≡ (t - 1) * r + r = cells ∙ ap (λ i. i * r) e ∙ suc-mul (t - 1) r in
    let h = within r (s - 1) (t - 1) order in
    record { order = order; whole = whole; inside = omega arith }

pub returns : goal.returns
returns c =
    let m = pattern_of c.args.self.now.matrix in
    let s = c.args.seeding.now.seed_sweep in
    let t = c.args.seeding.now.sweeps in
    let h = lies s t m.rows (length c.args.tile_table.now) c.requires.first c.requires.last c.requires.cells in
    let a = (s - 1) * m.rows in
    let n : a + m.rows - a ≡ m.rows = omega arith in
    let seed = c.args.seeding.now.seed.now in
    let x = put_mid a (a + m.rows - a) c.args.tile_table.now c.copy_from_slice.new.self in
    let put : sweep_at m.rows x (s - 1) ≡ seed =
    ap (λ i. take i (drop a x)) (sym n) ∙ between-put_mid a (a + m.rows - a) c.args.tile_table.now c.copy_from_slice.new.self (a + m.rows) (omega (arith, h.inside)) (ap length c.copy_from_slice.ensures.after ∙ c.requires.seed ∙ sym n) ∙ c.copy_from_slice.ensures.after in
    let all = filled m c.args.self.now.sound (s - 1) (t - 1) h.order seed x c.grow_down.new.tile_table c.grow_up.new.tile_table c.fill.new.self c.mark_sweep.new.marks c.grow_down.new.marks c.grow_up.new.marks
    (omega (arith, h.whole)) put (c.fill.ensures.after (λ y e. e) ∙ ap (λ i. replicate i 0) c.requires.marks) c.mark_sweep.ensures c.grow_down.ensures c.grow_up.ensures in
    let es : suc (s - 1) ≡ s = omega arith in
    let et : suc (t - 1) ≡ t = omega arith in
    subst (λ i. Filled m t i seed c.grow_up.new.tile_table c.grow_up.new.marks) es (subst (λ i. Filled m i (suc (s - 1)) seed c.grow_up.new.tile_table c.grow_up.new.marks) et all)
