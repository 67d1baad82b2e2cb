use Rattle.std.proofs.Common.{◌≡◌, ℕ, ◌+◌, ◌-◌, ◌*◌, ◌≤◌, ◌++◌, length, sym, ap, ◌∙◌, ap₂, arith}
use Rattle.std.specs.List.{between, flat_map}
use Rattle.std.proofs.lemmas.List.Edits.{length-between}
use Rattle.std.proofs.lemmas.Slice.{take-put_mid}
use Rattle.checks.specs.Lists.{upto}
use Rattle.numbering.specs.Order.{carried_rows}
use Rattle.checks.proofs.Uptos.{upto_next}
use Rattle.numbering.proofs.Stretches.{joined_push}
use Rattle.numbering.proofs.Tallies.{next_sweep}
use Rattle.numbering.proofs.remapping.move_tiles.Goals as goal

pub loop-sweep-preserved : goal.loop-sweep-preserved
loop-sweep-preserved c =
    let s = c.loop-sweep.sweep in
    let n = c.args.rows.now.rows in
    let xs = c.loop-sweep.new_tile_table in
    let ys = c.gather_rows.new.to in
    let moved = λ (s : ℕ). carried_rows c.args.rows.now.list.now (between (s * n) (s * n + n) c.args.tile_table.now) in
    let fits : s * n + n ≤ length xs = omega (arith, next_sweep s n c.args.sweeps c.loop-sweep-test.true) in
    let long : length ys ≡ n = c.gather_rows.auto.to ∙ length-between xs (s * n) (s * n + n) fits ∙ omega arith in
    take-put_mid (s * n) (s * n + n - s * n) xs ys ((s + 1) * n) (omega arith) (omega arith)
    ∙ ap₂ ◌++◌ c.loop-sweep.invariant c.gather_rows.ensures ∙ sym (ap (flat_map moved) (upto_next s) ∙ joined_push moved (upto s) s)
