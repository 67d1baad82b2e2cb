use Rattle.std.proofs.Common.{◌≡◌, ◌+◌, ◌-◌, ◌*◌, ◌/◌, ◌≤◌, ◌++◌, drop, length, string_bytes, sym, ap, ◌∙◌, subst, rules, arith, length-drop}
use Rattle.std.proofs.lemmas.Nat.{div-mul-add}
use Rattle.std.specs.List.{between}
use Rattle.std.specs.Slice.Iter.{chunks_exact_rest, chunks_exact_size}
use Rattle.checks.specs.Lists.{upto}
use Rattle.checks.proofs.Uptos.{upto_next}
use Rattle.tile_report.specs.Tiles.{sweep_line, sweeps_text}
use Rattle.tile_report.proofs.Texts.{pieces_more, row_taken, left_after, ends_within}
use Rattle.tile_report.proofs.tiles.push_sweeps.Goals as goal

pub loop-sweep-init : goal.loop-sweep-init
loop-sweep-init c = search rules

pub loop-sweep-preserved : goal.loop-sweep-preserved
loop-sweep-preserved c =
    let rows = c.args.rows in
    let table = c.args.table.now in
    let text = string_bytes c.args.text.now in
    let were = c.loop-sweep.sweep-iterator in
    let are = c.next.new.self in
    let k = were.count in
    let cells = c.in-Some.cells.now in
    let i = c.loop-sweep.invariant in
    let t = c.in-Some.ensures.steps in
    let size : length cells ≡ rows = t.0.1.1 ∙ i.3 in
    let rest = chunks_exact_rest were.iter in
    let left = chunks_exact_rest are.iter in
    let row : cells ≡ between (k * rows) (k * rows + rows) table = row_taken table rest cells left k rows i.2 t.0.1.0 size in
    let line = c.in_ok-push_sweep.ensures ∙ ap (λ n. string_bytes c.loop-sweep.text ++ sweep_line (n + 1) cells) t.1 ∙ ap (λ r. string_bytes c.loop-sweep.text ++ sweep_line (k + 1) r) row in
    subst (λ n. (string_bytes c.push_sweep.new.text ≡ text ++ sweeps_text rows table n) × (n * rows ≤ length table) × (left ≡ drop (n * rows) table) × (chunks_exact_size are.iter ≡ rows)) (sym t.2) (
      pieces_more (λ s. sweep_line (s + 1) (between (s * rows) (s * rows + rows) table)) text (string_bytes c.loop-sweep.text) (string_bytes c.push_sweep.new.text) (upto k) k (upto_next k) i.0 line,
      ends_within table rest cells left k rows i.2 t.0.1.0 size i.1,
      left_after table rest cells left k rows i.2 t.0.1.0 size,
      t.0.0 ∙ i.3,
    )

pub returns : goal.returns
returns c =
    let rows = c.args.rows in
    let table = c.args.table.now in
    let k = c.loop-sweep.sweep-iterator.count in
    let i = c.loop-sweep.invariant in
    let t = c.in-None.ensures.steps in
    let b = length table - k * rows in
    let left : length (chunks_exact_rest c.loop-sweep.sweep-iterator.iter) ≡ b = ap length i.2 ∙ length-drop (k * rows) table in
    let whole : length table ≡ k * rows + b = omega (arith, i.1) in
    let e : length table / rows ≡ k = ap (λ n. n / rows) whole ∙ div-mul-add k rows b (omega (arith, left, t.0.1.0, i.3)) in
    i.0 ∙ ap (λ n. string_bytes c.args.text.now ++ sweeps_text rows table n) (sym e)
