use Rattle.std.proofs.Common.{◌*◌, ◌++◌, length, get_or, string_bytes, sym, refl, ap, ◌∙◌}
use Rattle.plans.specs.Held.{tiling_held}
use Rattle.runs.specs.Calls.{Progress, lengths_fault}
use Rattle.runs.specs.Held.{sizes_held, progress_held, equations_held, closing_of}
use Rattle.runs.proofs.Accepted.{begun_lengths}
use Rattle.runs.proofs.Steps.{own_call}
use Rattle.replay.specs.Traces.{closing_line, trace}
use Rattle.replay.proofs.Retold.{trace_more, trace_all}
use Rattle.replay.proofs.tracing.trace_run.Goals as goal

pub loop-number-init : goal.loop-number-init
loop-number-init g c =
    let m = g.K.Arithmetic.means c.args.system.arithmetic.now in
    let l = tiling_held c.args.system.plan.now in
    let begun = c.in_ok-run.ensures in (
      begun.sizes,
      begun_lengths m l.pattern c.args.system.coefficients.now c.args.system.right_hand_side.now c.args.vector.now (sym begun.answer),
      ap (λ (p : Progress). string_bytes c.args.text.now ++ trace m (equations_held c.args.system) l (2 * g.F.Filed.width) g.F.Filed.printed (record { progress = p; held = c.args.vector.now }) c.args.calls.now) begun.fresh,
    )

pub loop-number-preserved : goal.loop-number-preserved
loop-number-preserved g c =
    let m = g.K.Arithmetic.means c.args.system.arithmetic.now in
    let l = tiling_held c.args.system.plan.now in
    let cs = c.args.system.coefficients.now in
    let bs = c.args.system.right_hand_side.now in
    let inv = c.loop-number.invariant in
    let run = c.loop-number.run in
    let calls = c.args.calls.now in
    let i = c.loop-number.number-index in
    let called = c.tile-answer.ensures in
    let answered = called.answer ∙ own_call (sizes_held run) run.done l (length cs) (length bs) (length c.loop-number.vector) (get_or calls i 0) inv.0 inv.1 in (
      called.sizes ∙ inv.0,
      ap (lengths_fault l.pattern (length cs) (length bs)) c.tile-answer.auto.vector ∙ inv.1,
      trace_more m (equations_held c.args.system) l (2 * g.F.Filed.width) g.F.Filed.printed calls i (record { progress = progress_held run; held = c.loop-number.vector }) (string_bytes c.loop-number.text) inv.2
          (get_or calls i 0) c.tile-answer.result (record { progress = progress_held c.tile-answer.new.self; held = c.tile-answer.new.vector }) (string_bytes c.note_call.new.text) c.loop-number-test.true refl answered
          called.count called.progress called.values c.in-Ok.ensures,
    )

pub returns : goal.returns
returns g c =
    let m = g.K.Arithmetic.means c.args.system.arithmetic.now in
    let l = tiling_held c.args.system.plan.now in
    let inv = c.loop-number.invariant in
    let run = c.loop-number.run in (
      sym c.in_ok-run.ensures.answer,
      trace_all m (equations_held c.args.system) l (2 * g.F.Filed.width) g.F.Filed.printed c.args.calls.now c.loop-number.number-index (record { progress = progress_held run; held = c.loop-number.vector })
          (string_bytes c.loop-number.text) inv.2 (string_bytes c.note_closing.new.text) c.loop-number-test.false
          (c.in_ok-note_closing.ensures ∙ ap (λ k. string_bytes c.loop-number.text ++ closing_line k) (c.close-2.ensures ∙ ap (λ n. closing_of n.tiles (progress_held run)) inv.0)),
    )
