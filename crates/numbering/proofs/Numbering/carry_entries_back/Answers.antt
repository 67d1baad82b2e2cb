use Rattle.std.proofs.Common.{◌+◌, ◌<◌, length, drop, sym, ap, ◌∙◌, subst, arith, length-drop}
use Rattle.std.proofs.lemmas.List.{drop-drop}
use Rattle.checks.specs.Lists.{at}
use Rattle.numbering.specs.Order.{starts_pattern, remapped, row_length}
use Rattle.numbering.proofs.Fits.{start_most, new_start, new_fit}
use Rattle.numbering.proofs.Remappable.{Carryable, carryable}
use Rattle.numbering.proofs.Scattered.{Holds, next_start, holds_more, holds_all}
use Rattle.numbering.proofs.Numbering.carry_entries_back.Given as given
use Rattle.numbering.proofs.Numbering.carry_entries_back.Goals as goal
use Rattle.numbering.proofs.Numbering.carry_entries_back.Goals.{In_ok-check_entries}

known : (g : given.Over) (c : In_ok-check_entries g) → Carryable c.args.matrix.now.rows c.args.matrix.now.entries c.args.matrix.now.starts.now c.args.self.now.ranks.now c.args.self.now.rows_by_rank.now (length c.args.to.now) (length c.args.from.now)
known g c = carryable c.args.matrix.now.rows c.args.matrix.now.entries c.args.matrix.now.starts.now c.args.self.now.ranks.now c.args.self.now.rows_by_rank.now (length c.args.to.now) (length c.args.from.now) (sym c.in_ok-check_entries.ensures)

pub loop-row-init : goal.loop-row-init
loop-row-init g c =
    let m = starts_pattern c.args.matrix.now.rows c.args.matrix.now.entries c.args.matrix.now.starts.now in
    let k = known g (goal.at.loop-row-init g c).In_ok-check_entries in
    (ap (λ n. drop n c.args.from.now) (sym (new_start m k.fit c.args.self.now.ranks.now c.args.self.now.rows_by_rank.now k.num 0 (omega arith))), λ i h. absurd (omega arith))

pub put_row-rest-requires : goal.put_row-rest-requires
put_row-rest-requires g c =
    let m = starts_pattern c.args.matrix.now.rows c.args.matrix.now.entries c.args.matrix.now.starts.now in
    let rank = c.args.self.now.ranks.now in
    let row = c.args.self.now.rows_by_rank.now in
    let i = c.loop-row.row-index in
    let k = known g (goal.at.put_row-rest-requires g c).In_ok-check_entries in
    let now : i < c.args.matrix.now.rows = omega (arith, k.tables.placed) in
    let below = k.num.inside i now in
    record {
      within = omega (arith, below, k.tables.started);
      rises = k.fit.rises _ below;
      ends = omega (arith, start_most m k.fit (at row i + 1) (omega (arith, below)), k.tables.listed);
      there =
          omega
          (arith, ap length c.loop-row.invariant.0, length-drop (at (remapped m rank row).starts i) c.args.from.now, next_start m k.fit rank row k.num c.args.from.now k.tables.new_listed i now, start_most (remapped m rank row) (new_fit m k.fit rank row k.num) (i + 1) (omega arith), k.tables.new_listed);
    }

pub loop-row-preserved : goal.loop-row-preserved
loop-row-preserved g c =
    let m = starts_pattern c.args.matrix.now.rows c.args.matrix.now.entries c.args.matrix.now.starts.now in
    let rank = c.args.self.now.ranks.now in
    let row = c.args.self.now.rows_by_rank.now in
    let from = c.args.from.now in
    let i = c.loop-row.row-index in
    let k = known g (goal.at.loop-row-preserved g c).In_ok-check_entries in
    let long = k.tables.new_listed in
    let now : i < c.args.matrix.now.rows = omega (arith, k.tables.placed) in
    let more = holds_more m k.fit rank row k.num from long c.loop-row.to c.loop-row.rest.now i now (omega (arith, k.tables.listed)) c.loop-row.invariant.0 c.loop-row.invariant.1 in (
      c.put_row-rest.ensures.rest ∙ ap (drop (row_length m (at row i))) c.loop-row.invariant.0 ∙ drop-drop (row_length m (at row i)) (at (remapped m rank row).starts i) from
          ∙ ap (λ n. drop n from) (sym (next_start m k.fit rank row k.num from long i now)),
      subst (λ to. Holds m k.fit rank row k.num from long to (i + 1)) (sym c.put_row-rest.ensures.put) more,
    )

pub returns : goal.returns
returns g c =
    let m = starts_pattern c.args.matrix.now.rows c.args.matrix.now.entries c.args.matrix.now.starts.now in
    let k = known g (goal.at.returns g c).In_ok-check_entries in
    record {
      verdict = c.in_ok-check_entries.ensures;
      carried =
          holds_all m k.fit c.args.self.now.ranks.now c.args.self.now.rows_by_rank.now k.num c.args.from.now k.tables.new_listed c.loop-row.to (omega (arith, k.tables.listed)) (λ i h. c.loop-row.invariant.1 i (omega (arith, k.tables.placed)));
    }
