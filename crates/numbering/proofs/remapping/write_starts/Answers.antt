use Rattle.std.proofs.Common.{◌≡◌, ℕ, ◌+◌, ◌<◌, ◌≤◌, List, ◌∷◌, map, length, take, drop, sum_by, sym, ap, ◌∙◌, arith, below_more, length-drop}
use lib.ListN.{length-map}
use Rattle.std.specs.Slice.Iter.{iter_rest}
use Rattle.std.proofs.lemmas.List.{get_or-set_same, get_or-set_other, get_or-drop, drop-drop, drop_all, take_all, nil_from_length, ext_get_or}
use Rattle.std.proofs.lemmas.List.Sums.{sum_by_more, sum_by-take-le}
use Rattle.checks.specs.Lists.{at, totals}
use Rattle.matrix.specs.Patterns.{Pattern, row_part}
use Rattle.matrix.specs.Lent.{pattern_of}
use Rattle.numbering.specs.Order.{row_length}
use Rattle.numbering.proofs.Tallies.{totals_sum, length_totals}
use Rattle.numbering.proofs.remapping.write_starts.Goals as goal
use Rattle.numbering.proofs.remapping.write_starts.Goals.{in-Some, in_default}

-- the row that is next, and the rows after it
next_row : (rows rest : List ℕ) (i x : ℕ) → drop i rows ≡ x ∷ rest → (i < length rows) × (at rows i ≡ x) × (rest ≡ drop (i + 1) rows)
next_row rows rest i x e = (
  omega (arith, ap length e, length-drop i rows),
  ap (at rows) (omega arith) ∙ sym (get_or-drop i rows 0 0) ∙ ap (λ xs. at xs 0) e,
  sym (ap (drop 1) e) ∙ drop-drop 1 i rows,
)

-- the sum grows by the next row's part
grown : (m : Pattern) (rows rest part : List ℕ) (i x : ℕ) → drop i rows ≡ x ∷ rest → part ≡ row_part m m.columns x → ((k : ℕ) → k < length rows → length (row_part m m.columns (at rows k)) ≡ row_length m (at rows k)) →
    sum_by (row_length m) (take i rows) + length part ≡ sum_by (row_length m) (take (i + 1) rows)
grown m rows rest part i x e is parts =
    let n = next_row rows rest i x e in
    omega (arith, ap length is ∙ ap (λ v. length (row_part m m.columns v)) (sym n.1) ∙ parts i n.0, sum_by_more (row_length m) rows i 0 n.0)

pub overflow_cast-place : goal.overflow_cast-place
overflow_cast-place c =
    let m = pattern_of c.args.matrix.now in
    let i = c.loop-start.start-index in
    let more = grown m c.args.rows.now (iter_rest c.next.new.self) c.row.result.now i c.in-Some.row.now (sym c.loop-start.invariant.2.rest ∙ c.in-Some.ensures.steps) c.row.ensures c.requires.parts in
    omega (arith, more, sum_by-take-le (row_length m) c.args.rows.now (i + 1), c.requires.small)

pub overflow_add-place : goal.overflow_add-place
overflow_add-place c =
    let m = pattern_of c.args.matrix.now in
    let i = c.loop-start.start-index in
    let more = grown m c.args.rows.now (iter_rest c.next.new.self) c.row.result.now i c.in-Some.row.now (sym c.loop-start.invariant.2.rest ∙ c.in-Some.ensures.steps) c.row.ensures c.requires.parts in
    omega (arith, more, c.loop-start.invariant.2.place, sum_by-take-le (row_length m) c.args.rows.now (i + 1), c.requires.small)

pub loop-start-preserved : goal.loop-start-preserved
loop-start-preserved c =
    let m = pattern_of c.args.matrix.now in
    let rows = c.args.rows.now in
    let left = iter_rest c.next.new.self in
    let i = c.loop-start.start-index in
    let known = c.loop-start.invariant.2 in (
      tt,
      tt,
      record {
        rest = elim c.match-next.branch [
          | in-Some w ↦ (next_row rows left i w.in-Some.row.now (sym known.rest ∙ w.in-Some.ensures.steps)).2
          | in_default w ↦ ap iter_rest w.in_default.ensures.steps.1 ∙ nil_from_length _ w.in_default.ensures.steps.0
              ∙ sym (drop_all (i + 1) rows (omega (arith, ap length known.rest, length-drop i rows, w.in_default.ensures.steps.0)))
        ];
        place = elim c.match-next.branch [
          | in-Some w ↦ w.place-is ∙ ap (λ n. n + length w.row.result.now) known.place ∙ grown m rows left w.row.result.now i w.in-Some.row.now (sym known.rest ∙ w.in-Some.ensures.steps) w.row.ensures c.requires.parts
          | in_default w ↦
              let past : length rows ≤ i = omega (arith, ap length known.rest, length-drop i rows, w.in_default.ensures.steps.0) in
              w.place-is ∙ known.place ∙ ap (sum_by (row_length m)) (take_all i rows past ∙ sym (take_all (i + 1) rows (omega arith)))
        ];
        written = below_more _ i
            (λ k h. get_or-set_other c.loop-start.new_starts i k c.loop-start.place 0 (omega arith) ∙ known.written k h)
            (get_or-set_same c.loop-start.new_starts i c.loop-start.place 0 (omega arith) ∙ known.place ∙ sym (totals_sum (row_length m) rows i (omega (arith, c.requires.room))));
      },
    )

pub returns : goal.returns
returns c =
    let f = row_length (pattern_of c.args.matrix.now) in
    let rows = c.args.rows.now in
    ext_get_or 0 c.loop-start.new_starts (totals 0 (map f rows))
    (omega (arith, c.requires.room, length_totals 0 (map f rows), length-map rows f))
    (λ k l. c.loop-start.invariant.2.written k (omega arith))
