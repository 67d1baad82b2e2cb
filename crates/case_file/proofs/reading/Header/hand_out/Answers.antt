use Rattle.std.proofs.Common.{◌≡◌, ℕ, ◌≤◌, List, length, sym, refl, ap, ◌∙◌, arith, length-drop}
use Rattle.std.specs.List.{between}
use Rattle.std.proofs.lemmas.Slice.{between_to_end}
use Rattle.checks.specs.Lists.{at}
use Rattle.case_file.specs.Headers.{table_lengths_of, offsets}
use Rattle.case_file.proofs.reading.Header.hand_out.Goals as goal

-- a part that is handed out by its offsets stands at those that the header gives
placed : (file : List ℕ) {bytes : List ℕ} {a b from to n : ℕ} → a ≡ from → b ≡ to → bytes ≡ between a b file → length bytes ≡ n → (a ≡ from) × (bytes ≡ between from to file) × (length bytes ≡ n)
placed file {bytes} {a} {b} {from} {to} p q e l = (p, e ∙ ap (λ n. between n b file) p ∙ ap (λ n. between from n file) q, l)

pub returns : goal.returns
returns c file e =
    let h = c.args.self in
    let long : (i : ℕ) → at c.table_lengths.result i ≡ at (table_lengths_of h) i = λ i. ap (λ ns. at ns i) c.table_lengths.ensures in
    let p1 = c.split.ensures.parts file e in
    let p2 = c.split-2.ensures.parts file p1.1 in
    let p3 = c.split-3.ensures.parts file p2.1 in
    let p4 = c.split-4.ensures.parts file p3.1 in
    let p5 = c.split-5.ensures.parts file p4.1 in
    let o1 : c.split.result.1.offset ≡ at (offsets h) 1 = omega (arith, c.split.ensures.offsets.1, long 0) in
    let o2 : c.split-2.result.1.offset ≡ at (offsets h) 2 = omega (arith, c.split-2.ensures.offsets.1, long 1) in
    let o3 : c.split-3.result.1.offset ≡ at (offsets h) 3 = omega (arith, c.split-3.ensures.offsets.1, long 2) in
    let o4 : c.split-4.result.1.offset ≡ at (offsets h) 4 = omega (arith, c.split-4.ensures.offsets.1, long 3) in
    let o5 : c.split-5.result.1.offset ≡ at (offsets h) 5 = omega (arith, c.split-5.ensures.offsets.1, long 4) in
    let all : length file ≤ at (offsets h) 6 = omega (arith, ap length e ∙ length-drop 17 file, c.requires.whole) in
    let left : length c.split-5.result.1.bytes.now ≡ at (table_lengths_of h) 5 = omega (arith, c.requires.whole, long 0, long 1, long 2, long 3, long 4, c.split.ensures.lengths.1, c.split-2.ensures.lengths.1, c.split-3.ensures.lengths.1, c.split-4.ensures.lengths.1, c.split-5.ensures.lengths.1) in
    record {
      kind = c.requires.kind;
      sweeps = refl;
      seed_sweep = refl;
      tiles = refl;
      rows = refl;
      entries = refl;
      starts = placed file c.split.ensures.offsets.0 o1 p1.0 (c.split.ensures.lengths.0 ∙ long 0);
      columns = placed file (c.split-2.ensures.offsets.0 ∙ o1) o2 p2.0 (c.split-2.ensures.lengths.0 ∙ long 1);
      coefficients = placed file (c.split-3.ensures.offsets.0 ∙ o2) o3 p3.0 (c.split-3.ensures.lengths.0 ∙ long 2);
      right_hand_side = placed file (c.split-4.ensures.offsets.0 ∙ o3) o4 p4.0 (c.split-4.ensures.lengths.0 ∙ long 3);
      vector = placed file (c.split-5.ensures.offsets.0 ∙ o4) o5 p5.0 (c.split-5.ensures.lengths.0 ∙ long 4);
      seed = placed file o5 refl (p5.1 ∙ sym (between_to_end file c.split-5.result.1.offset (at (offsets h) 6) all)) left;
    }
