-- One sweep grown from its neighbour: copied, settled, marked. Assumes nothing.
use Rattle.std.proofs.Common.{◌≡◌, ℕ, false, List, sym, refl, ap, ◌∙◌, subst}
use Rattle.matrix.specs.Patterns.{Pattern}
use Rattle.growing.specs.declared.direction.Direction.{Direction}
use Rattle.growing.specs.Directions.{next, added}
use Rattle.growing.specs.Passes.{Settles}
use Rattle.growing.specs.Marks.{Sound, remarked_all}
use Rattle.growing.specs.Sweeps.{Held, Grows}
use Rattle.growing.proofs.Passing.{Marked, passes_settle}
use Rattle.growing.proofs.Grows.{next_tiles, next_order}
use Rattle.growing.proofs.Orders.{one_way_next}
use Rattle.growing.proofs.Remarks.{marks_rows, remarked_is}

pub grows_one : (d : Direction) (m : Pattern) → Sound m → (near g marks_were marks_are : List ℕ) → Settles d m marks_were near false near g → marks_are ≡ remarked_all m g marks_were → Grows d m near g marks_were marks_are
grows_one d m s near g marks_were marks_are settled em = record {
  grows = λ k grown held.
      let marked : Marked m grown marks_were = record { rows = marks_rows m s grown marks_were held.marked; one_way = held.one_way } in
      let n = next d m k grown near in
      let e : g ≡ n = passes_settle d m s.inside grown marks_were near marked k held.tiles settled.turns settled.last g settled.passed (settled.still refl) in
      let new : Held m k n (added d n grown) marks_are = record {
        tiles = next_tiles d m k grown near held.tiles;
        one_way = one_way_next m d k grown near held.tiles held.one_way;
        marked = em ∙ ap (λ t. remarked_all m t marks_were) e ∙ remarked_is d m n grown (next_order d m k grown near held.tiles) s marks_were marked.rows;
      } in
      (e, subst (λ t. Held m k t (added d t grown) marks_are) (sym e) new);
}
