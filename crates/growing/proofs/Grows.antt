-- A sweep below is the greatest, a sweep above the least, and either is the only one. Assumes nothing.
use Rattle.std.proofs.Common.{◌≡◌, ℕ, ◌-◌, ◌<◌, ◌≤◌, true, List, replicate, arith}
use lib.ListN.{get_or-replicate}
use Rattle.checks.specs.Lists.{at}
use Rattle.matrix.specs.Patterns.{Pattern}
use Rattle.growing.specs.declared.direction.Direction.{Direction}
use Rattle.growing.specs.declared.direction.Direction.TheVariants.{Down, Up}
use Rattle.growing.specs.Growing.{before}
use Rattle.growing.specs.Greatest.{Tiles, LowerIsGreatest, RaiseIsLeast, FitsAbove}
use Rattle.growing.specs.Directions.{pair_of, next}
use Rattle.growing.proofs.Settle.{settled, Settled, Meets}

-- the next sweep is the settled one
pub next_settled : (d : Direction) (m : Pattern) (k : ℕ) (grown : List (List ℕ)) (near : List ℕ) → Tiles m k near → Settled d (pair_of d m grown) m.rows near (next d m k grown near)
next_settled d m k grown near t = settled d (pair_of d m grown) m.rows near k t.0 (λ v l. let b = t.1 v l in omega arith)

pub lower_is_greatest : LowerIsGreatest
unfolding Meets
lower_is_greatest m k grown near t =
    let s = next_settled Down m k grown near t in
    record {
      size = s.size;
      fits = record { own = λ v l. (s.meets v l).own; order = λ v w lv lw e. (s.meets v lv).order w lw e; reach = λ v w lv lw e. (s.meets w lw).reach v lv e };
      above = λ h f v l. s.past h (λ w lw. record { own = f.own w lw; order = λ x lx e. f.order w x lw lx e; reach = λ u lu e. f.reach u w lu lw e }) v l;
    }

pub raise_is_least : RaiseIsLeast
unfolding Meets
raise_is_least m k grown near t =
    let s = next_settled Up m k grown near t in
    record {
      size = s.size;
      fits = record { own = λ v l. (s.meets v l).own; order = λ v w lv lw e. (s.meets w lw).order v lv e; reach = λ v w lv lw e. (s.meets v lv).reach w lw e };
      below = λ h f v l. s.past h (λ w lw. record { own = f.own w lw; order = λ x lx e. f.order x w lx lw e; reach = λ u lu e. f.reach w u lw lu e }) v l;
    }

-- tiles stay below k
pub next_tiles : (d : Direction) (m : Pattern) (k : ℕ) (grown : List (List ℕ)) (near : List ℕ) → Tiles m k near → Tiles m k (next d m k grown near)
next_tiles Down m k grown near t = let g = lower_is_greatest m k grown near t in (g.size, λ v l. let a = g.fits.own v l in let b = t.1 v l in omega arith)
next_tiles Up m k grown near t =
    let g = raise_is_least m k grown near t in
    let h = replicate m.rows (k - 1) in
    let e : (v : ℕ) → v < m.rows → at h v ≡ k - 1 = λ v l. get_or-replicate m.rows v (k - 1) 0 l in
    let f : FitsAbove m grown near h = record {
      own = λ v l. let a = t.1 v l in let b = e v l in omega arith;
      order = λ v w lv lw q. let a = e v lv in let b = e w lw in omega arith;
      reach = λ v w lv lw q. let a = e v lv in let b = t.1 w lw in omega arith;
    } in
    (g.size, λ v l. let a = g.below h f v l in let b = e v l in let c = t.1 v l in omega arith)

-- and keep the order of the rows
pub next_order : (d : Direction) (m : Pattern) (k : ℕ) (grown : List (List ℕ)) (near : List ℕ) → Tiles m k near
    → (v w : ℕ) → v < m.rows → w < m.rows → before m grown v w ≡ true → at (next d m k grown near) v ≤ at (next d m k grown near) w
next_order Down m k grown near t = (lower_is_greatest m k grown near t).fits.order
next_order Up m k grown near t = (raise_is_least m k grown near t).fits.order
