-- The laws of the better tile, in both directions. Assumes nothing.
use Rattle.std.proofs.Common.{◌≡◌, ℕ, ◌<◌, ◌≤◌, ⊎_elim, arith}
use Rattle.std.proofs.lemmas.Bool.{cases_eq}
use Rattle.growing.specs.declared.direction.Direction.{Direction}
use Rattle.growing.specs.declared.direction.Direction.TheVariants.{Down, Up}
use Rattle.growing.specs.Directions.{best_of, Better, far}

pub same : (d : Direction) (a : ℕ) → Better d a a
same Down a = omega arith
same Up a = omega arith

pub chain : (d : Direction) (a b c : ℕ) → Better d a b → Better d b c → Better d a c
chain Down a b c p q = omega arith
chain Up a b c p q = omega arith

pub only : (d : Direction) (a b : ℕ) → Better d a b → Better d b a → a ≡ b
only Down a b p q = omega arith
only Up a b p q = omega arith

pub left : (d : Direction) (a b : ℕ) → Better d (best_of d a b) a
left Down a b = omega arith
left Up a b = omega arith

pub right : (d : Direction) (a b : ℕ) → Better d (best_of d a b) b
right Down a b = omega arith
right Up a b = omega arith

pub both : (d : Direction) (a b c : ℕ) → Better d c a → Better d c b → Better d c (best_of d a b)
both Down a b c p q = omega arith
both Up a b c p q = omega arith

pub within : (d : Direction) (k a b : ℕ) → a ≤ k → b ≤ k → best_of d a b ≤ k
within Down k a b p q = omega arith
within Up k a b p q = omega arith

pub nearer : (d : Direction) (k a b : ℕ) → Better d a b → far d k a ≤ far d k b
nearer Down k a b p = p
nearer Up k a b p = omega arith

pub moved : (d : Direction) (k a b : ℕ) → Better d a b → a ≤ k → b ≤ k → (a ≡ b → ⊥) → far d k a < far d k b
moved Down k a b p l r ne = omega arith
moved Up k a b p l r ne = omega arith

pub unmoved : (d : Direction) (k a b : ℕ) → Better d a b → a ≤ k → b ≤ k → far d k b ≤ far d k a → a ≡ b
unmoved d k a b p l r q = ⊎_elim (λ e. e) (λ ne. let m = moved d k a b p l r ne in absurd (omega arith)) (cases_eq a b)

pub most : (d : Direction) (k a : ℕ) → a ≤ k → far d k a ≤ k
most Down k a p = p
most Up k a p = omega arith
