-- A test that passes everywhere, told by an answer. Assumes nothing.
use Rattle.std.proofs.Common.{◌≡◌, ℕ, ◌<◌, Bool, true, false, sym, refl}
use Rattle.std.proofs.lemmas.Bool.{both_ways}
use Rattle.checks.specs.Lists.{upto, every}
use Rattle.points.proofs.Uptos.{every_at, every_from}

-- a test that fails somewhere does not pass everywhere
pub not_every : (p : ℕ → Bool) (n t : ℕ) → t < n → p t ≡ false → every p (upto n) ≡ false
not_every p n t l f = go (every p (upto n)) refl
  where
    go : (b : Bool) → every p (upto n) ≡ b → b ≡ false
    go true e = absurd (both_ways (p t) f (every_at p n e t l))
    go false e = refl

pub every_told : (p : ℕ → Bool) (n : ℕ) (b : Bool) → (b ≡ true → (t : ℕ) → t < n → p t ≡ true) → (((t : ℕ) → t < n → p t ≡ true) → b ≡ true) → b ≡ every p (upto n)
every_told p n true all back = sym (every_from p n (all refl))
every_told p n false all back = go (every p (upto n)) refl
  where
    go : (b : Bool) → every p (upto n) ≡ b → false ≡ b
    go true e = back (every_at p n e)
    go false e = refl
