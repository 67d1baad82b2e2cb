-- Passes one after another. Assumes nothing.
use Rattle.std.proofs.Common.{ℕ, Bool, true, List, [], ◌∷◌, ◌++◌, sym, refl, ap, ◌∙◌}
use Rattle.std.proofs.lemmas.List.Sums.{fold_push}
use Rattle.std.proofs.lemmas.Bool.{true≢false}
use Rattle.matrix.specs.Patterns.{Pattern}
use Rattle.growing.specs.declared.direction.Direction.{Direction}
use Rattle.growing.specs.Passes.{Pulls, pass, Settles}

module _ (d : Direction) (m : Pattern) (marks near x : List ℕ) where
  pub settles_none : Settles d m marks near true x x
  settles_none = record { turns = []; passed = refl; last = true; still = λ e. absurd (true≢false e) }

  pub settles_more : (y z : List ℕ) (moved now backward : Bool) → Settles d m marks near moved x y → Pulls d (pass d backward m marks near) now y z → Settles d m marks near now x z
  settles_more y z moved now backward s p =
      let f = λ (g : List ℕ) (b : Bool). pass d b m marks near g in
      record {
        turns = s.turns ++ backward ∷ [];
        passed = p.is_put ∙ ap (λ t. f t backward) s.passed ∙ sym (fold_push f x s.turns backward);
        last = backward;
        still = λ e. ap (λ t. f t backward) (p.still e) ∙ sym p.is_put;
      }
