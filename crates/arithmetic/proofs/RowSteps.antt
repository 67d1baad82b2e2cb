-- The end of the walk over a row's entries. Assumes nothing.
use Rattle.std.proofs.Common.{◌≡◌, List, [], Some, None, fold, Option, sym, ap, ◌∙◌}
use Rattle.arithmetic.specs.Meanings.{Meaning}
use Rattle.arithmetic.specs.Sweeps.{finished_by}

-- a walk over pairs, of which none is left
module _ {E S : Type 0} (f : S → E → S) where
  pub walk_all : (s : S) {all : S} {xs : List E} → xs ≡ [] → fold f s xs ≡ all → s ≡ all
  walk_all s p inv = sym (ap (fold f s) p) ∙ inv

module _ {C V : Type 0} (m : Meaning C V) {acc all : V} {own last : Option C} (e : acc ≡ all) (l : own ≡ last) where
  pub finished_some : {d : C} {r : V} → r ≡ m.finished acc d → own ≡ Some d → r ≡ finished_by m all last
  finished_some {d} f s = f ∙ ap (λ v. m.finished v d) e ∙ ap (finished_by m all) (sym s ∙ l)

  pub finished_none : own ≡ None → acc ≡ finished_by m all last
  finished_none n = e ∙ ap (finished_by m all) (sym n ∙ l)
