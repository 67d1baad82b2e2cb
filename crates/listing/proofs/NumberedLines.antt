-- One numbered line more. Assumes nothing.
use Rattle.std.proofs.Common.{◌≡◌, ℕ, ◌+◌, ◌<◌, ◌≤◌, List, ◌∷◌, ◌++◌, length, get_or, drop, sym, ap, ◌∙◌, append_assoc, append-nil}
use Rattle.std.proofs.lemmas.List.{drop_more, drop_all}
use Rattle.listing.specs.Lines.{numbered}

module _ {X : Type 0} (line : ℕ → X → List ℕ) (xs : List X) (i : ℕ) {all : List ℕ} where
  pub numbered_more : (x : X) (here before after : List ℕ) → i < length xs → x ≡ get_or xs i x → here ≡ line i x → after ≡ before ++ here
      → before ++ numbered line i (drop i xs) ≡ all → after ++ numbered line (i + 1) (drop (i + 1) xs) ≡ all
  numbered_more x here before after l read e w inv =
      let rest : List ℕ = numbered line (i + 1) (drop (i + 1) xs) in
      let front : drop i xs ≡ x ∷ drop (i + 1) xs = drop_more xs i x l ∙ ap (λ y. y ∷ drop (i + 1) xs) (sym read) in
      ap (λ a. a ++ rest) (w ∙ ap (λ a. before ++ a) e) ∙ append_assoc before (line i x) rest ∙ ap (λ ys. before ++ numbered line i ys) (sym front) ∙ inv

  pub numbered_all : (before : List ℕ) → length xs ≤ i → before ++ numbered line i (drop i xs) ≡ all → before ≡ all
  numbered_all before l inv = sym (append-nil before) ∙ ap (λ ys. before ++ numbered line i ys) (sym (drop_all i xs l)) ∙ inv
