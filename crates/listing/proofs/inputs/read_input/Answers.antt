use Rattle.std.proofs.Common.{◌≡◌, ℕ, List, [], ◌++◌, take, Some, None, Option, IfSome, ap, ◌∙◌}
use Rattle.std.specs.Option.{option_map}
use Rattle.listing.proofs.inputs.read_input.Goals as goal

-- what is known to come and is taken, behind nothing
taken : (o : Option (List ℕ)) (n : ℕ) (before after : List ℕ) → before ≡ [] → IfSome (option_map (take n) o) (λ xs. after ≡ before ++ xs) → IfSome o (λ bytes. after ≡ take n bytes)
taken None n before after b e = tt
taken (Some bytes) n before after b e = e ∙ ap (λ xs. xs ++ take n bytes) b

pub returns : goal.returns
returns g c =
    let come = taken (g.R.Read.remaining c.take.result.inner) c.take.result.limit c.new-input.result.items c.read_to_end.new.buf.items c.new-input.ensures.items c.in_ok-read_to_end.ensures.bytes in
    rw (c.take.ensures.inner, c.take.ensures.limit) at come
