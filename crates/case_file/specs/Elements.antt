-- The elements of a table in a file: each takes so many bytes, and bytes left over at the end are none. Assumes nothing.
use Rattle.std.specs.Prelude.{ℕ, ◌+◌, ◌*◌, ◌/◌, cond, List, map, length, Some, None, Option, ◌==◌, nat_lt}
use Rattle.std.specs.List.{between}
use Rattle.checks.specs.Lists.{upto}

-- what bytes mean that are to be one element
abbrev pub one_element : {X : Type 0} → ℕ → (List ℕ → X) → List ℕ → Option X
one_element width filed bytes = cond (length bytes == width) (Some (filed bytes)) None

-- how many whole elements there are
abbrev pub element_count : ℕ → List ℕ → ℕ
element_count width bytes = length bytes / width

-- the bytes of element i
abbrev pub element_bytes : ℕ → List ℕ → ℕ → List ℕ
element_bytes width bytes i = between (i * width) (i * width + width) bytes

-- element i, where there is one
abbrev pub element_at : {X : Type 0} → ℕ → (List ℕ → X) → List ℕ → ℕ → Option X
element_at width filed bytes i = cond (nat_lt i (element_count width bytes)) (Some (filed (element_bytes width bytes i))) None

-- every whole element, in order
abbrev pub elements : {X : Type 0} → ℕ → (List ℕ → X) → List ℕ → List X
elements width filed bytes = map (λ i. filed (element_bytes width bytes i)) (upto (element_count width bytes))
