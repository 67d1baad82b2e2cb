-- Numbers in a file: unsigned, the highest byte first. Assumes nothing.
use Rattle.std.specs.Prelude.{ℕ, ◌+◌, ◌*◌, List, fold}
use Rattle.std.specs.List.{between}

-- the number that bytes stand for
abbrev pub big : List ℕ → ℕ
big bytes = fold (λ n b. n * 256 + b) 0 bytes

-- the number in the four bytes from i on
abbrev pub number_at : List ℕ → ℕ → ℕ
number_at bytes i = big (between i (i + 4) bytes)
