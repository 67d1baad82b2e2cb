-- The number that bytes stand for, byte by byte. Assumes nothing.
use Rattle.std.proofs.Common.{◌≡◌, ℕ, ◌+◌, ◌*◌, ◌<◌, ◌≤◌, List, map, length, sym, refl, ap, ◌∙◌, arith}
use Rattle.std.specs.List.{between}
use Rattle.std.proofs.lemmas.List.FromFn.{fill_by_all}
use Rattle.std.proofs.lemmas.List.Edits.{length-between, get_or-between}
use Rattle.checks.specs.Lists.{at, upto}
use Rattle.case_file.specs.Numbers.{big, number_at}

pub big_of : (bytes : List ℕ) (n : ℕ) → length bytes ≡ n → big (map (at bytes) (upto n)) ≡ big bytes
big_of bytes n long = ap big (sym (fill_by_all (at bytes) bytes n 0 long (λ k l. refl)))

-- the number in four bytes of a file
pub four_bytes : (file : List ℕ) (i : ℕ) → i + 4 ≤ length file → at file (i + 0) * 16777216 + at file (i + 1) * 65536 + at file (i + 2) * 256 + at file (i + 3) ≡ number_at file i
four_bytes file i h =
    let part = between i (i + 4) file in
    let long : length part ≡ 4 = length-between file i (i + 4) h ∙ omega arith in
    let same : (k : ℕ) → k < 4 → at part k ≡ at file (i + k) = λ k l. get_or-between file i (i + 4) k 0 (omega arith) in
    omega (arith, big_of part 4 long, same 0 (omega arith), same 1 (omega arith), same 2 (omega arith), same 3 (omega arith))
