use Rattle.std.proofs.Common.{◌≡◌, ◌≤◌, length, ◌∙◌, arith, rules}
use Rattle.std.proofs.lemmas.List.{take_rest}
use Rattle.case_file.specs.Numbers.{number_at}
use Rattle.case_file.proofs.Bigs.{four_bytes}
use Rattle.case_file.proofs.reading.Header.read.Goals as goal

pub returns : goal.returns
returns c =
    let file = c.args.bytes.now in
    let long : 17 ≤ length file = search rules in
    let l : c.from_be_bytes.result ≡ number_at file 0 = c.from_be_bytes.ensures ∙ four_bytes file 0 (omega arith) in
    let r : c.from_be_bytes-2.result ≡ number_at file 9 = c.from_be_bytes-2.ensures ∙ four_bytes file 9 (omega arith) in
    let e : c.from_be_bytes-3.result ≡ number_at file 13 = c.from_be_bytes-3.ensures ∙ four_bytes file 13 (omega arith) in
    (cc, take_rest file 17, long)
