use Rattle.std.proofs.Common.{ap, ◌∙◌, subst, length, arith, length-drop}
use Rattle.case_file.specs.Cases.{Holds}
use Rattle.case_file.proofs.reading.Case.read.Goals as goal

pub hand_out-requires-clause-whole : goal.hand_out-requires-clause-whole
hand_out-requires-clause-whole c =
    let read = rw c.in_ok-header.ensures.ok_part at c.read.ensures in
    omega (arith, ap length read.1 ∙ length-drop 17 c.args.bytes.now, c.in_ok-kind.ensures.whole, read.2)

pub returns-clause-holds : goal.returns-clause-holds
returns-clause-holds c =
    let file = c.args.bytes.now in
    let read = rw c.in_ok-header.ensures.ok_part at c.read.ensures in
    subst (λ h. Holds file h c.hand_out.result) read.0 (c.hand_out.ensures file read.1)
