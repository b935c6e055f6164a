use Rattle.std.proofs.Common.{arith}
use Rattle.reader.proofs.HandedOn.{handed_on}
use Rattle.reader.proofs.HeadFaults.{test_no_code, test_too_deep, bad_test}
use Rattle.reader.proofs.NoHeads.{no_code_test, deep_test, bad_number_test}
use Rattle.reader.proofs.heads.test_head_of.Goals as goal

pub returns-in_err-n-in-2 : goal.returns-in_err-n-in-2
returns-in_err-n-in-2 c =
    let e = rw c.in-2.is at c.in_ok-code.ensures in
    handed_on _ _ _ _ c.from_residual-in_err-n-in-2.ensures.1 (bad_test _ _ _ _ e c.in_err-n-in-2.ensures, bad_number_test _ _ _ _ c.in_err-n-in-2.ensures e)

pub returns-then-depth-eq0 : goal.returns-then-depth-eq0
returns-then-depth-eq0 c =
    let e = c.in_ok-code.ensures in
    rw c.at.ensures (test_too_deep _ _ _ _ (omega arith) (omega arith) c.if-depth-eq0.true e, deep_test _ _ _ _ (omega arith) c.if-depth-eq0.true e)

pub returns-in_default : goal.returns-in_default
returns-in_default c =
    let e = c.in_ok-code.ensures in
    rw c.at-in_default.ensures (test_no_code _ _ _ _ (omega arith) e, no_code_test _ _ _ _ (omega arith) e)
