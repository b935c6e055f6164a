use Rattle.std.proofs.Common.{inl, inr, arith}
use Rattle.reader.proofs.HandedOn.{handed_on}
use Rattle.reader.proofs.HeadFaults.{ended, program_no_code, program_too_deep, bad_step, too_many_steps}
use Rattle.reader.proofs.NoHeads.{no_words, no_code_head, deep_head, bad_step_head}
use Rattle.reader.proofs.ProgramGrammar.{programs}
use Rattle.reader.proofs.heads.head_of.Goals as goal

pub returns-in_err-code : goal.returns-in_err-code
returns-in_err-code c =
    let e = c.in_err-code.ensures.0 in
    handed_on _ _ _ _ c.from_residual.ensures.1 (rw c.in_err-code.ensures.1 (ended programs _ _ _ e, no_words _ _ _ e))

pub returns-then-steps-eq0 : goal.returns-then-steps-eq0
returns-then-steps-eq0 c =
    let e = rw c.in-1.is at c.in_ok-code.ensures in
    rw c.at.ensures (too_many_steps _ _ _ _ c.if-steps-eq0.true e, bad_step_head _ _ _ _ (inl c.if-steps-eq0.true) e)

pub returns-in_err-n-in-1 : goal.returns-in_err-n-in-1
returns-in_err-n-in-1 c =
    let e = rw c.in-1.is at c.in_ok-code.ensures in
    handed_on _ _ _ _ c.from_residual-in_err-n-in-1.ensures.1 (bad_step _ _ _ _ _ (omega arith) e c.in_err-n-in-1.ensures, bad_step_head _ _ _ _ (inr (_, c.in_err-n-in-1.ensures)) e)

pub returns-then-depth-eq0 : goal.returns-then-depth-eq0
returns-then-depth-eq0 c =
    let e = c.in_ok-code.ensures in
    rw c.at-then-depth-eq0.ensures (program_too_deep _ _ _ _ _ (omega arith) (omega arith) c.if-depth-eq0.true e, deep_head _ _ _ _ _ (omega arith) c.if-depth-eq0.true e)

pub returns-in_default : goal.returns-in_default
returns-in_default c =
    let e = c.in_ok-code.ensures in
    rw c.at-in_default.ensures (program_no_code _ _ _ _ _ (omega arith) e, no_code_head _ _ _ _ _ (omega arith) e)
