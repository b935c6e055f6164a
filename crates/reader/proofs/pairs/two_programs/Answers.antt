use Rattle.std.proofs.Common.{rules}
use Rattle.reader.proofs.HandedOn.{handed_on}
use Rattle.reader.proofs.PairFaults.{first_fails, second_fails, left_over}
use Rattle.reader.proofs.pairs.two_programs.Goals as goal

pub returns-in_err-first_steps : goal.returns-in_err-first_steps
returns-in_err-first_steps c = handed_on _ _ _ _ c.from_residual.ensures.1 (first_fails _ _ c.in_err-first_steps.ensures)

pub returns-in_err-second_steps : goal.returns-in_err-second_steps
returns-in_err-second_steps c = handed_on _ _ _ _ c.from_residual-in_err-second_steps.ensures.1 (second_fails _ _ _ _ c.in_ok-first_steps.ensures c.in_err-second_steps.ensures)

pub returns-then-not-is_empty : goal.returns-then-not-is_empty
returns-then-not-is_empty c = rw c.at.ensures (left_over _ _ _ _ _ c.in_ok-first_steps.ensures c.in_ok-second_steps.ensures (search rules))
