use Rattle.std.proofs.Common.{⊎_elim}
use Rattle.reader.proofs.HandedOn.{handed_on}
use Rattle.reader.proofs.ProgramsRead.{guard_fault, guard_read, first_fault, second_fault, star_fault, sequence_read, choice_read, star_read}
use Rattle.reader.proofs.parts.+read_program.Goals.{in-Sequence-head, in_default}
use Rattle.reader.proofs.parts.+read_program.Goals as goal

pub returns-in_err-head : goal.returns-in_err-head
returns-in_err-head g t c = handed_on _ _ _ _ c.from_residual.ensures.1 c.in_err-head.ensures.0

pub returns-in_err-test-in-Guard : goal.returns-in_err-test-in-Guard
returns-in_err-test-in-Guard g t c = handed_on _ _ _ _ c.from_residual-in_err-test-in-Guard.ensures.1 (guard_fault _ _ _ _ _ c.in_ok-head.ensures c.in-Guard.is _ c.in_err-test-in-Guard.ensures)

pub returns-in_ok-test-in-Guard : goal.returns-in_ok-test-in-Guard
returns-in_ok-test-in-Guard g t c = guard_read _ _ _ _ _ c.in_ok-head.ensures c.in-Guard.is _ _ _ c.guard.ensures c.in_ok-test-in-Guard.ensures

pub returns-in_err-one-in-Sequence : goal.returns-in_err-one-in-Sequence
returns-in_err-one-in-Sequence g t c = handed_on _ _ _ _ c.from_residual-in_err-one-in-Sequence.ensures.1 (first_fault _ _ _ _ _ c.in_ok-head.ensures c.in-Sequence.is _ c.in_err-one-in-Sequence.ensures)

pub returns-in_err-other-in-Sequence : goal.returns-in_err-other-in-Sequence
returns-in_err-other-in-Sequence g t c = handed_on _ _ _ _ c.from_residual-in_err-other-in-Sequence.ensures.1 (second_fault _ _ _ _ _ c.in_ok-head.ensures _ _ _ (λ p a. g.met.B.Builder.steps_counted _ _ p _ a) c.in_ok-one-in-Sequence.ensures c.in-Sequence.is _ c.in_err-other-in-Sequence.ensures)

pub returns-after-head-2 : goal.returns-after-head-2
returns-after-head-2 g t c = elim c.match-head-2.branch [
  | in-Sequence-head w ↦ rw (w.builder-is, w.part-is) (sequence_read _ _ _ _ _ c.in_ok-head.ensures _ _ _ (λ p a. g.met.B.Builder.steps_counted _ _ p _ a) c.in_ok-one-in-Sequence.ensures w.in-Sequence-head.is _ _ _ (w.sequence-part.ensures _ _) c.in_ok-other-in-Sequence.ensures)
  | in_default w ↦
      let choice = ⊎_elim (λ e. absurd (w.in_default.not-Sequence e)) (λ e. e) c.in-Sequence.is in
      rw (w.builder-is, w.part-is) (choice_read _ _ _ _ _ c.in_ok-head.ensures _ _ _ (λ p a. g.met.B.Builder.steps_counted _ _ p _ a) c.in_ok-one-in-Sequence.ensures choice _ _ _ (w.choice-part.ensures _ _) c.in_ok-other-in-Sequence.ensures)
]

pub returns-in_err-once-in-Star : goal.returns-in_err-once-in-Star
returns-in_err-once-in-Star g t c = handed_on _ _ _ _ c.from_residual-in_err-once-in-Star.ensures.1 (star_fault _ _ _ _ _ c.in_ok-head.ensures c.in-Star.is _ c.in_err-once-in-Star.ensures)

pub returns-in_ok-once-in-Star : goal.returns-in_ok-once-in-Star
returns-in_ok-once-in-Star g t c = star_read _ _ _ _ _ c.in_ok-head.ensures c.in-Star.is _ _ _ (c.star.ensures _) c.in_ok-once-in-Star.ensures
