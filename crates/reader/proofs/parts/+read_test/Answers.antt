use Rattle.std.proofs.Common.{⊎_elim}
use Rattle.reader.proofs.HandedOn.{handed_on}
use Rattle.reader.proofs.TestsRead.{both_read, any_read, opposite_read, test_first_fault, test_second_fault, opposite_fault}
use Rattle.reader.proofs.parts.+read_test.Goals.{in-Both-head, in_default}
use Rattle.reader.proofs.parts.+read_test.Goals as goal

pub returns-in_err-one-in-Both : goal.returns-in_err-one-in-Both
returns-in_err-one-in-Both g t c = handed_on _ _ _ _ c.from_residual-in_err-one-in-Both.ensures.1 (test_first_fault _ _ _ _ c.in_ok-head.ensures c.in-Both.is _ c.in_err-one-in-Both.ensures)

pub returns-in_err-other-in-Both : goal.returns-in_err-other-in-Both
returns-in_err-other-in-Both g t c = handed_on _ _ _ _ c.from_residual-in_err-other-in-Both.ensures.1 (test_second_fault _ _ _ _ c.in_ok-head.ensures _ _ c.in_ok-one-in-Both.ensures c.in-Both.is _ c.in_err-other-in-Both.ensures)

pub returns-after-head-2 : goal.returns-after-head-2
returns-after-head-2 g t c = elim c.match-head-2.branch [
  | in-Both-head w ↦ rw w.test-is (both_read _ _ _ _ c.in_ok-head.ensures _ _ c.in_ok-one-in-Both.ensures w.in-Both-head.is _ _ _ w.both-test.ensures c.in_ok-other-in-Both.ensures)
  | in_default w ↦
      let any = ⊎_elim (λ e. absurd (w.in_default.not-Both e)) (λ e. e) c.in-Both.is in
      rw w.test-is (any_read _ _ _ _ c.in_ok-head.ensures _ _ c.in_ok-one-in-Both.ensures any _ _ _ w.any-test.ensures c.in_ok-other-in-Both.ensures)
]

pub returns-in_err-test-in-Opposite : goal.returns-in_err-test-in-Opposite
returns-in_err-test-in-Opposite g t c = handed_on _ _ _ _ c.from_residual-in_err-test-in-Opposite.ensures.1 (opposite_fault _ _ _ _ c.in_ok-head.ensures c.in-Opposite.is _ c.in_err-test-in-Opposite.ensures)

pub returns-in_ok-test-in-Opposite : goal.returns-in_ok-test-in-Opposite
returns-in_ok-test-in-Opposite g t c = opposite_read _ _ _ _ c.in_ok-head.ensures c.in-Opposite.is _ _ _ c.opposite.ensures c.in_ok-test-in-Opposite.ensures
