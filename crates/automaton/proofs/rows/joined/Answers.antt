use Rattle.automaton.proofs.Joining.{bit_set, bit_clear, joined_at, passed_at}
use Rattle.automaton.proofs.rows.joined.Goals.{then-atoms-atom-eq1, else-atoms-atom-eq1}
use Rattle.automaton.proofs.rows.joined.Goals as goal

pub loop-atom-preserved : goal.loop-atom-preserved
loop-atom-preserved c = elim c.if-atoms-atom-eq1.branch [
  | then-atoms-atom-eq1 w ↦ rw w.places-items-is (joined_at _ _ _ _ _ c.loop-atom-test.true c.loop-atom.invariant (bit_set _ _ w.if-atoms-atom-eq1.true))
  | else-atoms-atom-eq1 w ↦ rw w.places-items-is (passed_at _ _ _ _ _ c.loop-atom-test.true c.loop-atom.invariant (bit_clear _ _ w.if-atoms-atom-eq1.false))
]
