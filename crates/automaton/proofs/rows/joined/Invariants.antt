-- The atoms before this one are joined.
use Rattle.automaton.proofs.Joining.{JoinedTo}
use Rattle.automaton.proofs.rows.joined.Given as goal

abbrev pub invariant-loop-atom : goal.invariant-loop-atom
invariant-loop-atom l = JoinedTo l.atom l.one l.other l.atoms l.places-items
