-- The rows before this one are led on.
use Rattle.automaton.proofs.Leading.{LedTo}
use Rattle.automaton.proofs.rows.lead_all.Given as goal

abbrev pub invariant-loop-row : goal.invariant-loop-row
invariant-loop-row l = LedTo l.row-index l.initial.rows l.next l.rows
