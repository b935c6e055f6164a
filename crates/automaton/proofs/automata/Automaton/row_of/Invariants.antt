-- The places before this one are joined.
use Rattle.automaton.proofs.SetRows.{RowTo}
use Rattle.automaton.proofs.automata.Automaton.row_of.Given as goal

abbrev pub invariant-loop-bit : goal.invariant-loop-bit
invariant-loop-bit l = RowTo l.bit l.self l.set l.row
