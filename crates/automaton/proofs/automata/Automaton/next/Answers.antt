use Rattle.automaton.proofs.NextSets.{next_none, next_some}
use Rattle.automaton.proofs.automata.Automaton.next.Goals as goal

pub returns-then-step-ge-STEPS : goal.returns-then-step-ge-STEPS
returns-then-step-ge-STEPS c = next_none c.args.self.now _ _ _ c.if-step-ge-STEPS.true

pub returns : goal.returns
returns c = next_some c.args.self.now _ _ _ _ c.if-step-ge-STEPS.false c.row_of.ensures
