use Rattle.automaton.proofs.Adding.{sequence_added}
use Rattle.automaton.proofs.building.TablesBuilder.sequence.Goals as goal

pub returns : goal.returns
returns c = λ old mid p q a b. (a.0, sequence_added p q old mid _ _ _ _ a.1 b.1 _ (rw (a.0, b.0) at c.lead_on.ensures) c.then.ensures)
