use Rattle.automaton.proofs.Adding.{choice_added}
use Rattle.automaton.proofs.building.TablesBuilder.choice.Goals as goal

pub returns : goal.returns
returns c = λ old mid p q a b. (a.0, choice_added p q old mid _ _ _ _ a.1 b.1 c.or.ensures)
