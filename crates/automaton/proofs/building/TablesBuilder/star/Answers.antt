use Rattle.automaton.proofs.Adding.{star_added}
use Rattle.automaton.proofs.building.TablesBuilder.star.Goals as goal

pub returns : goal.returns
returns c = λ old p a. (a.0, star_added p old _ _ _ _ a.1 c.or_nothing-again.ensures (rw a.0 at c.lead_on.ensures))
