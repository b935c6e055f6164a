use Rattle.std.proofs.Common.{refl}
use Rattle.automaton.proofs.Adding.{guard_added}
use Rattle.automaton.proofs.building.TablesBuilder.guard.Goals as goal

pub returns : goal.returns
returns c = λ t h. (refl, guard_added t _ _ _ h c.ending.ensures)
