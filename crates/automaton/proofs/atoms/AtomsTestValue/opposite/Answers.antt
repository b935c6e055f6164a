use Rattle.automaton.proofs.Masks.{opposite_atoms}
use Rattle.automaton.proofs.atoms.AtomsTestValue.opposite.Goals as goal

pub returns : goal.returns
returns c = opposite_atoms _
