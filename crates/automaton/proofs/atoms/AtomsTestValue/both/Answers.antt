use Rattle.automaton.proofs.Masks.{both_atoms}
use Rattle.automaton.proofs.atoms.AtomsTestValue.both.Goals as goal

pub returns : goal.returns
returns c = both_atoms _ _
