use Rattle.automaton.proofs.Masks.{any_atoms}
use Rattle.automaton.proofs.atoms.AtomsTestValue.any.Goals as goal

pub returns : goal.returns
returns c = any_atoms _ _
