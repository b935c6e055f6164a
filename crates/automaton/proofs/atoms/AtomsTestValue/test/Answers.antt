use Rattle.automaton.proofs.Masks.{test_atoms}
use Rattle.automaton.proofs.atoms.AtomsTestValue.test.Goals as goal

pub returns : goal.returns
returns c = test_atoms _ c.requires
