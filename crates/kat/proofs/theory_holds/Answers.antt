use Rattle.kat.proofs.Theory.{theory}
use Rattle.kat.proofs.Examples.{examples}
use Rattle.kat.proofs.theory_holds.Goals as goal

pub returns : goal.returns
returns c = record { theory = theory; examples = examples }
