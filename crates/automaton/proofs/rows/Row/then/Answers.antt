use Rattle.kat.proofs.BitOperations.{bit_of_and}
use Rattle.automaton.proofs.rows.Row.then.Goals as goal

pub returns : goal.returns
returns c = record { ends = λ a. bit_of_and a _ _; next = c.joined.ensures }
