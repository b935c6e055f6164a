use Rattle.kat.proofs.BitOperations.{bit_of_or}
use Rattle.automaton.proofs.rows.Row.or.Goals as goal

pub returns : goal.returns
returns c = record { ends = λ a. bit_of_or a _ _; next = c.joined.ensures }
