-- The depth that is left falls.
use Rattle.reader.proofs.parts.+read_program.Given as goal

abbrev pub decreases-read_program : goal.decreases-read_program
decreases-read_program g l = l.depth
