-- The depth that is left falls.
use Rattle.reader.proofs.parts.+read_test.Given as goal

abbrev pub decreases-read_test : goal.decreases-read_test
decreases-read_test g l = l.depth
