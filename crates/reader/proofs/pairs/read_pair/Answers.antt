use Rattle.std.proofs.Common.{rules}
use Rattle.reader.proofs.PairFaults.{read_or_refused, too_long}
use Rattle.reader.proofs.pairs.read_pair.Goals as goal

pub returns-then-words-gt-MAX_WORDS-clause-answer : goal.returns-then-words-gt-MAX_WORDS-clause-answer
returns-then-words-gt-MAX_WORDS-clause-answer c = too_long _ c.if-words-gt-MAX_WORDS.true

pub returns-clause-answer : goal.returns-clause-answer
returns-clause-answer c = read_or_refused _ _ _ _ (λ f q h. search rules) c.if-words-gt-MAX_WORDS.false c.two_programs.ensures c.map_err.ensures.cases
