-- What reading words as two programs answers.
--     IsPair      the words s are two programs in range: where the second begins, and how many steps each has
--     Told        what is true where a reason is told after the words u, with the words v left. How many words there may be
--                 counts for one reason only, so that a pair that can still come may be too long
--     Refused     the words s are not two programs in range: the reason that is met first from the left, and at which word
use Rattle.std.specs.Prelude.{◌≡◌, ℕ, ◌<◌, ◌≤◌, List, ◌++◌, length, take, drop, Result, MatchResult, ◌≢◌}
use Rattle.kat.specs.Programs.{Program, steps}
use Rattle.kat.specs.Words.{words, TwoPrograms, max_words}
use Rattle.reader.specs.declared.refusals.Reason.{Reason}
use Rattle.reader.specs.declared.refusals.Reason.TheVariants.{TooLong, Ended, NoCode, OutOfRange, TooDeep, TooManySteps, LeftOver}
use Rattle.reader.specs.declared.refusals.Refusal.{Refusal}
use Rattle.reader.specs.declared.pairs.Pair.{Pair}
use Rattle.reader.specs.Limits.{PairKeeps}
use Rattle.reader.specs.Faults.{All, Met}

abbrev pub IsPair : List ℕ → Pair → Type 0
IsPair s r = (p q : Program) × TwoPrograms s p q × (r.second ≡ length (words p)) × (r.first_steps ≡ steps p) × (r.second_steps ≡ steps q)

abbrev pub pair_words : Program × Program → List ℕ
pair_words pq = words pq.0 ++ words pq.1

abbrev pub Told : List ℕ → List ℕ → Reason → Type 0
Told u v TooLong = (length u ≡ max_words) × (0 < length v)
Told u v Ended = Met pair_words PairKeeps u v Ended
Told u v NoCode = Met pair_words PairKeeps u v NoCode
Told u v OutOfRange = Met pair_words PairKeeps u v OutOfRange
Told u v TooDeep = Met pair_words PairKeeps u v TooDeep
Told u v TooManySteps = Met pair_words PairKeeps u v TooManySteps
Told u v LeftOver = (0 < length v) × (pq : Program × Program) × (u ≡ pair_words pq) × All PairKeeps pq

pub record Refused (s : List ℕ) (r : Refusal) : Type 0 where
  pub none : (p q : Program) → TwoPrograms s p q → ⊥
  pub within : r.at ≤ length s
  pub short : (r.reason ≢ TooLong) → length s ≤ max_words
  pub told : Told (take r.at s) (drop r.at s) r.reason

-- The answer is exact: words have one only.
abbrev pub OneAnswer : Type 0
OneAnswer = (s : List ℕ) (r r' : Result Pair Refusal) → MatchResult r (IsPair s) (Refused s) → MatchResult r' (IsPair s) (Refused s) → r ≡ r'
