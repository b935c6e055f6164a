-- What is answered to a line of words, and in which words.
--     AnswerTo       the answer to a line of these bytes: two programs exactly if they spell two programs in range
--     Answered       the answer to these words, with its reason; LineAnswered: to what was read of a line
--     answer_text    the answer as it is written
use Rattle.std.specs.Prelude.{◌≡◌, ℕ, ◌<◌, List, [], ◌++◌, length, Result, Ok, Err, codes, decimal}
use Rattle.kat.specs.Programs.{Program}
use Rattle.kat.specs.Words as kat
use Rattle.kat.specs.Words.{max_words}
use Rattle.lines.specs.declared.Fault.{Fault}
use Rattle.lines.specs.declared.Fault.TheVariants as fault
use Rattle.lines.specs.Spelling.{Spells}
use Rattle.lines.specs.declared.State.{State}
use Rattle.lines.specs.declared.State.TheVariants.{Gap, Number, Stopped}
use Rattle.lines.specs.Scanning.{Reading}
use Rattle.reader.specs.declared.refusals.Reason.TheVariants.{TooLong}
use Rattle.reader.specs.Reading as reader
use Rattle.reader.specs.Texts.{refusal_text}
use Rattle.compare.specs.declared.answers.Why.{Why}
use Rattle.compare.specs.declared.answers.Why.TheVariants.{Empty, NotNumber, TooLarge, Refused}

abbrev pub Answer : Type 0
Answer = Result (Unit {0}) Why

abbrev pub AnswerTo : List ℕ → Answer → Type 0
AnswerTo bs (Ok x) = (s : List ℕ) × (p q : Program) × Spells bs s × kat.TwoPrograms s p q
AnswerTo bs (Err why) = (s : List ℕ) (p q : Program) → Spells bs s → kat.TwoPrograms s p q → ⊥

-- why words are not two programs: there are none, or as the reader says
abbrev pub WordsRefused : List ℕ → Why → Type 0
WordsRefused s Empty = s ≡ []
WordsRefused s (NotNumber column) = ⊥
WordsRefused s (TooLarge column) = ⊥
WordsRefused s (Refused r) = (0 < length s) × reader.Refused s r

abbrev pub Answered : List ℕ → Answer → Type 0
Answered s (Ok x) = (p q : Program) × kat.TwoPrograms s p q
Answered s (Err why) = ((p q : Program) → kat.TwoPrograms s p q → ⊥) × WordsRefused s why

-- why, where reading stopped: more numbers than two programs may have words are too many words
abbrev pub why_of_stop : Fault → ℕ → Why
why_of_stop fault.NotNumber column = NotNumber column
why_of_stop fault.TooLarge column = TooLarge column
why_of_stop fault.TooMany column = Refused (record { reason = TooLong; at = max_words })

abbrev pub StateAnswered : State → List ℕ → ℕ → Answer → Type 0
StateAnswered Gap ns column r = Answered ns r
StateAnswered (Number n) ns column r = Answered ns r
StateAnswered (Stopped f) ns column r = r ≡ Err (why_of_stop f column)

abbrev pub LineAnswered : Reading → Answer → Type 0
LineAnswered l r = StateAnswered l.scan.state l.scan.numbers l.column r

abbrev pub why_text : Why → List ℕ
why_text Empty = codes "an empty line"
why_text (NotNumber column) = codes "not a number, at column " ++ decimal column
why_text (TooLarge column) = codes "a number over 32 bits, at column " ++ decimal column
why_text (Refused r) = refusal_text r

abbrev pub answer_text : Answer → List ℕ
answer_text (Ok x) = codes "two programs"
answer_text (Err why) = codes "no programs: " ++ why_text why
