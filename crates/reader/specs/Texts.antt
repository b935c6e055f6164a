-- The reasons, and a refusal, as text.
use Rattle.std.specs.Prelude.{ℕ, List, ◌++◌, codes, decimal}
use Rattle.reader.specs.declared.refusals.Reason.{Reason}
use Rattle.reader.specs.declared.refusals.Reason.TheVariants.{TooLong, Ended, NoCode, OutOfRange, TooDeep, TooManySteps, LeftOver}
use Rattle.reader.specs.declared.refusals.Refusal.{Refusal}

abbrev pub reason_text : Reason → List ℕ
reason_text TooLong = codes "too long"
reason_text Ended = codes "ended inside a program"
reason_text NoCode = codes "no code"
reason_text OutOfRange = codes "number out of range"
reason_text TooDeep = codes "too deep"
reason_text TooManySteps = codes "too many steps"
reason_text LeftOver = codes "words left over"

abbrev pub refusal_text : Refusal → List ℕ
refusal_text r = reason_text r.reason ++ (codes ", at word " ++ decimal r.at)
