use Rattle.std.proofs.Common.{rules}
use Rattle.std.proofs.lemmas.List.{nil_from_length}
use Rattle.compare.proofs.LineAnswers.{no_words}
use Rattle.compare.proofs.answers.answer_words.Goals as goal

pub returns-then-is_empty : goal.returns-then-is_empty
returns-then-is_empty c =
    let e = nil_from_length c.args.words.now (search rules) in
    (no_words _ e, e)
