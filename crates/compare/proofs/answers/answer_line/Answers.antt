use Rattle.std.proofs.lemmas.Result.{err_from_is_err_and}
use Rattle.compare.proofs.LineAnswers.{line_answer, no_line_answer}
use Rattle.compare.proofs.answers.answer_line.Goals as goal

pub returns-in_err-numbers-clause-answer : goal.returns-in_err-numbers-clause-answer
returns-in_err-numbers-clause-answer c = λ bs h.
    let p = err_from_is_err_and c.from_residual.result c.from_residual.ensures.1 in
    rw p.1 (no_line_answer bs (c.in_err-numbers.ensures.reads bs h))

pub returns-clause-answer : goal.returns-clause-answer
returns-clause-answer c = λ bs h. line_answer bs _ _ (c.in_ok-numbers.ensures.reads bs h) c.answer_words.ensures
