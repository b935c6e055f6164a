-- From what a line's bytes spell to the answer.
mod WordsFit
mod LineAnswers
