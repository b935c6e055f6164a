use Rattle.automaton.proofs.automata.Automaton.accepts.Goals as goal

pub returns : goal.returns
returns c of t = (c.row_of.ensures of t).ends_are
