use Rattle.std.proofs.Common.{refl}
use Rattle.reader.proofs.HandedOn.{handed_on}
use Rattle.automaton.proofs.ReadTables.{program_described, program_read}
use Rattle.automaton.proofs.automata.Automaton.read.Goals as goal

pub invariant_of-result : goal.invariant_of-result
invariant_of-result c =
    let d = program_described _ _ _ _ _ c.in_ok-beginning.beginning c.new-tables.ensures refl refl refl c.in_ok-beginning.ensures in
    record { of_program = ∣ (d.0, d.2, d.3) ∣₁ }

pub returns-clause-answer : goal.returns-clause-answer
returns-clause-answer c =
    let d = program_described _ _ _ _ _ c.in_ok-beginning.beginning c.new-tables.ensures refl refl refl c.in_ok-beginning.ensures in
    program_read _ _ _ d

pub returns-in_err-beginning-clause-answer : goal.returns-in_err-beginning-clause-answer
returns-in_err-beginning-clause-answer c = handed_on _ _ _ _ c.from_residual.ensures.1 (rw c.new-tables.ensures.no_places at c.in_err-beginning.ensures)
