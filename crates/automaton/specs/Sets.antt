-- Sets of places are the states of the automaton's acceptor. This is said of each automaton that the tables describe.
--     OfEach      this is true of each of them
--     Begins      the set of the beginning alone: the bit after the last place's
--     RowFrom     what may come next from somewhere in the set u
--     AcceptsAt   the atoms at which the set u accepts
--     NextIs      v is the set that letter a, s leads to from the set u
use Rattle.std.specs.Prelude.{◌≡◌, ℕ, ◌^◌}
use Rattle.kat.specs.Automata as spec
use Rattle.kat.specs.Acceptors.{from_some, acceptor_of}
use Rattle.automaton.specs.declared.rows.Row.{Row}
use Rattle.automaton.specs.declared.automata.Automaton.{Automaton}
use Rattle.automaton.specs.Atoms.{AtomsAre}
use Rattle.automaton.specs.Rows.{RowIs}
use Rattle.automaton.specs.Tables.{Describe}

abbrev pub OfEach : Automaton → (spec.Automaton → Type 0) → Type 0
OfEach m P = (of : spec.Automaton) → Describe m.tables of → P of

abbrev pub Begins : Automaton → ℕ → Type 0
Begins m u = (u ≡ 2 ^ m.tables.end.number) × OfEach m (λ of. u ≡ (acceptor_of of).begins)

abbrev pub RowFrom : Automaton → ℕ → Row → Type 0
RowFrom m u row = OfEach m (λ of. RowIs (λ a. from_some of.places u (λ r. of.ends r a)) (λ a y. from_some of.places u (λ r. of.next r a y)) row)

abbrev pub AcceptsAt : Automaton → ℕ → ℕ → Type 0
AcceptsAt m u atoms = OfEach m (λ of. AtomsAre ((acceptor_of of).accepts u) atoms)

abbrev pub NextIs : Automaton → ℕ → ℕ → ℕ → ℕ → Type 0
NextIs m u a s v = OfEach m (λ of. v ≡ (acceptor_of of).next u a s)
