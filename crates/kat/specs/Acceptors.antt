-- Deterministic acceptors: their states are numbers, and a letter is an atom and a step.
--     Acceptor      the state it begins with; whether a state accepts at an atom; and the state that a letter leads to
--     led           the state that moves lead to
--     Accepts       the state that a trace's moves lead to, from the first, accepts at the trace's last atom
--     reached       the places that a letter leads to from a set of places
--     acceptor_of   an automaton's sets of places: bit x of a set is place x, and the bit after the last place's the beginning
use Rattle.std.specs.Prelude.{ℕ, zero, suc, ◌^◌, Bool, true, false, ◌&&◌, ◌||◌, T, List, [], ◌∷◌, ◌==◌}
use Rattle.kat.specs.Bits.{bit, from_bits}
use Rattle.kat.specs.Traces.{Move, Trace, last_atom}
use Rattle.kat.specs.Automata.{From, beginning, past, Automaton}

pub record Acceptor : Type 0 where
  pub begins : ℕ
  pub accepts : ℕ → ℕ → Bool
  pub next : ℕ → ℕ → ℕ → ℕ

abbrev pub led : Acceptor → ℕ → ℕ → List Move → ℕ
led m u a [] = u
led m u a (g ∷ gs) = led m (m.next u a g.does) g.after gs

abbrev pub Accepts : Acceptor → Trace → Type 0
Accepts m t = T (m.accepts (led m m.begins t.starts t.moves) (last_atom t.starts t.moves))

-- whether f holds of some number below n
abbrev pub some : ℕ → (ℕ → Bool) → Bool
some zero f = false
some (suc n) f = f n || some n f

-- where a run stands at bit x of a set, of n places
abbrev pub from_bit : ℕ → ℕ → From
from_bit n x = elim (x == n) [ true ↦ beginning | false ↦ past x ]

-- from somewhere in the set u, f holds
abbrev pub from_some : ℕ → ℕ → (From → Bool) → Bool
from_some n u f = some (suc n) (λ x. bit x u && f (from_bit n x))

-- from somewhere in the set u, at atom a, place y may come next, and it has step s
abbrev pub reached : Automaton → ℕ → ℕ → ℕ → ℕ → Bool
reached m u a s y = from_some m.places u (λ r. m.next r a y) && m.label y == s

abbrev pub acceptor_of : Automaton → Acceptor
acceptor_of m = record {
  begins = 2 ^ m.places;
  accepts = λ u a. from_some m.places u (λ r. m.ends r a);
  next = λ u a s. from_bits (λ y. reached m u a s y) m.places;
}
