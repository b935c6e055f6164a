-- Automata that read traces.
--     From        where a run may stand: at the beginning, or past a place
--     Automaton   how many places there are; from where, at which atoms, it may end; from where, at which atoms, which place may
--                 come next; and the step at a place
--     Onward      a run goes on with one of the places that may come next
--     Run         from somewhere, where an atom holds, moves lead through places to an end
use Rattle.std.specs.Prelude.{◌≡◌, ℕ, ◌<◌, Bool, T, List, [], ◌∷◌}
use Rattle.kat.specs.Traces.{Move}

pub data From : Type 0 where
  beginning : From
  past : ℕ → From

pub record Automaton : Type 0 where
  pub places : ℕ
  pub ends : From → ℕ → Bool
  pub next : From → ℕ → ℕ → Bool
  pub label : ℕ → ℕ

-- the place is one of n, may come next and has the step wanted, and from there it goes on
pub record Onward (n : ℕ) (may : ℕ → Bool) (label : ℕ → ℕ) (wanted : ℕ) (On : ℕ → Type 0) : Type 0 where
  pub place : ℕ
  pub among : place < n
  pub allowed : T (may place)
  pub labelled : label place ≡ wanted
  pub on : On place

abbrev pub Run : Automaton → From → ℕ → List Move → Type 0
Run m r a [] = T (m.ends r a)
Run m r a (g ∷ gs) = Onward m.places (λ y. m.next r a y) (λ y. m.label y) g.does (λ y. Run m (past y) g.after gs)
