-- A program as an automaton. Its places are its steps as they are written, numbered from 0.
--     nullable    at this atom the program may do nothing
--     first       at this atom it may begin with this place
--     last        past this place it may end at this atom
--     follow      past one place, at this atom, the other may come next
--     label       the step at a place
--     automaton_of
--                 the automaton with these places: it may end, from the beginning, where it is nullable, and past a place
--                 where that is last; first and follow say what may come next
use Rattle.std.specs.Prelude.{ℕ, ◌-◌, Bool, true, false, ◌&&◌, ◌||◌, ◌==◌, nat_lt}
use Rattle.kat.specs.Programs.{Program, guard, step, seq, choice, star, steps}
use Rattle.kat.specs.Traces.{holds}
use Rattle.kat.specs.Automata.{From, beginning, past, Automaton}

-- of n places and then others: what l says of x if it is one of the first n, or else what r says of it, counted from there
unfoldable pub side : {A : Type 0} → ℕ → ℕ → (ℕ → A) → (ℕ → A) → A
side n x l r = elim (nat_lt x n) [ true ↦ l x | false ↦ r (x - n) ]

abbrev pub nullable : Program → ℕ → Bool
nullable (guard t) a = holds a t
nullable (step n) a = false
nullable (seq p q) a = nullable p a && nullable q a
nullable (choice p q) a = nullable p a || nullable q a
nullable (star p) a = true

abbrev pub first : Program → ℕ → ℕ → Bool
first (guard t) a y = false
first (step n) a y = y == 0
first (seq p q) a y = side (steps p) y (first p a) (λ v. nullable p a && first q a v)
first (choice p q) a y = side (steps p) y (first p a) (first q a)
first (star p) a y = first p a y

abbrev pub last : Program → ℕ → ℕ → Bool
last (guard t) x a = false
last (step n) x a = x == 0
last (seq p q) x a = side (steps p) x (λ u. last p u a && nullable q a) (λ u. last q u a)
last (choice p q) x a = side (steps p) x (λ u. last p u a) (λ u. last q u a)
last (star p) x a = last p x a

abbrev pub follow : Program → ℕ → ℕ → ℕ → Bool
follow (guard t) x a y = false
follow (step n) x a y = false
follow (seq p q) x a y = side (steps p) x (λ u. side (steps p) y (follow p u a) (λ v. last p u a && first q a v)) (λ u. side (steps p) y (λ v. false) (follow q u a))
follow (choice p q) x a y = side (steps p) x (λ u. side (steps p) y (follow p u a) (λ v. false)) (λ u. side (steps p) y (λ v. false) (follow q u a))
follow (star p) x a y = follow p x a y || (last p x a && first p a y)

abbrev pub label : Program → ℕ → ℕ
label (guard t) x = 0
label (step n) x = n
label (seq p q) x = side (steps p) x (label p) (label q)
label (choice p q) x = side (steps p) x (label p) (label q)
label (star p) x = label p x

abbrev pub ends_of : Program → From → ℕ → Bool
ends_of p beginning a = nullable p a
ends_of p (past x) a = last p x a

abbrev pub next_of : Program → From → ℕ → ℕ → Bool
next_of p beginning a y = first p a y
next_of p (past x) a y = follow p x a y

abbrev pub automaton_of : Program → Automaton
automaton_of p = record { places = steps p; ends = ends_of p; next = next_of p; label = label p }
