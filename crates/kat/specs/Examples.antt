-- The definitions at one small program, `while 0 do 1`.
use Rattle.std.specs.Prelude.{◌≡◌, suc, true, false, [], ◌∷◌, ◌==◌, nat_lt}
use Rattle.kat.specs.Programs.{Test, test, opposite, Program, guard, step, seq, star}
use Rattle.kat.specs.Traces.{Has}
use Rattle.kat.specs.Senses.{Sense, Reaches}
use Rattle.kat.specs.Places.{label, automaton_of}
use Rattle.kat.specs.Acceptors.{acceptor_of}
use Rattle.kat.specs.Words.{words}

-- While t do p: again and again t and then p, and then the opposite of t.
abbrev pub while : Test → Program → Program
while t p = seq (star (seq (guard t) p)) (guard (opposite t))

-- the sense where states count down and every test asks for more than 0
abbrev pub countdown : Sense
countdown = record { says = λ n s. nat_lt 0 s; leads = λ n s u. (s == suc u) }

pub record Examples : Type 0 where
  pub entered_once : Has (while (test 0) (step 1)) (record { starts = 1; moves = record { does = 1; after = 0 } ∷ [] })
  pub never_entered : Has (while (test 0) (step 1)) (record { starts = 0; moves = [] })
  pub written : words (while (test 0) (step 1)) ≡ 2 ∷ 4 ∷ 2 ∷ 0 ∷ 2 ∷ 0 ∷ 1 ∷ 1 ∷ 0 ∷ 5 ∷ 2 ∷ 0 ∷ []
  pub counts_down : Reaches countdown (while (test 0) (step 1)) 1 0
  -- Its one place has step 1. The beginning, which is bit 1, leads to it where test 0 holds; past it, it ends where test 0 doesn't.
  pub its_place : label (while (test 0) (step 1)) 0 ≡ 1
  pub led_in : (acceptor_of (automaton_of (while (test 0) (step 1)))).next 2 1 1 ≡ 1
  pub led_nowhere : (acceptor_of (automaton_of (while (test 0) (step 1)))).next 2 0 1 ≡ 0
  pub ends_there : (acceptor_of (automaton_of (while (test 0) (step 1)))).accepts 1 0 ≡ true
  pub goes_on_there : (acceptor_of (automaton_of (while (test 0) (step 1)))).accepts 1 1 ≡ false
