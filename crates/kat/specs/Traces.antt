-- What a program can be seen to do: its traces, which the field calls guarded strings.
--     atom        which tests hold, as a number: bit n is 1 where test n holds
--     Move        a step, and which tests hold after it
--     Trace       which tests hold at first, and then moves
--     Has         which traces a program has
--     KnownTrace  atoms below 16, in which only tests below 4 hold, and steps below 8
use Rattle.std.specs.Prelude.{ℕ, ◌^◌, ◌<◌, Bool, true, false, not, ◌&&◌, ◌||◌, T, List, [], ◌∷◌, ◌++◌}
use Rattle.kat.specs.Programs.{Test, always, never, test, both, any, opposite, Program, guard, step, seq, choice, star, test_count, step_count}
use Rattle.kat.specs.Bits.{bit}

-- whether a test expression holds at an atom
abbrev pub holds : ℕ → Test → Bool
holds a always = true
holds a never = false
holds a (test n) = bit n a
holds a (both s t) = holds a s && holds a t
holds a (any s t) = holds a s || holds a t
holds a (opposite t) = not (holds a t)

pub record Move : Type 0 where
  pub does : ℕ
  pub after : ℕ

pub record Trace : Type 0 where
  pub starts : ℕ
  pub moves : List Move

-- the atom that moves from atom a end with
abbrev pub last_atom : ℕ → List Move → ℕ
last_atom a [] = a
last_atom a (m ∷ ms) = last_atom m.after ms

-- A guard has the traces without moves at whose atom it holds; a step all with itself alone; one after the other has those
-- made of one of each, the second beginning where the first ends.
pub data Has : Program → Trace → Type 0 where
  by_guard : {t : Test} {a : ℕ} → T (holds a t) → Has (guard t) (record { starts = a; moves = [] })
  by_step : {n a b : ℕ} → Has (step n) (record { starts = a; moves = record { does = n; after = b } ∷ [] })
  by_seq : {p q : Program} {a : ℕ} {ms ns : List Move} → Has p (record { starts = a; moves = ms }) → Has q (record { starts = last_atom a ms; moves = ns }) → Has (seq p q) (record { starts = a; moves = ms ++ ns })
  by_left : {p q : Program} {t : Trace} → Has p t → Has (choice p q) t
  by_right : {p q : Program} {t : Trace} → Has q t → Has (choice p q) t
  by_none : {p : Program} {a : ℕ} → Has (star p) (record { starts = a; moves = [] })
  by_more : {p : Program} {a : ℕ} {ms ns : List Move} → Has p (record { starts = a; moves = ms }) → Has (star p) (record { starts = last_atom a ms; moves = ns }) → Has (star p) (record { starts = a; moves = ms ++ ns })

abbrev pub KnownMoves : List Move → Type 0
KnownMoves [] = Unit {0}
KnownMoves (m ∷ ms) = (m.does < step_count) × (m.after < 2 ^ test_count) × KnownMoves ms

abbrev pub KnownTrace : Trace → Type 0
KnownTrace t = (t.starts < 2 ^ test_count) × KnownMoves t.moves
