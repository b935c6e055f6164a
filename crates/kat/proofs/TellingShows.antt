-- A trace that one program has and another hasn't shows in a sense made of the trace: a state is how many moves are done.
use Rattle.std.proofs.Common.{◌≡◌, ℕ, zero, suc, ◌+◌, Bool, false, ◌&&◌, eqb, List, [], ◌∷◌, length, drop, sym, refl, ◌∙◌, arith, eqb→eq}
use lib.Dec.{eqb_refl}
use Rattle.kat.specs.Bits.{bit}
use Rattle.kat.specs.Traces.{Move, Trace}
use Rattle.kat.specs.Senses.{Sense}
use Rattle.kat.specs.Theory.{TellingShows}
use Rattle.kat.proofs.Truth.{and_in, and_out}
use Rattle.kat.proofs.Walks.{bound, Walk, walked, reaches}

next_does : List Move → ℕ → Bool
next_does [] n = false
next_does (m ∷ ms) n = eqb m.does n

next_after : List Move → ℕ
next_after [] = 0
next_after (m ∷ ms) = m.after

atom_at : Trace → ℕ → ℕ
atom_at t zero = t.starts
atom_at t (suc s) = next_after (drop s t.moves)

along : Trace → Sense
along t = record { says = λ n s. bit n (atom_at t s); leads = λ n s u. eqb u (suc s) && next_does (drop s t.moves) n }

drop_one_more : (ms ns : List Move) (m : Move) (s : ℕ) → drop s ms ≡ m ∷ ns → drop (suc s) ms ≡ ns
drop_one_more [] ns m zero e = cc
drop_one_more [] ns m (suc s) e = cc
drop_one_more (x ∷ ms) ns m zero e = cc
drop_one_more (x ∷ ms) ns m (suc s) e = drop_one_more ms ns m s e

-- The trace itself is walked from its beginning to its end,
walk_along : (t : Trace) (ms : List Move) (s u : ℕ) → drop s t.moves ≡ ms → u ≡ s + length ms → Walk (along t) (atom_at t) s ms u
unfolding along atom_at next_does next_after
walk_along t [] s u e l = omega arith
walk_along t (m ∷ ms) s u e l = (
  suc s,
  and_in (eqb (suc s) (suc s)) (next_does (drop s t.moves) m.does) (eqb_refl (suc s)) (rw e (eqb_refl m.does)),
  rw e,
  walk_along t ms (suc s) u (drop_one_more t.moves ms m s e) (omega arith),
)

-- and nothing else is.
only_along : (t : Trace) (ms ns : List Move) (s u : ℕ) → drop s t.moves ≡ ms → u ≡ s + length ms → Walk (along t) (atom_at t) s ns u → ns ≡ ms
unfolding along atom_at next_does next_after
only_along t [] [] s u e l w = refl
only_along t (m ∷ ms) [] s u e l w = absurd (omega arith)
only_along t [] (n ∷ ns) s u e l w = absurd (rw e at (and_out (eqb w.0 (suc s)) (next_does (drop s t.moves) n.does) w.1).1)
only_along t (m ∷ ms) (n ∷ ns) s u e l w =
    let c = and_out (eqb w.0 (suc s)) (next_does (drop s t.moves) n.does) w.1 in
    let v : w.0 ≡ suc s = eqb→eq w.0 (suc s) c.0 in
    let k : m.does ≡ n.does = eqb→eq m.does n.does (rw e at c.1) in
    let a : n.after ≡ m.after = w.2 ∙ rw (v, e) in
    let r = only_along t ms ns (suc s) u (drop_one_more t.moves ms m s e) (omega arith) (rw v at w.3) in
    λ j. record { does = sym k j; after = a j } ∷ r j

pub telling_shows : TellingShows
unfolding along atom_at
telling_shows p q t h =
    let n = length t.moves in (
      along t,
      0,
      n,
      reaches (along t) (bound p) (atom_at t) (λ n s _. refl) p t 0 n (omega arith) refl (walk_along t t.moves 0 n refl (omega arith)) h.0,
      λ d.
          let f = walked (along t) (bound q) (atom_at t) (λ n s _. refl) q 0 n (omega arith) d in
          h.1 (rw (only_along t t.moves f.0 0 n refl (omega arith) f.1) at f.2),
    )
