-- A walk: moves taken in a sense, past states whose atoms the moves name. What a program does between two states is a walk
-- along one of its traces, and each of its traces that can be walked leads from state to state.
use Rattle.std.proofs.Common.{◌≡◌, ℕ, suc, ◌<◌, ◌≤◌, max, T, List, [], ◌∷◌, ◌++◌, refl, arith}
use Rattle.kat.specs.Programs.{Test, always, never, test, both, any, opposite, Program, guard, step, seq, choice, star}
use Rattle.kat.specs.Bits.{bit}
use Rattle.kat.specs.Traces.{holds, Move, Trace, last_atom, Has, by_guard, by_step, by_seq, by_left, by_right, by_none, by_more}
use Rattle.kat.specs.Senses.{Sense, holds_in, Reaches, at_guard, at_step, at_seq, at_left, at_right, at_none, at_more}

-- the least number above that of each test in it
abbrev pub test_bound : Test → ℕ
test_bound always = 0
test_bound never = 0
test_bound (test n) = suc n
test_bound (both s t) = max (test_bound s) (test_bound t)
test_bound (any s t) = max (test_bound s) (test_bound t)
test_bound (opposite t) = test_bound t

abbrev pub bound : Program → ℕ
bound (guard t) = test_bound t
bound (step n) = 0
bound (seq p q) = max (bound p) (bound q)
bound (choice p q) = max (bound p) (bound q)
bound (star p) = bound p

-- at s is the atom of the state s, as far as tests below m go
abbrev pub Atoms : Sense → ℕ → (ℕ → ℕ) → Type 0
Atoms i m at = (n s : ℕ) → n < m → bit n (at s) ≡ i.says n s

abbrev pub Walk : Sense → (ℕ → ℕ) → ℕ → List Move → ℕ → Type 0
Walk i at s [] u = s ≡ u
Walk i at s (m ∷ ms) u = (v : ℕ) × T (i.leads m.does s v) × (m.after ≡ at v) × Walk i at v ms u

module _ (i : Sense) (m : ℕ) (at : ℕ → ℕ) (atoms : Atoms i m at) where
  holds_at : (t : Test) (s : ℕ) → test_bound t ≤ m → holds (at s) t ≡ holds_in i s t
  holds_at always s h = refl
  holds_at never s h = refl
  holds_at (test n) s h = atoms n s h
  holds_at (both t u) s h = let a = holds_at t s (omega arith) in let b = holds_at u s (omega arith) in cc
  holds_at (any t u) s h = let a = holds_at t s (omega arith) in let b = holds_at u s (omega arith) in cc
  holds_at (opposite t) s h = let a = holds_at t s h in cc

  walk_ends : (ms : List Move) (s u a : ℕ) → a ≡ at s → Walk i at s ms u → last_atom a ms ≡ at u
  walk_ends [] s u a e w = cc
  walk_ends (m ∷ ms) s u a e w = walk_ends ms w.0 u m.after w.2 w.3

  walk_join : (ms ns : List Move) (s u v : ℕ) → Walk i at s ms u → Walk i at u ns v → Walk i at s (ms ++ ns) v
  walk_join [] ns s u v w x = rw w x
  walk_join (m ∷ ms) ns s u v w x = (w.0, w.1, w.2, walk_join ms ns w.0 u v w.3 x)

  walk_cut : (ms ns : List Move) (s v : ℕ) → Walk i at s (ms ++ ns) v → (u : ℕ) × Walk i at s ms u × Walk i at u ns v
  walk_cut [] ns s v w = (s, refl, w)
  walk_cut (m ∷ ms) ns s v w = let r = walk_cut ms ns w.0 v w.3 in (r.0, (w.0, w.1, w.2, r.1), r.2)

  -- a trace of p that is walked from s to u
  abbrev pub Walked : Program → ℕ → ℕ → Type 0
  Walked p s u = (ms : List Move) × Walk i at s ms u × Has p (record { starts = at s; moves = ms })

  pub walked : (p : Program) (s u : ℕ) → bound p ≤ m → Reaches i p s u → Walked p s u
  walked (guard t) s u h (at_guard x) = ([], refl, by_guard (rw (holds_at t s h) x))
  walked (step n) s u h (at_step x) = (record { does = n; after = at u } ∷ [], (u, x, refl, refl), by_step)
  walked (seq p q) s v h (at_seq {u = u} d e) =
      let f = walked p s u (omega arith) d in
      let g = walked q u v (omega arith) e in
      (f.0 ++ g.0, walk_join f.0 g.0 s u v f.1 g.1, by_seq f.2 (rw (walk_ends f.0 s u (at s) refl f.1) g.2))
  walked (choice p q) s u h (at_left d) = let f = walked p s u (omega arith) d in (f.0, f.1, by_left f.2)
  walked (choice p q) s u h (at_right d) = let f = walked q s u (omega arith) d in (f.0, f.1, by_right f.2)
  walked (star p) s u h at_none = ([], refl, by_none)
  walked (star p) s v h (at_more {u = u} d e) =
      let f = walked p s u h d in
      let g = walked (star p) u v h e in
      (f.0 ++ g.0, walk_join f.0 g.0 s u v f.1 g.1, by_more f.2 (rw (walk_ends f.0 s u (at s) refl f.1) g.2))

  pub reaches : (p : Program) (t : Trace) (s v : ℕ) → bound p ≤ m → t.starts ≡ at s → Walk i at s t.moves v → Has p t → Reaches i p s v
  reaches (guard t) r s v h b w (by_guard x) = rw (← w) (at_guard (rw (b, holds_at t s h) at x))
  reaches (step n) r s v h b w by_step = rw (← w.3) (at_step w.1)
  reaches (seq p q) r s v h b w (by_seq {a = a} {ms = ms} {ns = ns} x y) =
      let c = walk_cut ms ns s v w in
      at_seq (reaches p (record { starts = a; moves = ms }) s c.0 (omega arith) b c.1 x)
      (reaches q (record { starts = last_atom a ms; moves = ns }) c.0 v (omega arith) (walk_ends ms s c.0 a b c.1) c.2 y)
  reaches (choice p q) r s v h b w (by_left x) = at_left (reaches p r s v (omega arith) b w x)
  reaches (choice p q) r s v h b w (by_right x) = at_right (reaches q r s v (omega arith) b w x)
  reaches (star p) r s v h b w by_none = rw (← w) at_none
  reaches (star p) r s v h b w (by_more {a = a} {ms = ms} {ns = ns} x y) =
      let c = walk_cut ms ns s v w in
      at_more (reaches p (record { starts = a; moves = ms }) s c.0 h b c.1 x)
      (reaches (star p) (record { starts = last_atom a ms; moves = ns }) c.0 v h (walk_ends ms s c.0 a b c.1) c.2 y)
