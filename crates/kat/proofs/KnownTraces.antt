-- Programs with known tests look at the first four bits of an atom only, so that any trace may be cut to a known one.
use Rattle.std.proofs.Common.{◌≡◌, ℕ, suc, ◌<◌, List, [], ◌∷◌, ◌++◌, length, sym, refl, ap}
use Rattle.kat.specs.Programs.{Test, always, never, test, both, any, opposite, Program, guard, step, seq, choice, star, KnownTest, Known}
use Rattle.kat.specs.Bits.{bit, from_bits}
use Rattle.kat.specs.Traces.{holds, Move, Trace, last_atom, Has, by_guard, by_step, by_seq, by_left, by_right, by_none, by_more, KnownMoves, KnownTrace}
use Rattle.kat.specs.Theory.{KnownTracesDecide, KnownTraceTells}
use Rattle.kat.proofs.BitLaws.{bit_from_bits, from_bits_below}
use Rattle.kat.proofs.TracesDecide.{traces_decide}

-- the known tests say the same at two atoms
abbrev Agree : ℕ → ℕ → Type 0
Agree a b = (n : ℕ) → n < 4 → bit n a ≡ bit n b

abbrev Agrees : List Move → List Move → Type 0
Agrees [] [] = Unit {0}
Agrees [] (n ∷ ns) = ⊥
Agrees (m ∷ ms) [] = ⊥
Agrees (m ∷ ms) (n ∷ ns) = (m.does ≡ n.does) × Agree m.after n.after × Agrees ms ns

agrees_sym : (ms ns : List Move) → Agrees ms ns → Agrees ns ms
agrees_sym [] [] g = tt
agrees_sym [] (n ∷ ns) g = absurd g
agrees_sym (m ∷ ms) [] g = absurd g
agrees_sym (m ∷ ms) (n ∷ ns) g = (sym g.0, (λ k h. sym (g.1 k h)), agrees_sym ms ns g.2)

agree_holds : (t : Test) (a b : ℕ) → KnownTest t → Agree a b → holds a t ≡ holds b t
agree_holds always a b k g = refl
agree_holds never a b k g = refl
agree_holds (test n) a b k g = g n k
agree_holds (both s t) a b k g = let x = agree_holds s a b k.0 g in let y = agree_holds t a b k.1 g in cc
agree_holds (any s t) a b k g = let x = agree_holds s a b k.0 g in let y = agree_holds t a b k.1 g in cc
agree_holds (opposite t) a b k g = let x = agree_holds t a b k g in cc

agree_last : (ms ns : List Move) (a b : ℕ) → Agree a b → Agrees ms ns → Agree (last_atom a ms) (last_atom b ns)
agree_last [] [] a b g gs = g
agree_last [] (n ∷ ns) a b g gs = absurd gs
agree_last (m ∷ ms) [] a b g gs = absurd gs
agree_last (m ∷ ms) (n ∷ ns) a b g gs = agree_last ms ns m.after n.after gs.1 gs.2

-- Moves that agree with joined ones are joined at the same place.
agrees_cut : (ms ns zs : List Move) → Agrees (ms ++ ns) zs → (xs ys : List Move) × (zs ≡ xs ++ ys) × Agrees ms xs × Agrees ns ys
agrees_cut [] ns zs g = ([], zs, refl, tt, g)
agrees_cut (m ∷ ms) ns [] g = absurd g
agrees_cut (m ∷ ms) ns (z ∷ zs) g =
    let c = agrees_cut ms ns zs g.2 in
    (z ∷ c.0, c.1, ap (λ ws. z ∷ ws) c.2, (g.0, g.1, c.3), c.4)

-- A program has the traces that agree with its own.
agree_has : (p : Program) (t : Trace) (b : ℕ) (zs : List Move) → Known p → Agree t.starts b → Agrees t.moves zs → Has p t → Has p (record { starts = b; moves = zs })
agree_has (guard t) r b [] k g gs (by_guard {a = a} x) = by_guard (rw (sym (agree_holds t a b k g)) x)
agree_has (guard t) r b (z ∷ zs) k g gs (by_guard x) = absurd gs
agree_has (step n) r b [] k g gs by_step = absurd gs
agree_has (step n) r b (z ∷ []) k g gs by_step = rw gs.0 by_step
agree_has (step n) r b (z ∷ y ∷ zs) k g gs by_step = absurd gs.2
agree_has (seq p q) r b zs k g gs (by_seq {a = a} {ms = ms} {ns = ns} x y) =
    let c = agrees_cut ms ns zs gs in
    rw c.2 (by_seq (agree_has p (record { starts = a; moves = ms }) b c.0 k.0 g c.3 x)
    (agree_has q (record { starts = last_atom a ms; moves = ns }) (last_atom b c.0) c.1 k.1 (agree_last ms c.0 a b g c.3) c.4 y))
agree_has (choice p q) r b zs k g gs (by_left x) = by_left (agree_has p r b zs k.0 g gs x)
agree_has (choice p q) r b zs k g gs (by_right x) = by_right (agree_has q r b zs k.1 g gs x)
agree_has (star p) r b [] k g gs by_none = by_none
agree_has (star p) r b (z ∷ zs) k g gs by_none = absurd gs
agree_has (star p) r b zs k g gs (by_more {a = a} {ms = ms} {ns = ns} x y) =
    let c = agrees_cut ms ns zs gs in
    rw c.2 (by_more (agree_has p (record { starts = a; moves = ms }) b c.0 k g c.3 x)
    (agree_has (star p) (record { starts = last_atom a ms; moves = ns }) (last_atom b c.0) c.1 k (agree_last ms c.0 a b g c.3) c.4 y))

-- an atom cut to its first four bits
low_four : ℕ → ℕ
low_four a = from_bits (λ n. bit n a) 4

low_agrees : (a : ℕ) → Agree a (low_four a)
unfolding low_four
low_agrees a n h = sym (bit_from_bits (λ n. bit n a) 4 n h)

cut_moves : List Move → List Move
cut_moves [] = []
cut_moves (m ∷ ms) = record { does = m.does; after = low_four m.after } ∷ cut_moves ms

cut : Trace → Trace
cut t = record { starts = low_four t.starts; moves = cut_moves t.moves }

cut_agrees : (ms : List Move) → Agrees ms (cut_moves ms)
unfolding cut_moves
cut_agrees [] = tt
cut_agrees (m ∷ ms) = (refl, low_agrees m.after, cut_agrees ms)

cut_length : (ms : List Move) → length (cut_moves ms) ≡ length ms
unfolding cut_moves
cut_length [] = refl
cut_length (m ∷ ms) = ap suc (cut_length ms)

-- Cutting loses nothing.
has_cut : (p : Program) (t : Trace) → Known p → Has p t → Has p (cut t)
unfolding cut
has_cut p t k h = agree_has p t (low_four t.starts) (cut_moves t.moves) k (low_agrees t.starts) (cut_agrees t.moves) h

cut_has : (p : Program) (t : Trace) → Known p → Has p (cut t) → Has p t
unfolding cut
cut_has p t k h = agree_has p (cut t) t.starts t.moves k (λ n l. sym (low_agrees t.starts n l)) (agrees_sym t.moves (cut_moves t.moves) (cut_agrees t.moves)) h

-- the steps of moves are known
abbrev KnownSteps : List Move → Type 0
KnownSteps [] = Unit {0}
KnownSteps (m ∷ ms) = (m.does < 8) × KnownSteps ms

known_steps_join : (ms ns : List Move) → KnownSteps ms → KnownSteps ns → KnownSteps (ms ++ ns)
known_steps_join [] ns k l = l
known_steps_join (m ∷ ms) ns k l = (k.0, known_steps_join ms ns k.1 l)

known_steps : (p : Program) (t : Trace) → Known p → Has p t → KnownSteps t.moves
known_steps (guard t) r k (by_guard x) = tt
known_steps (step n) r k by_step = (k, tt)
known_steps (seq p q) r k (by_seq {ms = ms} {ns = ns} x y) = known_steps_join ms ns (known_steps p _ k.0 x) (known_steps q _ k.1 y)
known_steps (choice p q) r k (by_left x) = known_steps p r k.0 x
known_steps (choice p q) r k (by_right x) = known_steps q r k.1 x
known_steps (star p) r k by_none = tt
known_steps (star p) r k (by_more {ms = ms} {ns = ns} x y) = known_steps_join ms ns (known_steps p _ k x) (known_steps (star p) _ k y)

known_moves : (ms : List Move) → KnownSteps ms → KnownMoves (cut_moves ms)
unfolding cut_moves low_four
known_moves [] k = tt
known_moves (m ∷ ms) k = (k.0, from_bits_below (λ n. bit n m.after) 4, known_moves ms k.1)

known_cut : (p : Program) (t : Trace) → Known p → Has p t → KnownTrace (cut t)
unfolding cut low_four
known_cut p t k h = (from_bits_below (λ n. bit n t.starts) 4, known_moves t.moves (known_steps p t k h))

pub known_trace_tells : KnownTraceTells
unfolding cut
known_trace_tells p q k l t h = (cut t, known_cut p t k h.0, (has_cut p t k h.0, λ x. h.1 (cut_has q t l x)), cut_length t.moves)

pub known_traces_decide : KnownTracesDecide
known_traces_decide p q k l e = traces_decide p q (λ t. (one_way p q k l (λ t h. (e t h).0) t, one_way q p l k (λ t h. (e t h).1) t))
  where
    one_way : (p q : Program) → Known p → Known q → ((t : Trace) → KnownTrace t → Has p t → Has q t) → (t : Trace) → Has p t → Has q t
    one_way p q k l f t h = cut_has q t l (f (cut t) (known_cut p t k h) (has_cut p t k h))
