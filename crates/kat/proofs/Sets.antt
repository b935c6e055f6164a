-- A set of places accepts what a run from one of its places reads.
use Rattle.std.proofs.Common.{◌≡◌, ℕ, zero, suc, ◌^◌, ◌<◌, ◌≤◌, Bool, true, false, ◌&&◌, T, eqb, ◌⊎◌, ◌↔◌, List, [], ◌∷◌, sym, refl, subst, inl, inr, ⊎_elim, arith, lit<, eqb→eq}
use native.Mathlib.Nat.{pow-le-pow_right}
use lib.Dec.{eqb_refl}
use Rattle.std.proofs.lemmas.Bool.{cases_eq, eq-eqb, ne_eqb}
use Rattle.kat.specs.Bits.{bit}
use Rattle.kat.specs.Programs.{steps, few}
use Rattle.kat.specs.Traces.{Move, last_atom}
use Rattle.kat.specs.Automata.{beginning, past, Automaton, Run}
use Rattle.kat.specs.Places.{automaton_of}
use Rattle.kat.specs.Acceptors.{led, some, from_bit, from_some, acceptor_of, reached}
use Rattle.kat.specs.Theory.{TracesDecidable, SetsAcceptTraces, SetsAreFew}
use Rattle.kat.proofs.BitLaws.{bit_from_bits, bit_beyond, from_bits_below, bit_power}
use Rattle.kat.proofs.Truth.{and_in, and_out, or_inl, or_inr, or_out}
use Rattle.kat.proofs.Runs.{runs_are_traces}

some_out : (n : ℕ) (f : ℕ → Bool) → T (some n f) → (x : ℕ) × (x < n) × T (f x)
some_out zero f t = absurd t
some_out (suc n) f t = ⊎_elim (λ u. (n, omega arith, u)) (λ u. let e = some_out n f u in (e.0, omega arith, e.2)) (or_out (f n) (some n f) t)

some_in : (n : ℕ) (f : ℕ → Bool) (x : ℕ) → x < n → T (f x) → T (some n f)
some_in zero f x h t = absurd (omega arith)
some_in (suc n) f x h t = ⊎_elim (λ e. or_inl (f n) (some n f) (subst (λ z. T (f z)) e t)) (λ e. or_inr (f n) (some n f) (some_in n f x (omega arith) t)) (cases_eq x n)

-- Bit x stands for a place or for the beginning.
pub at_beginning : (n : ℕ) → from_bit n n ≡ beginning
at_beginning n = rw (eq-eqb n n refl, from_bit) refl

pub at_place : (n x : ℕ) → x < n → from_bit n x ≡ past x
at_place n x h = rw (ne_eqb x n (λ e. omega arith), from_bit) refl

module _ (m : Automaton) where
  -- from somewhere in the set u, a run reads the moves
  abbrev RunFrom : ℕ → ℕ → List Move → Type 0
  RunFrom u a gs = (x : ℕ) × (x < suc m.places) × T (bit x u) × Run m (from_bit m.places x) a gs

  abbrev next_set : ℕ → ℕ → ℕ → ℕ
  next_set u a s = (acceptor_of m).next u a s

  -- A place of the next set is a place that a run may go to.
  to_place : (u a s y : ℕ) → y < m.places → T (bit y (next_set u a s)) → T (reached m u a s y)
  to_place u a s y h t = subst T (bit_from_bits (reached m u a s) m.places y h) t

  from_place : (u a s y : ℕ) → y < m.places → T (reached m u a s y) → T (bit y (next_set u a s))
  from_place u a s y h t = subst T (sym (bit_from_bits (reached m u a s) m.places y h)) t

  -- The beginning is in no next set.
  no_beginning : (u a s x : ℕ) → m.places ≤ x → T (bit x (next_set u a s)) → ⊥
  no_beginning u a s x h t = subst T (bit_beyond (reached m u a s) m.places x h) t

  accepted : (u a : ℕ) (gs : List Move) → T ((acceptor_of m).accepts (led (acceptor_of m) u a gs) (last_atom a gs)) → RunFrom u a gs
  accepted u a [] t =
      let e = some_out (suc m.places) (λ x. bit x u && m.ends (from_bit m.places x) a) t in
      let d = and_out (bit e.0 u) (m.ends (from_bit m.places e.0) a) e.2 in
      (e.0, e.1, d.0, d.1)
  accepted u a (g ∷ gs) t = back (accepted (next_set u a g.does) g.after gs t)
    where
      through : (y : ℕ) → y < m.places → T (bit y (next_set u a g.does)) → Run m (past y) g.after gs → RunFrom u a (g ∷ gs)
      through y h b r =
          let d = and_out (from_some m.places u (λ r. m.next r a y)) (eqb (m.label y) g.does) (to_place u a g.does y h b) in
          let e = some_out (suc m.places) (λ x. bit x u && m.next (from_bit m.places x) a y) d.0 in
          let c = and_out (bit e.0 u) (m.next (from_bit m.places e.0) a y) e.2 in
          (e.0, e.1, c.0, record { place = y; among = h; allowed = c.1; labelled = eqb→eq (m.label y) g.does d.1; on = r })

      back : RunFrom (next_set u a g.does) g.after gs → RunFrom u a (g ∷ gs)
      back r = ⊎_elim (λ e. absurd (no_beginning u a g.does r.0 (omega arith) r.2)) (λ e. let h : r.0 < m.places = omega (arith, r.1) in through r.0 h r.2 (subst (λ f. Run m f g.after gs) (at_place m.places r.0 h) r.3)) (cases_eq r.0 m.places)

  accepts : (u a : ℕ) (gs : List Move) → RunFrom u a gs → T ((acceptor_of m).accepts (led (acceptor_of m) u a gs) (last_atom a gs))
  accepts u a [] r = some_in (suc m.places) (λ x. bit x u && m.ends (from_bit m.places x) a) r.0 r.1 (and_in (bit r.0 u) (m.ends (from_bit m.places r.0) a) r.2 r.3)
  accepts u a (g ∷ gs) r =
      let y = r.3.place in
      let h = r.3.among in
      let may = some_in (suc m.places) (λ x. bit x u && m.next (from_bit m.places x) a y) r.0 r.1 (and_in (bit r.0 u) (m.next (from_bit m.places r.0) a y) r.2 r.3.allowed) in
      let labelled = subst (λ s. T (eqb (m.label y) s)) r.3.labelled (eqb_refl (m.label y)) in
      let b = from_place u a g.does y h (and_in (from_some m.places u (λ r. m.next r a y)) (eqb (m.label y) g.does) may labelled) in
      accepts (next_set u a g.does) g.after gs (y, omega (arith, h), b, subst (λ f. Run m f g.after gs) (sym (at_place m.places y h)) r.3.on)

-- At first the beginning alone is in the set.
begun : (m : Automaton) (a : ℕ) (gs : List Move) → Run m beginning a gs ↔ RunFrom m (2 ^ m.places) a gs
begun m a gs = (there, back)
  where
    there : Run m beginning a gs → RunFrom m (2 ^ m.places) a gs
    there r =
        let b = subst T (sym (bit_power m.places m.places)) (eqb_refl m.places) in
        (m.places, omega arith, b, subst (λ f. Run m f a gs) (sym (at_beginning m.places)) r)

    back : RunFrom m (2 ^ m.places) a gs → Run m beginning a gs
    back r =
        let e = eqb→eq r.0 m.places (subst T (bit_power m.places r.0) r.2) in
        subst (λ f. Run m f a gs) (at_beginning m.places) (subst (λ x. Run m (from_bit m.places x) a gs) e r.3)

pub sets_accept_traces : SetsAcceptTraces
sets_accept_traces p t =
    let m = automaton_of p in
    let a = t.starts in
    let gs = t.moves in (
      λ h. accepts m (2 ^ m.places) a gs ((begun m a gs).0 ((runs_are_traces p t).0 h)),
      λ h. (runs_are_traces p t).1 ((begun m a gs).1 (accepted m (2 ^ m.places) a gs h)),
    )

-- What has a Bool that tells is decidable.
decidable : {P : Type 0} (b : Bool) → P ↔ T b → P ⊎ (P → ⊥)
decidable true e = inl (e.1 tt)
decidable false e = inr e.0

pub traces_decidable : TracesDecidable
traces_decidable p t =
    let m = acceptor_of (automaton_of p) in
    decidable (m.accepts (led m m.begins t.starts t.moves) (last_atom t.starts t.moves)) (sets_accept_traces p t)

pub sets_are_few : SetsAreFew
sets_are_few p k = (pow-le-pow_right (lit< tt) (k few), λ u a s. from_bits_below (reached (automaton_of p) u a s) (steps p))
