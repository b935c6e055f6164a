-- The loop that joins the rows of a set's places.
use Rattle.std.proofs.Common.{◌≡◌, ℕ, suc, ◌+◌, ◌%◌, ◌<◌, Bool, true, false, ◌&&◌, ◌||◌, sym, ap, ◌∙◌, subst, arith}
use mathlib.Core.Bool.{or_comm}
use Rattle.kat.specs.Bits.{bit}
use Rattle.kat.specs.Automata as spec
use Rattle.kat.specs.Acceptors.{some, from_bit}
use Rattle.kat.proofs.BitLaws.{bit_zero}
use Rattle.automaton.specs.declared.rows.Row.{Row}
use Rattle.automaton.specs.declared.automata.Automaton.{Automaton}
use Rattle.automaton.specs.Rows.{RowIs, Ending, Or, row_at}
use Rattle.automaton.specs.Tables.{Describe}
use Rattle.automaton.specs.Sets.{RowFrom}
use Rattle.automaton.proofs.RowMeanings.{row_alike, ending_is, or_is}

-- the row of those places of the set u that are below n
abbrev pub RowTo : ℕ → Automaton → ℕ → Row → Type 0
RowTo n m u row = (of : spec.Automaton) → Describe m.tables of → RowIs (λ a. some n (λ x. bit x u && of.ends (from_bit of.places x) a)) (λ a y. some n (λ x. bit x u && of.next (from_bit of.places x) a y)) row

pub none_yet : (m : Automaton) (u : ℕ) (row : Row) → Ending 0 row → RowTo 0 m u row
none_yet m u row e of t = ending_is (λ a. false) 0 row (λ a. bit_zero (a % 16), λ a h. bit_zero a) e

module _ (n : ℕ) (m : Automaton) (u : ℕ) (old : Row) (h : RowTo n m u old) where
  one_more : (new : Row) → RowTo (suc n) m u new → RowTo (n + 1) m u new
  one_more new r = let e : suc n ≡ n + 1 = omega arith in subst (λ k. RowTo k m u new) e r

  pub with_place : (new : Row) → n < m.tables.end.number + 1 → bit n u ≡ true → Or old (row_at m.tables.rows n) new → RowTo (n + 1) m u new
  with_place new k b o = one_more new (λ of t.
      let f : ℕ → ℕ → Bool = λ a x. bit x u && of.ends (from_bit of.places x) a in
      let g : ℕ → ℕ → ℕ → Bool = λ a y x. bit x u && of.next (from_bit of.places x) a y in
      row_alike new (λ a. or_comm (some n (f a)) (of.ends (from_bit of.places n) a) ∙ ap (λ c. (c && of.ends (from_bit of.places n) a) || some n (f a)) (sym b))
      (λ a y. or_comm (some n (g a y)) (of.next (from_bit of.places n) a y) ∙ ap (λ c. (c && of.next (from_bit of.places n) a y) || some n (g a y)) (sym b))
      (or_is (λ a. some n (f a)) (of.ends (from_bit of.places n)) (λ a y. some n (g a y)) (of.next (from_bit of.places n)) old (row_at m.tables.rows n) new (h of t) (t.rows_are n (omega (arith, t.places_are))) o))

  pub without_place : bit n u ≡ false → RowTo (n + 1) m u old
  without_place b = one_more old (λ of t.
      let f : ℕ → ℕ → Bool = λ a x. bit x u && of.ends (from_bit of.places x) a in
      let g : ℕ → ℕ → ℕ → Bool = λ a y x. bit x u && of.next (from_bit of.places x) a y in
      row_alike old (λ a. ap (λ c. (c && of.ends (from_bit of.places n) a) || some n (f a)) (sym b)) (λ a y. ap (λ c. (c && of.next (from_bit of.places n) a y) || some n (g a y)) (sym b)) (h of t))

  -- All places, and the beginning.
  pub all_joined : n ≡ m.tables.end.number + 1 → RowFrom m u old
  all_joined e of t = let k : n ≡ suc of.places = omega (arith, e, t.places_are) in subst (λ i. RowIs (λ a. some i (λ x. bit x u && of.ends (from_bit of.places x) a)) (λ a y. some i (λ x. bit x u && of.next (from_bit of.places x) a y)) old) k (h of t)
