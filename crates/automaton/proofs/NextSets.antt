-- The set that a letter leads to has the bits that it should have, and so is the right number.
use Rattle.std.proofs.Common.{◌≡◌, ℕ, ◌%◌, ◌<◌, ◌≤◌, false, ◌&&◌, eqb, ltb, get_or, sym, refl, ap, ◌∙◌, ⊎_elim, arith}
use mathlib.Core.Bool.{and-false}
use lib.Bits.{bit_and}
use Rattle.std.proofs.lemmas.Bool.{cases_lt, lt-ltb, le-ltb, ne_eqb}
use Rattle.kat.specs.Bits.{bit, from_bits}
use Rattle.kat.specs.Automata as spec
use Rattle.kat.specs.Acceptors.{from_some, reached, acceptor_of}
use Rattle.kat.proofs.BitLaws.{bit_zero, bit_from_bits, bit_beyond}
use Rattle.kat.proofs.BitOperations.{bit_of_and, same_bits}
use Rattle.automaton.specs.declared.rows.Row.{Row}
use Rattle.automaton.specs.declared.automata.Automaton.{Automaton}
use Rattle.automaton.specs.Tables.{Describe}
use Rattle.automaton.specs.Sets.{RowFrom, NextIs}

module _ (m : Automaton) (u a s : ℕ) (of : spec.Automaton) (t : Describe m.tables of) where
  -- A number with the right bits is the right number.
  by_bits : (v : ℕ) → ((y : ℕ) → y < of.places → bit y v ≡ reached of u a s y) → ((y : ℕ) → of.places ≤ y → bit y v ≡ false) → v ≡ (acceptor_of of).next u a s
  by_bits v inside outside = same_bits v (from_bits (reached of u a s) of.places) same
    where
      same : (y : ℕ) → bit y v ≡ bit y (from_bits (reached of u a s) of.places)
      same y = ⊎_elim (λ k. inside y k ∙ sym (bit_from_bits (reached of u a s) of.places y k)) (λ k. outside y k ∙ sym (bit_beyond (reached of u a s) of.places y k)) (cases_lt y of.places)

  -- A step that is none of the eight has no places.
  no_places : 8 ≤ s → 0 ≡ (acceptor_of of).next u a s
  no_places h = by_bits 0
      (λ y k. bit_zero y ∙ sym (ap (λ b. from_some of.places u (λ r. of.next r a y) && b) (ne_eqb (of.label y) s (λ e. omega (arith, t.labels_known y k))) ∙ and-false (from_some of.places u (λ r. of.next r a y))))
      (λ y k. bit_zero y)

  some_places : (row : Row) → s < 8 → RowFrom m u row → bit_and (get_or row.next (a % 16) 0) (get_or m.tables.labelled s 0) ≡ (acceptor_of of).next u a s
  some_places row h r = by_bits (bit_and (get_or row.next (a % 16) 0) (get_or m.tables.labelled s 0)) (λ y k. bits y ∙ rw (lt-ltb y of.places k) refl) (λ y k. bits y ∙ rw (le-ltb y of.places k) (and-false (from_some of.places u (λ r. of.next r a y))))
    where
      bits : (y : ℕ) → bit y (bit_and (get_or row.next (a % 16) 0) (get_or m.tables.labelled s 0)) ≡ (from_some of.places u (λ r. of.next r a y) && (ltb y of.places && eqb (of.label y) s))
      bits y = bit_of_and y (get_or row.next (a % 16) 0) (get_or m.tables.labelled s 0) ∙ rw ((r of t).next_are a y, t.labelled_are s h y) refl

pub next_none : (m : Automaton) (u a s : ℕ) → 8 ≤ s → NextIs m u a s 0
next_none m u a s h of t = no_places m u a s of t h

pub next_some : (m : Automaton) (u a s : ℕ) (row : Row) → s < 8 → RowFrom m u row → NextIs m u a s (bit_and (get_or row.next (a % 16) 0) (get_or m.tables.labelled s 0))
next_some m u a s row h r of t = some_places m u a s of t row h r
