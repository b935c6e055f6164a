-- The loop that joins the places of two rows, atom by atom.
use Rattle.std.proofs.Common.{◌≡◌, ℕ, ◌+◌, ◌/◌, ◌^◌, ◌<◌, ◌≤◌, true, false, List, length, get_or, set, sym, ap, ◌∙◌, ⊎_elim, arith}
use mathlib.Core.Bool.{or-false}
use lib.Bits.{bit_and, bit_or}
use Rattle.std.proofs.lemmas.List.{get_or-set_same, get_or-set_other, length-set}
use Rattle.std.proofs.lemmas.Bool.{cases_eq, eq-eqb, ne_eqb}
use Rattle.kat.specs.Bits.{bit}
use Rattle.automaton.specs.Rows.{joined_bit}
use Rattle.kat.proofs.BitOperations.{bit_test, bit_of_or}

-- A bit that was tested.
pub bit_set : (n a : ℕ) → bit_and (a / 2 ^ n) 1 ≡ 1 → bit n a ≡ true
bit_set n a e = bit_test n a ∙ eq-eqb (bit_and (a / 2 ^ n) 1) 1 e

pub bit_clear : (n a : ℕ) → (bit_and (a / 2 ^ n) 1 ≡ 1 → ⊥) → bit n a ≡ false
bit_clear n a e = bit_test n a ∙ ne_eqb (bit_and (a / 2 ^ n) 1) 1 e

-- the atoms before n are joined, the others as they were
pub record JoinedTo (n : ℕ) (one other : List ℕ) (atoms : ℕ) (all : List ℕ) : Type 0 where
  pub full : length all ≡ 16
  pub done : (i y : ℕ) → i < n → bit y (get_or all i 0) ≡ joined_bit one other atoms i y
  pub same : (i : ℕ) → n ≤ i → i < 16 → get_or all i 0 ≡ get_or one i 0

module _ (n : ℕ) (one other : List ℕ) (atoms : ℕ) (all : List ℕ) (b : n < 16) (h : JoinedTo n one other atoms all) where
  -- The next atom is joined by a set with the right bits;
  joined_by : (v : ℕ) → ((y : ℕ) → bit y v ≡ joined_bit one other atoms n y) → JoinedTo (n + 1) one other atoms (set all n v)
  joined_by v e = record { full = length-set all n v ∙ h.full; done = done; same = λ i k m. get_or-set_other all n i v 0 (λ e. omega arith) ∙ h.same i (omega arith) m }
    where
      done : (i y : ℕ) → i < n + 1 → bit y (get_or (set all n v) i 0) ≡ joined_bit one other atoms i y
      done i y k = ⊎_elim (λ e'. rw (e', get_or-set_same all n v 0 (omega (arith, h.full))) (e y)) (λ e'. ap (bit y) (get_or-set_other all n i v 0 e') ∙ h.done i y (omega arith)) (cases_eq i n)

  -- so by both sets where it is one of those given, and else by the one's.
  pub joined_at : bit n atoms ≡ true → JoinedTo (n + 1) one other atoms (set all n (bit_or (get_or all n 0) (get_or other n 0)))
  joined_at t = joined_by (bit_or (get_or all n 0) (get_or other n 0)) (λ y. rw (t, h.same n (omega arith) b) (bit_of_or y (get_or one n 0) (get_or other n 0)))

  pub passed_at : bit n atoms ≡ false → JoinedTo (n + 1) one other atoms (set all n (get_or all n 0))
  passed_at t = joined_by (get_or all n 0) (λ y. rw (t, h.same n (omega arith) b) (sym (or-false (bit y (get_or one n 0)))))
