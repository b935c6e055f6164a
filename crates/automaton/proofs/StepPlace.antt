-- A step adds one place.
use Rattle.std.proofs.Common.{◌≡◌, ℕ, ◌+◌, ◌*◌, ◌%◌, ◌^◌, ◌<◌, true, false, ◌&&◌, ◌||◌, eqb, ltb, length, get_or, set, sym, refl, ap, ◌∙◌, subst, ⊎_elim, arith}
use mathlib.Core.Bool.{and-true, and-false, or-false}
use lib.Bits.{bit_or}
use Rattle.std.proofs.lemmas.Nat.{one_shl}
use Rattle.std.proofs.lemmas.List.{get_or-set_same, get_or-set_other, length-set}
use Rattle.std.proofs.lemmas.Bool.{cases_eq, ne_eqb, eq-eqb}
use Rattle.std.proofs.lemmas.Bool.Decides.{nat_tests}
use Rattle.kat.specs.Bits.{bit}
use Rattle.kat.specs.Places.{automaton_of}
use Rattle.kat.specs.Programs.{step}
use Rattle.kat.proofs.Sides.{Where, before, where_is}
use Rattle.kat.proofs.Sides as sides
use Rattle.kat.proofs.BitLaws.{bit_zero, bit_power}
use Rattle.kat.proofs.BitOperations.{bit_of_or}
use Rattle.automaton.specs.declared.rows.Row.{Row}
use Rattle.automaton.specs.declared.tables.Tables.{Tables}
use Rattle.automaton.specs.Rows.{PlacesAre, RowIs, Ending, Starting, row_at}
use Rattle.automaton.specs.Tables.{labelled}
use Rattle.automaton.specs.Building.{behind, Added}
use Rattle.automaton.proofs.Masks.{known_atom, always_atoms}
use Rattle.automaton.proofs.Behind.{behind_before, behind_past, behind_none}
use Rattle.automaton.proofs.Leading.{row_put, row_kept}
use Rattle.automaton.proofs.RowMeanings.{row_alike, ending_is}

-- The place behind n others is number n.
one_behind : (n y : ℕ) → behind n (λ x. eqb x 0) y ≡ eqb y n
one_behind n y = by y (where_is n y)
  where
    by : (y : ℕ) → Where n y → behind n (λ x. eqb x 0) y ≡ eqb y n
    by y (before h) = behind_before n y (λ x. eqb x 0) h ∙ sym (ne_eqb y n (λ e. omega arith))
    by y (sides.behind z) = behind_past n z (λ x. eqb x 0) ∙ grind (arith, nat_tests)

labelled_behind : (n k s y : ℕ) → behind n (labelled (automaton_of (step k)) s) y ≡ (eqb y n && eqb k s)
labelled_behind n k s y = by y (where_is n y)
  where
    by : (y : ℕ) → Where n y → behind n (labelled (automaton_of (step k)) s) y ≡ (eqb y n && eqb k s)
    by y (before h) = behind_before n y (labelled (automaton_of (step k)) s) h ∙ ap (λ b. b && eqb k s) (sym (ne_eqb y n (λ e. omega arith)))
    by y (sides.behind z) = let e : ltb z 1 ≡ eqb (n + z) n = grind (arith, nat_tests) in behind_past n z (labelled (automaton_of (step k)) s) ∙ ap (λ b. b && eqb k s) e

module _ (k : ℕ) (old new : Tables) (end row : Row) (b : old.end.number < 12) (r : length old.rows ≡ 13) (l : length old.labelled ≡ 8) (e : Ending 65535 end) (t : Starting old.end.number row)
    (places_is : new.end.number ≡ old.end.number + 1) (rows_is : new.rows ≡ set old.rows old.end.number end)
    (labelled_is : new.labelled ≡ set old.labelled k (bit_or (get_or old.labelled k 0) (1 * 2 ^ old.end.number % 4294967296))) where
  -- the set of the new place alone
  abbrev alone : ℕ
  alone = 1 * 2 ^ old.end.number % 4294967296

  labels : (s : ℕ) → s < 8 → PlacesAre (λ y. bit y (get_or old.labelled s 0) || behind old.end.number (labelled (automaton_of (step k)) s) y) (get_or new.labelled s 0)
  labels s h y = rw (labelled_is, labelled_behind old.end.number k s y) (⊎_elim same other (cases_eq k s))
    where
      same : k ≡ s → bit y (get_or (set old.labelled k (bit_or (get_or old.labelled k 0) alone)) s 0) ≡ (bit y (get_or old.labelled s 0) || (eqb y old.end.number && eqb k s))
      same m =
          rw (m, get_or-set_same old.labelled s (bit_or (get_or old.labelled s 0) alone) 0 (omega arith), eq-eqb s s refl, one_shl old.end.number 32 (omega arith))
          (bit_of_or y (get_or old.labelled s 0) (2 ^ old.end.number) ∙ ap (λ c. bit y (get_or old.labelled s 0) || c) (bit_power old.end.number y ∙ sym (and-true (eqb y old.end.number))))

      other : (k ≡ s → ⊥) → bit y (get_or (set old.labelled k (bit_or (get_or old.labelled k 0) alone)) s 0) ≡ (bit y (get_or old.labelled s 0) || (eqb y old.end.number && eqb k s))
      other m = rw (get_or-set_other old.labelled k s (bit_or (get_or old.labelled k 0) alone) 0 (λ j. m (sym j)), ne_eqb k s m) (rw (and-false (eqb y old.end.number)) (sym (or-false (bit y (get_or old.labelled s 0)))))

  rows : (x : ℕ) → x < 1 → RowIs (λ a. eqb x 0) (λ a. behind old.end.number (λ y. false)) (row_at new.rows (old.end.number + x))
  rows x h =
      let z : x ≡ 0 = omega arith in
      let i : old.end.number + x ≡ old.end.number = omega arith in
      let at : row_at new.rows (old.end.number + x) ≡ end = ap (λ rs. row_at rs (old.end.number + x)) rows_is ∙ ap (row_at (set old.rows old.end.number end)) i ∙ row_put old.rows old.end.number end (omega arith) in
      subst (RowIs (λ a. eqb x 0) (λ a. behind old.end.number (λ y. false))) (sym at)
      (row_alike end (λ a. sym (eq-eqb x 0 z)) (λ a y. sym (behind_none old.end.number y)) (ending_is (λ a. true) 65535 end always_atoms e))

  pub step_added : Added (step k) old new row
  step_added = record {
    places_are = places_is;
    as_many_rows = ap length rows_is ∙ length-set old.rows old.end.number end;
    row_is = record {
      ends_are = (λ a. ap (bit (a % 16)) t.0 ∙ bit_zero (a % 16), λ a h. ap (bit a) t.0 ∙ bit_zero a);
      next_are = λ a y. ap (bit y) (t.1 (a % 16) (known_atom a)) ∙ bit_power old.end.number y ∙ sym (one_behind old.end.number y);
    };
    rows_are = rows;
    rows_kept = λ i h. ap (λ rs. row_at rs i) rows_is ∙ row_kept old.rows old.end.number i end (λ m. omega arith);
    labelled_are = labels;
  }
