-- The places of a program are added, from those of its parts.
use Rattle.std.proofs.Common.{◌≡◌, ℕ, ◌+◌, ◌%◌, ◌<◌, Bool, true, false, ◌&&◌, ◌||◌, T, eqb, ltb, get_or, sym, refl, ap, ◌∙◌, subst, inl, inr, arith, ltb→lt}
use mathlib.Core.Bool.{and-true, or-false, or_assoc}
use Rattle.std.proofs.lemmas.Bool.{lt-ltb, le-ltb}
use Rattle.std.proofs.lemmas.Bool.Decides.{nat_tests}
use Rattle.kat.specs.Bits.{bit}
use Rattle.kat.specs.Programs.{Test, Program, guard, seq, choice, star, steps}
use Rattle.kat.specs.Places.{side, nullable, first, last, follow, label, automaton_of}
use Rattle.kat.proofs.Truth.{and_out}
use Rattle.kat.proofs.Sides.{side_left, side_right, Side, here, there, side_of, Where, before, where_is}
use Rattle.kat.proofs.Sides as sides
use Rattle.kat.proofs.PlacesWithin.{first_within, follow_within}
use Rattle.automaton.specs.declared.rows.Row.{Row}
use Rattle.automaton.specs.declared.tables.Tables.{Tables}
use Rattle.automaton.specs.Atoms.{AtomsAre, AtomsOf}
use Rattle.automaton.specs.Rows.{PlacesAre, RowIs, Ending, Then, Or, OrNothing, row_at}
use Rattle.automaton.specs.Tables.{labelled}
use Rattle.automaton.specs.Building.{behind, Added, LedOn}
use Rattle.automaton.proofs.Masks.{always_atoms}
use Rattle.automaton.proofs.Behind.{behind_same, behind_none, behind_and, behind_or, behind_two}
use Rattle.automaton.proofs.RowMeanings.{row_alike, ending_is, then_is, or_is}

or_none : (b c : Bool) → c ≡ false → b ≡ (b || c)
or_none b c e = rw e (sym (or-false b))

-- A guard has no places.
pub guard_added : (t : Test) (m : ℕ) (old : Tables) (row : Row) → AtomsOf m t → Ending m row → Added (guard t) old old row
guard_added t m old row h e = record {
  places_are = omega arith;
  as_many_rows = refl;
  row_is = row_alike row (λ a. refl) (λ a y. sym (behind_none old.end.number y)) (ending_is (λ a. nullable (guard t) a) m row h e);
  rows_are = λ x k. absurd (omega arith);
  rows_kept = λ i k. refl;
  labelled_are = λ s k y. or_none (bit y (get_or old.labelled s 0)) (behind old.end.number (labelled (automaton_of (guard t)) s) y)
      (behind_same old.end.number y (labelled (automaton_of (guard t)) s) (λ x. false) (λ x. ap (λ b. b && eqb (label (guard t) x) s) (le-ltb x 0 (omega arith))) ∙ behind_none old.end.number y);
}

-- The places of two parts, the one's before the other's.
module _ (p q : Program) where
  abbrev both_labels : ℕ → ℕ
  both_labels x = side (steps p) x (label p) (label q)

  both_labelled : (s x : ℕ) → (ltb x (steps p + steps q) && eqb (both_labels x) s) ≡ side (steps p) x (labelled (automaton_of p) s) (labelled (automaton_of q) s)
  both_labelled s x = by x (where_is (steps p) x)
    where
      by : (x : ℕ) → Where (steps p) x → (ltb x (steps p + steps q) && eqb (both_labels x) s) ≡ side (steps p) x (labelled (automaton_of p) s) (labelled (automaton_of q) s)
      by x (before h) =
          rw (side_left (steps p) x (label p) (label q) h, side_left (steps p) x (labelled (automaton_of p) s) (labelled (automaton_of q) s) h, lt-ltb x (steps p) h, lt-ltb x (steps p + steps q) (omega arith)) refl
      by x (sides.behind z) =
          let e : ltb (steps p + z) (steps p + steps q) ≡ ltb z (steps q) = grind (arith, nat_tests) in
          rw (side_right (steps p) z (label p) (label q), side_right (steps p) z (labelled (automaton_of p) s) (labelled (automaton_of q) s), e) refl

  labelled_within : (s z : ℕ) → T (labelled (automaton_of p) s z) → z < steps p
  labelled_within s z t = ltb→lt z (steps p) (and_out (ltb z (steps p)) (eqb (label p z) s) t).0

  both_behind : (n s y : ℕ) → behind n (λ x. ltb x (steps p + steps q) && eqb (both_labels x) s) y ≡ (behind n (labelled (automaton_of p) s) y || behind (n + steps p) (labelled (automaton_of q) s) y)
  both_behind n s y =
      behind_same n y (λ x. ltb x (steps p + steps q) && eqb (both_labels x) s) (λ x. side (steps p) x (labelled (automaton_of p) s) (labelled (automaton_of q) s)) (both_labelled s)
      ∙ behind_two n (steps p) y (labelled (automaton_of p) s) (labelled (automaton_of q) s) (labelled_within s)

  module _ (old mid new : Tables) (one other : Row) (A : Added p old mid one) (B : Added q mid new other) where
    both_labelled_are : (s : ℕ) → s < 8 → PlacesAre (λ y. bit y (get_or old.labelled s 0) || behind old.end.number (λ x. ltb x (steps p + steps q) && eqb (both_labels x) s) y) (get_or new.labelled s 0)
    both_labelled_are s k y =
        B.labelled_are s k y
        ∙ rw (A.labelled_are s k y, A.places_are, both_behind old.end.number s y) (or_assoc (bit y (get_or old.labelled s 0)) (behind old.end.number (labelled (automaton_of p) s) y) (behind (old.end.number + steps p) (labelled (automaton_of q) s) y))

    both_places : new.end.number ≡ old.end.number + (steps p + steps q)
    both_places = omega (arith, A.places_are, B.places_are)

    -- The rows of the first part are as they were when it was added,
    first_rows : (x : ℕ) → x < steps p → RowIs (last p x) (λ a. behind old.end.number (follow p x a)) (row_at new.rows (old.end.number + x))
    first_rows x h = subst (RowIs (last p x) (λ a. behind old.end.number (follow p x a))) (sym (B.rows_kept (old.end.number + x) (omega (arith, A.places_are)))) (A.rows_are x h)

    -- those of the second are behind them,
    second_rows : (u : ℕ) → u < steps q → RowIs (last q u) (λ a. behind (old.end.number + steps p) (follow q u a)) (row_at new.rows (old.end.number + (steps p + u)))
    second_rows u h =
        let e : mid.end.number + u ≡ old.end.number + (steps p + u) = omega (arith, A.places_are) in
        subst (λ n. RowIs (last q u) (λ a. behind n (follow q u a)) (row_at new.rows (old.end.number + (steps p + u)))) A.places_are
        (subst (λ i. RowIs (last q u) (λ a. behind mid.end.number (follow q u a)) (row_at new.rows i)) e (B.rows_are u h))

    second_row : RowIs (nullable q) (λ a. behind (old.end.number + steps p) (first q a)) other
    second_row = subst (λ n. RowIs (nullable q) (λ a. behind n (first q a)) other) A.places_are B.row_is

    -- and those before both as they were.
    old_rows : (i : ℕ) → i < old.end.number → row_at new.rows i ≡ row_at old.rows i
    old_rows i h = B.rows_kept i (omega (arith, A.places_are)) ∙ A.rows_kept i h

-- What follows a place of the second part is of the second part.
second_follow : (n m u a y : ℕ) (q : Program) (l : ℕ → ℕ → Bool) → behind n (λ v. side m (m + u) (λ w. l w v) (λ w. side m v (λ z. false) (follow q w a))) y ≡ behind (n + m) (follow q u a) y
second_follow n m u a y q l =
    behind_same n y (λ v. side m (m + u) (λ w. l w v) (λ w. side m v (λ z. false) (follow q w a))) (λ v. side m v (λ z. false) (follow q u a)) (λ v. side_right m u (λ w. l w v) (λ w. side m v (λ z. false) (follow q w a)))
    ∙ behind_two n m y (λ z. false) (follow q u a) (λ z t. absurd t)
    ∙ ap (λ b. b || behind (n + m) (follow q u a) y) (behind_none n y)

-- What follows a place of the first part is of the first part or, as g says, of the second.
first_follow : (n x a y : ℕ) (p : Program) (g r : ℕ → ℕ → Bool) → x < steps p → behind n (λ v. side (steps p) x (λ w. side (steps p) v (follow p w a) (g w)) (λ w. r w v)) y ≡ (behind n (follow p x a) y || behind (n + steps p) (g x) y)
first_follow n x a y p g r h =
    behind_same n y (λ v. side (steps p) x (λ w. side (steps p) v (follow p w a) (g w)) (λ w. r w v)) (λ v. side (steps p) v (follow p x a) (g x)) (λ v. side_left (steps p) x (λ w. side (steps p) v (follow p w a) (g w)) (λ w. r w v) h)
    ∙ behind_two n (steps p) y (follow p x a) (g x) (λ z t. (follow_within p x a z t).1)

module _ (p q : Program) (old mid new : Tables) (one other row : Row) (A : Added p old mid one) (B : Added q mid new other) where
  pub choice_added : Or one other row → Added (choice p q) old new row
  choice_added t = record {
    places_are = both_places p q old mid new one other A B;
    as_many_rows = B.as_many_rows ∙ A.as_many_rows;
    row_is = row_alike row (λ a. refl) (λ a y. sym (behind_two old.end.number (steps p) y (first p a) (first q a) (first_within p a)))
        (or_is (nullable p) (nullable q) (λ a. behind old.end.number (first p a)) (λ a. behind (old.end.number + steps p) (first q a)) one other row A.row_is (second_row p q old mid new one other A B) t);
    rows_are = λ x h. rows x (side_of (steps p) (steps q) x h);
    rows_kept = old_rows p q old mid new one other A B;
    labelled_are = both_labelled_are p q old mid new one other A B;
  }
    where
      rows : (x : ℕ) → Side (steps p) (steps q) x → RowIs (last (choice p q) x) (λ a. behind old.end.number (follow (choice p q) x a)) (row_at new.rows (old.end.number + x))
      rows x (here h) =
          row_alike (row_at new.rows (old.end.number + x)) (λ a. sym (side_left (steps p) x (λ u. last p u a) (λ u. last q u a) h))
          (λ a y. or_none (behind old.end.number (follow p x a) y) (behind (old.end.number + steps p) (λ v. false) y) (behind_none (old.end.number + steps p) y)
          ∙ sym (first_follow old.end.number x a y p (λ w v. false) (λ w v. side (steps p) v (λ z. false) (follow q w a)) h))
          (first_rows p q old mid new one other A B x h)
      rows x (there {x = u} h) =
          row_alike (row_at new.rows (old.end.number + (steps p + u))) (λ a. sym (side_right (steps p) u (λ u. last p u a) (λ u. last q u a)))
          (λ a y. sym (second_follow old.end.number (steps p) u a y q (λ w v. side (steps p) v (follow p w a) (λ z. false))))
          (second_rows p q old mid new one other A B u h)

  pub sequence_added : (final : Tables) → LedOn old.end.number mid.end.number new other final → Then one other row → Added (seq p q) old final row
  sequence_added final l t = record {
    places_are = l.places_kept ∙ both_places p q old mid new one other A B;
    as_many_rows = l.as_many_rows ∙ B.as_many_rows ∙ A.as_many_rows;
    row_is = row_alike row (λ a. refl)
        (λ a y. ap (λ b. behind old.end.number (first p a) y || b) (sym (behind_and (old.end.number + steps p) y (nullable p a) (first q a)))
        ∙ sym (behind_two old.end.number (steps p) y (first p a) (λ v. nullable p a && first q a v) (first_within p a)))
        (then_is (nullable p) (nullable q) (λ a. behind old.end.number (first p a)) (λ a. behind (old.end.number + steps p) (first q a)) one other row A.row_is (second_row p q old mid new one other A B) t);
    rows_are = λ x h. rows x (side_of (steps p) (steps q) x h);
    rows_kept = λ i h. l.rows_kept i (inl h) ∙ old_rows p q old mid new one other A B i h;
    labelled_are = λ s k. subst (λ hs. PlacesAre (λ y. bit y (get_or old.labelled s 0) || behind old.end.number (labelled (automaton_of (seq p q)) s) y) (get_or hs s 0)) (sym l.labelled_kept) (both_labelled_are p q old mid new one other A B s k);
  }
    where
      rows : (x : ℕ) → Side (steps p) (steps q) x → RowIs (last (seq p q) x) (λ a. behind old.end.number (follow (seq p q) x a)) (row_at final.rows (old.end.number + x))
      rows x (here h) =
          row_alike (row_at final.rows (old.end.number + x)) (λ a. sym (side_left (steps p) x (λ u. last p u a && nullable q a) (λ u. last q u a) h))
          (λ a y. ap (λ b. behind old.end.number (follow p x a) y || b) (sym (behind_and (old.end.number + steps p) y (last p x a) (first q a)))
          ∙ sym (first_follow old.end.number x a y p (λ w v. last p w a && first q a v) (λ w v. side (steps p) v (λ z. false) (follow q w a)) h))
          (then_is (last p x) (nullable q) (λ a. behind old.end.number (follow p x a)) (λ a. behind (old.end.number + steps p) (first q a)) (row_at new.rows (old.end.number + x)) other (row_at final.rows (old.end.number + x))
          (first_rows p q old mid new one other A B x h) (second_row p q old mid new one other A B) (l.led (old.end.number + x) (omega arith) (omega (arith, A.places_are))))
      rows x (there {x = u} h) =
          row_alike (row_at final.rows (old.end.number + (steps p + u))) (λ a. sym (side_right (steps p) u (λ u. last p u a && nullable q a) (λ u. last q u a)))
          (λ a y. sym (second_follow old.end.number (steps p) u a y q (λ w v. side (steps p) v (follow p w a) (λ z. last p w a && first q a z))))
          (subst (RowIs (last q u) (λ a. behind (old.end.number + steps p) (follow q u a))) (sym (l.rows_kept (old.end.number + (steps p + u)) (inr (omega (arith, A.places_are))))) (second_rows p q old mid new one other A B u h))

-- Again and again: it may end at every atom, and past what may end it may begin again.
pub star_added : (p : Program) (old new final : Tables) (once again : Row) → Added p old new once → OrNothing once again → LedOn old.end.number new.end.number new again final → Added (star p) old final again
star_added p old new final once again A o l = record {
  places_are = l.places_kept ∙ A.places_are;
  as_many_rows = l.as_many_rows ∙ A.as_many_rows;
  row_is = row;
  rows_are = λ x h. row_alike (row_at final.rows (old.end.number + x)) (λ a. and-true (last p x a))
      (λ a y. ap (λ b. behind old.end.number (follow p x a) y || b) (sym (behind_and old.end.number y (last p x a) (first p a)))
      ∙ sym (behind_or old.end.number y (follow p x a) (λ v. last p x a && first p a v)))
      (then_is (last p x) (λ a. true) (λ a. behind old.end.number (follow p x a)) (λ a. behind old.end.number (first p a)) (row_at new.rows (old.end.number + x)) again (row_at final.rows (old.end.number + x))
      (A.rows_are x h) row (l.led (old.end.number + x) (omega arith) (omega (arith, A.places_are))));
  rows_kept = λ i h. l.rows_kept i (inl h) ∙ A.rows_kept i h;
  labelled_are = λ s k. subst (λ hs. PlacesAre (λ y. bit y (get_or old.labelled s 0) || behind old.end.number (labelled (automaton_of (star p)) s) y) (get_or hs s 0)) (sym l.labelled_kept) (A.labelled_are s k);
}
  where
    row : RowIs (λ a. true) (λ a. behind old.end.number (first p a)) again
    row = record {
      ends_are = subst (AtomsAre (λ a. true)) (sym o.0) always_atoms;
      next_are = λ a. subst (λ ns. PlacesAre (behind old.end.number (first p a)) (get_or ns (a % 16) 0)) (sym o.1) (A.row_is.next_are a);
    }
