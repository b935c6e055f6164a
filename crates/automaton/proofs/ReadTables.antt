-- Where all places of a program were added to none, and the beginning behind them, the tables are its automaton.
use Rattle.std.proofs.Common.{◌≡◌, ℕ, ◌+◌, ◌-◌, ◌<◌, Bool, List, ◌++◌, get_or, set, sym, refl, ap, ◌∙◌, subst, ⊎_elim, arith}
use Rattle.std.proofs.lemmas.Bool.{cases_eq}
use Rattle.kat.specs.Bits.{bit}
use Rattle.kat.specs.Words.{words}
use Rattle.kat.specs.Programs.{Program, InRange, guard, step, seq, choice, star, steps, Known, known, step_count}
use Rattle.kat.specs.Places.{side, first, follow, label, ends_of, next_of, automaton_of}
use Rattle.kat.specs.Acceptors.{from_bit}
use Rattle.kat.proofs.BitLaws.{bit_zero}
use Rattle.kat.proofs.Sides.{side_left, side_right, Side, here, there, side_of}
use Rattle.kat.proofs.Sets.{at_beginning, at_place}
use Rattle.reader.specs.Parts.{ProgramAs}
use Rattle.automaton.specs.declared.rows.Row.{Row}
use Rattle.automaton.specs.declared.automata.Automaton.{Automaton}
use Rattle.automaton.specs.declared.tables.Tables.{Tables}
use Rattle.automaton.specs.declared.tables.Part.{Part}
use Rattle.automaton.specs.Rows.{RowIs, row_at}
use Rattle.automaton.specs.Building.{behind, Empty, Added, PartAdded}
use Rattle.automaton.specs.Tables.{labelled, Describe}
use Rattle.automaton.specs.Reading.{ProgramRead}
use Rattle.automaton.proofs.Behind.{behind_past}
use Rattle.automaton.proofs.Leading.{row_put, row_kept}
use Rattle.automaton.proofs.RowMeanings.{row_alike}

behind_none_before : (n y : ℕ) (f : ℕ → Bool) → n ≡ 0 → behind n f y ≡ f y
behind_none_before n y f z = let e : n + y ≡ y = omega arith in subst (λ x. behind n f x ≡ f y) e (behind_past n y f)

-- The steps of a program with known steps are known.
side_known : (n m x : ℕ) (f g : ℕ → ℕ) → x < n + m → ((u : ℕ) → u < n → f u < step_count) → ((u : ℕ) → u < m → g u < step_count) → side n x f g < step_count
side_known n m x f g h left right = by x (side_of n m x h)
  where
    by : (x : ℕ) → Side n m x → side n x f g < step_count
    by x (here k) = rw (side_left n x f g k) (left x k)
    by x (there {x = u} k) = rw (side_right n u f g) (right u k)

label_known : (p : Program) → Known p → (x : ℕ) → x < steps p → label p x < step_count
label_known (guard t) k x h = absurd (omega arith)
label_known (step n) k x h = k
label_known (seq p q) k x h = side_known (steps p) (steps q) x (label p) (label q) h (label_known p k.0) (label_known q k.1)
label_known (choice p q) k x h = side_known (steps p) (steps q) x (label p) (label q) h (label_known p k.0) (label_known q k.1)
label_known (star p) k x h = label_known p k x h

module _ (p : Program) (old mid new : Tables) (row : Row) (z : Empty old) (k : Known p) (A : Added p old mid row)
    (places_is : new.end.number ≡ mid.end.number) (rows_is : new.rows ≡ set mid.rows mid.end.number row) (labelled_is : new.labelled ≡ mid.labelled) where
  all_places : mid.end.number ≡ steps p
  all_places = omega (arith, z.no_places, A.places_are)

  at_row : (x : ℕ) → row_at new.rows x ≡ row_at (set mid.rows mid.end.number row) x
  at_row x = ap (λ rows. row_at rows x) rows_is

  beginning_row : RowIs (ends_of p (from_bit (steps p) (steps p))) (next_of p (from_bit (steps p) (steps p))) (row_at new.rows (steps p))
  beginning_row =
      let e : row_at new.rows (steps p) ≡ row = at_row (steps p) ∙ ap (row_at (set mid.rows mid.end.number row)) (sym all_places) ∙ row_put mid.rows mid.end.number row (omega (arith, mid.end.within, A.as_many_rows, z.as_many_rows)) in
      rw (at_beginning (steps p), e) (row_alike row (λ a. refl) (λ a y. behind_none_before old.end.number y (first p a) z.no_places) A.row_is)

  place_row : (x : ℕ) → x < steps p → RowIs (ends_of p (from_bit (steps p) x)) (next_of p (from_bit (steps p) x)) (row_at new.rows x)
  place_row x h =
      let o : old.end.number + x ≡ x = omega (arith, z.no_places) in
      let e : row_at new.rows x ≡ row_at mid.rows (old.end.number + x) = at_row x ∙ row_kept mid.rows mid.end.number x row (λ j. omega (arith, all_places)) ∙ ap (row_at mid.rows) (sym o) in
      rw (at_place (steps p) x h, e) (row_alike (row_at mid.rows (old.end.number + x)) (λ a. refl) (λ a y. behind_none_before old.end.number y (follow p x a) z.no_places) (A.rows_are x h))

  program_tables : Describe new (automaton_of p)
  program_tables = record {
    places_are = places_is ∙ all_places;
    rows_are = λ x h. ⊎_elim (λ e. rw e beginning_row) (λ e. place_row x (omega arith)) (cases_eq x (steps p));
    labelled_are = λ s h y. ap (λ hs. bit y (get_or hs s 0)) labelled_is ∙ A.labelled_are s h y ∙ rw (z.none_labelled s h, bit_zero y) (behind_none_before old.end.number y (labelled (automaton_of p) s) z.no_places);
    labels_known = label_known p k;
  }

-- What was read, of the words that were read.
module _ (ws rest : List ℕ) (old mid new : Tables) (part : Part) (z : Empty old) (places_is : new.end.number ≡ mid.end.number) (rows_is : new.rows ≡ set mid.rows mid.end.number part.row) (labelled_is : new.labelled ≡ mid.labelled) (r : ProgramAs (λ p. PartAdded old p mid part) 64 (12 - old.end.number) ws rest) where
  pub program_described : (p : Program) × (ws ≡ words p ++ rest) × InRange p × Describe new (automaton_of p)
  program_described = (r.0, r.1, rw z.no_places at r.2, program_tables r.0 old mid new part.row z (r.2 known) r.3.1 places_is rows_is labelled_is)

pub program_read : (ws rest : List ℕ) (m : Automaton) → ((p : Program) × (ws ≡ words p ++ rest) × InRange p × Describe m.tables (automaton_of p)) → ProgramRead ws m rest
program_read ws rest m r = record { program = r.0; are = r.1; in_range = r.2; tables = r.3 }
