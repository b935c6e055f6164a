-- Tables while they are built: places are added behind those that are there.
--     behind      what f says of places, where n others stand before them
--     Added       from old to new, the places of the program p were added, and the row is what may come at its beginning
--     PartAdded   the same of a part, which says too where its places begin
--     Empty       tables without places
--     LedOn       from old to new, the next follows the rows of the places from one to before another
use Rattle.std.specs.Prelude.{◌≡◌, ℕ, ◌+◌, ◌<◌, ◌≤◌, Bool, false, ◌||◌, ◌⊎◌, length, slice_index}
use Rattle.kat.specs.Programs.{Program, steps, step_count, max_steps}
use Rattle.kat.specs.Bits.{bit}
use Rattle.kat.specs.Places.{side, nullable, first, last, follow, automaton_of}
use Rattle.automaton.specs.declared.rows.Row.{Row}
use Rattle.automaton.specs.declared.tables.Tables.{Tables}
use Rattle.automaton.specs.declared.tables.Part.{Part}
use Rattle.automaton.specs.Rows.{PlacesAre, RowIs, Then, row_at}
use Rattle.automaton.specs.Tables.{labelled}

abbrev pub behind : ℕ → (ℕ → Bool) → ℕ → Bool
behind n f y = side n y (λ v. false) f

pub record Added (p : Program) (old new : Tables) (row : Row) : Type 0 where
  pub places_are : new.end.number ≡ old.end.number + steps p
  pub as_many_rows : length new.rows ≡ length old.rows
  pub row_is : RowIs (nullable p) (λ a. behind old.end.number (first p a)) row
  pub rows_are : (x : ℕ) → x < steps p → RowIs (last p x) (λ a. behind old.end.number (follow p x a)) (row_at new.rows (old.end.number + x))
  pub rows_kept : (i : ℕ) → i < old.end.number → row_at new.rows i ≡ row_at old.rows i
  pub labelled_are : (s : ℕ) → s < step_count → PlacesAre (λ y. bit y (slice_index old.labelled s) || behind old.end.number (labelled (automaton_of p) s) y) (slice_index new.labelled s)

-- Tables without places.
pub record Empty (m : Tables) : Type 0 where
  pub no_places : m.end.number ≡ 0
  pub as_many_rows : length m.rows ≡ max_steps + 1
  pub none_labelled : (s : ℕ) → s < step_count → slice_index m.labelled s ≡ 0

-- the part's places are those that were added
abbrev pub PartAdded : Tables → Program → Tables → Part → Type 0
PartAdded old p new part = (part.from.number ≡ old.end.number) × Added p old new part.row

pub record LedOn (from to : ℕ) (old : Tables) (next : Row) (new : Tables) : Type 0 where
  pub places_kept : new.end.number ≡ old.end.number
  pub as_many_rows : length new.rows ≡ length old.rows
  pub labelled_kept : new.labelled ≡ old.labelled
  pub led : (i : ℕ) → from ≤ i → i < to → Then (row_at old.rows i) next (row_at new.rows i)
  pub rows_kept : (i : ℕ) → (i < from) ⊎ (to ≤ i) → row_at new.rows i ≡ row_at old.rows i
