-- What may come next from somewhere.
--     PlacesAre   a set of places as bits of a number: place y is in it exactly if f holds of y
--     RowIs       the row says at which atoms the program may end, and at which atoms which places may come next
--     Ending      a row that may end at these atoms, and then nothing comes
--     Starting    a row that may not end, and where only place n comes next
--     joined_bit  at atom i, place y is one of the one's or, if the atom is one of those given, one of the other's
--     Joined      at each atom the places are those
--     Then        a row and, where it may end, the other; Or: a row or the other; OrNothing: a row or nothing
use Rattle.std.specs.Prelude.{◌≡◌, ℕ, ◌-◌, ◌%◌, ◌^◌, ◌<◌, Bool, ◌&&◌, ◌||◌, List, [], length, slice_index, slice_index_or}
use Rattle.kat.specs.Programs.{test_count}
use Rattle.kat.specs.Bits.{bit}
use Rattle.automaton.specs.declared.rows.Row.{Row}
use Rattle.automaton.specs.Atoms.{AtomsAre}

-- every atom
abbrev pub all_atoms : ℕ
all_atoms = 2 ^ 2 ^ test_count - 1

abbrev pub PlacesAre : (ℕ → Bool) → ℕ → Type 0
PlacesAre f m = (y : ℕ) → bit y m ≡ f y

pub record RowIs (ends : ℕ → Bool) (next : ℕ → ℕ → Bool) (row : Row) : Type 0 where
  pub ends_are : AtomsAre ends row.ends
  pub next_are : (a : ℕ) → PlacesAre (next a) (slice_index row.next (a % 2 ^ test_count))

abbrev pub Ending : ℕ → Row → Type 0
Ending m row = (row.ends ≡ m) × ((i : ℕ) → i < 2 ^ test_count → slice_index row.next i ≡ 0)

abbrev pub Starting : ℕ → Row → Type 0
Starting n row = (row.ends ≡ 0) × ((i : ℕ) → i < 2 ^ test_count → slice_index row.next i ≡ 2 ^ n)

abbrev pub joined_bit : List ℕ → List ℕ → ℕ → ℕ → ℕ → Bool
joined_bit one other atoms i y = bit y (slice_index one i) || (bit i atoms && bit y (slice_index other i))

abbrev pub Joined : List ℕ → List ℕ → ℕ → List ℕ → Type 0
Joined one other atoms all = (i y : ℕ) → i < 2 ^ test_count → bit y (slice_index all i) ≡ joined_bit one other atoms i y

pub record Then (one other row : Row) : Type 0 where
  pub ends : (a : ℕ) → bit a row.ends ≡ (bit a one.ends && bit a other.ends)
  pub next : Joined one.next other.next one.ends row.next

pub record Or (one other row : Row) : Type 0 where
  pub ends : (a : ℕ) → bit a row.ends ≡ (bit a one.ends || bit a other.ends)
  pub next : Joined one.next other.next all_atoms row.next

abbrev pub OrNothing : Row → Row → Type 0
OrNothing one row = (row.ends ≡ all_atoms) × (row.next ≡ one.next)

-- a row by its number
abbrev pub row_at : List Row → ℕ → Row
row_at rows i = slice_index_or rows i (record { ends = 0; next = [] })

-- each row, and where it may end the next
pub record Led (old : List Row) (next : Row) (new : List Row) : Type 0 where
  pub as_many : length new ≡ length old
  pub led : (i : ℕ) → i < length old → Then (row_at old i) next (row_at new i)
