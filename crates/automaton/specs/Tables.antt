-- Which automaton tables describe.
--     labelled      place y has step s
--     Describe      every entry is what the automaton says: a row for each place and, behind these, one for the beginning
--                   (further rows mean nothing); for each step the places that have it; and every place has one of these steps
use Rattle.std.specs.Prelude.{◌≡◌, ℕ, ◌<◌, ◌≤◌, Bool, ◌&&◌, ◌==◌, nat_lt, slice_index}
use Rattle.kat.specs.Programs.{step_count}
use Rattle.kat.specs.Automata as spec
use Rattle.kat.specs.Acceptors.{from_bit}
use Rattle.automaton.specs.declared.tables.Tables.{Tables}
use Rattle.automaton.specs.Rows.{PlacesAre, RowIs, row_at}

abbrev pub labelled : spec.Automaton → ℕ → ℕ → Bool
labelled of s y = nat_lt y of.places && of.label y == s

pub record Describe (m : Tables) (of : spec.Automaton) : Type 0 where
  pub places_are : m.end.number ≡ of.places
  pub rows_are : (x : ℕ) → x ≤ of.places → RowIs (of.ends (from_bit of.places x)) (of.next (from_bit of.places x)) (row_at m.rows x)
  pub labelled_are : (s : ℕ) → s < step_count → PlacesAre (labelled of s) (slice_index m.labelled s)
  pub labels_known : (y : ℕ) → y < of.places → of.label y < step_count
