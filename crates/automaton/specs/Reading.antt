-- What reading words as an automaton answers.
--     ProgramRead   the words begin with a program in range, the rest follows it, and the tables describe its automaton
--     Unread        the words do not begin with a program in range, and this is the first fault
--     SameTables    the same in every entry that means something
use Rattle.std.specs.Prelude.{◌≡◌, ℕ, ◌^◌, ◌<◌, ◌≤◌, List, ◌++◌, slice_index}
use Rattle.kat.specs.Programs.{Program, test_count, step_count, InRange, max_depth, max_steps}
use Rattle.kat.specs.Words.{words}
use Rattle.kat.specs.Places.{automaton_of}
use Rattle.reader.specs.declared.refusals.Fault.{Fault}
use Rattle.reader.specs.Parts.{ProgramFault}
use Rattle.automaton.specs.declared.automata.Automaton.{Automaton}
use Rattle.automaton.specs.declared.tables.Tables.{Tables}
use Rattle.automaton.specs.Rows.{row_at}
use Rattle.automaton.specs.Tables.{Describe}

pub record ProgramRead (ws : List ℕ) (m : Automaton) (rest : List ℕ) : Type 0 where
  pub program : Program
  pub are : ws ≡ words program ++ rest
  pub in_range : InRange program
  pub tables : Describe m.tables (automaton_of program)

abbrev pub Unread : List ℕ → Fault → Type 0
Unread ws f = ProgramFault max_depth max_steps ws f

pub record SameTables (m m' : Tables) : Type 0 where
  pub places_same : m.end.number ≡ m'.end.number
  pub ends_same : (x : ℕ) → x ≤ m.end.number → (row_at m.rows x).ends ≡ (row_at m'.rows x).ends
  pub next_same : (x a : ℕ) → x ≤ m.end.number → a < 2 ^ test_count → slice_index (row_at m.rows x).next a ≡ slice_index (row_at m'.rows x).next a
  pub labelled_same : (s : ℕ) → s < step_count → slice_index m.labelled s ≡ slice_index m'.labelled s

-- The answer is exact: words have one automaton only, or one fault, and never both.
pub record OneReading : Type 0 where
  pub same : (ws : List ℕ) (m m' : Automaton) (rest rest' : List ℕ) → ProgramRead ws m rest → ProgramRead ws m' rest' → SameTables m.tables m'.tables × (rest ≡ rest')
  pub same_fault : (ws : List ℕ) (f f' : Fault) → Unread ws f → Unread ws f' → f ≡ f'
  pub never_both : (ws : List ℕ) (m : Automaton) (rest : List ℕ) (f : Fault) → ProgramRead ws m rest → Unread ws f → ⊥
