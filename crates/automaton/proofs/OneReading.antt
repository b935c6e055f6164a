-- Words have one automaton only, or one fault.
use Rattle.std.proofs.Common.{◌≡◌, ℕ, ◌%◌, ◌<◌, Bool, get_or, sym, ◌∙◌, subst, ⊎_elim, mod-eq_of_lt, arith}
use Rattle.std.proofs.lemmas.Bool.{cases_lt}
use Rattle.kat.specs.Bits.{bit}
use Rattle.kat.specs.Automata as spec
use Rattle.kat.specs.Programs.{Keeps}
use Rattle.kat.specs.Words.{words}
use Rattle.kat.specs.Places.{automaton_of}
use Rattle.kat.specs.Acceptors.{from_bit}
use Rattle.kat.proofs.BitOperations.{same_bits}
use Rattle.kat.proofs.UniqueReading.{one_program}
use Rattle.reader.proofs.Excluded.{program_excludes}
use Rattle.reader.proofs.OneFault.{one_fault}
use Rattle.automaton.specs.declared.rows.Row.{Row}
use Rattle.automaton.specs.declared.tables.Tables.{Tables}
use Rattle.automaton.specs.Atoms.{AtomsAre}
use Rattle.automaton.specs.Rows.{PlacesAre, RowIs, row_at}
use Rattle.automaton.specs.Tables.{Describe}
use Rattle.automaton.specs.Reading.{SameTables, OneReading}

-- A set is settled by what is in it.
same_places : (f : ℕ → Bool) (m n : ℕ) → PlacesAre f m → PlacesAre f n → m ≡ n
same_places f m n p q = same_bits m n (λ y. p y ∙ sym (q y))

same_atoms : (f : ℕ → Bool) (m n : ℕ) → AtomsAre f m → AtomsAre f n → m ≡ n
same_atoms f m n p q = same_bits m n (λ a. ⊎_elim (known a) (λ h. p.1 a h ∙ sym (q.1 a h)) (cases_lt a 16))
  where
    known : (a : ℕ) → a < 16 → bit a m ≡ bit a n
    known a h = subst (λ b. bit b m ≡ bit b n) (mod-eq_of_lt h) (p.0 a ∙ sym (q.0 a))

same_next : (E : ℕ → Bool) (N : ℕ → ℕ → Bool) (r s : Row) → RowIs E N r → RowIs E N s → (a : ℕ) → a < 16 → get_or r.next a 0 ≡ get_or s.next a 0
same_next E N r s p q a h = subst (λ b. get_or r.next b 0 ≡ get_or s.next b 0) (mod-eq_of_lt h) (same_places (N a) (get_or r.next (a % 16) 0) (get_or s.next (a % 16) 0) (p.next_are a) (q.next_are a))

same_tables : (m m' : Tables) (of : spec.Automaton) → Describe m of → Describe m' of → SameTables m m'
same_tables m m' of t t' = record {
  places_same = t.places_are ∙ sym t'.places_are;
  ends_same = λ x h. same_atoms (of.ends (from_bit of.places x)) (row_at m.rows x).ends (row_at m'.rows x).ends (t.rows_are x (omega (arith, t.places_are))).ends_are (t'.rows_are x (omega (arith, t.places_are))).ends_are;
  next_same = λ x a h. same_next (of.ends (from_bit of.places x)) (of.next (from_bit of.places x)) (row_at m.rows x) (row_at m'.rows x) (t.rows_are x (omega (arith, t.places_are))) (t'.rows_are x (omega (arith, t.places_are))) a;
  labelled_same = λ s h. same_places _ (get_or m.labelled s 0) (get_or m'.labelled s 0) (t.labelled_are s h) (t'.labelled_are s h);
}

pub one_reading : OneReading
one_reading = record {
  same = λ ws m m' rest rest' r r'.
      let e = one_program r.program r'.program rest rest' (sym r.are ∙ r'.are) in
      (same_tables m.tables m'.tables (automaton_of r'.program) (subst (λ p. Describe m.tables (automaton_of p)) e.0 r.tables) r'.tables, e.1);
  same_fault = one_fault words (Keeps 64 12);
  never_both = λ ws m rest f r u. program_excludes 64 12 ws rest r.program f r.are r.in_range u;
}
