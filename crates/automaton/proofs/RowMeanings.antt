-- What rows made of others say.
use Rattle.std.proofs.Common.{◌≡◌, ℕ, ◌%◌, Bool, false, ◌&&◌, ◌||◌, sym, refl, ap, ◌∙◌, subst}
use Rattle.std.proofs.lemmas.Bool.{lt-ltb}
use Rattle.kat.specs.Bits.{bit}
use Rattle.kat.proofs.BitLaws.{bit_zero}
use Rattle.kat.proofs.BitOperations.{bit_ones}
use Rattle.automaton.specs.declared.rows.Row.{Row}
use Rattle.automaton.specs.Atoms.{AtomsAre}
use Rattle.automaton.specs.Rows.{RowIs, Ending, Then, Or}
use Rattle.automaton.proofs.Masks.{known_atom}

-- A row says what is said alike.
pub row_alike : {E F : ℕ → Bool} {N M : ℕ → ℕ → Bool} (row : Row) → ((a : ℕ) → E a ≡ F a) → ((a y : ℕ) → N a y ≡ M a y) → RowIs E N row → RowIs F M row
row_alike row e n r = record { ends_are = (λ a. r.ends_are.0 a ∙ e a, r.ends_are.1); next_are = λ a y. r.next_are a y ∙ n a y }

pub ending_is : (f : ℕ → Bool) (m : ℕ) (row : Row) → AtomsAre f m → Ending m row → RowIs f (λ a y. false) row
ending_is f m row h e = record { ends_are = subst (AtomsAre f) (sym e.0) h; next_are = λ a y. ap (bit y) (e.1 (a % 16) (known_atom a)) ∙ bit_zero y }

module _ (E F : ℕ → Bool) (N M : ℕ → ℕ → Bool) (one other row : Row) (r : RowIs E N one) (s : RowIs F M other) where
  pub then_is : Then one other row → RowIs (λ a. E a && F a) (λ a y. N a y || (E a && M a y)) row
  then_is t = record {
    ends_are = (λ a. t.ends (a % 16) ∙ rw (r.ends_are.0 a, s.ends_are.0 a) refl, λ a h. t.ends a ∙ rw (r.ends_are.1 a h) refl);
    next_are = λ a y. t.next (a % 16) y (known_atom a) ∙ rw (r.next_are a y, r.ends_are.0 a, s.next_are a y) refl;
  }

  pub or_is : Or one other row → RowIs (λ a. E a || F a) (λ a y. N a y || M a y) row
  or_is t = record {
    ends_are = (λ a. t.ends (a % 16) ∙ rw (r.ends_are.0 a, s.ends_are.0 a) refl, λ a h. t.ends a ∙ rw (r.ends_are.1 a h, s.ends_are.1 a h) refl);
    next_are = λ a y. t.next (a % 16) y (known_atom a) ∙ rw (bit_ones 16 (a % 16) ∙ lt-ltb (a % 16) 16 (known_atom a), r.next_are a y, s.next_are a y) refl;
  }
