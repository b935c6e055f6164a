-- Where something is met in words, they do not begin with a term that keeps every limit.
use Rattle.std.proofs.Common.{◌≡◌, ℕ, List, [], ◌∷◌, ◌++◌, length, sym, ap, ◌∙◌, append_assoc, append-nil, arith}
use Rattle.std.proofs.lemmas.List.{length-append}
use Rattle.kat.specs.Programs.{Program, Limit, known, shallow, few, Keeps}
use Rattle.kat.specs.Words.{words}
use Rattle.kat.proofs.UniqueReading.{one_program}
use Rattle.reader.specs.declared.refusals.Reason.{Reason}
use Rattle.reader.specs.declared.refusals.Reason.TheVariants.{TooLong, Ended, NoCode, OutOfRange, TooDeep, TooManySteps, LeftOver}
use Rattle.reader.specs.declared.refusals.Fault.{Fault}
use Rattle.reader.specs.Faults.{Stops, All, Breaks, Met}
use Rattle.reader.specs.Parts.{ProgramFault}

-- Terms of any kind, none of which begins another.
module _ {A : Type 0} (code : A → List ℕ) (K : Limit → A → Type 0) (alone : (a b : A) (r : List ℕ) → code a ++ r ≡ code b → r ≡ []) (a : A) (rest : List ℕ) (h : All K a) where
  stopped : (P : A → Type 0) (u v : List ℕ) (w : ℕ) → u ++ w ∷ v ≡ code a ++ rest → Stops code P (u ++ w ∷ []) → P a → ⊥
  stopped P u v w e s x = s a v rest (append_assoc u (w ∷ []) v ∙ e) x

  broken : (l : Limit) (u v : List ℕ) → u ++ v ≡ code a ++ rest → Breaks code K l u v → ⊥
  broken l u [] e m = absurd m
  broken l u (w ∷ v) e m = stopped (K l) u v w e m.2 (h l)

  pub met_excludes : (u v : List ℕ) (why : Reason) → u ++ v ≡ code a ++ rest → Met code K u v why → ⊥
  met_excludes u v TooLong e m = absurd m
  met_excludes u v Ended e m =
      let b = m.1 in
      let z : rest ++ b.1 ≡ [] = alone a b.0 (rest ++ b.1) (cc (e, m.0, append-nil u, b.3, append_assoc (code a) rest b.1)) in
      omega (arith, b.2, simp length-append at (ap length z))
  met_excludes u [] NoCode e m = absurd m
  met_excludes u (w ∷ v) NoCode e m = stopped (λ _. Unit {0}) u v w e m.1 tt
  met_excludes u v OutOfRange e m = broken known u v e m
  met_excludes u v TooDeep e m = broken shallow u v e m
  met_excludes u v TooManySteps e m = broken few u v e m
  met_excludes u v LeftOver e m = absurd m

pub program_excludes : (d k : ℕ) (ws rest : List ℕ) (p : Program) (f : Fault) → ws ≡ words p ++ rest → All (Keeps d k) p → ProgramFault d k ws f → ⊥
program_excludes d k ws rest p f e h m = met_excludes words (Keeps d k) (λ a b r x. (one_program a b r [] (x ∙ sym (append-nil (words b)))).1) p rest h m.0 m.1 f.reason (sym m.2 ∙ e) m.4
