-- A frame: a place in a term for a part of it, behind the words `pre`. What is met in the part is met in the whole.
use Rattle.std.proofs.Common.{◌≡◌, ℕ, List, [], ◌∷◌, ◌++◌, sym, ◌∙◌, append_assoc, arith, length-append}
use Rattle.reader.specs.declared.refusals.Reason.{Reason}
use Rattle.reader.specs.declared.refusals.Reason.TheVariants.{TooLong, Ended, NoCode, OutOfRange, TooDeep, TooManySteps, LeftOver}
use Rattle.reader.specs.declared.refusals.Fault.{Fault}
use Rattle.kat.specs.Programs.{Limit, known, shallow, few}
use Rattle.reader.specs.Faults.{Begins, Stops, All, AllBut, Breaks, Met}
use Rattle.reader.specs.Parts.{FaultIn}

-- wrap: a whole with that part, closed by the words `post`; down: any whole that begins with `pre` has a part there
pub record Frame {A B : Type 0} (code : A → List ℕ) (code' : B → List ℕ) (K : Limit → A → Type 0) (K' : Limit → B → Type 0) (pre : List ℕ) : Type 0 where
  pub wrap : A → B
  pub post : List ℕ
  pub wraps : (a : A) → code' (wrap a) ≡ pre ++ (code a ++ post)
  pub up : (l : Limit) (a : A) → K l a → K' l (wrap a)
  pub down : (b : B) (rest more : List ℕ) → pre ++ rest ≡ code' b ++ more → (a : A) × (more' : List ℕ) × (rest ≡ code a ++ more') × ((l : Limit) → K' l b → K l a)

module _ {A B : Type 0} {code : A → List ℕ} {code' : B → List ℕ} {K : Limit → A → Type 0} {K' : Limit → B → Type 0} {pre : List ℕ} (f : Frame code code' K K' pre) where
  begins_in : (P : A → Type 0) (Q : B → Type 0) → ((a : A) → P a → Q (f.wrap a)) → (n : ℕ) (u : List ℕ) → Begins code P n u → Begins code' Q n (pre ++ u)
  begins_in P Q h n u b = (
    f.wrap b.0,
    b.1 ++ f.post,
    simp length-append (omega arith),
    cc (append_assoc pre u (b.1 ++ f.post), append_assoc u b.1 f.post, f.wraps b.0, b.3),
    h b.0 b.4,
  )

  opens_in : (u : List ℕ) → Begins code (All K) 1 u → Begins code' (All K') 1 (pre ++ u)
  opens_in u b = begins_in (All K) (All K') (λ a h l. f.up l a (h l)) 1 u b

  stops_in : (P : A → Type 0) (Q : B → Type 0) → ((a : A) (b : B) → ((l : Limit) → K' l b → K l a) → Q b → P a) → (u : List ℕ) → Stops code P u → Stops code' Q (pre ++ u)
  stops_in P Q h u s b r r' e q =
      let d = f.down b (u ++ r) r' (sym (append_assoc pre u r) ∙ e) in
      s d.0 r d.1 d.2 (h d.0 b d.3 q)

  breaks_in : (l : Limit) (u v : List ℕ) → Breaks code K l u v → Breaks code' K' l (pre ++ u) v
  breaks_in l u [] m = absurd m
  breaks_in l u (w ∷ v) m = (
    opens_in u m.0,
    rw append_assoc (begins_in (AllBut K l) (AllBut K' l) (λ a h k ne. f.up k a (h k ne)) 0 (u ++ w ∷ []) m.1),
    rw append_assoc (stops_in (K l) (K' l) (λ a b d. d l) (u ++ w ∷ []) m.2),
  )

  met_in : (why : Reason) (u v : List ℕ) → Met code K u v why → Met code' K' (pre ++ u) v why
  met_in TooLong u v m = absurd m
  met_in Ended u v m = (m.0, opens_in u m.1)
  met_in NoCode u [] m = absurd m
  met_in NoCode u (w ∷ v) m = (opens_in u m.0, rw append_assoc (stops_in (λ _. Unit {0}) (λ _. Unit {0}) (λ a b d x. tt) (u ++ w ∷ []) m.1))
  met_in OutOfRange u v m = breaks_in known u v m
  met_in TooDeep u v m = breaks_in shallow u v m
  met_in TooManySteps u v m = breaks_in few u v m
  met_in LeftOver u v m = absurd m

  pub fault_in : (ws rest : List ℕ) (t : Fault) → ws ≡ pre ++ rest → FaultIn code K rest t → FaultIn code' K' ws t
  fault_in ws rest t e m =
      (pre ++ m.0, m.1, cc (e, m.2, append_assoc pre m.0 m.1), m.3, met_in t.reason m.0 m.1 m.4)
