-- Where reading stops, and why: the first word, from the left, with which no term can go on that keeps every limit.
-- All is said of terms of any kind, of which `code` gives the words and K l says that a limit l is kept.
--     Begins     some term that meets P begins with the words u, with at least n words to come
--     Stops      no term that meets P begins with the words u, nor do these begin with such a term's
--     Breaks     after the words u a term that keeps each limit can still come, and with the next word only terms that
--                break the limit l, some of which keep the others
--     Met        what is true where a reason is met after the words u, with the words v left; two reasons are not met inside
--                a term
use Rattle.std.specs.Prelude.{◌≡◌, ℕ, ◌≤◌, List, [], ◌∷◌, ◌++◌, length, ◌≢◌}
use Rattle.reader.specs.declared.refusals.Reason.{Reason}
use Rattle.reader.specs.declared.refusals.Reason.TheVariants.{TooLong, Ended, NoCode, OutOfRange, TooDeep, TooManySteps, LeftOver}
use Rattle.kat.specs.Programs.{Limit, known, shallow, few}

abbrev pub Begins : {A : Type 0} → (A → List ℕ) → (A → Type 0) → ℕ → List ℕ → Type 0
Begins {A} code P n u = (a : A) × (r : List ℕ) × (n ≤ length r) × (u ++ r ≡ code a) × P a

abbrev pub Stops : {A : Type 0} → (A → List ℕ) → (A → Type 0) → List ℕ → Type 0
Stops {A} code P u = (a : A) (r r' : List ℕ) → u ++ r ≡ code a ++ r' → P a → ⊥

-- every limit is kept; every one but l
abbrev pub All : {A : Type 0} → (Limit → A → Type 0) → A → Type 0
All K a = (l : Limit) → K l a

abbrev pub AllBut : {A : Type 0} → (Limit → A → Type 0) → Limit → A → Type 0
AllBut K l a = (m : Limit) → (m ≢ l) → K m a

abbrev pub Breaks : {A : Type 0} → (A → List ℕ) → (Limit → A → Type 0) → Limit → List ℕ → List ℕ → Type 0
Breaks code K l u [] = ⊥
Breaks code K l u (w ∷ v) = Begins code (All K) 1 u × Begins code (AllBut K l) 0 (u ++ w ∷ []) × Stops code (K l) (u ++ w ∷ [])

-- no term at all goes on with the next word
abbrev pub Unreadable : {A : Type 0} → (A → List ℕ) → (Limit → A → Type 0) → List ℕ → List ℕ → Type 0
Unreadable code K u [] = ⊥
Unreadable code K u (w ∷ v) = Begins code (All K) 1 u × Stops code (λ _. Unit {0}) (u ++ w ∷ [])

abbrev pub Met : {A : Type 0} → (A → List ℕ) → (Limit → A → Type 0) → List ℕ → List ℕ → Reason → Type 0
Met code K u v TooLong = ⊥
Met code K u v Ended = (v ≡ []) × Begins code (All K) 1 u
Met code K u v NoCode = Unreadable code K u v
Met code K u v OutOfRange = Breaks code K known u v
Met code K u v TooDeep = Breaks code K shallow u v
Met code K u v TooManySteps = Breaks code K few u v
Met code K u v LeftOver = ⊥
