-- What the functions that read a part of the words answer: what they read, or the fault that they met.
--     TermAs        the words ws begin with a term that keeps every limit and is as M says, and the rest follows it: there is
--                   room for d levels and k steps; ProgramAs: the term is a program; TestAs: it is a test, which has no steps
--     FaultIn       the fault is met in the words ws, read as terms by `code` and K
use Rattle.std.specs.Prelude.{◌≡◌, ℕ, ◌≤◌, List, [], ◌∷◌, ◌++◌, length}
use Rattle.kat.specs.Programs.{Test, Program, guard, Limit, Keeps}
use Rattle.kat.specs.Words.{test_words, words}
use Rattle.reader.specs.declared.refusals.Reason.TheVariants.{Ended, OutOfRange}
use Rattle.reader.specs.declared.refusals.Fault.{Fault}
use Rattle.reader.specs.Limits.{TestKeeps}
use Rattle.reader.specs.Faults.{All, Met}
use Rattle.reader.specs.Heads.{NoHead, NoTestHead}
use Rattle.reader.specs.Reading.{Told}

abbrev pub TermAs : {A : Type 0} → (A → Program) → (A → List ℕ) → (A → Type 0) → ℕ → ℕ → List ℕ → List ℕ → Type 0
TermAs {A} program code M d k ws rest = (a : A) × (ws ≡ code a ++ rest) × All (λ l a. Keeps d k l (program a)) a × M a

abbrev pub ProgramAs : (Program → Type 0) → ℕ → ℕ → List ℕ → List ℕ → Type 0
ProgramAs M d k ws rest = TermAs (λ p. p) words M d k ws rest

-- a test keeps what the guard by it does
abbrev pub TestAs : (Test → Type 0) → ℕ → List ℕ → List ℕ → Type 0
TestAs M d ws rest = TermAs guard test_words M d 0 ws rest

abbrev pub FaultIn : {A : Type 0} → (A → List ℕ) → (Limit → A → Type 0) → List ℕ → Fault → Type 0
FaultIn code K ws f = (u v : List ℕ) × (ws ≡ u ++ v) × (f.left ≡ length v) × Met code K u v f.reason

abbrev pub ProgramFault : ℕ → ℕ → List ℕ → Fault → Type 0
ProgramFault d k = FaultIn words (Keeps d k)

abbrev pub TestFault : ℕ → List ℕ → Fault → Type 0
TestFault d = FaultIn test_words (TestKeeps d)

-- the fault is met in the head already
abbrev pub HeadFault : ℕ → ℕ → List ℕ → Fault → Type 0
HeadFault d k ws f = ProgramFault d k ws f × NoHead d k ws

abbrev pub TestHeadFault : ℕ → List ℕ → Fault → Type 0
TestHeadFault d ws f = TestFault d ws f × NoTestHead d ws

-- the fault in words that are not too long, read as two programs
abbrev pub PairFault : List ℕ → Fault → Type 0
PairFault s f = (u v : List ℕ) × (s ≡ u ++ v) × (f.left ≡ length v) × Told u v f.reason

-- a number that is missing, or not below the limit
abbrev pub BadNumber : ℕ → List ℕ → Fault → Type 0
BadNumber limit [] f = (f.reason ≡ Ended) × (f.left ≡ 0)
BadNumber limit (n ∷ v) f = (limit ≤ n) × (f.reason ≡ OutOfRange) × (f.left ≡ length (n ∷ v))
