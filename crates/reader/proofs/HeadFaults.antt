-- What is met at the first words of a test or a program.
use Rattle.std.proofs.Common.{◌≡◌, ℕ, ◌<◌, ◌≤◌, ◌↔◌, List, [], ◌∷◌, ◌++◌, length, sym, refl, ap, arith}
use native.Mathlib.Decide.{ℕ_discrete}
use Rattle.kat.specs.Programs.{Test, always, never, test, both, any, opposite, Program, guard, step, seq, choice, star, steps, depth, Known, Limit, known, shallow, few, Keeps}
use Rattle.kat.specs.Words.{test_words, words}
use Rattle.reader.specs.declared.refusals.Reason.{Reason}
use Rattle.reader.specs.declared.refusals.Reason.TheVariants.{Ended, NoCode, TooDeep, TooManySteps}
use Rattle.reader.specs.declared.refusals.Fault.{Fault}
use Rattle.reader.specs.Limits.{TestKeeps}
use Rattle.reader.specs.Faults.{Begins, Stops, All, AllBut, Breaks, Met}
use Rattle.reader.specs.Parts.{FaultIn, BadNumber, ProgramFault, TestFault}
use Rattle.reader.proofs.Grammar.{Grammar, opens}
use Rattle.reader.proofs.TwoParts.{join_too_deep}
use Rattle.reader.proofs.OnePart.{wrap_too_deep}
use Rattle.reader.proofs.TestGrammar.{tests, boths, anys, opposites}
use Rattle.reader.proofs.ProgramGrammar.{programs, seqs, choices, stars}

-- at the first word of all, w
met_first : {A : Type 0} (code : A → List ℕ) (K : Limit → A → Type 0) (why : Reason) (ws rest : List ℕ) (w : ℕ) → ws ≡ w ∷ rest → Met code K [] (w ∷ rest) why → FaultIn code K ws (record { reason = why; left = length ws })
met_first code K why ws rest w e m = ([], ws, refl, refl, rw e m)

-- There are no words.
pub ended : {A : Type 0} {code : A → List ℕ} {program : A → Program} → Grammar code program → (d k : ℕ) (ws : List ℕ) → ws ≡ [] → FaultIn code (λ l a. Keeps d k l (program a)) ws (record { reason = Ended; left = length ws })
ended g d k ws e = ([], ws, refl, refl, (e, opens g d k))

-- The first word is no code.
pub program_no_code : (d k w : ℕ) (ws rest : List ℕ) → 5 ≤ w → ws ≡ w ∷ rest → ProgramFault d k ws (record { reason = NoCode; left = length ws })
program_no_code d k w ws rest h e = met_first words (Keeps d k) NoCode ws rest w e (opens programs d k, stops)
  where
    stops : Stops words (λ _. Unit {0}) (w ∷ [])
    stops (guard t) r r' q x = let z : w ≡ 0 = cc in omega arith
    stops (step n) r r' q x = let z : w ≡ 1 = cc in omega arith
    stops (seq a b) r r' q x = let z : w ≡ 2 = cc in omega arith
    stops (choice a b) r r' q x = let z : w ≡ 3 = cc in omega arith
    stops (star a) r r' q x = let z : w ≡ 4 = cc in omega arith

pub test_no_code : (d w : ℕ) (ws rest : List ℕ) → 6 ≤ w → ws ≡ w ∷ rest → TestFault d ws (record { reason = NoCode; left = length ws })
test_no_code d w ws rest h e = met_first test_words (TestKeeps d) NoCode ws rest w e (opens tests d 0, stops)
  where
    stops : Stops test_words (λ _. Unit {0}) (w ∷ [])
    stops always r r' q x = let z : w ≡ 0 = cc in omega arith
    stops never r r' q x = let z : w ≡ 1 = cc in omega arith
    stops (test n) r r' q x = let z : w ≡ 2 = cc in omega arith
    stops (both a b) r r' q x = let z : w ≡ 3 = cc in omega arith
    stops (any a b) r r' q x = let z : w ≡ 4 = cc in omega arith
    stops (opposite a) r r' q x = let z : w ≡ 5 = cc in omega arith

-- The first word asks for a level, and there is no room.
pub program_too_deep : (d k w : ℕ) (ws rest : List ℕ) → 2 ≤ w → w ≤ 4 → d ≡ 0 → ws ≡ w ∷ rest → ProgramFault d k ws (record { reason = TooDeep; left = length ws })
program_too_deep d k w ws rest lo hi z e = met_first words (Keeps d k) TooDeep ws rest w e (deep (ℕ_discrete w 2) (ℕ_discrete w 3))
  where
    deep : Dec (w ≡ 2) → Dec (w ≡ 3) → Breaks words (Keeps d k) shallow [] (w ∷ rest)
    deep (yes two) x = rw two (join_too_deep programs seqs d k rest z)
    deep (no ne) (yes three) = rw three (join_too_deep programs choices d k rest z)
    deep (no ne) (no ne') = let four : w ≡ 4 = omega arith in rw four (wrap_too_deep programs stars d k rest z)

pub test_too_deep : (d w : ℕ) (ws rest : List ℕ) → 3 ≤ w → w ≤ 5 → d ≡ 0 → ws ≡ w ∷ rest → TestFault d ws (record { reason = TooDeep; left = length ws })
test_too_deep d w ws rest lo hi z e = met_first test_words (TestKeeps d) TooDeep ws rest w e (deep (ℕ_discrete w 3) (ℕ_discrete w 4))
  where
    deep : Dec (w ≡ 3) → Dec (w ≡ 4) → Breaks test_words (TestKeeps d) shallow [] (w ∷ rest)
    deep (yes three) x = rw three (join_too_deep tests boths d 0 rest z)
    deep (no ne) (yes four) = rw four (join_too_deep tests anys d 0 rest z)
    deep (no ne) (no ne') = let five : w ≡ 5 = omega arith in rw five (wrap_too_deep tests opposites d 0 rest z)

-- terms that are a number below a limit behind the word w, of `size` steps
record Numbered {A : Type 0} (code : A → List ℕ) (program : A → Program) (w limit size : ℕ) : Type 0 where
  make : ℕ → A
  writes : (n : ℕ) → code (make n) ≡ w ∷ n ∷ []
  knows : (n : ℕ) → Known (program (make n)) ↔ (n < limit)
  flat : (n : ℕ) → depth (program (make n)) ≡ 0
  counts : (n : ℕ) → steps (program (make n)) ≡ size
  only : (c : A) (rest more : List ℕ) → w ∷ rest ≡ code c ++ more → (n : ℕ) × (c ≡ make n)

module _ {A : Type 0} {code : A → List ℕ} {program : A → Program} {w limit size : ℕ} (n : Numbered code program w limit size) (some : 0 < limit) (d k : ℕ) (room : size ≤ k) where
  -- a known number can come
  known_comes : Begins code (All (λ l a. Keeps d k l (program a))) 1 (w ∷ [])
  known_comes = (n.make 0, 0 ∷ [], omega arith, sym (n.writes 0), all)
    where
      all : All (λ l a. Keeps d k l (program a)) (n.make 0)
      all known = (n.knows 0).1 some
      all shallow = omega (arith, n.flat 0)
      all few = omega (arith, n.counts 0)

  too_large : (m : ℕ) (v : List ℕ) → limit ≤ m → Breaks code (λ l a. Keeps d k l (program a)) known (w ∷ []) (m ∷ v)
  too_large m v h = (
    known_comes,
    (n.make m, [], omega arith, sym (n.writes m), but),
    λ c r r' e x.
        let o = n.only c (m ∷ r) r' e in
        let same : m ≡ o.0 = cc (e, ap code o.1, n.writes o.0) in
        let below : o.0 < limit = (n.knows o.0).0 (rw o.1 at x) in
        omega arith,
  )
    where
      but : AllBut (λ l a. Keeps d k l (program a)) known (n.make m)
      but known ne = absurd (ne refl)
      but shallow ne = omega (arith, n.flat m)
      but few ne = omega (arith, n.counts m)

  bad_number : (ws rest : List ℕ) (f : Fault) → ws ≡ w ∷ rest → BadNumber limit rest f → FaultIn code (λ l a. Keeps d k l (program a)) ws f
  bad_number ws [] f e b = (w ∷ [], [], e, b.1, rw b.0 (refl, known_comes))
  bad_number ws (m ∷ v) f e b = (w ∷ [], m ∷ v, e, b.2, rw b.1 (too_large m v b.0))

only_step : (c : Program) (rest more : List ℕ) → 1 ∷ rest ≡ words c ++ more → (n : ℕ) × (c ≡ step n)
only_step (guard a) rest more e = (0, cc)
only_step (step n) rest more e = (n, cc)
only_step (seq a b) rest more e = (0, cc)
only_step (choice a b) rest more e = (0, cc)
only_step (star a) rest more e = (0, cc)

only_number : (c : Test) (rest more : List ℕ) → 2 ∷ rest ≡ test_words c ++ more → (n : ℕ) × (c ≡ test n)
only_number always rest more e = (0, cc)
only_number never rest more e = (0, cc)
only_number (test n) rest more e = (n, cc)
only_number (both a b) rest more e = (0, cc)
only_number (any a b) rest more e = (0, cc)
only_number (opposite a) rest more e = (0, cc)

pub bad_step : (d k : ℕ) (ws rest : List ℕ) (f : Fault) → 0 < k → ws ≡ 1 ∷ rest → BadNumber 8 rest f → ProgramFault d k ws f
bad_step d k ws rest f h e b = bad_number {program = λ p. p} {size = 1} (record { make = step; writes = λ n. refl; knows = λ n. (λ x. x, λ x. x); flat = λ n. refl; counts = λ n. refl; only = only_step }) (omega arith) d k (omega arith) ws rest f e b

pub bad_test : (d : ℕ) (ws rest : List ℕ) (f : Fault) → ws ≡ 2 ∷ rest → BadNumber 4 rest f → TestFault d ws f
bad_test d ws rest f e b = bad_number {program = guard} {size = 0} (record { make = test; writes = λ n. refl; knows = λ n. (λ x. x, λ x. x); flat = λ n. refl; counts = λ n. refl; only = only_number }) (omega arith) d 0 (omega arith) ws rest f e b

-- The first word begins a step, and there is no room for one.
pub too_many_steps : (d k : ℕ) (ws rest : List ℕ) → k ≡ 0 → ws ≡ 1 ∷ rest → ProgramFault d k ws (record { reason = TooManySteps; left = length ws })
too_many_steps d k ws rest z e = met_first words (Keeps d k) TooManySteps ws rest 1 e (opens programs d k, (step 0, 0 ∷ [], omega arith, refl, but), stops)
  where
    but : AllBut (Keeps d k) few (step 0)
    but known ne = omega arith
    but shallow ne = omega arith
    but few ne = absurd (ne refl)

    stops : Stops words (Keeps d k few) (1 ∷ [])
    stops c r r' q x = let o = only_step c r r' q in let y : steps (step o.0) ≤ k = rw o.1 at x in omega arith
