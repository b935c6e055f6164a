-- Where a fault is met in a head, no head stands there for which there is room.
use Rattle.std.proofs.Common.{◌≡◌, ℕ, ◌<◌, ◌≤◌, ◌⊎◌, List, [], ◌∷◌, length, ap, inl, inr, arith}
use Rattle.reader.specs.declared.refusals.Fault.{Fault}
use Rattle.reader.specs.declared.heads.Head.{Head}
use Rattle.reader.specs.declared.heads.Head.TheVariants.{Guard, Step, Sequence, Choice, Star}
use Rattle.reader.specs.declared.heads.TestHead.{TestHead}
use Rattle.reader.specs.declared.heads.TestHead.TheVariants.{Always, Never, Test, Both, Any, Opposite}
use Rattle.reader.specs.Heads.{HeadIn, NoHead, TestHeadIn, NoTestHead}
use Rattle.reader.specs.Parts.{BadNumber}

-- a number below the limit follows
abbrev Numbered : ℕ → List ℕ → List ℕ → Type 0
Numbered limit tail rest = (n : ℕ) × (n < limit) × (tail ≡ n ∷ rest)

not_bad : (limit : ℕ) (tail rest : List ℕ) (f : Fault) → Numbered limit tail rest → BadNumber limit tail f → ⊥
not_bad limit [] rest f x b = omega (arith, ap length x.2)
not_bad limit (m ∷ v) rest f x b = let n = x.0 in let e = x.2 in let z : m ≡ n = cc in omega (arith, x.1, b.0)

-- What the first word w of a head says of it.
abbrev Begun : ℕ → ℕ → ℕ → List ℕ → List ℕ → Type 0
Begun d k w tail rest = (w ≡ 0) ⊎ (((w ≡ 1) × (0 < k) × Numbered 8 tail rest) ⊎ ((2 ≤ w) × (w ≤ 4) × (0 < d)))

begun : (d k w : ℕ) (ws tail rest : List ℕ) (h : Head) → ws ≡ w ∷ tail → HeadIn d k ws h rest → Begun d k w tail rest
begun d k w ws tail rest Guard e x = let y = x.0 in inl (cc)
begun d k w ws tail rest (Step n) e x = let y = x.0 in inr (inl (cc, x.1.1, (n.0, x.1.0, cc)))
begun d k w ws tail rest Sequence e x = let y = x.0 in let z : w ≡ 2 = cc in inr (inr (omega arith, omega arith, x.1))
begun d k w ws tail rest Choice e x = let y = x.0 in let z : w ≡ 3 = cc in inr (inr (omega arith, omega arith, x.1))
begun d k w ws tail rest Star e x = let y = x.0 in let z : w ≡ 4 = cc in inr (inr (omega arith, omega arith, x.1))

-- So no head stands there, if the word refutes each of these.
refuted : (d k w : ℕ) (ws tail : List ℕ) → ws ≡ w ∷ tail → ((rest : List ℕ) → Begun d k w tail rest → ⊥) → NoHead d k ws
refuted d k w ws tail e f h rest x = f rest (begun d k w ws tail rest h e x)

pub no_words : (d k : ℕ) (ws : List ℕ) → ws ≡ [] → NoHead d k ws
no_words d k ws e Guard rest x = omega (arith, ap length e, ap length x.0)
no_words d k ws e (Step n) rest x = omega (arith, ap length e, ap length x.0)
no_words d k ws e Sequence rest x = omega (arith, ap length e, ap length x.0)
no_words d k ws e Choice rest x = omega (arith, ap length e, ap length x.0)
no_words d k ws e Star rest x = omega (arith, ap length e, ap length x.0)

module _ (d k : ℕ) (ws tail : List ℕ) where
  pub no_code_head : (w : ℕ) → 5 ≤ w → ws ≡ w ∷ tail → NoHead d k ws
  no_code_head w l e = refuted d k w ws tail e from
    where
      from : (rest : List ℕ) → Begun d k w tail rest → ⊥
      from rest (inl x) = omega arith
      from rest (inr (inl x)) = omega (arith, x.0)
      from rest (inr (inr x)) = omega (arith, x.1)

  pub deep_head : (w : ℕ) → 2 ≤ w → d ≡ 0 → ws ≡ w ∷ tail → NoHead d k ws
  deep_head w l z e = refuted d k w ws tail e from
    where
      from : (rest : List ℕ) → Begun d k w tail rest → ⊥
      from rest (inl x) = omega arith
      from rest (inr (inl x)) = omega (arith, x.0)
      from rest (inr (inr x)) = omega (arith, x.2)

  -- A step without room, or with a bad number, is no head.
  pub bad_step_head : (k ≡ 0) ⊎ ((f : Fault) × BadNumber 8 tail f) → ws ≡ 1 ∷ tail → NoHead d k ws
  bad_step_head b e = refuted d k 1 ws tail e (from b)
    where
      from : (k ≡ 0) ⊎ ((f : Fault) × BadNumber 8 tail f) → (rest : List ℕ) → Begun d k 1 tail rest → ⊥
      from b rest (inl x) = omega arith
      from (inl z) rest (inr (inl x)) = omega (arith, x.1)
      from (inr n) rest (inr (inl x)) = not_bad 8 tail rest n.0 x.2 n.1
      from b rest (inr (inr x)) = omega (arith, x.0)

-- The same of tests.
abbrev TestBegun : ℕ → ℕ → List ℕ → List ℕ → Type 0
TestBegun d w tail rest = (w < 2) ⊎ (((w ≡ 2) × Numbered 4 tail rest) ⊎ ((3 ≤ w) × (w ≤ 5) × (0 < d)))

test_begun : (d w : ℕ) (ws tail rest : List ℕ) (h : TestHead) → ws ≡ w ∷ tail → TestHeadIn d ws h rest → TestBegun d w tail rest
test_begun d w ws tail rest Always e x = let y = x.0 in let z : w ≡ 0 = cc in inl (omega arith)
test_begun d w ws tail rest Never e x = let y = x.0 in let z : w ≡ 1 = cc in inl (omega arith)
test_begun d w ws tail rest (Test n) e x = let y = x.0 in inr (inl (cc, (n, x.1, cc)))
test_begun d w ws tail rest Both e x = let y = x.0 in let z : w ≡ 3 = cc in inr (inr (omega arith, omega arith, x.1))
test_begun d w ws tail rest Any e x = let y = x.0 in let z : w ≡ 4 = cc in inr (inr (omega arith, omega arith, x.1))
test_begun d w ws tail rest Opposite e x = let y = x.0 in let z : w ≡ 5 = cc in inr (inr (omega arith, omega arith, x.1))

test_refuted : (d w : ℕ) (ws tail : List ℕ) → ws ≡ w ∷ tail → ((rest : List ℕ) → TestBegun d w tail rest → ⊥) → NoTestHead d ws
test_refuted d w ws tail e f h rest x = f rest (test_begun d w ws tail rest h e x)

module _ (d : ℕ) (ws tail : List ℕ) where
  pub no_code_test : (w : ℕ) → 6 ≤ w → ws ≡ w ∷ tail → NoTestHead d ws
  no_code_test w l e = test_refuted d w ws tail e from
    where
      from : (rest : List ℕ) → TestBegun d w tail rest → ⊥
      from rest (inl x) = omega arith
      from rest (inr (inl x)) = omega (arith, x.0)
      from rest (inr (inr x)) = omega (arith, x.1)

  pub deep_test : (w : ℕ) → 3 ≤ w → d ≡ 0 → ws ≡ w ∷ tail → NoTestHead d ws
  deep_test w l z e = test_refuted d w ws tail e from
    where
      from : (rest : List ℕ) → TestBegun d w tail rest → ⊥
      from rest (inl x) = omega arith
      from rest (inr (inl x)) = omega (arith, x.0)
      from rest (inr (inr x)) = omega (arith, x.2)

  pub bad_number_test : (f : Fault) → BadNumber 4 tail f → ws ≡ 2 ∷ tail → NoTestHead d ws
  bad_number_test f b e = test_refuted d 2 ws tail e from
    where
      from : (rest : List ℕ) → TestBegun d 2 tail rest → ⊥
      from rest (inl x) = omega arith
      from rest (inr (inl x)) = not_bad 4 tail rest f x.1 b
      from rest (inr (inr x)) = omega (arith, x.0)
