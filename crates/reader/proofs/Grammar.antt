-- What the terms of a kind, tests or programs, have in common: a leaf, terms with one part, terms with two.
use Rattle.std.proofs.Common.{◌≡◌, ℕ, suc, ◌+◌, ◌≤◌, max, ◌↔◌, List, [], ◌∷◌, ◌++◌, length, refl, arith}
use Rattle.kat.specs.Programs.{Program, steps, depth, Known, known, shallow, few, Keeps}
use Rattle.reader.specs.Faults.{Begins, All}

-- the terms of a kind: their words are read in one way, and one of them is a leaf that keeps every limit
pub record Grammar {A : Type 0} (code : A → List ℕ) (program : A → Program) : Type 0 where
  pub one : (a b : A) (x y : List ℕ) → code a ++ x ≡ code b ++ y → (a ≡ b) × (x ≡ y)
  pub leaf : A
  pub leaf_long : 1 ≤ length (code leaf)
  pub leaf_known : Known (program leaf)
  pub leaf_depth : depth (program leaf) ≡ 0
  pub leaf_steps : steps (program leaf) ≡ 0

-- terms of two parts, one level deeper, behind the word w
pub record Joins {A : Type 0} (code : A → List ℕ) (program : A → Program) (w : ℕ) : Type 0 where
  pub join : A → A → A
  pub writes : (a b : A) → code (join a b) ≡ w ∷ (code a ++ code b)
  pub knows : (a b : A) → Known (program (join a b)) ↔ (Known (program a) × Known (program b))
  pub nests : (a b : A) → depth (program (join a b)) ≡ suc (max (depth (program a)) (depth (program b)))
  pub counts : (a b : A) → steps (program (join a b)) ≡ steps (program a) + steps (program b)
  pub only : (c : A) (rest more : List ℕ) → w ∷ rest ≡ code c ++ more → (a b : A) × (c ≡ join a b)

-- terms of one part, one level deeper, behind the word w
pub record Wraps {A : Type 0} (code : A → List ℕ) (program : A → Program) (w : ℕ) : Type 0 where
  pub wrap : A → A
  pub writes : (a : A) → code (wrap a) ≡ w ∷ code a
  pub knows : (a : A) → Known (program (wrap a)) ↔ Known (program a)
  pub nests : (a : A) → depth (program (wrap a)) ≡ suc (depth (program a))
  pub counts : (a : A) → steps (program (wrap a)) ≡ steps (program a)
  pub only : (c : A) (rest more : List ℕ) → w ∷ rest ≡ code c ++ more → (a : A) × (c ≡ wrap a)

module _ {A : Type 0} {code : A → List ℕ} {program : A → Program} (g : Grammar code program) where
  -- the leaf keeps every limit, whatever the room
  pub leaf_keeps : (d k : ℕ) → All (λ l a. Keeps d k l (program a)) g.leaf
  leaf_keeps d k known = g.leaf_known
  leaf_keeps d k shallow = omega (arith, g.leaf_depth)
  leaf_keeps d k few = omega (arith, g.leaf_steps)

  -- so that a term can always come
  pub opens : (d k : ℕ) → Begins code (All (λ l a. Keeps d k l (program a))) 1 []
  opens d k = (g.leaf, code g.leaf, g.leaf_long, refl, leaf_keeps d k)
