-- What is read of a program, and what is met in it, from what was read of its parts.
use Rattle.std.proofs.Common.{◌≡◌, ℕ, ◌+◌, ◌-◌, ◌<◌, ◌⊎◌, List, ◌∷◌, inl, inr, arith}
use Rattle.kat.specs.Programs.{Test, Program, guard, seq, choice, star, steps}
use Rattle.reader.specs.declared.refusals.Fault.{Fault}
use Rattle.reader.specs.declared.heads.Head.{Head}
use Rattle.reader.specs.declared.heads.Head.TheVariants.{Guard, Sequence, Choice, Star}
use Rattle.reader.specs.Heads.{HeadIn}
use Rattle.reader.specs.Parts.{ProgramAs, ProgramFault, TestAs, TestFault}
use Rattle.reader.proofs.Frames.{fault_in}
use Rattle.reader.proofs.TwoParts.{first_part_fault, second_part_fault, parts_read}
use Rattle.reader.proofs.OnePart.{part_frame, wrapped}
use Rattle.reader.proofs.ProgramGrammar.{programs, seqs, choices, stars, guard_frame, guard_keeps}

-- A head asks for what it stands for.
sequence_head : (d k : ℕ) (h : Head) (ws rest : List ℕ) → h ≡ Sequence → HeadIn d k ws h rest → (ws ≡ 2 ∷ rest) × (0 < d)
sequence_head d k h ws rest o b = rw o at b

choice_head : (d k : ℕ) (h : Head) (ws rest : List ℕ) → h ≡ Choice → HeadIn d k ws h rest → (ws ≡ 3 ∷ rest) × (0 < d)
choice_head d k h ws rest o b = rw o at b

star_head : (d k : ℕ) (h : Head) (ws rest : List ℕ) → h ≡ Star → HeadIn d k ws h rest → (ws ≡ 4 ∷ rest) × (0 < d)
star_head d k h ws rest o b = rw o at b

module _ (d k : ℕ) (h : Head) (ws rest : List ℕ) (b : HeadIn d k ws h rest) where
  pub guard_fault : h ≡ Guard → (f : Fault) → TestFault d rest f → ProgramFault d k ws f
  guard_fault o f x = fault_in (guard_frame d k) ws rest f (rw o at b.0) x

  pub guard_read : h ≡ Guard → (more : List ℕ) (M : Test → Type 0) (O : Program → Type 0) → ((t : Test) → M t → O (guard t)) → TestAs M d rest more → ProgramAs O d k ws more
  guard_read o more M O made r = (guard r.0, cc (rw o at b.0, r.1), (λ l. guard_keeps d k l r.0 (r.2 l)), made r.0 r.3)

  pub first_fault : (h ≡ Sequence) ⊎ (h ≡ Choice) → (f : Fault) → ProgramFault (d - 1) k rest f → ProgramFault d k ws f
  first_fault (inl o) = let x = sequence_head d k h ws rest o b in first_part_fault programs seqs d k ws rest x.0 x.1
  first_fault (inr o) = let x = choice_head d k h ws rest o b in first_part_fault programs choices d k ws rest x.0 x.1

  pub star_fault : h ≡ Star → (f : Fault) → ProgramFault (d - 1) k rest f → ProgramFault d k ws f
  star_fault o f x =
      let y = star_head d k h ws rest o b in
      let p = y.1 in
      fault_in (part_frame programs stars (d - 1) d k (omega arith)) ws rest f y.0 x

  pub star_read : h ≡ Star → (more : List ℕ) (M O : Program → Type 0) → ((p : Program) → M p → O (star p)) → ProgramAs M (d - 1) k rest more → ProgramAs O d k ws more
  star_read o more M O made r =
      let y = star_head d k h ws rest o b in
      let p = y.1 in
      let z = wrapped programs stars (d - 1) d k r.0 ws rest more (omega arith) y.0 r.1 r.2 in
      (star r.0, z.0, z.1, made r.0 r.3)

  module _ (second : List ℕ) (k' : ℕ) (M : Program → Type 0) (left : (p : Program) → M p → steps p + k' ≡ k) (r : ProgramAs M (d - 1) k rest second) where
    pub second_fault : (h ≡ Sequence) ⊎ (h ≡ Choice) → (f : Fault) → ProgramFault (d - 1) k' second f → ProgramFault d k ws f
    second_fault (inl o) = let x = sequence_head d k h ws rest o b in second_part_fault programs seqs d k ws rest x.0 x.1 second k' M left r
    second_fault (inr o) = let x = choice_head d k h ws rest o b in second_part_fault programs choices d k ws rest x.0 x.1 second k' M left r

    pub sequence_read : h ≡ Sequence → (more : List ℕ) (N O : Program → Type 0) → ((p q : Program) → M p → N q → O (seq p q)) → ProgramAs N (d - 1) k' second more → ProgramAs O d k ws more
    sequence_read o = let x = sequence_head d k h ws rest o b in parts_read programs seqs d k ws rest x.0 x.1 second k' M left r

    pub choice_read : h ≡ Choice → (more : List ℕ) (N O : Program → Type 0) → ((p q : Program) → M p → N q → O (choice p q)) → ProgramAs N (d - 1) k' second more → ProgramAs O d k ws more
    choice_read o = let x = choice_head d k h ws rest o b in parts_read programs choices d k ws rest x.0 x.1 second k' M left r
