-- What is read of a test, and what is met in it, from what was read of its parts.
use Rattle.std.proofs.Common.{◌≡◌, ℕ, ◌-◌, ◌<◌, ◌⊎◌, List, ◌∷◌, refl, inl, inr, arith}
use Rattle.kat.specs.Programs as terms
use Rattle.kat.specs.Programs.{both, any, opposite}
use Rattle.reader.specs.declared.refusals.Fault.{Fault}
use Rattle.reader.specs.declared.heads.TestHead.{TestHead}
use Rattle.reader.specs.declared.heads.TestHead.TheVariants.{Both, Any, Opposite}
use Rattle.reader.specs.Heads.{TestHeadIn}
use Rattle.reader.specs.Parts.{TestAs, TestFault}
use Rattle.reader.proofs.Frames.{fault_in}
use Rattle.reader.proofs.TwoParts.{first_part_fault, second_part_fault, parts_read}
use Rattle.reader.proofs.OnePart.{part_frame, wrapped}
use Rattle.reader.proofs.TestGrammar.{tests, boths, anys, opposites}

-- A head asks for what it stands for.
both_head : (d : ℕ) (h : TestHead) (ws rest : List ℕ) → h ≡ Both → TestHeadIn d ws h rest → (ws ≡ 3 ∷ rest) × (0 < d)
both_head d h ws rest o b = rw o at b

any_head : (d : ℕ) (h : TestHead) (ws rest : List ℕ) → h ≡ Any → TestHeadIn d ws h rest → (ws ≡ 4 ∷ rest) × (0 < d)
any_head d h ws rest o b = rw o at b

opposite_head : (d : ℕ) (h : TestHead) (ws rest : List ℕ) → h ≡ Opposite → TestHeadIn d ws h rest → (ws ≡ 5 ∷ rest) × (0 < d)
opposite_head d h ws rest o b = rw o at b

module _ (d : ℕ) (h : TestHead) (ws rest : List ℕ) (b : TestHeadIn d ws h rest) where
  pub test_first_fault : (h ≡ Both) ⊎ (h ≡ Any) → (f : Fault) → TestFault (d - 1) rest f → TestFault d ws f
  test_first_fault (inl o) = let x = both_head d h ws rest o b in first_part_fault tests boths d 0 ws rest x.0 x.1
  test_first_fault (inr o) = let x = any_head d h ws rest o b in first_part_fault tests anys d 0 ws rest x.0 x.1

  pub opposite_fault : h ≡ Opposite → (f : Fault) → TestFault (d - 1) rest f → TestFault d ws f
  opposite_fault o f x =
      let y = opposite_head d h ws rest o b in
      let p = y.1 in
      fault_in (part_frame tests opposites (d - 1) d 0 (omega arith)) ws rest f y.0 x

  pub opposite_read : h ≡ Opposite → (more : List ℕ) (M O : terms.Test → Type 0) → ((t : terms.Test) → M t → O (opposite t)) → TestAs M (d - 1) rest more → TestAs O d ws more
  opposite_read o more M O made r =
      let y = opposite_head d h ws rest o b in
      let p = y.1 in
      let z = wrapped tests opposites (d - 1) d 0 r.0 ws rest more (omega arith) y.0 r.1 r.2 in
      (opposite r.0, z.0, z.1, made r.0 r.3)

  module _ (second : List ℕ) (M : terms.Test → Type 0) (r : TestAs M (d - 1) rest second) where
    pub test_second_fault : (h ≡ Both) ⊎ (h ≡ Any) → (f : Fault) → TestFault (d - 1) second f → TestFault d ws f
    test_second_fault (inl o) = let x = both_head d h ws rest o b in second_part_fault tests boths d 0 ws rest x.0 x.1 second 0 M (λ t m. refl) r
    test_second_fault (inr o) = let x = any_head d h ws rest o b in second_part_fault tests anys d 0 ws rest x.0 x.1 second 0 M (λ t m. refl) r

    pub both_read : h ≡ Both → (more : List ℕ) (N O : terms.Test → Type 0) → ((t u : terms.Test) → M t → N u → O (both t u)) → TestAs N (d - 1) second more → TestAs O d ws more
    both_read o = let x = both_head d h ws rest o b in parts_read tests boths d 0 ws rest x.0 x.1 second 0 M (λ t m. refl) r

    pub any_read : h ≡ Any → (more : List ℕ) (N O : terms.Test → Type 0) → ((t u : terms.Test) → M t → N u → O (any t u)) → TestAs N (d - 1) second more → TestAs O d ws more
    any_read o = let x = any_head d h ws rest o b in parts_read tests anys d 0 ws rest x.0 x.1 second 0 M (λ t m. refl) r
