-- The atoms at which a test holds, from those of its parts.
use Rattle.std.proofs.Common.{◌≡◌, ℕ, zero, suc, ◌%◌, ◌<◌, true, cond, not, ◌&&◌, ◌||◌, List, [], ◌∷◌, get_or, refl, ap, ◌∙◌, mod-lt, arith, lit<}
use lib.Bits.{bit_and, bit_or, bit_xor}
use Rattle.std.proofs.lemmas.Bool.{lt-ltb, le-ltb, agree_below, agree_below_at}
use Rattle.kat.specs.Bits.{bit}
use Rattle.kat.specs.Programs.{Test, always, never, test, both, any, opposite}
use Rattle.kat.specs.Traces.{holds}
use Rattle.kat.proofs.BitLaws.{bit_zero}
use Rattle.kat.proofs.BitOperations.{bit_of_and, bit_of_or, bit_of_xor, bit_ones, bit_mod, bit_above}
use Rattle.automaton.specs.Atoms.{AtomsOf}

-- Cut to four tests, an atom is one of sixteen.
pub known_atom : (a : ℕ) → a % 16 < 16
known_atom a = mod-lt a (lit< tt)

pub always_atoms : AtomsOf 65535 always
always_atoms = (λ a. bit_ones 16 (a % 16) ∙ lt-ltb (a % 16) 16 (known_atom a), λ a h. bit_ones 16 a ∙ le-ltb a 16 h)

pub never_atoms : AtomsOf 0 never
never_atoms = (λ a. bit_zero (a % 16), λ a h. bit_zero a)

pub both_atoms : (m n : ℕ) (t u : Test) → AtomsOf m t → AtomsOf n u → AtomsOf (bit_and m n) (both t u)
both_atoms m n t u p q =
    (λ a. bit_of_and (a % 16) m n ∙ ap (λ b. b && bit (a % 16) n) (p.0 a) ∙ ap (λ b. holds a t && b) (q.0 a), λ a h. bit_of_and a m n ∙ ap (λ b. b && bit a n) (p.1 a h))

pub any_atoms : (m n : ℕ) (t u : Test) → AtomsOf m t → AtomsOf n u → AtomsOf (bit_or m n) (any t u)
any_atoms m n t u p q =
    (λ a. bit_of_or (a % 16) m n ∙ ap (λ b. b || bit (a % 16) n) (p.0 a) ∙ ap (λ b. holds a t || b) (q.0 a), λ a h. bit_of_or a m n ∙ ap (λ b. b || bit a n) (p.1 a h) ∙ q.1 a h)

pub opposite_atoms : (m : ℕ) (t : Test) → AtomsOf m t → AtomsOf (bit_xor m 65535) (opposite t)
opposite_atoms m t p =
    (λ a. bit_of_xor (a % 16) m 65535 ∙ ap (λ b. cond b (not (bit (a % 16) m)) (bit (a % 16) m)) (always_atoms.0 a) ∙ ap not (p.0 a), λ a h. bit_of_xor a m 65535 ∙ ap (λ b. cond b (not (bit a m)) (bit a m)) (always_atoms.1 a h) ∙ p.1 a h)

-- the atoms at which each test holds
abbrev pub masks : List ℕ
masks = 43690 ∷ 52428 ∷ 61680 ∷ 65280 ∷ []

-- A mask below 2 ^ 16 whose bits are those of a test.
mask_atoms : (n m : ℕ) → n < 4 → m < 65536 → agree_below (λ a. bit a m) (bit n) 16 ≡ true → AtomsOf m (test n)
mask_atoms n m k b t = (λ a. agree_below_at (λ a. bit a m) (bit n) 16 (a % 16) t (known_atom a) ∙ bit_mod 4 n a k, λ a h. bit_above 16 a m b h)

pub test_atoms : (n : ℕ) → n < 4 → AtomsOf (get_or masks n 0) (test n)
test_atoms zero k = mask_atoms 0 43690 k (lit< tt) refl
test_atoms (suc zero) k = mask_atoms 1 52428 k (lit< tt) refl
test_atoms (suc (suc zero)) k = mask_atoms 2 61680 k (lit< tt) refl
test_atoms (suc (suc (suc zero))) k = mask_atoms 3 65280 k (lit< tt) refl
test_atoms (suc (suc (suc (suc n)))) k = absurd (omega arith)
