-- Sets of atoms as bits of a number, a bit for each of the 16 in which only tests from 0 to 3 hold.
--     AtomsAre    an atom is in the set exactly if f holds of it; of an atom only what the four tests say counts
--     AtomsOf     the atoms at which a test holds
use Rattle.std.specs.Prelude.{◌≡◌, ℕ, ◌%◌, ◌^◌, ◌≤◌, Bool, false}
use Rattle.kat.specs.Programs.{Test, test_count}
use Rattle.kat.specs.Bits.{bit}
use Rattle.kat.specs.Traces.{holds}

abbrev pub AtomsAre : (ℕ → Bool) → ℕ → Type 0
AtomsAre f m = ((a : ℕ) → bit (a % 2 ^ test_count) m ≡ f a) × ((a : ℕ) → 2 ^ test_count ≤ a → bit a m ≡ false)

abbrev pub AtomsOf : ℕ → Test → Type 0
AtomsOf m t = AtomsAre (λ a. holds a t) m
