-- Numbers made of bits, and their bits.
use Rattle.std.proofs.Common.{◌≡◌, ℕ, zero, suc, ◌+◌, ◌*◌, ◌/◌, ◌%◌, ◌^◌, ◌<◌, ◌≤◌, Bool, true, false, cond, eqb, sym, refl, ◌∙◌, arith}
use lib.Dec.{eqb-suc-suc, eqb-zero-suc, eqb-suc-zero}
use Rattle.kat.specs.Bits.{bit, from_bits}
use Rattle.kat.proofs.BitOperations.{bit_above}

low_bit : (b : Bool) (k : ℕ) → (eqb ((cond b 1 0 + 2 * k) % 2) 1 ≡ b) × ((cond b 1 0 + 2 * k) / 2 ≡ k) × (cond b 1 0 < 2)
low_bit true k = let e : (1 + 2 * k) % 2 ≡ 1 = omega arith in (rw e, omega arith, omega arith)
low_bit false k = let e : (0 + 2 * k) % 2 ≡ 0 = omega arith in (rw e, omega arith, omega arith)

pub bit_from_bits : (f : ℕ → Bool) (m n : ℕ) → n < m → bit n (from_bits f m) ≡ f n
unfolding from_bits
bit_from_bits f zero n h = absurd (omega arith)
bit_from_bits f (suc m) zero h = (low_bit (f 0) (from_bits (λ n. f (suc n)) m)).0
bit_from_bits f (suc m) (suc n) h = rw (low_bit (f 0) (from_bits (λ n. f (suc n)) m)).1 (bit_from_bits (λ n. f (suc n)) m n (omega arith))

pub from_bits_below : (f : ℕ → Bool) (m : ℕ) → from_bits f m < 2 ^ m
unfolding from_bits
from_bits_below f zero = omega arith
from_bits_below f (suc m) = omega (arith, (low_bit (f 0) 0).2, from_bits_below (λ n. f (suc n)) m)

pub bit_beyond : (f : ℕ → Bool) (m n : ℕ) → m ≤ n → bit n (from_bits f m) ≡ false
bit_beyond f m n h = bit_above m n (from_bits f m) (from_bits_below f m) h

pub bit_zero : (n : ℕ) → bit n 0 ≡ false
bit_zero zero = refl
bit_zero (suc n) = bit_zero n

-- The number with one bit.
pub bit_power : (n x : ℕ) → bit x (2 ^ n) ≡ eqb x n
bit_power zero zero = refl
bit_power zero (suc x) = bit_zero x ∙ sym (eqb-suc-zero x)
bit_power (suc n) zero = let e : 2 ^ suc n % 2 ≡ 0 = omega arith in rw e (sym (eqb-zero-suc n))
bit_power (suc n) (suc x) = let e : 2 ^ suc n / 2 ≡ 2 ^ n = omega arith in rw e (bit_power n x ∙ sym (eqb-suc-suc x n))
