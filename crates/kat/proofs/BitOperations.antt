-- What shifts, masks and `&`, `|`, `^` do to each bit.
use Rattle.std.proofs.Common.{◌≡◌, ℕ, zero, suc, ◌+◌, ◌-◌, ◌*◌, ◌/◌, ◌%◌, ◌^◌, ◌<◌, ◌≤◌, Bool, true, false, cond, not, ◌&&◌, ◌||◌, eqb, ltb, sym, refl, ap, ◌∙◌, mod-lt, div-one, arith, lit<}
use native.Mathlib.Nat.{div-div-eq-div-mul, pow-succ'}
use lib.Bits.{bit_and, bit_or, bit_xor, and_shr, or_shr, xor_shr, and_mask, and_mod, or_mod, xor_mod}
use lib.Dec.{leb-suc-suc}
use Rattle.std.proofs.lemmas.Nat.{mod-pow-add, pow_pos}
use Rattle.std.proofs.lemmas.Bool.{lt-ltb, le-ltb}
use Rattle.std.proofs.lemmas.Bool.Decides.{nat_tests}
use Rattle.kat.specs.Bits.{bit}

bit_shr : (n a : ℕ) → bit n a ≡ eqb (a / 2 ^ n % 2) 1
bit_shr zero a = rw div-one
bit_shr (suc n) a = bit_shr n (a / 2) ∙ ap (λ x. eqb (x % 2) 1) (div-div-eq-div-mul a 2 (2 ^ n) ∙ ap (λ x. a / x) (sym (pow-succ' 2 n)))

-- A bit is tested by a shift and a mask.
pub bit_test : (n a : ℕ) → bit n a ≡ eqb (bit_and (a / 2 ^ n) 1) 1
bit_test n a = bit_shr n a ∙ ap (λ x. eqb x 1) (sym (and_mask (a / 2 ^ n) 1))

-- What an operation does to the lowest bits it does to any, where it goes along with halving.
module _ (op : ℕ → ℕ → ℕ) (f : Bool → Bool → Bool) (halves : (a b : ℕ) → op a b / 2 ≡ op (a / 2) (b / 2)) (lowest : (a b : ℕ) → op a b % 2 ≡ op (a % 2) (b % 2)) (zz : eqb (op 0 0) 1 ≡ f false false) (zo : eqb (op 0 1) 1 ≡ f false true) (oz : eqb (op 1 0) 1 ≡ f true false) (oo : eqb (op 1 1) 1 ≡ f true true) where
  low : (x y : ℕ) → x < 2 → y < 2 → eqb (op x y) 1 ≡ f (eqb x 1) (eqb y 1)
  low zero zero h k = zz
  low zero (suc zero) h k = zo
  low (suc zero) zero h k = oz
  low (suc zero) (suc zero) h k = oo
  low zero (suc (suc y)) h k = absurd (omega (arith, k))
  low (suc zero) (suc (suc y)) h k = absurd (omega (arith, k))
  low (suc (suc x)) y h k = absurd (omega (arith, h))

  bitwise : (n a b : ℕ) → bit n (op a b) ≡ f (bit n a) (bit n b)
  bitwise zero a b = ap (λ x. eqb x 1) (lowest a b) ∙ low (a % 2) (b % 2) (mod-lt a (lit< tt)) (mod-lt b (lit< tt))
  bitwise (suc n) a b = ap (bit n) (halves a b) ∙ bitwise n (a / 2) (b / 2)

pub bit_of_and : (n a b : ℕ) → bit n (bit_and a b) ≡ (bit n a && bit n b)
bit_of_and = bitwise bit_and (λ x y. x && y) (λ a b. and_shr a b 1) (λ a b. and_mod a b 1) refl refl refl refl

pub bit_of_or : (n a b : ℕ) → bit n (bit_or a b) ≡ (bit n a || bit n b)
bit_of_or = bitwise bit_or (λ x y. x || y) (λ a b. or_shr a b 1) (λ a b. or_mod a b 1) refl refl refl refl

pub bit_of_xor : (n a b : ℕ) → bit n (bit_xor a b) ≡ cond (bit n b) (not (bit n a)) (bit n a)
bit_of_xor = bitwise bit_xor (λ x y. cond y (not x) x) (λ a b. xor_shr a b 1) (λ a b. xor_mod a b 1) refl refl refl refl

-- The lowest k bits alone, all of them 1 or as they are.
pub bit_ones : (k n : ℕ) → bit n (2 ^ k - 1) ≡ ltb n k
bit_ones zero zero = refl
bit_ones zero (suc n) = bit_ones zero n ∙ le-ltb n 0 (omega arith) ∙ sym (le-ltb (suc n) 0 (omega arith))
bit_ones (suc k) zero = let e : (2 ^ suc k - 1) % 2 ≡ 1 = omega (arith, pow_pos k) in rw e (sym (lt-ltb 0 (suc k) (omega arith)))
bit_ones (suc k) (suc n) = let e : (2 ^ suc k - 1) / 2 ≡ 2 ^ k - 1 = omega arith in rw e (bit_ones k n ∙ sym (leb-suc-suc (suc n) k))

mod_halves : (k a : ℕ) → a % 2 ^ suc k ≡ (a / 2 % 2 ^ k) * 2 + a % 2
mod_halves k a = let e : k + 1 ≡ suc k = omega arith in rw (← e) (mod-pow-add a k 1)

pub bit_mod : (k n a : ℕ) → n < k → bit n (a % 2 ^ k) ≡ bit n a
bit_mod zero n a h = absurd (omega arith)
bit_mod (suc k) zero a h = let e : a % 2 ^ suc k % 2 ≡ a % 2 = omega (arith, mod_halves k a) in rw e
bit_mod (suc k) (suc n) a h = let e : a % 2 ^ suc k / 2 ≡ a / 2 % 2 ^ k = omega (arith, mod_halves k a) in rw e (bit_mod k n (a / 2) (omega arith))

pub bit_above : (k n a : ℕ) → a < 2 ^ k → k ≤ n → bit n a ≡ false
bit_above zero zero a h l = let e : a % 2 ≡ 0 = omega arith in rw e
bit_above zero (suc n) a h l = bit_above zero n (a / 2) (omega arith) (omega arith)
bit_above (suc k) zero a h l = absurd (omega arith)
bit_above (suc k) (suc n) a h l = bit_above k n (a / 2) (omega arith) (omega arith)

same_parity : (x y : ℕ) → x < 2 → y < 2 → eqb x 1 ≡ eqb y 1 → x ≡ y
same_parity x y h l e = grind (arith, nat_tests)

-- Numbers with the same bits are the same.
same_bits_below : (k a b : ℕ) → a < 2 ^ k → b < 2 ^ k → ((n : ℕ) → bit n a ≡ bit n b) → a ≡ b
same_bits_below zero a b h l e = omega arith
same_bits_below (suc k) a b h l e =
    let halves = same_bits_below k (a / 2) (b / 2) (omega arith) (omega arith) (λ n. e (suc n)) in
    let lowest = same_parity (a % 2) (b % 2) (mod-lt a (lit< tt)) (mod-lt b (lit< tt)) (e 0) in
    omega arith

below_power : (k a : ℕ) → a ≤ k → a < 2 ^ k
below_power zero a h = omega arith
below_power (suc k) zero h = pow_pos (suc k)
below_power (suc k) (suc a) h = omega (arith, below_power k a (omega arith))

pub same_bits : (a b : ℕ) → ((n : ℕ) → bit n a ≡ bit n b) → a ≡ b
same_bits a b e = same_bits_below (a + b) a b (below_power (a + b) a (omega arith)) (below_power (a + b) b (omega arith)) e
