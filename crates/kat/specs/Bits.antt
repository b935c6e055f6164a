-- Numbers as rows of bits, the lowest first.
use Rattle.std.specs.Prelude.{ℕ, zero, suc, ◌+◌, ◌*◌, ◌/◌, ◌%◌, Bool, cond, ◌==◌}

abbrev pub bit : ℕ → ℕ → Bool
bit zero a = a % 2 == 1
bit (suc n) a = bit n (a / 2)

-- the number below 2 ^ m whose bits are given
unfoldable pub from_bits : (ℕ → Bool) → ℕ → ℕ
from_bits f zero = 0
from_bits f (suc m) = cond (f 0) 1 0 + 2 * from_bits (λ n. f (suc n)) m
