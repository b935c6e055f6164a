-- One byte of a scan, by what kind of byte it is.
use Rattle.std.proofs.Common.{◌≡◌, ℕ, ◌+◌, ◌-◌, ◌*◌, ◌^◌, ◌<◌, ◌≤◌, true, false, List, [], ◌∷◌, ◌++◌, length, arith, le-ltb, lt-ltb}
use Rattle.std.proofs.lemmas.Bool.Decides.{nat_tests}
use Rattle.lines.specs.declared.Fault.TheVariants.{NotNumber, TooLarge, TooMany}
use Rattle.lines.specs.declared.State.TheVariants.{Gap, Number, Stopped}
use Rattle.lines.specs.Spelling.{blank, digit}
use Rattle.lines.specs.Scanning.{after}

pub digit_not_blank : (b : ℕ) → digit b ≡ true → blank b ≡ false
digit_not_blank b h = grind (arith, nat_tests)

module _ (most : ℕ) (ns : List ℕ) (b : ℕ) where
  pub gap_blank : blank b ≡ true → after most (record { numbers = ns; state = Gap }) b ≡ record { numbers = ns; state = Gap }
  gap_blank h = rw h

  pub gap_digit : digit b ≡ true → after most (record { numbers = ns; state = Gap }) b ≡ record { numbers = ns; state = Number (b - 48) }
  gap_digit h = rw (digit_not_blank b h, h)

  pub number_blank : (n : ℕ) → blank b ≡ true → length ns < most → after most (record { numbers = ns; state = Number n }) b ≡ record { numbers = ns ++ n ∷ []; state = Gap }
  number_blank n h l = rw (h, lt-ltb (length ns) most l)

  pub number_digit : (n : ℕ) → digit b ≡ true → 10 * n + (b - 48) < 2 ^ 32 → after most (record { numbers = ns; state = Number n }) b ≡ record { numbers = ns; state = Number (10 * n + (b - 48)) }
  number_digit n h l = rw (digit_not_blank b h, h, lt-ltb (10 * n + (b - 48)) (2 ^ 32) l)

  pub gap_other : blank b ≡ false → digit b ≡ false → after most (record { numbers = ns; state = Gap }) b ≡ record { numbers = ns; state = Stopped NotNumber }
  gap_other h k = rw (h, k)

  pub number_full : (n : ℕ) → blank b ≡ true → most ≤ length ns → after most (record { numbers = ns; state = Number n }) b ≡ record { numbers = ns; state = Stopped TooMany }
  number_full n h l = rw (h, le-ltb (length ns) most l)

  pub number_large : (n : ℕ) → digit b ≡ true → 2 ^ 32 ≤ 10 * n + (b - 48) → after most (record { numbers = ns; state = Number n }) b ≡ record { numbers = ns; state = Stopped TooLarge }
  number_large n h l = rw (digit_not_blank b h, h, le-ltb (10 * n + (b - 48)) (2 ^ 32) l)

  pub number_other : (n : ℕ) → blank b ≡ false → digit b ≡ false → after most (record { numbers = ns; state = Number n }) b ≡ record { numbers = ns; state = Stopped NotNumber }
  number_other n h k = rw (h, k)
