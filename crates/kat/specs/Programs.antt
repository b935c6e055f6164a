-- Programs of steps and tests that may stand for anything: the terms of Kleene algebra with tests.
--     Test        a test expression: always, never, a test by number, both of two, any of two, the opposite of one
--     Program     a guard (a test expression, which goes on only where it holds), a step by number, one after the other,
--                 either of two, one again and again (any number of times, also never)
--     steps       how many steps are written in a program
--     depth       how deep a program stands; a leaf is 0 deep
--     Known       its tests have numbers from 0 to 3, its steps from 0 to 7
--     Limit       what a program may have to keep: known tests and steps, not too many levels, not too many steps written
--     Keeps       it keeps a limit, where there is room for d levels and k steps
--     InRange     it keeps each limit: known, at most 64 deep, at most 12 steps written
use Rattle.std.specs.Prelude.{ℕ, suc, ◌+◌, ◌<◌, ◌≤◌, max}

-- Tests have numbers below this, and steps below the next.
abbrev pub test_count : ℕ
test_count = 4

abbrev pub step_count : ℕ
step_count = 8

-- A program in range is at most so deep, and has at most so many steps written.
abbrev pub max_depth : ℕ
max_depth = 64

abbrev pub max_steps : ℕ
max_steps = 12

pub data Test : Type 0 where
  always : Test
  never : Test
  test : ℕ → Test
  both : Test → Test → Test
  any : Test → Test → Test
  opposite : Test → Test

pub data Program : Type 0 where
  guard : Test → Program
  step : ℕ → Program
  seq : Program → Program → Program
  choice : Program → Program → Program
  star : Program → Program

abbrev pub steps : Program → ℕ
steps (guard t) = 0
steps (step n) = 1
steps (seq p q) = steps p + steps q
steps (choice p q) = steps p + steps q
steps (star p) = steps p

abbrev pub test_depth : Test → ℕ
test_depth always = 0
test_depth never = 0
test_depth (test n) = 0
test_depth (both s t) = suc (max (test_depth s) (test_depth t))
test_depth (any s t) = suc (max (test_depth s) (test_depth t))
test_depth (opposite t) = suc (test_depth t)

-- A guard is as deep as its test: it adds no level of its own.
abbrev pub depth : Program → ℕ
depth (guard t) = test_depth t
depth (step n) = 0
depth (seq p q) = suc (max (depth p) (depth q))
depth (choice p q) = suc (max (depth p) (depth q))
depth (star p) = suc (depth p)

abbrev pub KnownTest : Test → Type 0
KnownTest always = Unit {0}
KnownTest never = Unit {0}
KnownTest (test n) = n < test_count
KnownTest (both s t) = KnownTest s × KnownTest t
KnownTest (any s t) = KnownTest s × KnownTest t
KnownTest (opposite t) = KnownTest t

abbrev pub Known : Program → Type 0
Known (guard t) = KnownTest t
Known (step n) = n < step_count
Known (seq p q) = Known p × Known q
Known (choice p q) = Known p × Known q
Known (star p) = Known p

pub data Limit : Type 0 where
  known : Limit
  shallow : Limit
  few : Limit

abbrev pub Keeps : ℕ → ℕ → Limit → Program → Type 0
Keeps d k known p = Known p
Keeps d k shallow p = depth p ≤ d
Keeps d k few p = steps p ≤ k

abbrev pub InRange : Program → Type 0
InRange p = (l : Limit) → Keeps max_depth max_steps l p
