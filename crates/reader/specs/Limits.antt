-- The limits that tests, and pairs of programs, keep.
--     TestKeeps    a test keeps what a guard by it does, where there is room for d levels; it has no steps
--     PairKeeps    both programs of a pair keep a limit
use Rattle.std.specs.Prelude.{ℕ}
use Rattle.kat.specs.Programs.{Test, Program, guard, Limit, Keeps, max_depth, max_steps}

abbrev pub TestKeeps : ℕ → Limit → Test → Type 0
TestKeeps d l t = Keeps d 0 l (guard t)

abbrev pub PairKeeps : Limit → Program × Program → Type 0
PairKeeps l pq = Keeps max_depth max_steps l pq.0 × Keeps max_depth max_steps l pq.1
