-- The grammar of programs.
use Rattle.std.proofs.Common.{◌≡◌, ℕ, List, [], ◌∷◌, ◌++◌, sym, refl, ap, append-nil, arith}
use Rattle.kat.specs.Programs.{Test, always, Program, guard, step, seq, choice, star, Limit, known, shallow, few, Keeps}
use Rattle.kat.specs.Words.{test_words, words}
use Rattle.kat.proofs.UniqueReading.{one_program}
use Rattle.reader.specs.Limits.{TestKeeps}
use Rattle.reader.proofs.Frames.{Frame}
use Rattle.reader.proofs.Grammar.{Grammar, Joins, Wraps}

pub programs : Grammar words (λ p. p)
programs = record { one = one_program; leaf = guard always; leaf_long = omega arith; leaf_known = tt; leaf_depth = refl; leaf_steps = refl }

-- Behind its first word there is only one kind of program: the others have another first word.
only_guard : (c : Program) (rest more : List ℕ) → 0 ∷ rest ≡ words c ++ more → (a : Test) × (c ≡ guard a)
only_guard (guard a) rest more e = (a, cc)
only_guard (step n) rest more e = (always, cc)
only_guard (seq a b) rest more e = (always, cc)
only_guard (choice a b) rest more e = (always, cc)
only_guard (star a) rest more e = (always, cc)

pub only_seq : (c : Program) (rest more : List ℕ) → 2 ∷ rest ≡ words c ++ more → (a b : Program) × (c ≡ seq a b)
only_seq (guard a) rest more e = (guard always, guard always, cc)
only_seq (step n) rest more e = (guard always, guard always, cc)
only_seq (seq a b) rest more e = (a, b, cc)
only_seq (choice a b) rest more e = (guard always, guard always, cc)
only_seq (star a) rest more e = (guard always, guard always, cc)

pub only_choice : (c : Program) (rest more : List ℕ) → 3 ∷ rest ≡ words c ++ more → (a b : Program) × (c ≡ choice a b)
only_choice (guard a) rest more e = (guard always, guard always, cc)
only_choice (step n) rest more e = (guard always, guard always, cc)
only_choice (seq a b) rest more e = (guard always, guard always, cc)
only_choice (choice a b) rest more e = (a, b, cc)
only_choice (star a) rest more e = (guard always, guard always, cc)

pub only_star : (c : Program) (rest more : List ℕ) → 4 ∷ rest ≡ words c ++ more → (a : Program) × (c ≡ star a)
only_star (guard a) rest more e = (guard always, cc)
only_star (step n) rest more e = (guard always, cc)
only_star (seq a b) rest more e = (guard always, cc)
only_star (choice a b) rest more e = (guard always, cc)
only_star (star a) rest more e = (a, cc)

abbrev pub seqs : Joins words (λ p. p) 2
seqs = record { join = seq; writes = λ a b. refl; knows = λ a b. (λ x. x, λ x. x); nests = λ a b. refl; counts = λ a b. refl; only = only_seq }

abbrev pub choices : Joins words (λ p. p) 3
choices = record { join = choice; writes = λ a b. refl; knows = λ a b. (λ x. x, λ x. x); nests = λ a b. refl; counts = λ a b. refl; only = only_choice }

abbrev pub stars : Wraps words (λ p. p) 4
stars = record { wrap = star; writes = λ a. refl; knows = λ a. (λ x. x, λ x. x); nests = λ a. refl; counts = λ a. refl; only = only_star }

-- A test keeps what the guard by it keeps: it has no steps.
pub guard_keeps : (d k : ℕ) (l : Limit) (t : Test) → TestKeeps d l t → Keeps d k l (guard t)
guard_keeps d k known t x = x
guard_keeps d k shallow t x = x
guard_keeps d k few t x = omega arith

test_keeps : (d k : ℕ) (l : Limit) (t : Test) → Keeps d k l (guard t) → TestKeeps d l t
test_keeps d k known t x = x
test_keeps d k shallow t x = x
test_keeps d k few t x = omega arith

pub guard_frame : (d k : ℕ) → Frame test_words words (TestKeeps d) (Keeps d k) (0 ∷ [])
guard_frame d k = record {
  wrap = guard;
  post = [];
  wraps = λ t. ap (λ r. 0 ∷ r) (sym (append-nil (test_words t)));
  up = λ l t x. guard_keeps d k l t x;
  down = λ c rest more h.
      let o = only_guard c rest more h in
      (o.0, more, cc (h, ap words o.1), λ l x. test_keeps d k l o.0 (rw o.1 at x));
}
