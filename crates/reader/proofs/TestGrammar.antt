-- The grammar of tests.
use Rattle.std.proofs.Common.{◌≡◌, ℕ, List, ◌∷◌, ◌++◌, refl, arith}
use Rattle.kat.specs.Programs.{Test, always, never, test, both, any, opposite, guard}
use Rattle.kat.specs.Words.{test_words}
use Rattle.kat.proofs.UniqueReading.{one_test}
use Rattle.reader.proofs.Grammar.{Grammar, Joins, Wraps}

pub tests : Grammar test_words guard
tests = record { one = one_test; leaf = always; leaf_long = omega arith; leaf_known = tt; leaf_depth = refl; leaf_steps = refl }

-- Behind its first word there is only one kind of test: the others have another first word.
pub only_both : (c : Test) (rest more : List ℕ) → 3 ∷ rest ≡ test_words c ++ more → (a b : Test) × (c ≡ both a b)
only_both always rest more e = (always, always, cc)
only_both never rest more e = (always, always, cc)
only_both (test n) rest more e = (always, always, cc)
only_both (both a b) rest more e = (a, b, cc)
only_both (any a b) rest more e = (always, always, cc)
only_both (opposite a) rest more e = (always, always, cc)

pub only_any : (c : Test) (rest more : List ℕ) → 4 ∷ rest ≡ test_words c ++ more → (a b : Test) × (c ≡ any a b)
only_any always rest more e = (always, always, cc)
only_any never rest more e = (always, always, cc)
only_any (test n) rest more e = (always, always, cc)
only_any (both a b) rest more e = (always, always, cc)
only_any (any a b) rest more e = (a, b, cc)
only_any (opposite a) rest more e = (always, always, cc)

pub only_opposite : (c : Test) (rest more : List ℕ) → 5 ∷ rest ≡ test_words c ++ more → (a : Test) × (c ≡ opposite a)
only_opposite always rest more e = (always, cc)
only_opposite never rest more e = (always, cc)
only_opposite (test n) rest more e = (always, cc)
only_opposite (both a b) rest more e = (always, cc)
only_opposite (any a b) rest more e = (always, cc)
only_opposite (opposite a) rest more e = (a, cc)

abbrev pub boths : Joins test_words guard 3
boths = record { join = both; writes = λ a b. refl; knows = λ a b. (λ x. x, λ x. x); nests = λ a b. refl; counts = λ a b. refl; only = only_both }

abbrev pub anys : Joins test_words guard 4
anys = record { join = any; writes = λ a b. refl; knows = λ a b. (λ x. x, λ x. x); nests = λ a b. refl; counts = λ a b. refl; only = only_any }

abbrev pub opposites : Wraps test_words guard 5
opposites = record { wrap = opposite; writes = λ a. refl; knows = λ a. (λ x. x, λ x. x); nests = λ a. refl; counts = λ a. refl; only = only_opposite }
