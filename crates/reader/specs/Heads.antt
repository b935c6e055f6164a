-- What a program, and a test, begins with.
--     head_words    the words that a head stands for
--     HeadFits      there is room for what begins so: for d levels and k steps
--     HeadIn        the head h stands first in the words ws, the rest follows it, and there is room for it
--     NoHead        no head does
use Rattle.std.specs.Prelude.{◌≡◌, ℕ, ◌<◌, List, [], ◌∷◌, ◌++◌}
use Rattle.kat.specs.Programs.{test_count, step_count}
use Rattle.reader.specs.declared.heads.Head.{Head}
use Rattle.reader.specs.declared.heads.Head.TheVariants.{Guard, Step, Sequence, Choice, Star}
use Rattle.reader.specs.declared.heads.TestHead.{TestHead}
use Rattle.reader.specs.declared.heads.TestHead.TheVariants.{Always, Never, Test, Both, Any, Opposite}

abbrev pub head_words : Head → List ℕ
head_words Guard = 0 ∷ []
head_words (Step n) = 1 ∷ n.0 ∷ []
head_words Sequence = 2 ∷ []
head_words Choice = 3 ∷ []
head_words Star = 4 ∷ []

abbrev pub HeadFits : ℕ → ℕ → Head → Type 0
HeadFits d k Guard = Unit {0}
HeadFits d k (Step n) = (n.0 < step_count) × (0 < k)
HeadFits d k Sequence = 0 < d
HeadFits d k Choice = 0 < d
HeadFits d k Star = 0 < d

abbrev pub HeadIn : ℕ → ℕ → List ℕ → Head → List ℕ → Type 0
HeadIn d k ws h rest = (ws ≡ head_words h ++ rest) × HeadFits d k h

abbrev pub NoHead : ℕ → ℕ → List ℕ → Type 0
NoHead d k ws = (h : Head) (rest : List ℕ) → HeadIn d k ws h rest → ⊥

-- the same of tests, which have no steps
abbrev pub test_head_words : TestHead → List ℕ
test_head_words Always = 0 ∷ []
test_head_words Never = 1 ∷ []
test_head_words (Test n) = 2 ∷ n ∷ []
test_head_words Both = 3 ∷ []
test_head_words Any = 4 ∷ []
test_head_words Opposite = 5 ∷ []

abbrev pub TestHeadFits : ℕ → TestHead → Type 0
TestHeadFits d Always = Unit {0}
TestHeadFits d Never = Unit {0}
TestHeadFits d (Test n) = n < test_count
TestHeadFits d Both = 0 < d
TestHeadFits d Any = 0 < d
TestHeadFits d Opposite = 0 < d

abbrev pub TestHeadIn : ℕ → List ℕ → TestHead → List ℕ → Type 0
TestHeadIn d ws h rest = (ws ≡ test_head_words h ++ rest) × TestHeadFits d h

abbrev pub NoTestHead : ℕ → List ℕ → Type 0
NoTestHead d ws = (h : TestHead) (rest : List ℕ) → TestHeadIn d ws h rest → ⊥
