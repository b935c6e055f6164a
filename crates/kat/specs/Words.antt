-- Programs as words, in prefix code.
--     a program     0 test        a guard            a test     0             always
--                   1 number      a step                        1             never
--                   2 first second   one after the other        2 number      a test
--                   3 one other   either of two                 3 one other   both of two
--                   4 program     again and again               4 one other   any of two
--                                                               5 test        the opposite
--     words         the words of a program
--     TwoPrograms   words that are two programs in range, one after the other, at most 4,096 in all
use Rattle.std.specs.Prelude.{◌≡◌, ℕ, ◌≤◌, List, [], ◌∷◌, ◌++◌, length}
use Rattle.kat.specs.Programs.{Test, always, never, test, both, any, opposite, Program, guard, step, seq, choice, star, InRange}

-- Two programs have at most so many words.
abbrev pub max_words : ℕ
max_words = 4096

abbrev pub test_words : Test → List ℕ
test_words always = 0 ∷ []
test_words never = 1 ∷ []
test_words (test n) = 2 ∷ n ∷ []
test_words (both s t) = 3 ∷ (test_words s ++ test_words t)
test_words (any s t) = 4 ∷ (test_words s ++ test_words t)
test_words (opposite t) = 5 ∷ test_words t

abbrev pub words : Program → List ℕ
words (guard t) = 0 ∷ test_words t
words (step n) = 1 ∷ n ∷ []
words (seq p q) = 2 ∷ (words p ++ words q)
words (choice p q) = 3 ∷ (words p ++ words q)
words (star p) = 4 ∷ words p

pub record TwoPrograms (s : List ℕ) (p q : Program) : Type 0 where
  pub are : s ≡ words p ++ words q
  pub first : InRange p
  pub second : InRange q
  pub short : length s ≤ max_words
