-- The words of two programs in range fit 32 bits: they are codes and known numbers.
use Rattle.std.proofs.Common.{ℕ, List, [], ◌∷◌, ◌++◌, arith}
use Rattle.kat.specs.Programs.{Test, always, never, test, both, any, opposite, Program, guard, step, seq, choice, star, KnownTest, Known, known}
use Rattle.kat.specs.Words.{test_words, words, TwoPrograms}
use Rattle.lines.specs.Scanning.{Fit}

fit_append : (xs ys : List ℕ) → Fit xs → Fit ys → Fit (xs ++ ys)
fit_append [] ys h k = k
fit_append (x ∷ xs) ys h k = (h.0, fit_append xs ys h.1 k)

fit_test : (t : Test) → KnownTest t → Fit (test_words t)
fit_test always k = (omega arith, tt)
fit_test never k = (omega arith, tt)
fit_test (test n) k = (omega arith, (omega arith, tt))
fit_test (both s t) k = (omega arith, fit_append (test_words s) (test_words t) (fit_test s k.0) (fit_test t k.1))
fit_test (any s t) k = (omega arith, fit_append (test_words s) (test_words t) (fit_test s k.0) (fit_test t k.1))
fit_test (opposite t) k = (omega arith, fit_test t k)

fit_program : (p : Program) → Known p → Fit (words p)
fit_program (guard t) k = (omega arith, fit_test t k)
fit_program (step n) k = (omega arith, (omega arith, tt))
fit_program (seq p q) k = (omega arith, fit_append (words p) (words q) (fit_program p k.0) (fit_program q k.1))
fit_program (choice p q) k = (omega arith, fit_append (words p) (words q) (fit_program p k.0) (fit_program q k.1))
fit_program (star p) k = (omega arith, fit_program p k)

pub words_fit : (s : List ℕ) (p q : Program) → TwoPrograms s p q → Fit s
words_fit s p q t = rw t.are (fit_append (words p) (words q) (fit_program p (t.first known)) (fit_program q (t.second known)))
