-- The answer to a line is the answer to what its bytes spell.
use Rattle.std.proofs.Common.{◌≡◌, ℕ, ◌↔◌, List, [], length, Ok, Err, refl, ap, arith}
use Rattle.kat.specs.Programs.{Program, guard, step, seq, choice, star}
use Rattle.kat.specs.Words as kat
use Rattle.lines.specs.Spelling.{Spells}
use Rattle.lines.specs.Scanning.{IsLine}
use Rattle.compare.specs.Answering.{Answer, AnswerTo, Answered}
use Rattle.compare.proofs.WordsFit.{words_fit}

-- A program has words.
pub no_words : (s : List ℕ) → s ≡ [] → (p q : Program) → kat.TwoPrograms s p q → ⊥
no_words s e (guard t) q h = omega (arith, ap length e, ap length h.are)
no_words s e (step n) q h = omega (arith, ap length e, ap length h.are)
no_words s e (seq a b) q h = omega (arith, ap length e, ap length h.are)
no_words s e (choice a b) q h = omega (arith, ap length e, ap length h.are)
no_words s e (star a) q h = omega (arith, ap length e, ap length h.are)

-- Bytes that spell two programs are a line of numbers.
a_line : (bs s : List ℕ) (p q : Program) → Spells bs s → kat.TwoPrograms s p q → IsLine 4096 bs s
a_line bs s p q h t = (h, words_fit s p q t, t.short)

pub no_line_answer : (bs : List ℕ) → ((s : List ℕ) → IsLine 4096 bs s → ⊥) → (s : List ℕ) (p q : Program) → Spells bs s → kat.TwoPrograms s p q → ⊥
no_line_answer bs h s p q sp t = h s (a_line bs s p q sp t)

pub line_answer : (bs xs : List ℕ) (r : Answer) → ((s : List ℕ) → IsLine 4096 bs s ↔ (s ≡ xs)) → Answered xs r → AnswerTo bs r
line_answer bs xs (Ok x) h a = (xs, a.0, a.1, ((h xs).1 refl).0, a.2)
line_answer bs xs (Err why) h a = λ s p q sp t. a.0 p q (rw ((h s).0 (a_line bs s p q sp t)) at t)
