-- Words are at most two programs: no program's words begin another's, so that what follows a program is read in one way.
use Rattle.std.proofs.Common.{◌≡◌, ℕ, List, [], ◌++◌, sym, ◌∙◌, append_assoc, append-nil}
use Rattle.kat.specs.Programs.{Test, always, never, test, both, any, opposite, Program, guard, step, seq, choice, star}
use Rattle.kat.specs.Words.{test_words, words}
use Rattle.kat.specs.Theory.{UniqueReading}

-- Each pair of different constructors has different first words.
pub one_test : (t u : Test) (x y : List ℕ) → test_words t ++ x ≡ test_words u ++ y → (t ≡ u) × (x ≡ y)
one_test always always x y e = (cc, cc)
one_test always never x y e = (cc, cc)
one_test always (test c) x y e = (cc, cc)
one_test always (both c d) x y e = (cc, cc)
one_test always (any c d) x y e = (cc, cc)
one_test always (opposite c) x y e = (cc, cc)
one_test never always x y e = (cc, cc)
one_test never never x y e = (cc, cc)
one_test never (test c) x y e = (cc, cc)
one_test never (both c d) x y e = (cc, cc)
one_test never (any c d) x y e = (cc, cc)
one_test never (opposite c) x y e = (cc, cc)
one_test (test a) always x y e = (cc, cc)
one_test (test a) never x y e = (cc, cc)
one_test (test a) (test c) x y e = (cc, cc)
one_test (test a) (both c d) x y e = (cc, cc)
one_test (test a) (any c d) x y e = (cc, cc)
one_test (test a) (opposite c) x y e = (cc, cc)
one_test (both a b) always x y e = (cc, cc)
one_test (both a b) never x y e = (cc, cc)
one_test (both a b) (test c) x y e = (cc, cc)
one_test (both a b) (both c d) x y e =
    let f = one_test a c (test_words b ++ x) (test_words d ++ y) (cc (append_assoc (test_words a) (test_words b) x, append_assoc (test_words c) (test_words d) y)) in
    let g = one_test b d x y f.1 in
    (cc, g.1)
one_test (both a b) (any c d) x y e = (cc, cc)
one_test (both a b) (opposite c) x y e = (cc, cc)
one_test (any a b) always x y e = (cc, cc)
one_test (any a b) never x y e = (cc, cc)
one_test (any a b) (test c) x y e = (cc, cc)
one_test (any a b) (both c d) x y e = (cc, cc)
one_test (any a b) (any c d) x y e =
    let f = one_test a c (test_words b ++ x) (test_words d ++ y) (cc (append_assoc (test_words a) (test_words b) x, append_assoc (test_words c) (test_words d) y)) in
    let g = one_test b d x y f.1 in
    (cc, g.1)
one_test (any a b) (opposite c) x y e = (cc, cc)
one_test (opposite a) always x y e = (cc, cc)
one_test (opposite a) never x y e = (cc, cc)
one_test (opposite a) (test c) x y e = (cc, cc)
one_test (opposite a) (both c d) x y e = (cc, cc)
one_test (opposite a) (any c d) x y e = (cc, cc)
one_test (opposite a) (opposite c) x y e = let f = one_test a c x y (cc) in (cc, cc)

pub one_program : (p q : Program) (x y : List ℕ) → words p ++ x ≡ words q ++ y → (p ≡ q) × (x ≡ y)
one_program (guard a) (guard c) x y e = let f = one_test a c x y (cc) in (cc, cc)
one_program (guard a) (step c) x y e = (cc, cc)
one_program (guard a) (seq c d) x y e = (cc, cc)
one_program (guard a) (choice c d) x y e = (cc, cc)
one_program (guard a) (star c) x y e = (cc, cc)
one_program (step a) (guard c) x y e = (cc, cc)
one_program (step a) (step c) x y e = (cc, cc)
one_program (step a) (seq c d) x y e = (cc, cc)
one_program (step a) (choice c d) x y e = (cc, cc)
one_program (step a) (star c) x y e = (cc, cc)
one_program (seq a b) (guard c) x y e = (cc, cc)
one_program (seq a b) (step c) x y e = (cc, cc)
one_program (seq a b) (seq c d) x y e =
    let f = one_program a c (words b ++ x) (words d ++ y) (cc (append_assoc (words a) (words b) x, append_assoc (words c) (words d) y)) in
    let g = one_program b d x y f.1 in
    (cc, g.1)
one_program (seq a b) (choice c d) x y e = (cc, cc)
one_program (seq a b) (star c) x y e = (cc, cc)
one_program (choice a b) (guard c) x y e = (cc, cc)
one_program (choice a b) (step c) x y e = (cc, cc)
one_program (choice a b) (seq c d) x y e = (cc, cc)
one_program (choice a b) (choice c d) x y e =
    let f = one_program a c (words b ++ x) (words d ++ y) (cc (append_assoc (words a) (words b) x, append_assoc (words c) (words d) y)) in
    let g = one_program b d x y f.1 in
    (cc, g.1)
one_program (choice a b) (star c) x y e = (cc, cc)
one_program (star a) (guard c) x y e = (cc, cc)
one_program (star a) (step c) x y e = (cc, cc)
one_program (star a) (seq c d) x y e = (cc, cc)
one_program (star a) (choice c d) x y e = (cc, cc)
one_program (star a) (star c) x y e = let f = one_program a c x y (cc) in (cc, cc)

pub unique_reading : UniqueReading
unique_reading p q p' q' e =
    let f = one_program p p' (words q) (words q') e in
    let g = one_program q q' [] [] (append-nil (words q) ∙ f.1 ∙ sym (append-nil (words q'))) in
    (f.0, g.0)
