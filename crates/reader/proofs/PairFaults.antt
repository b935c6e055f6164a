-- Two programs, one after the other: the frames of the first and of the second, and what is true of words that are refused.
use Rattle.std.proofs.Common.{◌≡◌, ℕ, ◌-◌, ◌<◌, ◌≤◌, List, [], ◌++◌, length, sym, refl, ap, ◌∙◌, append_assoc, append-nil, arith, length-append, length-drop, length-take, Ok, Err, Result, MatchResult}
use lib.Seq.{take-append_seam, drop-append_seam}
use Rattle.std.specs.Result.{IsErrAnd}
use Rattle.std.proofs.lemmas.Result.{err_from_is_err_and}
use Rattle.kat.specs.Programs.{Program, steps, always, guard, Limit, known, shallow, few, Keeps}
use Rattle.kat.specs.Words.{words, TwoPrograms}
use Rattle.kat.proofs.UniqueReading.{one_program}
use Rattle.reader.specs.declared.refusals.Reason.{Reason}
use Rattle.reader.specs.declared.refusals.Reason.TheVariants.{TooLong, Ended, NoCode, OutOfRange, TooDeep, TooManySteps, LeftOver}
use Rattle.reader.specs.declared.refusals.Fault.{Fault}
use Rattle.reader.specs.declared.refusals.Refusal.{Refusal}
use Rattle.reader.specs.declared.pairs.Pair.{Pair}
use Rattle.reader.specs.Limits.{PairKeeps}
use Rattle.reader.specs.Faults.{All, Met}
use Rattle.reader.specs.Reading.{IsPair, pair_words, Told, Refused}
use Rattle.reader.specs.Parts.{ProgramAs, ProgramFault, PairFault}
use Rattle.reader.proofs.Frames.{Frame, fault_in}
use Rattle.reader.proofs.Excluded.{met_excludes}

first_of_pair : Frame words pair_words (Keeps 64 12) PairKeeps []
first_of_pair = record {
  wrap = λ p. (p, guard always);
  post = words (guard always);
  wraps = λ p. refl;
  up = λ l p x. (x, guard_fits l);
  down = λ b rest more e. (b.0, words b.1 ++ more, e ∙ append_assoc (words b.0) (words b.1) more, λ l x. x.0);
}
  where
    guard_fits : (l : Limit) → Keeps 64 12 l (guard always)
    guard_fits known = tt
    guard_fits shallow = omega arith
    guard_fits few = omega arith

second_of_pair : (p : Program) → All (Keeps 64 12) p → Frame words pair_words (Keeps 64 12) PairKeeps (words p)
second_of_pair p h = record {
  wrap = λ q. (p, q);
  post = [];
  wraps = λ q. ap (λ r. words p ++ r) (sym (append-nil (words q)));
  up = λ l q x. (h l, x);
  down = λ b rest more e.
      let o = one_program p b.0 rest (words b.1 ++ more) (e ∙ append_assoc (words b.0) (words b.1) more) in
      (b.1, more, o.1, λ l x. x.1);
}

-- The words begin with a program in range of so many steps.
abbrev Read : List ℕ → List ℕ → ℕ → Type 0
Read ws rest n = ProgramAs (λ p. n ≡ steps p) 64 12 ws rest

-- What is met inside a pair is told of it.
told : (u v : List ℕ) (why : Reason) → Met pair_words PairKeeps u v why → Told u v why
told u v TooLong m = absurd m
told u v Ended m = m
told u v NoCode m = m
told u v OutOfRange m = m
told u v TooDeep m = m
told u v TooManySteps m = m
told u v LeftOver m = absurd m

-- What is met in the first program, or in the second, is met in the pair;
pub first_fails : (s : List ℕ) (f : Fault) → ProgramFault 64 12 s f → PairFault s f
first_fails s f x = let m = fault_in first_of_pair s s f refl x in (m.0, m.1, m.2, m.3, told m.0 m.1 f.reason m.4)

pub second_fails : (s second : List ℕ) (n : ℕ) (f : Fault) → Read s second n → ProgramFault 64 12 second f → PairFault s f
second_fails s second n f r x =
    let m = fault_in (second_of_pair r.0 r.2) s second f r.1 x in
    (m.0, m.1, m.2, m.3, told m.0 m.1 f.reason m.4)

-- and words behind both are left over.
pub left_over : (s second rest : List ℕ) (n n' : ℕ) → Read s second n → Read second rest n' → 0 < length rest → PairFault s (record { reason = LeftOver; left = length rest })
left_over s second rest n n' r q h =
    (words r.0 ++ words q.0, rest, cc (r.1, q.1, append_assoc (words r.0) (words q.0) rest), refl, (h, (r.0, q.0), refl, λ l. (r.2 l, q.2 l)))

-- Words that two programs begin are not themselves two programs, unless nothing follows.
pub nothing_follows : (p q p' q' : Program) (r : List ℕ) → (words p ++ words q) ++ r ≡ words p' ++ words q' → r ≡ []
nothing_follows p q p' q' r e =
    let f = one_program p p' (words q ++ r) (words q') (sym (append_assoc (words p) (words q) r) ∙ e) in
    (one_program q q' r [] (f.1 ∙ sym (append-nil (words q')))).1

-- Where something is met, the words are not two programs in range.
pair_excludes : (s u v : List ℕ) (why : Reason) → s ≡ u ++ v → Met pair_words PairKeeps u v why → (p q : Program) → TwoPrograms s p q → ⊥
pair_excludes s u v why e m p q t =
    met_excludes pair_words PairKeeps (λ a b r x. nothing_follows a.0 a.1 b.0 b.1 r x) (p, q) [] (λ l. (t.first l, t.second l)) u v why (sym e ∙ t.are ∙ sym (append-nil (words p ++ words q))) m

not_two : (s u v : List ℕ) (why : Reason) → s ≡ u ++ v → length s ≤ 4096 → Told u v why → (p q : Program) → TwoPrograms s p q → ⊥
not_two s u v TooLong e n m p q t = omega (arith, simp length-append at (ap length e))
not_two s u v Ended e n m p q t = pair_excludes s u v Ended e m p q t
not_two s u v NoCode e n m p q t = pair_excludes s u v NoCode e m p q t
not_two s u v OutOfRange e n m p q t = pair_excludes s u v OutOfRange e m p q t
not_two s u v TooDeep e n m p q t = pair_excludes s u v TooDeep e m p q t
not_two s u v TooManySteps e n m p q t = pair_excludes s u v TooManySteps e m p q t
not_two s u v LeftOver e n m p q t =
    let z : v ≡ [] = nothing_follows m.1.0 m.1.1 p q v (cc (e, m.2, t.are)) in
    omega (arith, m.0, ap length z)

pub refused : (s : List ℕ) (f : Fault) → length s ≤ 4096 → PairFault s f → Refused s (record { reason = f.reason; at = length s - f.left })
refused s f n m =
    let e : length s - f.left ≡ length m.0 = omega (arith, simp length-append at (ap length m.2), m.3) in
    record {
      none = not_two s m.0 m.1 f.reason m.2 n m.4;
      within = omega arith;
      short = λ _. n;
      told = rw (e, m.2, take-append_seam, drop-append_seam) m.4;
    }

-- What is told of words that are not too long is the fault met in them, at its index.
pub read_or_refused : (s : List ℕ) (r : Result Pair Fault) (r' : Result Pair Refusal) (P : Fault → Refusal → Type 0) → ((f : Fault) (q : Refusal) → P f q → q ≡ record { reason = f.reason; at = length s - f.left }) → length s ≤ 4096 → MatchResult r (IsPair s) (PairFault s) → MatchResult r (λ x. r' ≡ Ok x) (λ f. IsErrAnd r' (P f)) → MatchResult r' (IsPair s) (Refused s)
read_or_refused s (Ok x) r' P at n h e = rw e h
read_or_refused s (Err f) r' P at n h e = let p = err_from_is_err_and r' e in rw (p.1, at f p.0 p.2) (refused s f n h)

pub too_long : (s : List ℕ) → 4096 < length s → Refused s (record { reason = TooLong; at = 4096 })
too_long s h = record {
  none = λ p q t. omega (arith, t.short);
  within = omega arith;
  short = λ ne. absurd (ne refl);
  told = (simp length-take (omega arith), simp length-drop (omega arith));
}
