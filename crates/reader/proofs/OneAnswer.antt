-- Words have one answer only: before the word that is told two programs can still come, with it they can't.
use Rattle.std.proofs.Common.{◌≡◌, ℕ, ◌<◌, ◌⊎◌, List, [], ◌∷◌, ◌++◌, length, take, drop, Ok, Err, sym, refl, ap, ◌∙◌, inl, inr, append_assoc, append-nil, arith, length-drop, take-append-drop, length-take}
use native.Mathlib.Decide.{dec_lt}
use Rattle.kat.specs.Programs.{Program, steps}
use Rattle.kat.specs.Words.{words}
use Rattle.kat.proofs.UniqueReading.{unique_reading}
use Rattle.reader.specs.declared.pairs.Pair.{Pair}
use Rattle.reader.specs.declared.refusals.Reason.{Reason}
use Rattle.reader.specs.declared.refusals.Reason.TheVariants.{TooLong, Ended, NoCode, OutOfRange, TooDeep, TooManySteps, LeftOver}
use Rattle.reader.specs.declared.refusals.Refusal.{Refusal}
use Rattle.reader.specs.Limits.{PairKeeps}
use Rattle.reader.specs.Faults.{Begins, All}
use Rattle.reader.specs.Reading.{IsPair, pair_words, Told, Refused, OneAnswer}
use Rattle.reader.proofs.OneFault.{Stopped, at_word, at_end, weaker, stopped_there, one_stop, cut_later}
use Rattle.reader.proofs.PairFaults.{nothing_follows}

-- what is told at a word: both programs are complete before it, or they can come before it and can't with it
abbrev Complete : List ℕ → Reason → Type 0
Complete u why = (why ≡ LeftOver) × (pq : Program × Program) × (u ≡ pair_words pq) × All PairKeeps pq

abbrev StoppedAt : List ℕ → ℕ → Reason → Type 0
StoppedAt = Stopped pair_words PairKeeps

told_at : (u v : List ℕ) (w : ℕ) (why : Reason) → (why ≡ TooLong → ⊥) → Told u (w ∷ v) why → Complete u why ⊎ StoppedAt u w why
told_at u v w TooLong ne m = absurd (ne refl)
told_at u v w Ended ne m = inr (at_word pair_words PairKeeps u v w Ended m)
told_at u v w NoCode ne m = inr (at_word pair_words PairKeeps u v w NoCode m)
told_at u v w OutOfRange ne m = inr (at_word pair_words PairKeeps u v w OutOfRange m)
told_at u v w TooDeep ne m = inr (at_word pair_words PairKeeps u v w TooDeep m)
told_at u v w TooManySteps ne m = inr (at_word pair_words PairKeeps u v w TooManySteps m)
told_at u v w LeftOver ne m = inl (refl, m.1, m.2, m.3)

told_at_end : (u : List ℕ) (why : Reason) → (why ≡ TooLong → ⊥) → Told u [] why → (why ≡ Ended) × Begins pair_words (All PairKeeps) 1 u
told_at_end u TooLong ne m = absurd (ne refl)
told_at_end u Ended ne m = at_end pair_words PairKeeps u Ended m
told_at_end u NoCode ne m = at_end pair_words PairKeeps u NoCode m
told_at_end u OutOfRange ne m = at_end pair_words PairKeeps u OutOfRange m
told_at_end u TooDeep ne m = at_end pair_words PairKeeps u TooDeep m
told_at_end u TooManySteps ne m = at_end pair_words PairKeeps u TooManySteps m
told_at_end u LeftOver ne m = absurd (omega (arith, m.0))

not_complete : (u : List ℕ) (pq : Program × Program) → u ≡ pair_words pq → Begins pair_words (All PairKeeps) 1 u → ⊥
not_complete u pq e b =
    let z : b.1 ≡ [] = nothing_follows pq.0 pq.1 b.0.0 b.0.1 b.1 (cc (e, b.3)) in
    omega (arith, b.2, ap length z)

-- Up to where a reason is told, two programs in range can come,
reached : (u v : List ℕ) (why : Reason) → (why ≡ TooLong → ⊥) → Told u v why → Begins pair_words (All PairKeeps) 0 u
reached u [] why ne m = weaker pair_words PairKeeps u (told_at_end u why ne m).1
reached u (w ∷ v) why ne m = from (told_at u v w why ne m)
  where
    from : Complete u why ⊎ StoppedAt u w why → Begins pair_words (All PairKeeps) 0 u
    from (inl c) = (c.1, [], omega arith, append-nil u ∙ c.2, c.3)
    from (inr s) = weaker pair_words PairKeeps u s.0

-- and not a word further.
no_further : (u v x : List ℕ) (w : ℕ) (why : Reason) → (why ≡ TooLong → ⊥) → Told u (w ∷ v) why → Begins pair_words (All PairKeeps) 0 (u ++ w ∷ x) → ⊥
no_further u v x w why ne m b = from (told_at u v w why ne m)
  where
    from : Complete u why ⊎ StoppedAt u w why → ⊥
    from (inl c) =
        let z : w ∷ (x ++ b.1) ≡ [] = nothing_follows c.1.0 c.1.1 b.0.0 b.0.1 (w ∷ (x ++ b.1)) (cc (c.2, append_assoc u (w ∷ x) b.1, b.3)) in
        omega (arith, ap length z)
    from (inr s) = stopped_there pair_words PairKeeps u x w why s b

one_reason : (u v : List ℕ) (why why' : Reason) → (why ≡ TooLong → ⊥) → (why' ≡ TooLong → ⊥) → Told u v why → Told u v why' → why ≡ why'
one_reason u [] why why' ne ne' m n = (told_at_end u why ne m).0 ∙ sym (told_at_end u why' ne' n).0
one_reason u (w ∷ v) why why' ne ne' m n = from (told_at u v w why ne m) (told_at u v w why' ne' n)
  where
    from : Complete u why ⊎ StoppedAt u w why → Complete u why' ⊎ StoppedAt u w why' → why ≡ why'
    from (inl c) (inl d) = c.0 ∙ sym d.0
    from (inl c) (inr t) = absurd (not_complete u c.1 c.2 t.0)
    from (inr s) (inl d) = absurd (not_complete u d.1 d.2 s.0)
    from (inr s) (inr t) = one_stop pair_words PairKeeps u w why why' s t

not_before : (s : List ℕ) (r r' : Refusal) → (r.reason ≡ TooLong → ⊥) → (r'.reason ≡ TooLong → ⊥) → Refused s r → Refused s r' → r.at < r'.at → ⊥
not_before s r r' ne ne' h k l =
    let u = take r.at s in
    let u' = take r'.at s in
    let c = cut_later u u' (drop r.at s) (drop r'.at s) (take-append-drop r.at s ∙ sym (take-append-drop r'.at s)) (simp length-take (omega (arith, h.within, k.within))) in
    no_further u (c.1 ++ drop r'.at s) c.1 c.0 r.reason ne (rw c.3 at h.told) (rw c.2 at (reached u' (drop r'.at s) r'.reason ne' k.told))

-- Too many words are told at one place, and then no other reason is.
long_place : (s : List ℕ) (r : Refusal) → r.reason ≡ TooLong → Refused s r → (r.at ≡ 4096) × (4096 < length s)
long_place s r e h =
    let t : Told (take r.at s) (drop r.at s) TooLong = rw e at h.told in
    let a : length (take r.at s) ≡ 4096 = t.0 in
    let b : 0 < length (drop r.at s) = t.1 in
    let x = simp length-take at a in
    let y = simp length-drop at b in
    (omega (arith, h.within), omega (arith, h.within))

is_long : (why : Reason) → Dec (why ≡ TooLong)
is_long TooLong = yes refl
is_long Ended = no (λ e. let z : ◌≡◌ {A = ℕ} 0 1 = cc in omega arith)
is_long NoCode = no (λ e. let z : ◌≡◌ {A = ℕ} 0 1 = cc in omega arith)
is_long OutOfRange = no (λ e. let z : ◌≡◌ {A = ℕ} 0 1 = cc in omega arith)
is_long TooDeep = no (λ e. let z : ◌≡◌ {A = ℕ} 0 1 = cc in omega arith)
is_long TooManySteps = no (λ e. let z : ◌≡◌ {A = ℕ} 0 1 = cc in omega arith)
is_long LeftOver = no (λ e. let z : ◌≡◌ {A = ℕ} 0 1 = cc in omega arith)

same : (r r' : Refusal) → r.reason ≡ r'.reason → r.at ≡ r'.at → r ≡ r'
same r r' e a = λ j. record { reason = e j; at = a j }

one_refusal : (s : List ℕ) (r r' : Refusal) → Refused s r → Refused s r' → r ≡ r'
one_refusal s r r' h k = from (is_long r.reason) (is_long r'.reason)
  where
    from : Dec (r.reason ≡ TooLong) → Dec (r'.reason ≡ TooLong) → r ≡ r'
    from (yes e) (yes e') = same r r' (e ∙ sym e') ((long_place s r e h).0 ∙ sym (long_place s r' e' k).0)
    from (yes e) (no ne') = absurd (omega (arith, (long_place s r e h).1, k.short ne'))
    from (no ne) (yes e') = absurd (omega (arith, (long_place s r' e' k).1, h.short ne))
    from (no ne) (no ne') = placed (dec_lt r.at r'.at) (dec_lt r'.at r.at)
      where
        placed : Dec (r.at < r'.at) → Dec (r'.at < r.at) → r ≡ r'
        placed (yes l) x = absurd (not_before s r r' ne ne' h k l)
        placed (no n) (yes l) = absurd (not_before s r' r ne' ne k h l)
        placed (no n) (no m) =
            let e : r'.at ≡ r.at = omega arith in
            same r r' (one_reason (take r.at s) (drop r.at s) r.reason r'.reason ne ne' h.told (rw e at k.told)) (sym e)

one_pair : (s : List ℕ) (r r' : Pair) → IsPair s r → IsPair s r' → r ≡ r'
one_pair s r r' h k =
    let u = unique_reading h.0 h.1 k.0 k.1 (sym h.2.are ∙ k.2.are) in
    let a : r.second ≡ r'.second = h.3 ∙ ap (λ p. length (words p)) u.0 ∙ sym k.3 in
    let b : r.first_steps ≡ r'.first_steps = h.4 ∙ ap steps u.0 ∙ sym k.4 in
    let c : r.second_steps ≡ r'.second_steps = h.5 ∙ ap steps u.1 ∙ sym k.5 in
    λ j. record { second = a j; first_steps = b j; second_steps = c j }

pub one_answer : OneAnswer
one_answer s (Ok a) (Ok b) h k = ap Ok (one_pair s a b h k)
one_answer s (Ok a) (Err b) h k = absurd (k.none h.0 h.1 h.2)
one_answer s (Err a) (Ok b) h k = absurd (h.none k.0 k.1 k.2)
one_answer s (Err a) (Err b) h k = ap Err (one_refusal s a b h k)
