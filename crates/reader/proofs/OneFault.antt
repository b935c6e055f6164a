-- A term's words have one fault only: before the word where it is met a term can still come, with it none can.
use Rattle.std.proofs.Common.{◌≡◌, ℕ, ◌<◌, List, [], ◌∷◌, ◌++◌, length, sym, refl, ap, ◌∙◌, append_assoc, append-nil, arith}
use mathlib.Core.Option.{Option, some, none}
use native.Mathlib.Decide.{dec_lt}
use Rattle.kat.specs.Programs.{Limit, known, shallow, few}
use Rattle.reader.specs.declared.refusals.Reason.{Reason}
use Rattle.reader.specs.declared.refusals.Reason.TheVariants.{TooLong, Ended, NoCode, OutOfRange, TooDeep, TooManySteps, LeftOver}
use Rattle.reader.specs.declared.refusals.Fault.{Fault}
use Rattle.reader.specs.Faults.{Begins, Stops, All, AllBut, Met}
use Rattle.reader.specs.Parts.{FaultIn}

-- the reason where a limit is broken, or none can be told
abbrev pub reason_of : Option Limit → Reason
reason_of none = NoCode
reason_of (some known) = OutOfRange
reason_of (some shallow) = TooDeep
reason_of (some few) = TooManySteps

limits_equal : (l m : Limit) → Dec (l ≡ m)
limits_equal known known = yes refl
limits_equal known shallow = no (λ e. let z : ◌≡◌ {A = ℕ} 0 1 = cc in omega arith)
limits_equal known few = no (λ e. let z : ◌≡◌ {A = ℕ} 0 1 = cc in omega arith)
limits_equal shallow known = no (λ e. let z : ◌≡◌ {A = ℕ} 0 1 = cc in omega arith)
limits_equal shallow shallow = yes refl
limits_equal shallow few = no (λ e. let z : ◌≡◌ {A = ℕ} 0 1 = cc in omega arith)
limits_equal few known = no (λ e. let z : ◌≡◌ {A = ℕ} 0 1 = cc in omega arith)
limits_equal few shallow = no (λ e. let z : ◌≡◌ {A = ℕ} 0 1 = cc in omega arith)
limits_equal few few = yes refl

-- Of two ways to cut the same words, the later one cuts behind a word more;
pub cut_later : (u u' v v' : List ℕ) → u ++ v ≡ u' ++ v' → length u < length u' → (w : ℕ) × (x : List ℕ) × (u' ≡ u ++ w ∷ x) × (v ≡ w ∷ (x ++ v'))
cut_later [] [] v v' e l = absurd (omega arith)
cut_later [] (w ∷ x) v v' e l = (w, x, refl, e)
cut_later (a ∷ u) [] v v' e l = absurd (omega arith)
cut_later (a ∷ u) (b ∷ u') v v' e l = let c = cut_later u u' v v' (cc) (omega arith) in (c.0, c.1, cc c.2, c.3)

-- two at the same place are the same.
cut_same : (u u' v v' : List ℕ) → u ++ v ≡ u' ++ v' → length u ≡ length u' → (u ≡ u') × (v ≡ v')
cut_same [] [] v v' e l = (refl, e)
cut_same [] (w ∷ x) v v' e l = absurd (omega arith)
cut_same (a ∷ u) [] v v' e l = absurd (omega arith)
cut_same (a ∷ u) (b ∷ u') v v' e l = let c = cut_same u u' v v' (cc) (omega arith) in (cc c.0, c.1)

module _ {A : Type 0} (code : A → List ℕ) (K : Limit → A → Type 0) where
  -- what no term that goes on with the word meets, and what some such term does
  abbrev Asked : Option Limit → A → Type 0
  Asked none a = Unit {0}
  Asked (some l) a = K l a

  abbrev Witness : Option Limit → List ℕ → Type 0
  Witness none u = Unit {0}
  Witness (some l) u = Begins code (AllBut K l) 0 u

  -- a term can come before the word, and can't with it
  abbrev pub Stopped : List ℕ → ℕ → Reason → Type 0
  Stopped u w why = Begins code (All K) 1 u × (x : Option Limit) × (why ≡ reason_of x) × Stops code (Asked x) (u ++ w ∷ []) × Witness x (u ++ w ∷ [])

  pub at_word : (u v : List ℕ) (w : ℕ) (why : Reason) → Met code K u (w ∷ v) why → Stopped u w why
  at_word u v w TooLong m = absurd m
  at_word u v w Ended m = absurd (omega (arith, ap length m.0))
  at_word u v w NoCode m = (m.0, none, refl, m.1, tt)
  at_word u v w OutOfRange m = (m.0, some known, refl, m.2, m.1)
  at_word u v w TooDeep m = (m.0, some shallow, refl, m.2, m.1)
  at_word u v w TooManySteps m = (m.0, some few, refl, m.2, m.1)
  at_word u v w LeftOver m = absurd m

  pub at_end : (u : List ℕ) (why : Reason) → Met code K u [] why → (why ≡ Ended) × Begins code (All K) 1 u
  at_end u TooLong m = absurd m
  at_end u Ended m = (refl, m.1)
  at_end u NoCode m = absurd m
  at_end u OutOfRange m = absurd m
  at_end u TooDeep m = absurd m
  at_end u TooManySteps m = absurd m
  at_end u LeftOver m = absurd m

  -- What begins a term that meets Q does not stop at it.
  not_both : (P Q : A → Type 0) (u : List ℕ) → ((a : A) → P a → Q a) → Begins code P 0 u → Stops code Q u → ⊥
  not_both P Q u f b s = s b.0 b.1 [] (b.3 ∙ sym (append-nil (code b.0))) (f b.0 b.4)

  pub weaker : (u : List ℕ) → Begins code (All K) 1 u → Begins code (All K) 0 u
  weaker u b = (b.0, b.1, omega arith, b.3, b.4)

  all_asked : (x : Option Limit) (a : A) → All K a → Asked x a
  all_asked none a h = tt
  all_asked (some l) a h = h l

  -- A term cannot come a word further.
  pub stopped_there : (u x : List ℕ) (w : ℕ) (why : Reason) → Stopped u w why → Begins code (All K) 0 (u ++ w ∷ x) → ⊥
  stopped_there u x w why s b = s.3 b.0 (x ++ b.1) [] (cc (append_assoc u (w ∷ []) (x ++ b.1), append_assoc u (w ∷ x) b.1, b.3, append-nil (code b.0))) (all_asked s.1 b.0 b.4)

  -- At one word one limit is broken, or none can be told.
  one_limit : (u : List ℕ) (x y : Option Limit) → Stops code (Asked x) u → Witness x u → Stops code (Asked y) u → Witness y u → x ≡ y
  one_limit u none none s w t v = refl
  one_limit u none (some m) s w t v = absurd (not_both (AllBut K m) (Asked none) u (λ a h. tt) v s)
  one_limit u (some l) none s w t v = absurd (not_both (AllBut K l) (Asked none) u (λ a h. tt) w t)
  one_limit u (some l) (some m) s w t v = from (limits_equal m l)
    where
      from : Dec (m ≡ l) → some l ≡ some m
      from (yes e) = ap some (sym e)
      from (no ne) = absurd (not_both (AllBut K l) (K m) u (λ a h. h m ne) w t)

  pub one_stop : (u : List ℕ) (w : ℕ) (why why' : Reason) → Stopped u w why → Stopped u w why' → why ≡ why'
  one_stop u w why why' s t = s.2 ∙ ap reason_of (one_limit (u ++ w ∷ []) s.1 t.1 s.3 s.4 t.3 t.4) ∙ sym t.2

  one_reason : (u v : List ℕ) (why why' : Reason) → Met code K u v why → Met code K u v why' → why ≡ why'
  one_reason u [] why why' m n = (at_end u why m).0 ∙ sym (at_end u why' n).0
  one_reason u (w ∷ v) why why' m n = one_stop u w why why' (at_word u v w why m) (at_word u v w why' n)

  reached : (u v : List ℕ) (why : Reason) → Met code K u v why → Begins code (All K) 0 u
  reached u [] why m = weaker u (at_end u why m).1
  reached u (w ∷ v) why m = weaker u (at_word u v w why m).0

  not_later : (ws : List ℕ) (f f' : Fault) (h : FaultIn code K ws f) (k : FaultIn code K ws f') → length h.0 < length k.0 → ⊥
  not_later ws f f' h k l =
      let c = cut_later h.0 k.0 h.1 k.1 (sym h.2 ∙ k.2) l in
      stopped_there h.0 c.1 c.0 f.reason (at_word h.0 (c.1 ++ k.1) c.0 f.reason (rw c.3 at h.4)) (rw c.2 at (reached k.0 k.1 f'.reason k.4))

  pub one_fault : (ws : List ℕ) (f f' : Fault) → FaultIn code K ws f → FaultIn code K ws f' → f ≡ f'
  one_fault ws f f' h k = placed (dec_lt (length h.0) (length k.0)) (dec_lt (length k.0) (length h.0))
    where
      same : f.reason ≡ f'.reason → f.left ≡ f'.left → f ≡ f'
      same e a = λ j. record { reason = e j; left = a j }

      placed : Dec (length h.0 < length k.0) → Dec (length k.0 < length h.0) → f ≡ f'
      placed (yes l) x = absurd (not_later ws f f' h k l)
      placed (no n) (yes l) = absurd (not_later ws f' f k h l)
      placed (no n) (no m) =
          let e : length h.0 ≡ length k.0 = omega arith in
          let c = cut_same h.0 k.0 h.1 k.1 (sym h.2 ∙ k.2) e in
          same (one_reason k.0 k.1 f.reason f'.reason (rw (c.0, c.1) at h.4) k.4) (h.3 ∙ ap length c.1 ∙ sym k.3)
