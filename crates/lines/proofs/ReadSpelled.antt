-- What is read is what the bytes spell.
use Rattle.std.proofs.Common.{◌≡◌, ℕ, ◌+◌, ◌-◌, ◌*◌, ◌^◌, ◌<◌, ◌≤◌, Bool, true, false, List, [], ◌∷◌, ◌++◌, length, sym, refl, ap, ◌∙◌, append_assoc, append-nil, arith, length-append}
use native.Mathlib.Decide.{dec_lt}
use Rattle.std.proofs.lemmas.Bool.Decides.{nat_tests}
use Rattle.lines.specs.declared.Fault.{Fault}
use Rattle.lines.specs.declared.Fault.TheVariants.{NotNumber, TooLarge, TooMany}
use Rattle.lines.specs.declared.State.{State}
use Rattle.lines.specs.declared.State.TheVariants.{Gap, Number, Stopped}
use Rattle.lines.specs.Spelling.{blank, digit, Digits, value, Parted, Spells, nothing, a_blank, a_number}
use Rattle.lines.specs.Scanning.{Scan, after, scanned, started, Fit}
use Rattle.lines.proofs.Scans.{gap_blank, gap_digit, gap_other, number_blank, number_full, number_digit, number_large, number_other}

-- what the bytes bs spell behind the numbers `pre`, if all that is read then is ns
abbrev Spelled : ℕ → List ℕ → List ℕ → List ℕ → Type 0
Spelled most pre bs ns = (ms : List ℕ) × Spells bs ms × Fit ms × (ns ≡ pre ++ ms) × (length ns ≤ most)

-- the same where reading stands in a number, or has stopped
abbrev SpelledFrom : ℕ → List ℕ → State → List ℕ → List ℕ → Type 0
SpelledFrom most pre Gap bs ns = length pre ≤ most → Spelled most pre bs ns
SpelledFrom most pre (Number n) bs ns = n < 2 ^ 32 → (ds bs' : List ℕ) × (bs ≡ ds ++ bs') × Digits ds × Parted bs' × (value n ds < 2 ^ 32) × Spelled most (pre ++ value n ds ∷ []) bs' ns
SpelledFrom most pre (Stopped f) bs ns = ⊥

digit_small : (b : ℕ) → digit b ≡ true → b - 48 < 2 ^ 32
digit_small b h = grind (arith, nat_tests)

module _ (most : ℕ) (ns : List ℕ) where
  -- all that is read of the bytes is ns
  abbrev Reads : List ℕ → State → List ℕ → Type 0
  Reads pre s bs = scanned most (record { numbers = pre; state = s }) (bs ++ 10 ∷ []) ≡ record { numbers = ns; state = Gap }

  -- the same after one more byte, and what is then known of the rest
  abbrev ReadsAfter : ℕ → List ℕ → List ℕ → State → Type 0
  ReadsAfter b bs pre s = scanned most (after most (record { numbers = pre; state = s }) b) (bs ++ 10 ∷ []) ≡ record { numbers = ns; state = Gap }

  abbrev Then : List ℕ → Type 0
  Then bs = (x : List ℕ) (t : State) → Reads x t bs → SpelledFrom most x t bs ns

  then_reads : (rest : List ℕ) {x y z : Scan} → scanned most x rest ≡ z → x ≡ y → scanned most y rest ≡ z
  then_reads rest e a = sym (ap (λ s. scanned most s rest) a) ∙ e

  stays_stopped : (pre bs : List ℕ) (f : Fault) → scanned most (record { numbers = pre; state = Stopped f }) bs ≡ record { numbers = pre; state = Stopped f }
  stays_stopped pre [] f = refl
  stays_stopped pre (b ∷ bs) f = stays_stopped pre bs f

  never_stopped : (pre bs : List ℕ) (f : Fault) → Reads pre (Stopped f) bs → ⊥
  never_stopped pre bs f e =
      let s : Stopped f ≡ Gap = ap (λ s. s.state) (sym (stays_stopped pre (bs ++ 10 ∷ []) f) ∙ e) in
      let z : ◌≡◌ {A = ℕ} 0 1 = cc in
      omega arith

  -- Behind a gap, a digit begins a number.
  begins : (b : ℕ) (bs pre : List ℕ) → digit b ≡ true → SpelledFrom most pre (Number (b - 48)) bs ns → Spelled most pre (b ∷ bs) ns
  begins b bs pre h f =
      let r = f (digit_small b h) in
      let v = value (b - 48) r.0 in (
        v ∷ r.6.0,
        rw r.2 (a_number r.0 r.1 h r.3 r.4 r.6.1),
        (r.5, r.6.2),
        r.6.3 ∙ append_assoc pre (v ∷ []) r.6.0,
        r.6.4,
      )

  -- A number that has ended was kept, if there was room.
  ends : (b : ℕ) (bs pre : List ℕ) (n : ℕ) → blank b ≡ true → Dec (length pre < most) → Then bs → ReadsAfter b bs pre (Number n) → SpelledFrom most pre (Number n) (b ∷ bs) ns
  ends b bs pre n h (yes l) ih e = λ fits.
      let r = ih (pre ++ n ∷ []) Gap (then_reads (bs ++ 10 ∷ []) e (number_blank most pre b n h l)) (simp length-append (omega arith)) in
      ([], b ∷ bs, refl, tt, h, fits, (r.0, a_blank h r.1, r.2, r.3, r.4))
  ends b bs pre n h (no f) ih e = absurd (never_stopped pre bs TooMany (then_reads (bs ++ 10 ∷ []) e (number_full most pre b n h (omega arith))))

  -- A number that goes on fits.
  grows : (b : ℕ) (bs pre : List ℕ) (n : ℕ) → digit b ≡ true → Dec (10 * n + (b - 48) < 2 ^ 32) → Then bs → ReadsAfter b bs pre (Number n) → SpelledFrom most pre (Number n) (b ∷ bs) ns
  grows b bs pre n h (yes l) ih e = λ _.
      let r = ih pre (Number (10 * n + (b - 48))) (then_reads (bs ++ 10 ∷ []) e (number_digit most pre b n h l)) l in
      (b ∷ r.0, r.1, ap (λ x. b ∷ x) r.2, (h, r.3), r.4, r.5, r.6)
  grows b bs pre n h (no f) ih e = absurd (never_stopped pre bs TooLarge (then_reads (bs ++ 10 ∷ []) e (number_large most pre b n h (omega arith))))

  one_byte : (b : ℕ) (bs pre : List ℕ) (s : State) (blank? digit? : Bool) → blank b ≡ blank? → digit b ≡ digit? → Then bs → ReadsAfter b bs pre s → SpelledFrom most pre s (b ∷ bs) ns
  one_byte b bs pre Gap true digit? h k ih e = λ l. let r = ih pre Gap (then_reads (bs ++ 10 ∷ []) e (gap_blank most pre b h)) l in (r.0, a_blank h r.1, r.2, r.3, r.4)
  one_byte b bs pre Gap false true h k ih e = λ l. begins b bs pre k (ih pre (Number (b - 48)) (then_reads (bs ++ 10 ∷ []) e (gap_digit most pre b k)))
  one_byte b bs pre Gap false false h k ih e = absurd (never_stopped pre bs NotNumber (then_reads (bs ++ 10 ∷ []) e (gap_other most pre b h k)))
  one_byte b bs pre (Number n) true digit? h k ih e = ends b bs pre n h (dec_lt (length pre) most) ih e
  one_byte b bs pre (Number n) false true h k ih e = grows b bs pre n k (dec_lt (10 * n + (b - 48)) (2 ^ 32)) ih e
  one_byte b bs pre (Number n) false false h k ih e = absurd (never_stopped pre bs NotNumber (then_reads (bs ++ 10 ∷ []) e (number_other most pre b n h k)))
  one_byte b bs pre (Stopped f) blank? digit? h k ih e = never_stopped pre bs f e

  -- The newline behind the last byte ends a number too.
  last_ends : (pre : List ℕ) (n : ℕ) → Dec (length pre < most) → Reads pre (Number n) [] → SpelledFrom most pre (Number n) [] ns
  last_ends pre n (yes l) e = λ fits.
      let x : pre ++ n ∷ [] ≡ ns = ap (λ s. s.numbers) (sym (number_blank most pre 10 n refl l) ∙ e) in
      ([], [], refl, tt, tt, fits, ([], nothing, tt, cc (x, append-nil (pre ++ n ∷ [])), rw (← x) (simp length-append (omega arith))))
  last_ends pre n (no f) e = absurd (never_stopped pre [] TooMany (sym (number_full most pre 10 n refl (omega arith)) ∙ e))

  read_spelled : (bs pre : List ℕ) (s : State) → Reads pre s bs → SpelledFrom most pre s bs ns
  read_spelled [] pre Gap e = λ l. let x : pre ≡ ns = ap (λ s. s.numbers) e in ([], nothing, tt, cc (x, append-nil pre), rw (← x) l)
  read_spelled [] pre (Number n) e = last_ends pre n (dec_lt (length pre) most) e
  read_spelled [] pre (Stopped f) e = never_stopped pre [] f e
  read_spelled (b ∷ bs) pre s e = one_byte b bs pre s (blank b) (digit b) refl refl (λ x t. read_spelled bs x t) e

-- What is left with nothing stopped is what the bytes spell.
pub lines_are_read : (most : ℕ) (bs ns : List ℕ) → scanned most started (bs ++ 10 ∷ []) ≡ record { numbers = ns; state = Gap } → Spells bs ns × Fit ns × (length ns ≤ most)
lines_are_read most bs ns e = let r = read_spelled most ns bs [] Gap e (omega arith) in (rw r.3 r.1, rw r.3 r.2, r.4)
