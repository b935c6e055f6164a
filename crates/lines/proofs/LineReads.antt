-- What a line has read, byte by byte, and what a newline then leaves of it.
use Rattle.std.proofs.Common.{◌≡◌, ℕ, Bool, true, false, cond, ltb, ◌⊎◌, ◌↔◌, List, [], ◌∷◌, ◌++◌, length, sym, refl, ap, ◌∙◌, inl, inr, arith}
use Rattle.lines.specs.declared.Fault.{Fault}
use Rattle.lines.specs.declared.Fault.TheVariants.{TooMany}
use Rattle.lines.specs.declared.State.{State}
use Rattle.lines.specs.declared.State.TheVariants.{Gap, Number, Stopped}
use Rattle.lines.specs.Scanning.{Scan, Reading, started, after, scanned, HasRead, Complete, IsLine}
use Rattle.lines.proofs.SpelledRead.{spelled_read}
use Rattle.lines.proofs.ReadSpelled.{lines_are_read}

scanned_append : (most : ℕ) (s : Scan) (bs cs : List ℕ) → scanned most s (bs ++ cs) ≡ scanned most (scanned most s bs) cs
scanned_append most s [] cs = refl
scanned_append most s (b ∷ bs) cs = scanned_append most (after most s b) bs cs

-- One more byte is read behind the others.
pub reads_more : (most : ℕ) (s s' : Scan) (b : ℕ) → s' ≡ after most s b → (bs : List ℕ) → s ≡ scanned most started bs → s' ≡ scanned most started (bs ++ b ∷ [])
reads_more most s s' b e bs h = e ∙ ap (λ s. after most s b) h ∙ sym (scanned_append most started bs (b ∷ []))

pub complete : (s : Scan) (ns : List ℕ) → (s.state ≡ Gap) ⊎ ((n : ℕ) × (s.state ≡ Number n)) → ns ≡ s.numbers → Complete s ns
complete s ns (inl g) e = rw g e
complete s ns (inr p) e = rw p.1 e

kept_number : (fits : Bool) (ns : List ℕ) (m n : ℕ) → (cond {A = Scan} fits (record { numbers = ns ++ m ∷ []; state = Gap }) (record { numbers = ns; state = Stopped TooMany })).state ≡ Number n → ⊥
kept_number true ns m n e = let z : ◌≡◌ {A = ℕ} 0 1 = cc in omega arith
kept_number false ns m n e = let z : ◌≡◌ {A = ℕ} 0 1 = cc in omega arith

-- After a newline no number is pending.
none_pending : (most : ℕ) (ns : List ℕ) (s : State) (n : ℕ) → (after most (record { numbers = ns; state = s }) 10).state ≡ Number n → ⊥
none_pending most ns Gap n e = let z : ◌≡◌ {A = ℕ} 0 1 = cc in omega arith
none_pending most ns (Number m) n e = kept_number (ltb (length ns) most) ns m n e
none_pending most ns (Stopped f) n e = let z : ◌≡◌ {A = ℕ} 0 1 = cc in omega arith

module _ (most : ℕ) (bs : List ℕ) (l : Reading) (h : HasRead most (bs ++ 10 ∷ []) l) where
  -- A line of numbers is read as these.
  line_read : (ns : List ℕ) → IsLine most bs ns → l.scan ≡ record { numbers = ns; state = Gap }
  line_read ns i = h ∙ spelled_read most [] bs ns i.0 i.1 (omega (arith, i.2))

  -- Where reading stopped there is no line of numbers,
  pub no_line : (f : Fault) → l.scan.state ≡ Stopped f → (ns : List ℕ) → IsLine most bs ns → ⊥
  no_line f e ns i =
      let g : l.scan.state ≡ Gap = ap (λ s. s.state) (line_read ns i) in
      let z : ◌≡◌ {A = ℕ} 0 1 = cc in
      omega arith

  -- and where it did not, the numbers that are complete are the line's.
  pub is_line : (xs : List ℕ) → (l.scan.state ≡ Gap) ⊎ ((n : ℕ) × (l.scan.state ≡ Number n)) → xs ≡ l.scan.numbers → (ns : List ℕ) → IsLine most bs ns ↔ (ns ≡ xs)
  is_line xs (inl g) e ns = (λ i. sym (e ∙ ap (λ s. s.numbers) (line_read ns i)), λ q. lines_are_read most bs ns (sym h ∙ ended ns q))
    where
      ended : (ns : List ℕ) → ns ≡ xs → l.scan ≡ record { numbers = ns; state = Gap }
      ended ns q = λ j. record { numbers = sym (q ∙ e) j; state = g j }
  is_line xs (inr p) e ns = absurd (none_pending most before.numbers before.state p.0 (sym (ap (λ s. s.state) (h ∙ scanned_append most started bs (10 ∷ []))) ∙ p.1))
    where
      before : Scan
      before = scanned most started bs
