-- What bytes spell is what is read.
use Rattle.std.proofs.Common.{◌≡◌, ℕ, ◌+◌, ◌-◌, ◌*◌, ◌^◌, ◌<◌, ◌≤◌, List, [], ◌∷◌, ◌++◌, length, sym, refl, ap, ◌∙◌, append_assoc, append-nil, arith, length-append}
use Rattle.lines.specs.declared.State.TheVariants.{Gap, Number}
use Rattle.lines.specs.Spelling.{Digits, value, Parted, Spells, nothing, a_blank, a_number}
use Rattle.lines.specs.Scanning.{Scan, scanned, Fit}
use Rattle.lines.proofs.Scans.{gap_blank, gap_digit, number_blank, number_digit}

-- Digits make a number no smaller.
value_grows : (n : ℕ) (ds : List ℕ) → n ≤ value n ds
value_grows n [] = omega arith
value_grows n (d ∷ ds) = omega (arith, value_grows (10 * n + (d - 48)) ds)

module _ (most : ℕ) where
  -- the scan in a gap, and in a number
  abbrev gap : List ℕ → Scan
  gap ns = record { numbers = ns; state = Gap }

  abbrev number : List ℕ → ℕ → Scan
  number ns n = record { numbers = ns; state = Number n }

  -- Scans that are equal go on equally.
  then_scan : (rest : List ℕ) {s t : Scan} → s ≡ t → scanned most s rest ≡ scanned most t rest
  then_scan rest e = ap (λ s. scanned most s rest) e

  digits_read : (ns ds rest : List ℕ) (n : ℕ) → Digits ds → value n ds < 2 ^ 32 → scanned most (number ns n) (ds ++ rest) ≡ scanned most (number ns (value n ds)) rest
  digits_read ns [] rest n h l = refl
  digits_read ns (d ∷ ds) rest n h l =
      let v = value_grows (10 * n + (d - 48)) ds in
      then_scan (ds ++ rest) (number_digit most ns d n h.0 (omega arith)) ∙ digits_read ns ds rest (10 * n + (d - 48)) h.1 l

  -- A number that ends is kept.
  number_ends : (ns bs : List ℕ) (n : ℕ) → Parted bs → length ns < most → scanned most (number ns n) (bs ++ 10 ∷ []) ≡ scanned most (gap (ns ++ n ∷ [])) (bs ++ 10 ∷ [])
  number_ends ns [] n p l = number_blank most ns 10 n refl l
  number_ends ns (b ∷ bs) n p l = then_scan (bs ++ 10 ∷ []) (number_blank most ns b n p l ∙ sym (gap_blank most (ns ++ n ∷ []) b p))

  pub spelled_read : (pre bs ns : List ℕ) → Spells bs ns → Fit ns → length pre + length ns ≤ most → scanned most (gap pre) (bs ++ 10 ∷ []) ≡ gap (pre ++ ns)
  spelled_read pre bs ns nothing f l = ap gap (sym (append-nil pre))
  spelled_read pre bs ns (a_blank {b = b} {bs = bs'} h s) f l = then_scan (bs' ++ 10 ∷ []) (gap_blank most pre b h) ∙ spelled_read pre bs' ns s f l
  spelled_read pre bs ns (a_number {d = d} ds bs' {ns = ns'} h hs p s) f l =
      let n = value (d - 48) ds in
      then_scan ((ds ++ bs') ++ 10 ∷ []) (gap_digit most pre d h)
      ∙ ap (λ bs. scanned most (number pre (d - 48)) bs) (append_assoc ds bs' (10 ∷ []))
      ∙ digits_read pre ds (bs' ++ 10 ∷ []) (d - 48) hs f.0
      ∙ number_ends pre bs' n p (omega arith)
      ∙ spelled_read (pre ++ n ∷ []) bs' ns' s f.1 (simp length-append (omega arith))
      ∙ ap gap (append_assoc pre (n ∷ []) ns')
