-- The loop that leads rows on, one by one.
use Rattle.std.proofs.Common.{◌≡◌, ℕ, ◌+◌, ◌-◌, ◌<◌, ◌≤◌, ◌⊎◌, List, [], length, set, sym, ap, ◌∙◌, subst, inl, inr, ⊎_elim, arith}
use borrow.Rule.Slice.PartMut.{mid_of, put_mid}
use Rattle.std.proofs.lemmas.List.{get_or-set_same, get_or-set_other, length-set, places}
use Rattle.std.proofs.lemmas.Bool.{cases_eq}
use Rattle.automaton.specs.declared.rows.Row.{Row}
use Rattle.automaton.specs.declared.tables.Tables.{Tables}
use Rattle.automaton.specs.Rows.{Then, Led, row_at}
use Rattle.automaton.specs.Building.{LedOn}

-- Where a row was put, and elsewhere.
pub row_put : (rows : List Row) (n : ℕ) (r : Row) → n < length rows → row_at (set rows n r) n ≡ r
row_put rows n r h = get_or-set_same rows n r (record { ends = 0; next = [] }) h

pub row_kept : (rows : List Row) (n i : ℕ) (r : Row) → (i ≡ n → ⊥) → row_at (set rows n r) i ≡ row_at rows i
row_kept rows n i r h = get_or-set_other rows n i r (record { ends = 0; next = [] }) h

-- the rows before n are led on, the others as they were
pub record LedTo (n : ℕ) (old : List Row) (next : Row) (new : List Row) : Type 0 where
  pub as_many : length new ≡ length old
  pub led : (i : ℕ) → i < n → Then (row_at old i) next (row_at new i)
  pub same : (i : ℕ) → n ≤ i → row_at new i ≡ row_at old i

pub led_at : (n : ℕ) (old : List Row) (next : Row) (new : List Row) (r : Row) → n < length old → LedTo n old next new → Then (row_at new n) next r → LedTo (n + 1) old next (set new n r)
led_at n old next new r b h t = record {
  as_many = length-set new n r ∙ h.as_many;
  led = λ i k. ⊎_elim
      (λ e. subst (λ j. Then (row_at old j) next (row_at (set new n r) j)) (sym e) (subst (λ x. Then (row_at old n) next x) (sym (row_put new n r (omega (arith, h.as_many)))) (subst (λ x. Then x next r) (h.same n (omega arith)) t)))
      (λ e. subst (λ x. Then (row_at old i) next x) (sym (row_kept new n i r e)) (h.led i (omega arith)))
      (cases_eq i n);
  same = λ i k. row_kept new n i r (λ e. omega arith) ∙ h.same i (omega arith);
}

-- A part of the rows is led on.
module _ (from k : ℕ) (rows : List Row) (next : Row) (last : List Row) (b : from + k ≤ length rows) (h : Led (mid_of from k rows) next last) where
  part_length : length (mid_of from k rows) ≡ k
  part_length = grind (arith, places)

  in_part : (i : ℕ) → i < k → row_at (mid_of from k rows) i ≡ row_at rows (from + i)
  in_part i j = grind (arith, places)

  put_part : (i : ℕ) → i < k → row_at (put_mid from k rows last) (from + i) ≡ row_at last i
  put_part i j = grind (arith, places, h.as_many, part_length)

  part_as_many : length (put_mid from k rows last) ≡ length rows
  part_as_many = grind (arith, places, h.as_many, part_length)

  part_led : (i : ℕ) → from ≤ i → i < from + k → Then (row_at rows i) next (row_at (put_mid from k rows last) i)
  part_led i m n =
      let e : from + (i - from) ≡ i = omega arith in
      let j : i - from < k = omega arith in
      subst (λ x. Then (row_at rows x) next (row_at (put_mid from k rows last) x)) e
      (subst (λ x. Then x next (row_at (put_mid from k rows last) (from + (i - from)))) (in_part (i - from) j)
      (subst (λ x. Then (row_at (mid_of from k rows) (i - from)) next x) (sym (put_part (i - from) j)) (h.led (i - from) (omega (arith, part_length)))))

  part_kept : (i : ℕ) → (i < from) ⊎ (from + k ≤ i) → row_at (put_mid from k rows last) i ≡ row_at rows i
  part_kept i (inl j) = grind (arith, places, h.as_many, part_length)
  part_kept i (inr j) = grind (arith, places, h.as_many, part_length)

pub rows_led : (from to : ℕ) (old new : Tables) (next : Row) (last : List Row) → from ≤ to → to ≤ length old.rows → Led (mid_of from (to - from) old.rows) next last → new.end.number ≡ old.end.number → new.labelled ≡ old.labelled → new.rows ≡ put_mid from (to - from) old.rows last → LedOn from to old next new
rows_led from to old new next last a b h e f g =
    let n : from + (to - from) ≡ to = omega arith in
    let m : from + (to - from) ≤ length old.rows = omega arith in
    record {
      places_kept = e;
      as_many_rows = ap length g ∙ part_as_many from (to - from) old.rows next last m h;
      labelled_kept = f;
      led = λ i j k. subst (λ rows. Then (row_at old.rows i) next (row_at rows i)) (sym g) (part_led from (to - from) old.rows next last m h i j (omega arith));
      rows_kept = λ i j. ap (λ rows. row_at rows i) g ∙ part_kept from (to - from) old.rows next last m h i (subst (λ x. (i < from) ⊎ (x ≤ i)) (sym n) j);
    }
