-- What a line of numbers is: decimal numbers, with blanks between them.
--     blank     a space, a tab, a carriage return or a newline
--     digit     from '0' to '9'
--     Parted    nothing follows a number, or a blank does
--     value     what digits are worth behind a number n
--     Spells    the bytes spell the numbers
use Rattle.std.specs.Prelude.{◌≡◌, ℕ, ◌+◌, ◌-◌, ◌*◌, Bool, true, ◌&&◌, ◌||◌, List, [], ◌∷◌, ◌++◌, ◌==◌, nat_le}

abbrev pub blank : ℕ → Bool
blank b = b == 32 || (b == 9 || (b == 13 || b == 10))

abbrev pub digit : ℕ → Bool
digit b = nat_le 48 b && nat_le b 57

abbrev pub Digits : List ℕ → Type 0
Digits [] = Unit {0}
Digits (d ∷ ds) = (digit d ≡ true) × Digits ds

abbrev pub value : ℕ → List ℕ → ℕ
value n [] = n
value n (d ∷ ds) = value (10 * n + (d - 48)) ds

abbrev pub Parted : List ℕ → Type 0
Parted [] = Unit {0}
Parted (b ∷ bs) = blank b ≡ true

pub data Spells : List ℕ → List ℕ → Type 0 where
  nothing : Spells [] []
  a_blank : {b : ℕ} {bs ns : List ℕ} → blank b ≡ true → Spells bs ns → Spells (b ∷ bs) ns
  a_number : {d : ℕ} (ds bs : List ℕ) {ns : List ℕ} → digit d ≡ true → Digits ds → Parted bs → Spells bs ns → Spells (d ∷ (ds ++ bs)) (value (d - 48) ds ∷ ns)
