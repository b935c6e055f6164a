-- How a line is read, byte by byte.
--     Scan      the numbers that are complete, and where reading stands
--     Reading   what there is of a line: the scan, how many bytes came until it stopped, and for how many numbers there is
--               room: for those that are complete, and for fewer than 2 ^ 63
--     state_after
--               where reading stands after one byte more
--     after     what a byte makes of a scan that keeps at most so many numbers
--     scanned   what bytes make of it, one after the other
--     HasRead   the bytes that a line has read
--     LineRead  what it leaves of the bytes of a line, and a newline, is what they spell
use Rattle.std.specs.Prelude.{◌≡◌, ℕ, ◌+◌, ◌-◌, ◌*◌, ◌^◌, ◌<◌, ◌≤◌, min, cond, true, ◌↔◌, List, [], ◌∷◌, ◌++◌, length, Option, Some, None, Ok, Err, Result, nat_lt}
use Rattle.std.specs.Borrow.{Bor}
use Rattle.lines.specs.declared.Fault.TheVariants.{NotNumber, TooLarge, TooMany}
use Rattle.lines.specs.declared.State.{State}
use Rattle.lines.specs.declared.State.TheVariants.{Gap, Number, Stopped}
use Rattle.lines.specs.declared.Stop.{Stop}
use Rattle.lines.specs.Spelling.{blank, digit, Spells}

pub record Scan : Type 0 where
  pub numbers : List ℕ
  pub state : State

pub record Reading : Type 0 where
  pub scan : Scan
  pub column : ℕ
  pub capacity : ℕ
  pub within : length scan.numbers ≤ capacity
  pub small : capacity < 2 ^ 63

abbrev pub started : Scan
started = record { numbers = []; state = Gap }

-- A digit after the number n: it is worth so much then, unless that does not fit 32 bits.
abbrev pub grown : ℕ → State
grown n = cond (nat_lt n (2 ^ 32)) (Number n) (Stopped TooLarge)

abbrev pub state_after : State → ℕ → State
state_after Gap b = cond (blank b) Gap (cond (digit b) (Number (b - 48)) (Stopped NotNumber))
state_after (Number n) b = cond (blank b) Gap (cond (digit b) (grown (10 * n + (b - 48))) (Stopped NotNumber))
state_after (Stopped f) b = Stopped f

-- the number that has ended with one byte more, if one has
abbrev pub number_ended : State → ℕ → Option ℕ
number_ended Gap b = None
number_ended (Number n) b = cond (blank b) (Some n) None
number_ended (Stopped f) b = None

-- A number that has ended is kept, if there is room for one more.
abbrev pub kept : ℕ → List ℕ → ℕ → Scan
kept most ns n = cond (nat_lt (length ns) most) (record { numbers = ns ++ n ∷ []; state = Gap }) (record { numbers = ns; state = Stopped TooMany })

abbrev pub read_on : ℕ → List ℕ → State → ℕ → Scan
read_on most ns Gap b = record { numbers = ns; state = state_after Gap b }
read_on most ns (Number n) b = cond (blank b) (kept most ns n) (record { numbers = ns; state = state_after (Number n) b })
read_on most ns (Stopped f) b = record { numbers = ns; state = Stopped f }

abbrev pub after : ℕ → Scan → ℕ → Scan
after most s b = read_on most s.numbers s.state b

abbrev pub scanned : ℕ → Scan → List ℕ → Scan
scanned most s [] = s
scanned most s (b ∷ bs) = scanned most (after most s b) bs

-- how many bytes came, the one at which reading stopped included
abbrev pub column_after : State → ℕ → ℕ
column_after Gap c = min (c + 1) (2 ^ 64 - 1)
column_after (Number n) c = min (c + 1) (2 ^ 64 - 1)
column_after (Stopped f) c = c

-- a line with no byte yet
pub record Fresh (l : Reading) : Type 0 where
  pub scan : l.scan ≡ started
  pub column : l.column ≡ 0

-- The line l, which keeps at most so many numbers, has read the bytes bs.
abbrev pub HasRead : ℕ → List ℕ → Reading → Type 0
HasRead most bs l = l.scan ≡ scanned most started bs

-- the line l with one byte more is l'
pub record Pushed (most : ℕ) (l : Reading) (b : ℕ) (l' : Reading) : Type 0 where
  pub scan : l'.scan ≡ after most l.scan b
  pub column : l'.column ≡ column_after l.scan.state l.column
  pub reads : (bs : List ℕ) → HasRead most bs l → HasRead most (bs ++ b ∷ []) l'

-- nothing has changed
pub record Same (l l' : Reading) : Type 0 where
  pub scan : l'.scan ≡ l.scan
  pub column : l'.column ≡ l.column
  pub room : l'.capacity ≡ l.capacity

-- A number ends with the byte b and is to be kept, and the memory for numbers is used up.
pub record NeedsMemory (most : ℕ) (l : Reading) (b : ℕ) : Type 0 where
  pub number : ℕ
  pub in_number : l.scan.state ≡ Number number
  pub ends : blank b ≡ true
  pub kept : length l.scan.numbers < most
  pub full : l.capacity ≤ length l.scan.numbers

-- Reading has not stopped, and these are the numbers that are complete.
abbrev pub Complete : Scan → List ℕ → Type 0
Complete s ns = elim s.state [ Gap ↦ ns ≡ s.numbers | Number n ↦ ns ≡ s.numbers | Stopped f ↦ ⊥ ]

-- Reading has stopped here.
abbrev pub StoppedAt : Reading → Stop → Type 0
StoppedAt l s = (l.scan.state ≡ Stopped s.fault) × (s.column ≡ l.column)

-- each number fits 32 bits
abbrev pub Fit : List ℕ → Type 0
Fit [] = Unit {0}
Fit (n ∷ ns) = (n < 2 ^ 32) × Fit ns

-- The bytes bs are a line of these numbers: they spell them, each fits 32 bits, and there are at most so many.
abbrev pub IsLine : ℕ → List ℕ → List ℕ → Type 0
IsLine most bs ns = Spells bs ns × Fit ns × (length ns ≤ most)

-- What a line and a newline leave: the line's numbers exactly, or none where it is no line of numbers.
abbrev pub LineRead : ℕ → List ℕ → Result (Bor (List ℕ)) Stop → Type 0
LineRead most bs (Ok x) = (ns : List ℕ) → IsLine most bs ns ↔ (ns ≡ x.now)
LineRead most bs (Err stop) = (ns : List ℕ) → IsLine most bs ns → ⊥
