-- What steps and tests may stand for: senses, which the field calls relational interpretations.
--     Sense       over states that are natural numbers: what each test says of each state, and from which state to which
--                 each step may lead
--     holds_in    whether a test expression holds of a state
--     Reaches     from which state a program may come to which
--     AtMostIn    in one sense, one program comes only where the other may; AtMost: in every sense
--     AlikeIn     in one sense, two programs come to the same; Alike: in every sense
use Rattle.std.specs.Prelude.{ℕ, Bool, true, false, not, ◌&&◌, ◌||◌, T, ◌↔◌}
use Rattle.kat.specs.Programs.{Test, always, never, test, both, any, opposite, Program, guard, step, seq, choice, star}

pub record Sense : Type 0 where
  pub says : ℕ → ℕ → Bool
  pub leads : ℕ → ℕ → ℕ → Bool

abbrev pub holds_in : Sense → ℕ → Test → Bool
holds_in i s always = true
holds_in i s never = false
holds_in i s (test n) = i.says n s
holds_in i s (both t u) = holds_in i s t && holds_in i s u
holds_in i s (any t u) = holds_in i s t || holds_in i s u
holds_in i s (opposite t) = not (holds_in i s t)

-- A guard comes from a state at which it holds to itself; one after the other comes over a state in between.
pub data Reaches (i : Sense) : Program → ℕ → ℕ → Type 0 where
  at_guard : {t : Test} {s : ℕ} → T (holds_in i s t) → Reaches i (guard t) s s
  at_step : {n s u : ℕ} → T (i.leads n s u) → Reaches i (step n) s u
  at_seq : {p q : Program} {s u v : ℕ} → Reaches i p s u → Reaches i q u v → Reaches i (seq p q) s v
  at_left : {p q : Program} {s u : ℕ} → Reaches i p s u → Reaches i (choice p q) s u
  at_right : {p q : Program} {s u : ℕ} → Reaches i q s u → Reaches i (choice p q) s u
  at_none : {p : Program} {s : ℕ} → Reaches i (star p) s s
  at_more : {p : Program} {s u v : ℕ} → Reaches i p s u → Reaches i (star p) u v → Reaches i (star p) s v

abbrev pub AtMostIn : Sense → Program → Program → Type 0
AtMostIn i p q = (s u : ℕ) → Reaches i p s u → Reaches i q s u

abbrev pub AtMost : Program → Program → Type 0
AtMost p q = (i : Sense) → AtMostIn i p q

abbrev pub AlikeIn : Sense → Program → Program → Type 0
AlikeIn i p q = (s u : ℕ) → Reaches i p s u ↔ Reaches i q s u

abbrev pub Alike : Program → Program → Type 0
Alike p q = (i : Sense) → AlikeIn i p q
