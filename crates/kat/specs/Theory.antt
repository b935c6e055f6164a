-- The theory: what is true of every program, trace and sense. Each statement is proved, since a contract asks for `Theory`.
use Rattle.std.specs.Prelude.{◌≡◌, ℕ, ◌^◌, ◌<◌, ◌≤◌, T, ◌⊎◌, ◌↔◌, ◌++◌, length}
use Rattle.kat.specs.Programs.{Program, seq, choice, star, steps, Known, InRange, max_steps}
use Rattle.kat.specs.Traces.{Trace, Has, KnownTrace}
use Rattle.kat.specs.Senses.{Sense, Reaches, AtMostIn, AtMost, AlikeIn, Alike}
use Rattle.kat.specs.Automata.{beginning, Run}
use Rattle.kat.specs.Places.{first, last, follow, automaton_of}
use Rattle.kat.specs.Acceptors.{acceptor_of, Accepts}
use Rattle.kat.specs.Words.{words}

-- Words are at most two programs.
abbrev pub UniqueReading : Type 0
UniqueReading = (p q p' q' : Program) → words p ++ words q ≡ words p' ++ words q' → (p ≡ p') × (q ≡ q')

-- Programs with the same traces come to the same in every sense.
abbrev pub TracesDecide : Type 0
TracesDecide = (p q : Program) → ((t : Trace) → Has p t ↔ Has q t) → Alike p q

-- the trace t tells p from q
abbrev pub Tells : Program → Program → Trace → Type 0
Tells p q t = Has p t × (Has q t → ⊥)

-- A trace that one has and the other hasn't shows in some sense, between two states.
abbrev pub TellingShows : Type 0
TellingShows = (p q : Program) (t : Trace) → Tells p q t → (i : Sense) × (s : ℕ) × (u : ℕ) × Reaches i p s u × (Reaches i q s u → ⊥)

-- Of programs with known tests and steps it is enough to look at known traces,
abbrev pub KnownTracesDecide : Type 0
KnownTracesDecide = (p q : Program) → Known p → Known q → ((t : Trace) → KnownTrace t → Has p t ↔ Has q t) → Alike p q

-- and where a trace tells them apart, so does a known one of the same length.
abbrev pub KnownTraceTells : Type 0
KnownTraceTells = (p q : Program) → Known p → Known q → (t : Trace) → Tells p q t → (u : Trace) × KnownTrace u × Tells p q u × (length u.moves ≡ length t.moves)

-- a program with numbered holes, each as often as wanted
pub data Context : Type 0 where
  hole : ℕ → Context
  whole : Program → Context
  in_seq : Context → Context → Context
  in_choice : Context → Context → Context
  in_star : Context → Context

abbrev pub fill : (ℕ → Program) → Context → Program
fill f (hole n) = f n
fill f (whole p) = p
fill f (in_seq c d) = seq (fill f c) (fill f d)
fill f (in_choice c d) = choice (fill f c) (fill f d)
fill f (in_star c) = star (fill f c)

-- What is related by R may be put for one another in anything.
abbrev pub Substitutes : (Program → Program → Type 0) → Type 0
Substitutes R = (c : Context) (f g : ℕ → Program) → ((n : ℕ) → R (f n) (g n)) → R (fill f c) (fill g c)

-- r takes in q, and itself and then p; and the mirrored: q, and p and then itself
abbrev pub TakesIn : (Program → Program → Type 0) → Program → Program → Program → Type 0
TakesIn R p q r = R (choice q (seq r p)) r

abbrev pub TakesInBefore : (Program → Program → Type 0) → Program → Program → Program → Type 0
TakesInBefore R p q r = R (choice q (seq p r)) r

-- A loop is the least: q and then p again and again takes in q, and itself and then p, and what does takes it in.
abbrev pub StarLeast : (Program → Program → Type 0) → Type 0
StarLeast R = (p q : Program) → TakesIn R p q (seq q (star p)) × ((r : Program) → TakesIn R p q r → R (seq q (star p)) r)

-- The mirrored law, of p again and again and then q.
abbrev pub StarLeastBefore : (Program → Program → Type 0) → Type 0
StarLeastBefore R = (p q : Program) → TakesInBefore R p q (seq (star p) q) × ((r : Program) → TakesInBefore R p q r → R (seq (star p) q) r)

-- A program has the traces that runs through its places read.
abbrev pub RunsAreTraces : Type 0
RunsAreTraces = (p : Program) (t : Trace) → Has p t ↔ Run (automaton_of p) beginning t.starts t.moves

-- Only places below the number of steps are named.
pub record PlacesWithin (p : Program) : Type 0 where
  pub first_within : (a y : ℕ) → T (first p a y) → y < steps p
  pub last_within : (x a : ℕ) → T (last p x a) → x < steps p
  pub follow_within : (x a y : ℕ) → T (follow p x a y) → (x < steps p) × (y < steps p)

abbrev pub PlacesAreSteps : Type 0
PlacesAreSteps = (p : Program) → PlacesWithin p

-- A program has a trace or hasn't: there is a way to tell.
abbrev pub TracesDecidable : Type 0
TracesDecidable = (p : Program) (t : Trace) → Has p t ⊎ (Has p t → ⊥)

-- A program has the traces that its sets of places accept.
abbrev pub SetsAcceptTraces : Type 0
SetsAcceptTraces = (p : Program) (t : Trace) → Has p t ↔ Accepts (acceptor_of (automaton_of p)) t

-- Of a program in range there are at most 2 ^ 12 sets of places but the beginning: letters lead to these only.
abbrev pub SetsAreFew : Type 0
SetsAreFew = (p : Program) → InRange p → (2 ^ steps p ≤ 2 ^ max_steps) × ((u a s : ℕ) → (acceptor_of (automaton_of p)).next u a s < 2 ^ steps p)

pub record Theory : Type 0 where
  pub unique_reading : UniqueReading
  pub traces_decide : TracesDecide
  pub telling_shows : TellingShows
  pub known_traces_decide : KnownTracesDecide
  pub known_trace_tells : KnownTraceTells
  pub substitutes_in : (i : Sense) → Substitutes (AlikeIn i)
  pub substitutes : Substitutes Alike
  pub star_least_in : (i : Sense) → StarLeast (AtMostIn i)
  pub star_least : StarLeast AtMost
  pub star_least_before_in : (i : Sense) → StarLeastBefore (AtMostIn i)
  pub star_least_before : StarLeastBefore AtMost
  pub runs_are_traces : RunsAreTraces
  pub places_are_steps : PlacesAreSteps
  pub traces_decidable : TracesDecidable
  pub sets_accept_traces : SetsAcceptTraces
  pub sets_are_few : SetsAreFew
