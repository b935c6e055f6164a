-- A program's traces are its runs through places.
use Rattle.std.proofs.Common.{◌≡◌, ℕ, ◌+◌, ◌<◌, Bool, false, ◌&&◌, T, ◌⊎◌, List, [], ◌∷◌, ◌++◌, sym, refl, subst, inl, inr, ⊎_elim, arith}
use Rattle.kat.specs.Programs.{Program, guard, step, seq, choice, star, steps}
use Rattle.kat.specs.Traces.{Move, Trace, last_atom, Has, by_guard, by_step, by_seq, by_left, by_right, by_none, by_more}
use Rattle.kat.specs.Automata.{beginning, past, Onward, Run}
use Rattle.kat.specs.Places.{side, nullable, first, last, follow, label, automaton_of}
use Rattle.kat.specs.Theory.{RunsAreTraces}
use Rattle.kat.proofs.Truth.{and_in, and_out, or_inl, or_inr, or_out}
use Rattle.kat.proofs.Sides.{side_left, side_right, Side, here, there, side_of}

-- runs of a program from its beginning, and past a place
abbrev Start : Program → ℕ → List Move → Type 0
Start p a gs = Run (automaton_of p) beginning a gs

abbrev Tail : Program → ℕ → ℕ → List Move → Type 0
Tail p x b gs = Run (automaton_of p) (past x) b gs

-- One more condition on the next place; the same place with other conditions.
also : (a : Bool) {f : ℕ → Bool} {n c : ℕ} {l : ℕ → ℕ} {K : ℕ → Type 0} → T a → Onward n f l c K → Onward n (λ y. a && f y) l c K
also a {f} s t = record { place = t.place; among = t.among; allowed = and_in a (f t.place) s t.allowed; labelled = t.labelled; on = t.on }

only : (a : Bool) {f : ℕ → Bool} {n c : ℕ} {l : ℕ → ℕ} {K : ℕ → Type 0} → Onward n (λ y. a && f y) l c K → T a × Onward n f l c K
only a {f} t = let d = and_out a (f t.place) t.allowed in (d.0, record { place = t.place; among = t.among; allowed = d.1; labelled = t.labelled; on = t.on })

onward : {f h : ℕ → Bool} {n c : ℕ} {l : ℕ → ℕ} {K L : ℕ → Type 0} → ((y : ℕ) → T (f y) → T (h y)) → ((y : ℕ) → K y → L y) → Onward n f l c K → Onward n h l c L
onward i m t = record { place = t.place; among = t.among; allowed = i t.place t.allowed; labelled = t.labelled; on = m t.place t.on }

onward_to : {f : ℕ → Bool} {n c : ℕ} {l : ℕ → ℕ} {K L : ℕ → Type 0} (t : Onward n f l c K) → L t.place → Onward n f l c L
onward_to t u = record { place = t.place; among = t.among; allowed = t.allowed; labelled = t.labelled; on = u }

-- a next place of p, of q, and of both
abbrev Of : Program → (ℕ → Bool) → ℕ → (ℕ → Type 0) → Type 0
Of p f c K = Onward (steps p) f (label p) c K

abbrev Both : Program → Program → (ℕ → Bool) → (ℕ → Bool) → ℕ → (ℕ → Type 0) → Type 0
Both p q f h c K = Onward (steps p + steps q) (λ y. side (steps p) y f h) (λ y. side (steps p) y (label p) (label q)) c K

left : (p q : Program) (h : ℕ → Bool) {f : ℕ → Bool} {c : ℕ} {K L : ℕ → Type 0} → ((y : ℕ) → y < steps p → K y → L y) → Of p f c K → Both p q f h c L
left p q h m t = let k = t.among in record { place = t.place; among = omega arith; allowed = simp side_left t.allowed; labelled = simp side_left t.labelled; on = m t.place k t.on }

right : (p q : Program) (f : ℕ → Bool) {h : ℕ → Bool} {c : ℕ} {K L : ℕ → Type 0} → ((y : ℕ) → K y → L (steps p + y)) → Of q h c K → Both p q f h c L
right p q f m t = record { place = steps p + t.place; among = omega arith; allowed = simp side_right t.allowed; labelled = simp side_right t.labelled; on = m t.place t.on }

split : (p q : Program) (f h : ℕ → Bool) {c : ℕ} {K L R : ℕ → Type 0} → ((y : ℕ) → y < steps p → K y → L y) → ((y : ℕ) → K (steps p + y) → R y) → Both p q f h c K → Of p f c L ⊎ Of q h c R
split p q f h {c} {K} {L} {R} m n t = by t.place (side_of (steps p) (steps q) t.place t.among) t.allowed t.labelled t.on
  where
    by : (y : ℕ) → Side (steps p) (steps q) y → T (side (steps p) y f h) → side (steps p) y (label p) (label q) ≡ c → K y → Of p f c L ⊎ Of q h c R
    by y (here k) u v w = inl (record { place = y; among = k; allowed = simp side_left at u; labelled = simp side_left at v; on = m y k w })
    by y (there {x = z} k) u v w = inr (record { place = z; among = k; allowed = simp side_right at u; labelled = simp side_right at v; on = n z w })

-- A run of one part, as one of both.
choice_there : (p q : Program) (gs : List Move) (x b : ℕ) → Tail q x b gs → Tail (choice p q) (steps p + x) b gs
choice_there p q [] x b t = simp side_right t
choice_there p q (g ∷ gs) x b t = simp side_right (right p q (λ v. false) (λ y. choice_there p q gs y g.after) t)

seq_there : (p q : Program) (gs : List Move) (x b : ℕ) → Tail q x b gs → Tail (seq p q) (steps p + x) b gs
seq_there p q [] x b t = simp side_right t
seq_there p q (g ∷ gs) x b t = simp side_right (right p q (λ v. false) (λ y. seq_there p q gs y g.after) t)

choice_here : (p q : Program) (gs : List Move) (x b : ℕ) → x < steps p → Tail p x b gs → Tail (choice p q) x b gs
choice_here p q [] x b h t = simp side_left t
choice_here p q (g ∷ gs) x b h t = simp side_left (left p q (λ v. false) (λ y. choice_here p q gs y g.after) t)

-- One after the other.
seq_join : (p q : Program) (gs hs : List Move) (x b : ℕ) → x < steps p → Tail p x b gs → Start q (last_atom b gs) hs → Tail (seq p q) x b (gs ++ hs)
seq_join p q [] [] x b h t r = simp side_left (and_in (last p x b) (nullable q b) t r)
seq_join p q [] (k ∷ hs) x b h t r = simp side_left (right p q (follow p x b) (λ y. seq_there p q hs y k.after) (also (last p x b) t r))
seq_join p q (g ∷ gs) hs x b h t r = simp side_left (left p q (λ v. last p x b && first q b v) (λ y k u. seq_join p q gs hs y g.after k u r) t)

run_seq : (p q : Program) (gs hs : List Move) (a : ℕ) → Start p a gs → Start q (last_atom a gs) hs → Start (seq p q) a (gs ++ hs)
run_seq p q [] [] a s r = and_in (nullable p a) (nullable q a) s r
run_seq p q [] (k ∷ hs) a s r = right p q (first p a) (λ y. seq_there p q hs y k.after) (also (nullable p a) s r)
run_seq p q (g ∷ gs) hs a s r = left p q (λ v. nullable p a && first q a v) (λ y k u. seq_join p q gs hs y g.after k u r) s

-- Either.
run_left : (p q : Program) (gs : List Move) (a : ℕ) → Start p a gs → Start (choice p q) a gs
run_left p q [] a r = or_inl (nullable p a) (nullable q a) r
run_left p q (g ∷ gs) a r = left p q (first q a) (λ y. choice_here p q gs y g.after) r

run_right : (p q : Program) (gs : List Move) (a : ℕ) → Start q a gs → Start (choice p q) a gs
run_right p q [] a r = or_inr (nullable p a) (nullable q a) r
run_right p q (g ∷ gs) a r = right p q (first p a) (λ y. choice_there p q gs y g.after) r

-- Again and again.
star_join : (p : Program) (gs hs : List Move) (x b : ℕ) → Tail p x b gs → Start (star p) (last_atom b gs) hs → Tail (star p) x b (gs ++ hs)
star_join p [] [] x b t r = t
star_join p [] (k ∷ hs) x b t r = onward (λ y f. or_inr (follow p x b y) (last p x b && first p b y) (and_in (last p x b) (first p b y) t f)) (λ y u. u) r
star_join p (g ∷ gs) hs x b t r = onward (λ y f. or_inl (follow p x b y) (last p x b && first p b y) f) (λ y u. star_join p gs hs y g.after u r) t

run_star : (p : Program) (gs hs : List Move) (a : ℕ) → Start p a gs → Start (star p) (last_atom a gs) hs → Start (star p) a (gs ++ hs)
run_star p [] hs a s r = r
run_star p (g ∷ gs) hs a s r = onward (λ y f. f) (λ y u. star_join p gs hs y g.after u r) s

-- A trace is a run.
to_run : {p : Program} {t : Trace} → Has p t → Start p t.starts t.moves
to_run (by_guard h) = h
to_run (by_step {n = n}) = record { place = 0; among = omega arith; allowed = tt; labelled = refl; on = tt }
to_run (by_seq {p = p} {q = q} {a = a} {ms = gs} {ns = hs} h k) = run_seq p q gs hs a (to_run h) (to_run k)
to_run (by_left {p = p} {q = q} {t = t} h) = run_left p q t.moves t.starts (to_run h)
to_run (by_right {p = p} {q = q} {t = t} h) = run_right p q t.moves t.starts (to_run h)
to_run by_none = tt
to_run (by_more {p = p} {a = a} {ms = gs} {ns = hs} h k) = run_star p gs hs a (to_run h) (to_run k)

-- The way back: a run of both that stays in one part is a run of that part.
choice_there_back : (p q : Program) (gs : List Move) (x b : ℕ) → Tail (choice p q) (steps p + x) b gs → Tail q x b gs
choice_there_back p q [] x b t = simp side_right at t
choice_there_back p q (g ∷ gs) x b t = ⊎_elim (λ e. absurd e.allowed) (λ e. e) (split p q (λ v. false) (follow q x b) {L = λ y. Unit} (λ y k u. tt) (λ y. choice_there_back p q gs y g.after) (simp side_right at t))

seq_there_back : (p q : Program) (gs : List Move) (x b : ℕ) → Tail (seq p q) (steps p + x) b gs → Tail q x b gs
seq_there_back p q [] x b t = simp side_right at t
seq_there_back p q (g ∷ gs) x b t = ⊎_elim (λ e. absurd e.allowed) (λ e. e) (split p q (λ v. false) (follow q x b) {L = λ y. Unit} (λ y k u. tt) (λ y. seq_there_back p q gs y g.after) (simp side_right at t))

choice_here_back : (p q : Program) (gs : List Move) (x b : ℕ) → x < steps p → Tail (choice p q) x b gs → Tail p x b gs
choice_here_back p q [] x b h t = simp side_left at t
choice_here_back p q (g ∷ gs) x b h t = ⊎_elim (λ e. e) (λ e. absurd e.allowed) (split p q (follow p x b) (λ v. false) {R = λ y. Unit} (λ y. choice_here_back p q gs y g.after) (λ y u. tt) (simp side_left at t))

-- moves cut in two: F holds of the front, and K of the atom it ends at and the rest
data Cut (b : ℕ) (F : List Move → Type 0) (K : ℕ → List Move → Type 0) : List Move → Type 0 where
  cut : {gs hs : List Move} → F gs → K (last_atom b gs) hs → Cut b F K (gs ++ hs)

cut_more : {F G : List Move → Type 0} {K : ℕ → List Move → Type 0} (b : ℕ) (g : Move) {gs : List Move} → ((hs : List Move) → F hs → G (g ∷ hs)) → Cut g.after F K gs → Cut b G K (g ∷ gs)
cut_more b g f (cut {gs = gs} {hs = hs} t k) = cut {gs = g ∷ gs} {hs = hs} (f gs t) k

-- One after the other.
seq_cut : (p q : Program) (gs : List Move) (x b : ℕ) → x < steps p → Tail (seq p q) x b gs → Cut b (Tail p x b) (Start q) gs
seq_cut p q [] x b h t = let e = and_out (last p x b) (nullable q b) (simp side_left at t) in cut {gs = []} {hs = []} e.0 e.1
seq_cut p q (g ∷ gs) x b h t =
    ⊎_elim (λ e. cut_more b g (λ hs u. onward_to e u) e.on) (λ e. let d = only (last p x b) e in cut {gs = []} {hs = g ∷ gs} d.0 d.1)
    (split p q (follow p x b) (λ v. last p x b && first q b v) (λ y. seq_cut p q gs y g.after) (λ y. seq_there_back p q gs y g.after) (simp side_left at t))

run_cut : (p q : Program) (gs : List Move) (a : ℕ) → Start (seq p q) a gs → Cut a (Start p a) (Start q) gs
run_cut p q [] a r = let e = and_out (nullable p a) (nullable q a) r in cut {gs = []} {hs = []} e.0 e.1
run_cut p q (g ∷ gs) a r =
    ⊎_elim (λ e. cut_more a g (λ hs u. onward_to e u) e.on) (λ e. let d = only (nullable p a) e in cut {gs = []} {hs = g ∷ gs} d.0 d.1)
    (split p q (first p a) (λ v. nullable p a && first q a v) (λ y. seq_cut p q gs y g.after) (λ y. seq_there_back p q gs y g.after) r)

-- Either.
run_either : (p q : Program) (gs : List Move) (a : ℕ) → Start (choice p q) a gs → Start p a gs ⊎ Start q a gs
run_either p q [] a r = or_out (nullable p a) (nullable q a) r
run_either p q (g ∷ gs) a r = split p q (first p a) (first q a) (λ y. choice_here_back p q gs y g.after) (λ y. choice_there_back p q gs y g.after) r

-- A run is a trace.
abbrev HasFrom : Program → ℕ → List Move → Type 0
HasFrom p a gs = Has p (record { starts = a; moves = gs })

abbrev ItsRunsAreTraces : Program → Type 0
ItsRunsAreTraces p = (a : ℕ) (gs : List Move) → Start p a gs → HasFrom p a gs

seq_has : (p q : Program) {a : ℕ} {gs : List Move} → ItsRunsAreTraces p → ItsRunsAreTraces q → Cut a (Start p a) (Start q) gs → HasFrom (seq p q) a gs
seq_has p q {a} m n (cut {gs = gs} {hs = hs} r s) = by_seq {ms = gs} {ns = hs} (m a gs r) (n (last_atom a gs) hs s)

-- rounds of which the first goes on past place y
abbrev Rounds : Program → Move → List Move → ℕ → Type 0
Rounds p g gs y = Cut g.after (Tail p y g.after) (HasFrom (star p)) gs

star_has : (p : Program) → ItsRunsAreTraces p → (a : ℕ) (g : Move) (gs : List Move) → Of p (first p a) g.does (Rounds p g gs) → HasFrom (star p) a (g ∷ gs)
star_has p m a g gs e = by e.on
  where
    by : {ks : List Move} → Rounds p g ks e.place → HasFrom (star p) a (g ∷ ks)
    by (cut {gs = ks} {hs = hs} t h) = by_more {ms = g ∷ ks} {ns = hs} (m a (g ∷ ks) (onward_to e t)) h

star_cut : (p : Program) → ItsRunsAreTraces p → (gs : List Move) (x b : ℕ) → Tail (star p) x b gs → Cut b (Tail p x b) (HasFrom (star p)) gs
star_cut p m [] x b t = cut {gs = []} {hs = []} t by_none
star_cut p m (g ∷ gs) x b t =
    let c = star_cut p m gs t.place g.after t.on in
    ⊎_elim (λ f. cut_more b g (λ hs u. record { place = t.place; among = t.among; allowed = f; labelled = t.labelled; on = u }) c)
    (λ f. let d = and_out (last p x b) (first p b t.place) f in cut {gs = []} {hs = g ∷ gs} d.0 (star_has p m b g gs (record { place = t.place; among = t.among; allowed = d.1; labelled = t.labelled; on = c })))
    (or_out (follow p x b t.place) (last p x b && first p b t.place) t.allowed)

step_has : (n a y : ℕ) (g : Move) (gs : List Move) → n ≡ g.does → Tail (step n) y g.after gs → HasFrom (step n) a (g ∷ gs)
step_has n a y g [] e t = subst (λ m. HasFrom (step m) a (g ∷ [])) (sym e) by_step
step_has n a y g (h ∷ gs) e t = absurd t.allowed

to_has : (p : Program) → ItsRunsAreTraces p
to_has (guard t) a [] r = by_guard r
to_has (guard t) a (g ∷ gs) r = absurd r.allowed
to_has (step n) a [] r = absurd r
to_has (step n) a (g ∷ gs) r = step_has n a r.place g gs r.labelled r.on
to_has (seq p q) a gs r = seq_has p q (to_has p) (to_has q) (run_cut p q gs a r)
to_has (choice p q) a gs r = ⊎_elim (λ s. by_left (to_has p a gs s)) (λ s. by_right (to_has q a gs s)) (run_either p q gs a r)
to_has (star p) a [] r = by_none
to_has (star p) a (g ∷ gs) r = star_has p (to_has p) a g gs (onward (λ y f. f) (λ y u. star_cut p (to_has p) gs y g.after u) r)

pub runs_are_traces : RunsAreTraces
runs_are_traces p t = (to_run, to_has p t.starts t.moves)
