-- Only places below the number of steps are named.
use Rattle.std.proofs.Common.{ℕ, ◌-◌, ◌<◌, false, ◌&&◌, T, ⊎_elim, arith, eqb→eq}
use Rattle.kat.specs.Programs.{Program, guard, step, seq, choice, star, steps}
use Rattle.kat.specs.Places.{side, nullable, first, last, follow}
use Rattle.kat.specs.Theory.{PlacesAreSteps}
use Rattle.kat.proofs.Truth.{and_out, or_out}
use Rattle.kat.proofs.Sides.{either_side, side_within}

pub first_within : (p : Program) (a y : ℕ) → T (first p a y) → y < steps p
first_within (guard t) a y h = absurd h
first_within (step n) a y h = omega (arith, eqb→eq y 0 h)
first_within (seq p q) a y h = side_within (steps p) (steps q) y (first p a) (λ v. nullable p a && first q a v) (λ v k. first_within q a v (and_out (nullable p a) (first q a v) k).1) h
first_within (choice p q) a y h = side_within (steps p) (steps q) y (first p a) (first q a) (first_within q a) h
first_within (star p) a y h = first_within p a y h

last_within : (p : Program) (x a : ℕ) → T (last p x a) → x < steps p
last_within (guard t) x a h = absurd h
last_within (step n) x a h = omega (arith, eqb→eq x 0 h)
last_within (seq p q) x a h = side_within (steps p) (steps q) x (λ u. last p u a && nullable q a) (λ u. last q u a) (λ u. last_within q u a) h
last_within (choice p q) x a h = side_within (steps p) (steps q) x (λ u. last p u a) (λ u. last q u a) (λ u. last_within q u a) h
last_within (star p) x a h = last_within p x a h

pub follow_within : (p : Program) (x a y : ℕ) → T (follow p x a y) → (x < steps p) × (y < steps p)
follow_within (guard t) x a y h = absurd h
follow_within (step n) x a y h = absurd h
follow_within (seq p q) x a y h =
    ⊎_elim (λ k. (omega arith, side_within (steps p) (steps q) y (follow p x a) (λ v. last p x a && first q a v) (λ v j. first_within q a v (and_out (last p x a) (first q a v) j).1) k.1))
    (λ k. ⊎_elim (λ j. absurd j.1) (λ j. let i = follow_within q (x - steps p) a (y - steps p) j.1 in (omega arith, omega arith)) (either_side (steps p) y (λ v. false) (follow q (x - steps p) a) k.1))
    (either_side (steps p) x (λ u. side (steps p) y (follow p u a) (λ v. last p u a && first q a v)) (λ u. side (steps p) y (λ v. false) (follow q u a)) h)
follow_within (choice p q) x a y h =
    ⊎_elim (λ k. (omega arith, side_within (steps p) (steps q) y (follow p x a) (λ v. false) (λ v j. absurd j) k.1))
    (λ k. ⊎_elim (λ j. absurd j.1) (λ j. let i = follow_within q (x - steps p) a (y - steps p) j.1 in (omega arith, omega arith)) (either_side (steps p) y (λ v. false) (follow q (x - steps p) a) k.1))
    (either_side (steps p) x (λ u. side (steps p) y (follow p u a) (λ v. false)) (λ u. side (steps p) y (λ v. false) (follow q u a)) h)
follow_within (star p) x a y h = ⊎_elim (λ k. follow_within p x a y k) (λ k. let d = and_out (last p x a) (first p a y) k in (last_within p x a d.0, first_within p a y d.1)) (or_out (follow p x a y) (last p x a && first p a y) h)

pub places_are_steps : PlacesAreSteps
places_are_steps p = record { first_within = first_within p; last_within = last_within p; follow_within = follow_within p }
