-- Programs with the same traces come to the same in every sense: a state's atom is the number made of what the tests say of it.
use Rattle.std.proofs.Common.{ℕ, max, refl, arith}
use Rattle.kat.specs.Programs.{Program}
use Rattle.kat.specs.Bits.{from_bits}
use Rattle.kat.specs.Traces.{Trace, Has}
use Rattle.kat.specs.Senses.{Sense, AtMostIn}
use Rattle.kat.specs.Theory.{TracesDecide}
use Rattle.kat.proofs.BitLaws.{bit_from_bits}
use Rattle.kat.proofs.Walks.{bound, Atoms, walked, reaches}

-- One way: what p does is a walk along a trace of p, which is one of q.
at_most_in : (p q : Program) → ((t : Trace) → Has p t → Has q t) → (i : Sense) → AtMostIn i p q
at_most_in p q f i s u d =
    let m = max (bound p) (bound q) in
    let at : ℕ → ℕ = λ v. from_bits (λ n. i.says n v) m in
    let atoms : Atoms i m at = λ n v. bit_from_bits (λ n. i.says n v) m n in
    let g = walked i m at atoms p s u (omega arith) d in
    let t : Trace = record { starts = at s; moves = g.0 } in
    reaches i m at atoms q t s u (omega arith) refl g.1 (f t g.2)

pub traces_decide : TracesDecide
traces_decide p q e i s u = (at_most_in p q (λ t. (e t).0) i s u, at_most_in q p (λ t. (e t).1) i s u)
