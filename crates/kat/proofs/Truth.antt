-- What it takes for a joined Bool to be true.
use Rattle.std.proofs.Common.{Bool, true, false, ◌&&◌, ◌||◌, T, ◌⊎◌, inl, inr}

pub and_in : (a b : Bool) → T a → T b → T (a && b)
and_in true b s t = t
and_in false b s t = s

pub and_out : (a b : Bool) → T (a && b) → T a × T b
and_out true b t = (tt, t)
and_out false b t = absurd t

pub or_inl : (a b : Bool) → T a → T (a || b)
or_inl true b t = tt
or_inl false b t = absurd t

pub or_inr : (a b : Bool) → T b → T (a || b)
or_inr true b t = tt
or_inr false b t = t

pub or_out : (a b : Bool) → T (a || b) → T a ⊎ T b
or_out true b t = inl tt
or_out false b t = inr t
