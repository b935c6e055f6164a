-- `while 0 do 1`, by computation.
use Rattle.std.proofs.Common.{[], ◌∷◌, refl}
use Rattle.kat.specs.Traces.{by_guard, by_step, by_seq, by_none, by_more}
use Rattle.kat.specs.Senses.{at_guard, at_step, at_seq, at_none, at_more}
use Rattle.kat.specs.Bits.{from_bits}
use Rattle.kat.specs.Places.{side}
use Rattle.kat.specs.Examples.{Examples}

pub examples : Examples
unfolding side from_bits
examples = record {
  entered_once = by_seq {ms = record { does = 1; after = 0 } ∷ []} {ns = []} (by_more {ms = record { does = 1; after = 0 } ∷ []} {ns = []} (by_seq {ms = []} {ns = record { does = 1; after = 0 } ∷ []} (by_guard tt) by_step) by_none) (by_guard tt);
  never_entered = by_seq {ms = []} {ns = []} by_none (by_guard tt);
  written = refl;
  counts_down = at_seq (at_more (at_seq (at_guard tt) (at_step tt)) at_none) (at_guard tt);
  its_place = refl;
  led_in = refl;
  led_nowhere = refl;
  ends_there = refl;
  goes_on_there = refl;
}
