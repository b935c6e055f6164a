-- The theory, put together.
use Rattle.kat.specs.Theory.{Theory}
use Rattle.kat.proofs.UniqueReading.{unique_reading}
use Rattle.kat.proofs.TracesDecide.{traces_decide}
use Rattle.kat.proofs.TellingShows.{telling_shows}
use Rattle.kat.proofs.KnownTraces.{known_traces_decide, known_trace_tells}
use Rattle.kat.proofs.Laws.{substitutes_in, substitutes, star_least_in, star_least, star_least_before_in, star_least_before}
use Rattle.kat.proofs.Runs.{runs_are_traces}
use Rattle.kat.proofs.PlacesWithin.{places_are_steps}
use Rattle.kat.proofs.Sets.{sets_accept_traces, traces_decidable, sets_are_few}

pub theory : Theory
theory = record {
  unique_reading = unique_reading;
  traces_decide = traces_decide;
  telling_shows = telling_shows;
  known_traces_decide = known_traces_decide;
  known_trace_tells = known_trace_tells;
  substitutes_in = substitutes_in;
  substitutes = substitutes;
  star_least_in = star_least_in;
  star_least = star_least;
  star_least_before_in = star_least_before_in;
  star_least_before = star_least_before;
  runs_are_traces = runs_are_traces;
  places_are_steps = places_are_steps;
  traces_decidable = traces_decidable;
  sets_accept_traces = sets_accept_traces;
  sets_are_few = sets_are_few;
}
