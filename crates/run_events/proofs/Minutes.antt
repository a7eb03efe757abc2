-- What a watch keeps of events does not hang on the speeds that it keeps.
use Rattle.std.proofs.Common.{ℕ, List}
use Rattle.run_crew.specs.declared.cards.Crew.{Crew}
use Rattle.run_events.specs.declared.watch.Ended.{Ended}
use Rattle.run_events.specs.declared.watch.Watch.{Watch}
use Rattle.run_events.specs.Watching.{CrewSecond, WatchesSpan, WatchesEvents}
use Rattle.run_events.specs.Noting.{IsFed}

module _ (w : Watch) (speeds : List ℕ) where
  abbrev with_speeds : Watch
  with_speeds = record w { speeds = speeds }

  pub stands-with : (seconds : List CrewSecond) → WatchesSpan w seconds → WatchesSpan with_speeds seconds
  stands-with seconds h = record { bare = h.bare; over = h.over; bare_begin = h.bare_begin; over_begin = h.over_begin; last = h.last }

  pub watches-with : (next : ℕ) → WatchesEvents w next → WatchesEvents with_speeds next
  watches-with next h = record { seconds = h.seconds; stands = stands-with h.seconds h.stands; bare_next = h.bare_next; over_next = h.over_next; late = h.late }

  pub fed-with : (new : Watch) (first n speed : ℕ) (crew : Crew) (ended : Ended) → IsFed with_speeds new first n speed crew ended → IsFed w new first n speed crew ended
  fed-with new first n speed crew ended h = record {
    bares = λ seconds stands. h.bares seconds (stands-with seconds stands);
    overs = λ seconds stands. h.overs seconds (stands-with seconds stands);
    stands = λ seconds stands. h.stands seconds (stands-with seconds stands);
    limit = h.limit;
  }
