-- What the notes of a span's events leave of a unit (profile).
use Rattle.std.specs.Prelude.{◌≡◌, ◌⊎◌, ℕ, Option, Some, None, option_to_list, List, ◌++◌}
use Rattle.event_model.specs.declared.kinds.TheConstants.{DRIVING_WITHOUT_CARD}
use Rattle.unit_notes.specs.Entries.{fault_bytes, over_bytes}
use Rattle.unit_notes.specs.Noting.{IsNotingEvent, IsEventNoted, IsNotingOver, IsOverNoted}
use Rattle.run_crew.specs.declared.cards.Crew.{Crew}
use Rattle.run_events.specs.declared.watch.Ended.{Ended}
use Rattle.run_events.specs.declared.watch.Watch.{Watch}
use Rattle.run_events.specs.Entries.{number_or_no_card, entry_of}
use Rattle.run_events.specs.Watching.{BareWith, OverWith, CrewSecond, seconds_with, bares_with, overs_with, bare_ended}
use Rattle.run_events.specs.Watching.{over_ended, WatchesSpan}

-- driving without a card that has ended is noted; nothing is, where none has
abbrev pub IsBareNoted : Option BareWith → List ℕ → List ℕ → Type 0
IsBareNoted None x y = y ≡ x
IsBareNoted (Some b) x y = IsEventNoted DRIVING_WITHOUT_CARD
    (fault_bytes (entry_of DRIVING_WITHOUT_CARD b.span.begin b.span.end b.begin b.end)) x y

-- a moment of noting it
abbrev pub IsNotingBare : Option BareWith → List ℕ → List ℕ → Type 0
IsNotingBare None x c = c ≡ x
IsNotingBare (Some b) x c = IsNotingEvent DRIVING_WITHOUT_CARD
    (fault_bytes (entry_of DRIVING_WITHOUT_CARD b.span.begin b.span.end b.begin b.end)) x c

-- an over speeding that has ended is noted, with the driver at its begin; nothing is, where none has
abbrev pub IsFastNoted : Option OverWith → List ℕ → List ℕ → Type 0
IsFastNoted None x y = y ≡ x
IsFastNoted (Some o) x y = IsOverNoted o.over.begin (over_bytes o.over (number_or_no_card o.begin.driver)) x y

-- a moment of noting it
abbrev pub IsNotingFast : Option OverWith → List ℕ → List ℕ → Type 0
IsNotingFast None x c = c ≡ x
IsNotingFast (Some o) x c = IsNotingOver o.over.begin (over_bytes o.over (number_or_no_card o.begin.driver)) x c

-- what has ended of both is noted, driving without a card first
pub record AreNoted (ended : Ended) (x y : List ℕ) : Type 0 where
  pub between : List ℕ
  pub bare : IsBareNoted (bare_ended ended) x between
  pub over : IsFastNoted (over_ended ended) between y

-- driving without a card is noted, and an over speeding is being noted behind it
pub record AreNotedAfter (ended : Ended) (x c : List ℕ) : Type 0 where
  pub between : List ℕ
  pub bare : IsBareNoted (bare_ended ended) x between
  pub over : IsNotingFast (over_ended ended) between c

-- a moment of noting both: no over speeding is noted before driving without a card is
abbrev pub AreBeingNoted : Ended → List ℕ → List ℕ → Type 0
AreBeingNoted ended x c = IsNotingBare (bare_ended ended) x c ⊎ AreNotedAfter ended x c

-- n seconds at one speed with these cards were fed, numbered from `first` on: what has ended with the second before
-- them
pub record IsFed (old new : Watch) (first n speed : ℕ) (crew : Crew) (ended : Ended) : Type 0 where
  pub bares : (seconds : List CrewSecond) → WatchesSpan old seconds
      → bares_with (seconds ++ seconds_with first n speed crew) ≡ bares_with seconds
      ++ option_to_list (bare_ended ended)
  pub overs : (seconds : List CrewSecond) → WatchesSpan old seconds →
      overs_with old.over.limit (seconds ++ seconds_with first n speed crew) ≡ overs_with old.over.limit seconds
      ++ option_to_list (over_ended ended)
  pub stands : (seconds : List CrewSecond) → WatchesSpan old seconds
      → WatchesSpan new (seconds ++ seconds_with first n speed crew)
  pub limit : new.over.limit ≡ old.over.limit
