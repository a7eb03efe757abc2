-- Worked rows: which place an event takes on a card, and what is left at a moment.
use Rattle.std.proofs.Common.{◌≡◌, ℕ, List, [], ◌∷◌, inl, inr, refl}
use Rattle.std.specs.Prelude.{replicate}
use Rattle.run_events.specs.card_files.declared.card_event.CardEvent.{CardEvent}
use Rattle.run_events.specs.card_files.Events.{event_bytes}
use Rattle.run_insertion.specs.CardEvents.{noted_in, with_event, all_noted, AreBeingNoted, of_type}

abbrev event : (kind begin : ℕ) → CardEvent
event kind begin = record { kind = kind; begin = record { 0 = begin }; end = record { 0 = begin }; registration = record { 0 = replicate 15 0x20 } }

abbrev entry : (kind begin : ℕ) → List ℕ
entry kind begin = event_bytes (event kind begin)

abbrev empty : List ℕ
empty = replicate 24 0

-- the lowest empty place is taken
takes_empty : noted_in (entry 5 100 ∷ empty ∷ entry 5 50 ∷ empty ∷ []) (event 5 200) ≡ entry 5 100 ∷ entry 5 200 ∷ entry 5 50 ∷ empty ∷ []
unfolding event_bytes
takes_empty = refl

-- without one that of the earliest begin, also where the new one begins earlier
takes_earliest : noted_in (entry 8 100 ∷ entry 8 60 ∷ entry 8 50 ∷ []) (event 8 40) ≡ entry 8 100 ∷ entry 8 60 ∷ entry 8 40 ∷ []
unfolding event_bytes
takes_earliest = refl

-- and of several the lowest
takes_lowest : noted_in (entry 5 100 ∷ entry 5 60 ∷ entry 5 60 ∷ []) (event 5 200) ≡ entry 5 100 ∷ entry 5 200 ∷ entry 5 60 ∷ []
unfolding event_bytes
takes_lowest = refl

-- a session that was not closed is noted once
told_once : with_event (entry 6 100 ∷ empty ∷ []) (event 6 100) ≡ entry 6 100 ∷ empty ∷ []
unfolding event_bytes
told_once = refl

-- an insertion at the same second is not
noted_twice : with_event (entry 5 100 ∷ empty ∷ []) (event 5 100) ≡ entry 5 100 ∷ entry 5 100 ∷ []
unfolding event_bytes
noted_twice = refl

-- three in two places: the last two are kept
keeps_newest : all_noted (empty ∷ empty ∷ []) (event 8 100 ∷ event 8 200 ∷ event 8 300 ∷ []) ≡ entry 8 300 ∷ entry 8 200 ∷ []
unfolding event_bytes
keeps_newest = refl

-- of each type by itself
by_type : of_type 5 (event 6 100 ∷ event 5 200 ∷ event 8 300 ∷ event 5 400 ∷ []) ≡ event 5 200 ∷ event 5 400 ∷ []
by_type = refl

-- a moment of two notes: the first is there, and the place of the next, the earliest then, is empty
between : AreBeingNoted (entry 5 100 ∷ entry 5 50 ∷ []) (event 5 200 ∷ event 5 300 ∷ []) (empty ∷ entry 5 200 ∷ [])
unfolding event_bytes
between = inr (inr (inr (inl (refl, (empty, refl, refl)))))
