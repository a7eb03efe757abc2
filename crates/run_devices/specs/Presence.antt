-- How the cards stand that were present in the minutes that are still to be kept (profile).
use Rattle.std.specs.Prelude.{◌≡◌, ◌⊎◌, ℕ, ◌+◌, ◌*◌, ◌/◌, ◌<◌, ◌≤◌, true, false, Option, Some, None, List, [], ◌∷◌}
use Rattle.std.specs.Prelude.{◌++◌, Contains, is_some}
use Rattle.device_calls.specs.activity_codec.declared.values.Slot.{Slot}
use Rattle.device_calls.specs.trace_model.declared.Card.{Card}
use Rattle.run_crew.specs.log_model.Slots.{Sitting, in_slot}
use Rattle.run_crew.specs.log_model.Course.{ToldSecond, Course, Visit, fresh}
use Rattle.device_calls.specs.history_model.Minutes.{HistoryMinute, on_card}
use Rattle.device_calls.specs.history_model.Presence.{Start, card_start}
use Rattle.device_calls.specs.card_image.Own.{IsOwnValid}
use Rattle.device_calls.specs.device_rule.Rules.{Standing, In, Torn, IsPresent}
use Rattle.run_crew.specs.card_slots.declared.seats.Present.{Present}
use Rattle.run_crew.specs.card_slots.Calls.{present_in}
use Rattle.run_crew.specs.card_slots.Kept.{KnowsNewest}
use Rattle.run_crew.specs.declared.cabin.Cabin.{Cabin}
use Rattle.run_crew.specs.declared.cards.Accepted.{Accepted}
use Rattle.run_crew.specs.declared.cards.Cards.{Cards}
use Rattle.run_crew.specs.Cards.{session_of}
use Rattle.run_crew.specs.Cabin.{CabinIsSound, with_minute_ended}
use Rattle.run_promise.specs.Found.{Found, found_of}
use Rattle.run_promise.specs.run_course.Presence.{SlotsTell}
use Rattle.run_promise.specs.run_course.Kept.{BrokenSince, StaysOut}

-- a card was present in one of the slots
abbrev pub IsIn : Present → Card → Type 0
IsIn present card = (present.driver ≡ Some card) ⊎ (present.codriver ≡ Some card)

-- A CARD THAT WAS PRESENT in a minute: it was valid, it stands so that the minute may come, and it has its session, or
-- was torn out or pulled out since the minute's end.
pub record StandsIn (f : Found) (standing : Card → Standing) (cards : Cards) (told : List ToldSecond) (c : Course)
    (number m : ℕ) (card : Card) : Type 0 where
  pub valid : IsOwnValid (found_of f card).image
  pub present : IsPresent (found_of f card).start (standing card) m
  pub session : (is_some (session_of cards card) ≡ true) ⊎ BrokenSince told c card (60 * (m + 1)) number

-- a card that was accepted in a second, and sits there: it was valid, and stands so
abbrev pub IsSeated : Found → (Card → Standing) → Card → ℕ → Type 0
IsSeated f standing card u = IsOwnValid (found_of f card).image × ((n : ℕ) × (standing card ≡ In u n))

-- a card that sits in its slot since its acceptance in this second
abbrev pub sits : Card → ℕ → Option Sitting
sits card u = Some (record { card = card; accepted = Some u })

-- AT A MOMENT of a second of this number, behind these seconds and with this course: the accepted cards sit so, and so
-- stand all that were present in the minutes that have ended, those before `from` aside.
pub record PresentStand (f : Found) (standing : Card → Standing) (told : List ToldSecond) (c : Course) (number from : ℕ)
    (cabin : Cabin) : Type 0 where
  pub seated : (slot : Slot) (card : Card) (u : ℕ) → in_slot c.slots slot ≡ sits card u → IsSeated f standing card u
  pub ended : (m : ℕ) (present : Present) (card : Card) → from ≤ m → present_in cabin.slots.past m ≡ Some present
      → IsIn present card → StandsIn f standing cabin.cards told c number m card

-- NO MINUTE that has ended is to be kept, as behind a settling and at a power-on.
abbrev pub NoneIsToBeKept : Type 0
NoneIsToBeKept = (f : Found) (standing : Card → Standing) (told : List ToldSecond) (c : Course) (number : ℕ)
    (cabin : Cabin) → KnowsNewest cabin.slots → cabin.slots.minute ≤ number / 60 →
    ((slot : Slot) (card : Card) (u : ℕ) → in_slot c.slots slot ≡ sits card u → IsSeated f standing card u)
    → PresentStand f standing told c number (number / 60) cabin

-- a valid card that has a session stands as accepted, with the newest minute of the session
abbrev pub SessionsStand : Found → (Card → Standing) → Cards → Type 0
SessionsStand f standing cards = (card : Card) (a : Accepted) → IsOwnValid (found_of f card).image
    → session_of cards card ≡ Some a → (t : ℕ) × (standing card ≡ In t a.session.minute)

-- A MINUTE ENDS: who is present in it stands so.
abbrev pub AMinuteEndsSo : Type 0
AMinuteEndsSo = (f : Found) (start : Start) → ((card : Card) → (found_of f card).start ≡ card_start start card) →
    (standing : Card → Standing) (told : List ToldSecond) (c : Course) (past : List HistoryMinute) (left : List Card)
    (number later from : ℕ) (cabin : Cabin) →
    PresentStand f standing told c number from cabin → SlotsTell start told past left number from c.slots cabin.slots
    → CabinIsSound from None cabin → SessionsStand f standing cabin.cards →
    from ≤ number / 60 → number ≤ later
    → PresentStand f standing told c later from (with_minute_ended (number / 60) cabin)

-- what becomes of a card in a step: it stands as it did, and has its session still if it had one;
abbrev pub StaysSo : (old new : Card → Standing) → (cards after : Cards) → Card → Type 0
StaysSo old new cards after card = (new card ≡ old card)
    × (is_some (session_of cards card) ≡ true → is_some (session_of after card) ≡ true)

-- or it has a minute more, and its session;
pub record HasMore (from : ℕ) (old new : Card → Standing) (after : Cards) (card : Card) : Type 0 where
  pub time : ℕ
  pub before : ℕ
  pub minute : ℕ
  pub was : old card ≡ In time before
  pub is : new card ≡ In time minute
  pub kept : minute < from
  pub session : is_some (session_of after card) ≡ true

-- or it is torn out, where at most the minutes from this one on are to be kept
pub record IsTornOut (number from : ℕ) (old new : Card → Standing) (c : Course) (card : Card) : Type 0 where
  pub time : ℕ
  pub before : ℕ
  pub newest : ℕ
  pub floor : ℕ
  pub was : old card ≡ In time before
  pub is : new card ≡ Torn time newest floor
  pub low : (newest ≤ before) ⊎ (newest < from)
  pub from_ : floor ≤ from
  pub few : number / 60 ≤ floor + 4
  pub out : Visit
  pub card_is : out.card ≡ card
  pub told : Contains c.torn out ⊎ Contains c.pulled out

-- A STEP within a second: minutes are kept, cards are torn out, or taken out.
abbrev pub AStepLeavesSo : Type 0
AStepLeavesSo = (f : Found) (old new : Card → Standing) (told : List ToldSecond) (c d : Course) (number from next : ℕ)
    (cabin after : Cabin) → PresentStand f old told c number from cabin →
    KnowsNewest cabin.slots → cabin.slots.minute ≤ number / 60 → from ≤ next → after.slots.past ≡ cabin.slots.past
    → StaysOut c d →
    ((card : Card) → StaysSo old new cabin.cards after.cards card
    ⊎ (HasMore next old new after.cards card ⊎ IsTornOut number next old new d card)) →
    ((slot : Slot) (card : Card) (u : ℕ) → in_slot d.slots slot ≡ sits card u
    → (in_slot c.slots slot ≡ sits card u)
    × (StaysSo old new cabin.cards after.cards card ⊎ HasMore next old new after.cards card)) →
    PresentStand f new told d number next after

-- THE NEXT SECOND begins, behind this one.
abbrev pub TheNextBeginsSo : Type 0
TheNextBeginsSo = (f : Found) (standing : Card → Standing) (told : List ToldSecond) (t : ToldSecond)
    (number later from : ℕ) (cabin : Cabin) → t.second.number ≡ number → number ≤ later →
    PresentStand f standing told t.course number from cabin
    → PresentStand f standing (told ++ t ∷ []) (fresh false t.course.slots) later from cabin

-- WHAT A MINUTE SAYS on a card: nothing, or that stands so.
abbrev pub WhatAMinuteSays : Type 0
WhatAMinuteSays = (f : Found) (standing : Card → Standing) (told : List ToldSecond) (c : Course) (number from : ℕ)
    (cabin : Cabin) → PresentStand f standing told c number from cabin →
    (i : HistoryMinute) (present : Present) → from ≤ i.minute → present_in cabin.slots.past i.minute ≡ Some present
    → i.driver.card ≡ present.driver → i.codriver.card ≡ present.codriver → (card : Card) →
    (on_card card i ≡ []) ⊎ StandsIn f standing cabin.cards told c number i.minute card
