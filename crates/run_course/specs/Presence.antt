-- Who is present in the minutes of a run: what the slots tell of it at a moment, and what each step of a run leaves of
-- that (profile).
use Rattle.std.specs.Prelude.{◌≡◌, ◌⊎◌, ◌↔◌, ℕ, ◌+◌, ◌/◌, ◌<◌, ◌≤◌, Bool, true, false, ◌||◌, Option, Some, None, List}
use Rattle.std.specs.Prelude.{[], ◌∷◌, ◌++◌, All}
use Rattle.std.specs.List.{list_any}
use Rattle.activity_codec.specs.declared.values.Slot.{Slot}
use Rattle.activity_codec.specs.declared.values.Slot.TheVariants.{Driver, CoDriver}
use Rattle.trace_model.specs.declared.Card.{Card}
use Rattle.log_model.specs.Slots.{Slots, Sitting, same_card, in_slot, is_accepted}
use Rattle.log_model.specs.Course.{ToldSecond, with_slot, powerless, card_in}
use Rattle.history_model.specs.Minutes.{HistoryMinute}
use Rattle.history_model.specs.Presence.{Start, card_start, newest_minute, in_minute, present_in as present_by_history}
use Rattle.card_slots.specs.declared.seats.Seat.{Seat}
use Rattle.card_slots.specs.declared.seats.Ended.{Ended}
use Rattle.card_slots.specs.declared.seats.Present.{Present}
use Rattle.card_slots.specs.Calls.{Agrees, present_in, is_card}
use Rattle.run_unit_course.specs.Turn.{cut_at_end}
use Rattle.card_slots.specs.Kept.{Kept, IsFree, KnowsNewest, left_in, nothing_yet, put_in, taken, cut_off, minute_ended}

-- The newest minute that a card answered in the second of its acceptance is earlier than a minute exactly where that of
-- the history is. A minute of the newest word at the start is not one in which the card is present: by its newest
-- minute, or since it left in it.
abbrev pub IsNewestAt : Start → (past : List HistoryMinute) → Kept → Card → (newest : ℕ) → (second : ℕ) → Type 0
IsNewestAt start past kept card newest u = (m : ℕ) → u / 60 ≤ m →
    ((card_start start card).word < m → (newest < m) ↔ (newest_minute start past card u < m))
    × (m ≤ (card_start start card).word → (m ≤ newest) ⊎ (left_in kept.left card m ≡ true))

-- a card is accepted in both or in neither; its acceptance is not later than the first minute that may still be kept
abbrev pub IsNewest : Start → List HistoryMinute → (from : ℕ) → Kept → Card → Option ℕ → Option ℕ → Type 0
IsNewest start past from kept card None None = Unit {0}
IsNewest start past from kept card None (Some u) = ⊥
IsNewest start past from kept card (Some newest) None = ⊥
IsNewest start past from kept card (Some newest) (Some u) = (u / 60 ≤ from) × IsNewestAt start past kept card newest u

-- a slot has the card that the log tells, accepted alike
abbrev pub SitsAs : Start → List HistoryMinute → (from : ℕ) → Kept → Option Seat → Option Sitting → Type 0
SitsAs start past from kept None None = Unit {0}
SitsAs start past from kept None (Some sitting) = ⊥
SitsAs start past from kept (Some seat) None = ⊥
SitsAs start past from kept (Some seat) (Some sitting) =
    (seat.card ≡ sitting.card) × IsNewest start past from kept seat.card seat.newest sitting.accepted

-- the cards that were present in a minute, by the history
abbrev pub present_at : Start → List ToldSecond → List HistoryMinute → ℕ → Present
present_at start told past m =
    record {
      driver = present_by_history start told past m Driver;
      codriver = present_by_history start told past m CoDriver;
    }

-- minutes that have ended fall, and are earlier than this one
abbrev pub Falls : ℕ → List Ended → Type 0
Falls minute [] = Unit {0}
Falls minute (e ∷ past) = (e.minute < minute) × Falls e.minute past

-- a card left in this minute, in these seconds or now
abbrev pub has_left : List Card → List ToldSecond → Card → ℕ → Bool
has_left left told card m = list_any (same_card card) left
    || list_any (λ t. list_any (same_card card) t.course.left) (in_minute m told)

-- At a moment of the second of this number, behind these seconds and with these slots and leavings in it: the slots
-- have the cards of the course, who left in the minute is known, and so is who was present in each earlier minute from
-- `from` on, whatever minutes from `from` on are kept.
pub record SlotsTell (start : Start) (told : List ToldSecond) (past : List HistoryMinute) (left : List Card)
    (number from : ℕ) (slots : Slots) (kept : Kept) : Type 0 where
  pub driver : SitsAs start past from kept kept.seats.driver slots.driver
  pub codriver : SitsAs start past from kept kept.seats.codriver slots.codriver
  pub apart : (card : Card) → is_card kept.seats.driver card ≡ true → is_card kept.seats.codriver card ≡ false
  pub gone : (card : Card) → left_in kept.left card (number / 60) ≡ has_left left told card (number / 60)
  pub latest : (card : Card) (m : ℕ) → left_in kept.left card m ≡ true → m ≤ number / 60
  pub ended : (m : ℕ) → from ≤ m → m < number / 60 → (more : List HistoryMinute) → All (λ i. from ≤ i.minute) more →
      present_in kept.past m ≡ Some (present_at start told (past ++ more) m)
  pub so_far : All (λ t. t.second.number ≤ number) told
  pub falls : Falls kept.minute kept.past
  pub newest : KnowsNewest kept
  pub minute : kept.minute ≤ number / 60

-- the last of these seconds has this number, and left these slots
pub record EndsWith (told : List ToldSecond) (number : ℕ) (slots : Slots) : Type 0 where
  pub front : List ToldSecond
  pub last : ToldSecond
  pub are : told ≡ front ++ last ∷ []
  pub number_is : last.second.number ≡ number
  pub slots_are : last.course.slots ≡ slots

-- WHAT IS HAD OF IT: the slots refuse as the course does,
abbrev pub SlotsAgree : Type 0
SlotsAgree = (start : Start) (told : List ToldSecond) (past : List HistoryMinute) (left : List Card) (number from : ℕ)
    (slots : Slots) (k : Kept) →
    SlotsTell start told past left number from slots k → Agrees k.seats slots

-- and tell of each ended minute that may still be kept who was present in it, as the history does.
abbrev pub SlotsTellWhoIsPresent : Type 0
SlotsTellWhoIsPresent = (start : Start) (told : List ToldSecond) (past : List HistoryMinute) (left : List Card)
    (number from : ℕ) (slots : Slots) (k : Kept) →
    SlotsTell start told past left number from slots k → (m : ℕ) → from ≤ m → m < number / 60 →
    present_in k.past m ≡ Some (present_at start told past m)

-- AT THE START nobody sits.
abbrev pub NobodySits : Type 0
NobodySits = (start : Start) (past : List HistoryMinute) (number from : ℕ) → number / 60 ≤ from →
    SlotsTell start [] past [] number from (record { driver = None; codriver = None }) nothing_yet

-- A CARD IS PUT into a free slot, or is accepted in the one where it sits: with the second of this one, where all
-- minutes before that are kept.
abbrev pub ACardIsPutIn : Type 0
ACardIsPutIn = (start : Start) (told : List ToldSecond) (past : List HistoryMinute) (left : List Card) (number from : ℕ)
    (slots : Slots) (k : Kept) →
    SlotsTell start told past left number from slots k → (slot : Slot) (card : Card) (newest accepted : Option ℕ)
    → IsFree k.seats slot card →
    IsNewest start past from k card newest accepted →
    SlotsTell start told past left number from
    (with_slot slots slot (Some (record { card = card; accepted = accepted }))) (put_in slot card newest k)

-- A CARD LEAVES its slot: it is withdrawn, pulled or torn out.
abbrev pub ACardIsTakenOut : Type 0
ACardIsTakenOut = (start : Start) (told : List ToldSecond) (past : List HistoryMinute) (left : List Card)
    (number from : ℕ) (slots : Slots) (k : Kept) →
    SlotsTell start told past left number from slots k → (slot : Slot) →
    SlotsTell start told past (left ++ card_in (in_slot slots slot)) number from (with_slot slots slot None)
    (taken slot number k)

-- POWER IS LOST: every card leaves, and sits there.
abbrev pub PowerIsLost : Type 0
PowerIsLost = (start : Start) (told : List ToldSecond) (past : List HistoryMinute) (left : List Card) (number from : ℕ)
    (slots : Slots) (k : Kept) →
    SlotsTell start told past left number from slots k →
    SlotsTell start told past (left ++ card_in slots.driver ++ card_in slots.codriver) number from
    (record { driver = powerless slots.driver; codriver = powerless slots.codriver }) (cut_off number k)

-- A SECOND HAS GONE, with these leavings and slots at its end.
abbrev pub ASecondHasGone : Type 0
ASecondHasGone = (start : Start) (told : List ToldSecond) (past : List HistoryMinute) (from : ℕ) (t : ToldSecond)
    (k : Kept) →
    SlotsTell start told past t.course.left t.second.number from t.course.slots k →
    SlotsTell start (told ++ t ∷ []) past [] t.second.number from t.course.slots k

-- THE LAST SECOND TURNS OUT TO BE A CUT'S, as an `off` line says: power is lost behind all of it.
abbrev pub TheLastSecondIsCut : Type 0
TheLastSecondIsCut = (start : Start) (told : List ToldSecond) (past : List HistoryMinute) (from : ℕ) (t : ToldSecond)
    (k : Kept) →
    SlotsTell start (told ++ t ∷ []) past [] t.second.number from t.course.slots k →
    SlotsTell start (told ++ cut_at_end t ∷ []) past [] t.second.number from (cut_at_end t).course.slots
    (cut_off t.second.number k)

-- The next second of THE SAME MINUTE begins.
abbrev pub TheMinuteGoesOn : Type 0
TheMinuteGoesOn = (start : Start) (told : List ToldSecond) (past : List HistoryMinute) (left : List Card)
    (number later from : ℕ) (slots : Slots) (k : Kept) →
    SlotsTell start told past left number from slots k → number ≤ later → later / 60 ≡ number / 60 →
    SlotsTell start told past left later from slots k

-- A MINUTE ENDS: who is present in it is told as the history does.
abbrev pub AMinuteEnds : Type 0
AMinuteEnds = (start : Start) (told : List ToldSecond) (past : List HistoryMinute) (number later from : ℕ)
    (slots : Slots) (k : Kept) →
    SlotsTell start told past [] number from slots k → EndsWith told number slots → later / 60 ≡ number / 60 + 1 →
    from ≤ number / 60 → number / 60 ≤ from + 3 →
    SlotsTell start told past [] later from slots (minute_ended (number / 60) k)

-- TIME PASSES in which no minute is kept, as without power.
abbrev pub TimePasses : Type 0
TimePasses = (start : Start) (told : List ToldSecond) (past : List HistoryMinute) (number later from next : ℕ)
    (slots : Slots) (k : Kept) →
    SlotsTell start told past [] number from slots k → number ≤ later → from ≤ next → later / 60 ≤ next →
    SlotsTell start told past [] later next slots k

-- MINUTES ARE KEPT, or need not be any more.
abbrev pub MinutesAreKept : Type 0
MinutesAreKept = (start : Start) (told : List ToldSecond) (past : List HistoryMinute) (left : List Card)
    (number from next : ℕ) (slots : Slots) (k : Kept) →
    SlotsTell start told past left number from slots k → (more : List HistoryMinute) → All (λ i. from ≤ i.minute) more
    → from ≤ next →
    SlotsTell start told (past ++ more) left number next slots k

-- WHAT WAS KEPT IS FOUND at a power-on, before a card is accepted.
abbrev pub WhatWasKeptIsFound : Type 0
WhatWasKeptIsFound = (start : Start) (told : List ToldSecond) (past found : List HistoryMinute) (left : List Card)
    (number from next : ℕ) (slots : Slots) (k : Kept) →
    SlotsTell start told past left number from slots k → is_accepted slots.driver ≡ false
    → is_accepted slots.codriver ≡ false →
    number / 60 ≤ next → SlotsTell start told found left number next slots k
