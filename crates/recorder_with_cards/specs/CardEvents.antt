-- THE EVENTS OF A RUN ON ITS CARDS: what every image that a stop may leave of a card shows of them at its end
-- (profile).
use Rattle.std.specs.Prelude.{◌≡◌, ℕ, List}
use Rattle.trace_model.specs.declared.Card.{Card}
use Rattle.tach_media.specs.Medium.{State}
use Rattle.device_calls.specs.card_files.declared.current_use.CurrentUse.{CurrentUse}
use Rattle.device_calls.specs.card_image.Fields.{current_use}
use Rattle.device_calls.specs.card_image.Own.{own_sizes, IsOwnValid}
use Rattle.device_calls.specs.event_model.Events.{seen_of}
use Rattle.device_calls.specs.safety_model.Recording.{Recording, card_image}
use Rattle.device_calls.specs.safety_model.Safe.{Devices, card_of}
use Rattle.run_acts.specs.run_note_record.Uses.{vehicle_of, uses_on, use_left}
use Rattle.run_acts.specs.OnCards.{accepted_on, met_seconds, ShowsOn, AreUses}
use Rattle.recorder_with_cards.specs.Stays.{NothingFailedOn}

-- A CARD SHOWS ITS EVENTS: at each of its acceptances a use was found on it, which an image of it told that it might
-- have left since a clock; and each image that it may leave shows, of every type, those that it had at the start with
-- those of the run, second by second: what comes to it in a second that is sure was noted, one event after another; of
-- another second each event was noted, or nothing came of it, or the one place that it takes is empty. Where no call
-- failed on this card, nor on the unit, these uses are the current one of its image at the start and those that its
-- insertions have left, and each image tells the last.
pub record CardShowsEvents (r : Recording) (c : Card) (began : Devices) (card : State) : Type 0 where
  pub uses : List CurrentUse
  pub are : AreUses (card.left_since (card_of began c).clock) uses (accepted_on c (seen_of r.log r.trace))
  pub exact : NothingFailedOn r c began → uses ≡ uses_on r c
  pub left : NothingFailedOn r c began → (x : List ℕ) → card.may_leave x
      → current_use (own_sizes (card_image r c)) x ≡ use_left r c
  pub shows : ShowsOn c (vehicle_of r.unit) (card.left_since (card_of began c).clock) uses (card_image r c) r.log
      (met_seconds r.log r.trace) card

-- so does one that was valid
abbrev pub ShowsItsEvents : Recording → Card → (began : Devices) → State → Type 0
ShowsItsEvents r c began card = IsOwnValid (card_image r c) → CardShowsEvents r c began card

-- EACH CARD SHOWS ITS EVENTS.
abbrev pub ShowTheirEvents : Recording → (began now : Devices) → Type 0
ShowTheirEvents r began now = (c : Card) → ShowsItsEvents r c began (card_of now c)
