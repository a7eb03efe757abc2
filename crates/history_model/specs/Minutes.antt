-- A minute of the history, and what it says on a card (profile).
use Rattle.std.specs.Prelude.{ℕ, Bool, ◌&&◌, Option, List, ◌++◌, map, filter, flat_map, nat_le, is_some, option_to_list}
use Rattle.log_model.specs.activity_codec.declared.entries.Entry.{Entry}
use Rattle.log_model.specs.activity_codec.declared.values.Activity.{Activity}
use Rattle.log_model.specs.activity_codec.declared.values.Slot.{Slot}
use Rattle.log_model.specs.activity_codec.declared.values.Slot.TheVariants.{Driver, CoDriver}
use Rattle.log_model.specs.trace_model.declared.Card.{Card}
use Rattle.log_model.specs.Slots.{same_card}

-- a slot in a minute: its activity, and the card that was present
pub record Seat : Type 0 where
  pub act : Activity
  pub card : Option Card

-- a minute of the history
pub record HistoryMinute : Type 0 where
  pub minute : ℕ
  pub driver : Seat
  pub codriver : Seat

-- CREW: both slots have a present card
abbrev pub is_crew : HistoryMinute → Bool
is_crew i = is_some i.driver.card && is_some i.codriver.card

-- the entry of a card in a slot, where it was present there
abbrev pub entry_in : Card → Slot → HistoryMinute → Seat → List Entry
entry_in card slot i seat =
    map (λ c. record { minute = i.minute; slot = slot; crew = is_crew i; act = seat.act })
    (filter (same_card card) (option_to_list seat.card))

-- what a minute says on a card
abbrev pub on_card : Card → HistoryMinute → List Entry
on_card card i = entry_in card Driver i i.driver ++ entry_in card CoDriver i i.codriver

-- the card history: what these minutes say on a card
unfoldable pub card_history : Card → List HistoryMinute → List Entry
card_history card past = flat_map (on_card card) past

-- the minutes up to one
abbrev pub up_to : ℕ → List HistoryMinute → List HistoryMinute
up_to k past = filter (λ i. nat_le i.minute k) past
