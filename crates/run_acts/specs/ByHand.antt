-- An entry by hand of a run, by value: why the session of the slot's card stops it, and what it changes (profile).
use Rattle.std.specs.Prelude.{ℕ, Option, Some, None, option_map, [], ◌∷◌, ◌++◌}
use Rattle.activity_codec.specs.declared.values.Slot.{Slot}
use Rattle.activity_codec.specs.declared.values.Pick.{Pick}
use Rattle.activity_codec.specs.declared.entries.Manual.{Manual}
use Rattle.activity_codec.specs.Activity.{activity_of}
use Rattle.trace_model.specs.declared.Card.{Card}
use Rattle.hand_model.specs.Holding.{stopped_by}
use Rattle.log_model.specs.declared.lines.SlotFault.{SlotFault}
use Rattle.log_model.specs.ByHand.{minute_on}
use Rattle.log_model.specs.Slots.{refusal}
use Rattle.trace_model.specs.declared.Action.{Action}
use Rattle.trace_model.specs.declared.Action.TheVariants.{Select, Insert, Withdraw, Tear, Place, Manual as EntryByHand}
use Rattle.run_crew.specs.card_slots.Calls.{seat_in, card_in, logged}
use Rattle.run_crew.specs.declared.cards.Accepted.{Accepted}
use Rattle.run_crew.specs.declared.cards.Cards.{Cards}
use Rattle.run_crew.specs.declared.cabin.Cabin.{Cabin}
use Rattle.run_crew.specs.Cards.{session_of, with_session}
use Rattle.run_minutes.specs.Keeping.{session_at}
use Rattle.run_acts.specs.declared.run.Run.{Run}
use Rattle.run_acts.specs.Power.{with_cabin}
use Rattle.run_record.specs.Within.{stop_told}

-- the session of the card in a slot, if it has one
abbrev pub session_in : Slot → Cabin → Option Accepted
session_in slot cabin = session_at cabin.cards (card_in (seat_in cabin.slots.seats slot))

-- WHY IT IS STOPPED, if it is: by what the session holds, the card's newest minute, and the minute from which on it is
-- to count
abbrev pub stop_in : Option Accepted → (minute : ℕ) → Option SlotFault
stop_in None minute = None
stop_in (Some a) minute = option_map stop_told (stopped_by a.held a.session.minute minute)

-- why an entry of a minute of the day is stopped, by the session of the card in this slot
abbrev pub stop_of : Slot → (minute : ℕ) → Run → Option SlotFault
stop_of slot minute run = stop_in (session_in slot run.keeper.cabin) (minute_on run.next minute)

-- an entry by hand in a slot, of this activity, from this minute on
abbrev pub entry_from : Slot → Pick → (minute : ℕ) → Manual
entry_from slot pick minute = record { minute = minute; slot = slot; act = activity_of pick }

-- a session that holds an entry by hand more
abbrev pub holding : Manual → Accepted → Accepted
holding e a = record a { held = record a.held { entries = a.held.entries ++ e ∷ [] } }

-- what is known of the cards, where the session of one of them holds it, if it has one
abbrev pub cards_holding : Manual → Card → Cards → Cards
cards_holding e card cards = with_session card (option_map (holding e) (session_of cards card)) cards

-- slots and sessions, where that of the slot's card holds it
abbrev pub cabin_holding : Manual → Option Card → Cabin → Cabin
cabin_holding e None cabin = cabin
cabin_holding e (Some card) cabin = record cabin { cards = cards_holding e card cabin.cards }

-- THE RUN BEHIND IT: the session of the slot's card holds it, and nothing else has changed
abbrev pub entered_run : Slot → Pick → (minute : ℕ) → Run → Run
entered_run slot pick minute run = with_cabin
    (cabin_holding (entry_from slot pick (minute_on run.next minute))
    (card_in (seat_in run.keeper.cabin.slots.seats slot)) run.keeper.cabin) run

-- the first cause, or else the other
abbrev pub or_else : Option SlotFault → Option SlotFault → Option SlotFault
or_else None other = other
or_else (Some fault) other = Some fault

-- why an action is stopped by a session: only an entry by hand is
abbrev pub stop_by : Action → Run → Option SlotFault
stop_by (Select slot pick) run = None
stop_by (Insert slot card) run = None
stop_by (Withdraw slot) run = None
stop_by (Tear slot) run = None
stop_by (Place slot ending country region) run = None
stop_by (EntryByHand slot pick minute) run = stop_of slot minute run

-- WHY AN ACTION IS REFUSED while there is power: by slots and speed, or else, if it is an entry by hand, by the session
-- of the slot's card
abbrev pub stopped_in : Run → (speed : ℕ) → Action → Option SlotFault
stopped_in run speed action = or_else (refusal (logged run.keeper.cabin.slots.seats) speed action) (stop_by action run)
