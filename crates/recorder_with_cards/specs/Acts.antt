-- What judging, inserting, acting and waking do, leave and promise, each in a few records (profile).
use Rattle.std.specs.Prelude.{ℕ, ◌*◌, ◌+◌, ◌≡◌, ◌≤◌, Bool, IfErr, IfOk, List, None, OnOk, Result, false, is_some}
use Rattle.std.specs.Prelude.{length, true, Some, ◌<◌, IfSome}
use Rattle.activity_codec.specs.declared.values.Slot.{Slot}
use Rattle.run_minutes.specs.card_slots.Calls.{card_in, seat_in, is_card}
use Rattle.log_model.specs.Causes.{cuts}
use Rattle.log_model.specs.Slots.{other_slot}
use Rattle.log_model.specs.declared.lines.Break.{Break}
use Rattle.run_acts.specs.ByHand.{stopped_in}
use Rattle.run_acts.specs.Evented.{EventsAction}
use Rattle.run_acts.specs.Going.{IsFoundLater, IsInsideSecond, largest_number, end_of_seconds}
use Rattle.run_acts.specs.Power.{has_power, is_lit}
use Rattle.run_acts.specs.Recording.{RecordsAction, log_of}
use Rattle.run_acts.specs.Room.{bare_count, bare_seats, HasRoom, HasRoomWithin, falls_of}
use Rattle.run_acts.specs.RunCards.{CardsAction}
use Rattle.run_acts.specs.Stood.{StandsAction}
use Rattle.run_acts.specs.RunRinged.{RingsAction}
use Rattle.run_acts.specs.declared.run.Power.TheVariants.{Lit}
use Rattle.run_acts.specs.declared.run.Run.{Run}
use Rattle.run_insertion.specs.declared.lines.Entering.{Entering as Enters}
use Rattle.run_minutes.specs.Keeping.{with_lines}
use Rattle.run_minutes.specs.Later.{AreAfter, AreCalm, AreLater, IsCalm, IsLater}
use Rattle.run_minutes.specs.Writes.{WroteAtMost}
use Rattle.run_minutes.specs.declared.keeper.Moment.{Moment}
use Rattle.run_opening.specs.declared.fault.RunFault.{RunFault}
use Rattle.run_outcome.specs.Broken.{BreaksDown, failed_cuts}
use Rattle.run_outcome.specs.declared.outcome.Outcome.{Outcome}
use Rattle.run_outcome.specs.declared.outcome.TheConstants.{MOST_OWED}
use Rattle.run_acts.specs.run_speeds.Speeds.{LeavesSpeeds}
use Rattle.device_calls.specs.safety_model.Safe.{Devices}
use Rattle.tach_media.specs.Medium.{State}
use Rattle.tach_media.specs.card_layout.declared.command.CardState.{CardState}
use Rattle.tach_media.specs.declared.fault.Failed.{Failed}
use Rattle.trace_model.specs.declared.Action.{Action}
use Rattle.trace_model.specs.declared.Action.TheVariants.{Insert}
use Rattle.trace_model.specs.declared.Card.{Card}
use Rattle.trace_model.specs.declared.Item.{Item}
use Rattle.recorder_with_cards.specs.Accepting.{IsAccepted, IsAnew, IsEnteringNow, IsInserted, IsOdometerNow, IsBare}
use Rattle.recorder_with_cards.specs.Acting.{AreActed, IsActed, IsActedBy, IsDone, IsFine, IsItemActed, IsSelected}
use Rattle.recorder_with_cards.specs.Acting.{StaysIn, refusal_lines, refused_by}
use Rattle.recorder_with_cards.specs.Carded.{BeginsCarded, CardsActions, CardsItem, CardsMore, CardsSeconds}
use Rattle.recorder_with_cards.specs.CardsWoken.{CardsPowering, CardsResuming, StandsResuming}
use Rattle.recorder_with_cards.specs.EnteredRings.{IsJudgedRinging, RingsAnew, RingsDone, RingsInserting, RingsJudging}
use Rattle.recorder_with_cards.specs.Judged.{EventsAnew, EventsJudged, JudgesAnew, JudgesSo}
use Rattle.recorder_with_cards.specs.JudgedCards.{CardsAnew, CardsJudged}
use Rattle.recorder_with_cards.specs.JudgedRings.{RingsEntering, RingsJudged, RingsJudgedAnew}
use Rattle.recorder_with_cards.specs.Noting.{IsJudgedNoting, NotesAnew, NotesDone, NotesInserting, NotesJudging}
use Rattle.recorder_with_cards.specs.Noting.{NotesPowerOn}
use Rattle.recorder_with_cards.specs.Recorded.{BeginsRinged, RingsActions, RingsItem, RingsMore, RingsSeconds}
use Rattle.recorder_with_cards.specs.Recorded.{actions_in}
use Rattle.recorder_with_cards.specs.Waking.{IsAwake}
use Rattle.recorder_with_cards.specs.Woken.{EventsResuming, EventsWaking, ResumesSo, RingsResuming, RingsWaking}
use Rattle.recorder_with_cards.specs.Woken.{WakesSo}
use Rattle.recorder_with_cards.specs.Writes.{WritesFor, WritesIn, WritesBetween, powered, powered_by}
use Rattle.unit_minutes.specs.declared.notes.Notes.{Notes}
use Rattle.minute_rules.specs.minute_model.declared.Rule.{Rule}
use Rattle.run_opening.specs.Units.{IsLoaded}
use Rattle.unit_minutes.specs.unit_model.Image.{IsUnit}
use Rattle.unit_minutes.specs.unit_model.Versions.{rule_of}

-- A CARD THAT SITS IN A SLOT WAS JUDGED: what became of it, and nothing else has changed
pub record AcceptsIn (slot : Slot) (card : Card) (at : Moment) (speed : ℕ) (old new : Run)
    (before after : Outcome) : Type 0 where
  pub enters : (e : Enters) × IsEnteringNow slot card at speed old e × IsAccepted e old new before after
  pub run : new ≡ record old { keeper = new.keeper; noted = new.noted }
  pub refused : after.refused ≡ before.refused
  pub beside : seat_in new.keeper.cabin.slots.seats (other_slot slot)
      ≡ seat_in old.keeper.cabin.slots.seats (other_slot slot)

-- THERE IS ROOM for the marks of what so many cards are owed
abbrev pub HasRoomForOwed : (cards : ℕ) → Outcome → Type 0
HasRoomForOwed cards o = length o.marks.items + MOST_OWED * cards ≤ o.marks.room

-- WHAT A RUN PROMISES goes on as the card is judged: its record, the events of the unit, its rings, the events of the
-- cards
pub record PromisesAccepting (slot : Slot) (card : Card) (at : Moment) (speed : ℕ) (failed : Bool) (old new : Run)
    (before after : Outcome) (d e : Devices) : Type 0 where
  pub recorded : JudgesSo slot card at failed old new before after d e
  pub evented : EventsJudged slot card at speed failed old new before after d e
  pub ringed : RingsJudged slot card at failed old new before after d e
  pub cards : CardsJudged slot card at speed failed old before after d e

-- WHAT THAT LEAVES ON THE DEVICES: entries in the rings of the unit, and what is noted
pub record LeavesAccepted (slot : Slot) (card : Card) (at : Moment) (speed : ℕ) (failed : Bool) (old new : Run)
    (before after : Outcome) (d e : Devices) : Type 0 where
  pub rings : RingsJudging slot card at speed failed old new before after d.unit e.unit
  pub noted : NotesJudging slot card at speed failed old new before after d e

-- THE DEVICES GO ON: no clock and no count falls, none breaks down but in a call that failed, and no card without the
-- line of a tear; and so many writes at most were begun
pub record DevicesGo (on_unit on_card : ℕ) (before after : List Break) (d e : Devices) : Type 0 where
  pub later : AreLater d e
  pub calm : AreCalm before after d e
  pub most : WroteAtMost on_unit on_card d e

-- SO IT IS where the card of a slot is judged anew, if one sits there without a session
pub record AcceptsAnew (slot : Slot) (at : Moment) (speed : ℕ) (old new : Run) (before after : Outcome) : Type 0 where
  pub enters : IsAnew (card_in (seat_in old.keeper.cabin.slots.seats slot)) slot at speed old new before after
  pub run : new ≡ record old { keeper = new.keeper; noted = new.noted }
  pub refused : after.refused ≡ before.refused
  pub beside : seat_in new.keeper.cabin.slots.seats (other_slot slot)
      ≡ seat_in old.keeper.cabin.slots.seats (other_slot slot)

-- WHAT A RUN PROMISES goes on as the card of a slot, if there is one, is judged anew: its record, the events of the
-- unit, its rings, the events of the cards
pub record PromisesAnew (slot : Slot) (at : Moment) (speed : ℕ) (failed : Bool) (old new : Run) (before after : Outcome)
    (d e : Devices) : Type 0 where
  pub recorded : JudgesAnew (card_in (seat_in old.keeper.cabin.slots.seats slot)) slot at failed old new before after d
      e
  pub evented : EventsAnew (card_in (seat_in old.keeper.cabin.slots.seats slot)) slot at speed failed old new before
      after d e
  pub ringed : RingsJudgedAnew (card_in (seat_in old.keeper.cabin.slots.seats slot)) slot at failed old new before after
      d e
  pub cards : CardsAnew (card_in (seat_in old.keeper.cabin.slots.seats slot)) slot at speed failed old before after d e

-- WHAT JUDGING IT ANEW LEAVES ON THE DEVICES: entries in the rings of the unit, and what is noted
pub record LeavesAnew (slot : Slot) (at : Moment) (speed : ℕ) (failed : Bool) (old new : Run) (before after : Outcome)
    (d e : Devices) : Type 0 where
  pub rings : RingsAnew (card_in (seat_in old.keeper.cabin.slots.seats slot)) slot at speed failed old new before after
      d.unit e.unit
  pub noted : NotesAnew (card_in (seat_in old.keeper.cabin.slots.seats slot)) slot at speed failed old new before after
      d e

-- A CARD IS PUT INTO A SLOT, the minutes before are kept, and it is judged; nothing else has changed
pub record Inserts (slot : Slot) (card : Card) (at : Moment) (speed : ℕ) (failed : Bool) (old new : Run)
    (before after : Outcome) : Type 0 where
  pub enters : IsInserted slot card at speed failed old new before after
  pub run : new ≡ record old { minutes = new.minutes; keeper = new.keeper; noted = new.noted }
  pub refused : after.refused ≡ before.refused

-- THERE IS ROOM for the marks of the minutes that wait, and of what a card that is put in is owed
abbrev pub HasRoomToInsert : Run → Outcome → Type 0
HasRoomToInsert run o = length o.marks.items + 3 * run.minutes.owing + MOST_OWED ≤ o.marks.room

-- WHAT A RUN PROMISES goes on as a card is put in: its record, the events of the unit, its rings, the events of the
-- cards, and what stood on the cards
pub record PromisesInsertion (slot : Slot) (card : Card) (at : Moment) (speed : ℕ) (failed : Bool) (old new : Run)
    (before after : Outcome) (d e : Devices) : Type 0 where
  pub recorded : RecordsAction (Insert slot card) at.begun speed failed old new before after d e
  pub evented : EventsAction (Insert slot card) at.begun speed failed old new before after d e
  pub ringed : RingsAction (Insert slot card) at.begun speed failed old new before after d e
  pub cards : CardsAction (Insert slot card) at.begun speed failed old before after d e
  pub stands : StandsAction (Insert slot card) at.begun speed old before d e

-- WHAT AN INSERTION LEAVES ON THE DEVICES: entries in the rings of a unit that tells its image, and what is noted
pub record LeavesInserted (slot : Slot) (card : Card) (at : Moment) (speed : ℕ) (failed : Bool) (old new : Run)
    (before after : Outcome) (d e : Devices) : Type 0 where
  pub rings : is_some d.unit.image ≡ true → RingsInserting slot card at speed failed old new before after d.unit e.unit
  pub noted : NotesInserting slot card at speed failed old new before after d e

-- AN ACTION IS CARRIED OUT: what it did, and what it leaves as it was
pub record CarriesOut (action : Action) (at : Moment) (speed : ℕ) (failed : Bool) (old new : Run)
    (before after : Outcome) : Type 0 where
  pub action_done : IsDone action at speed failed old new before after
  pub selected : IsSelected action old new
  pub fine : IsFine action failed
  pub stays : StaysIn old new
  pub refused : after.refused ≡ before.refused

-- WHAT A RUN PROMISES goes on with an action: its record, the events of the unit, its rings, the events of the cards,
-- and what stood on the cards
pub record PromisesAction (action : Action) (begun speed : ℕ) (failed : Bool) (old new : Run) (before after : Outcome)
    (d e : Devices) : Type 0 where
  pub recorded : RecordsAction action begun speed failed old new before after d e
  pub evented : EventsAction action begun speed failed old new before after d e
  pub ringed : RingsAction action begun speed failed old new before after d e
  pub cards : CardsAction action begun speed failed old before after d e
  pub stands : StandsAction action begun speed old before d e

-- WHAT AN ACTION LEAVES ON THE DEVICES: what is noted, and entries in the rings of a unit that tells its image
pub record LeavesDone (action : Action) (at : Moment) (speed : ℕ) (failed : Bool) (old new : Run)
    (before after : Outcome) (d e : Devices) : Type 0 where
  pub events : NotesDone action at speed failed old new before after d e
  pub rings : is_some d.unit.image ≡ true → RingsDone action at speed failed old new before after d.unit e.unit

-- AN ACTION WITH POWER: it is refused, or carried out; and what it leaves as it was
pub record ActsLit (action : Action) (begun speed : ℕ) (old new : Run) (before after : Outcome) : Type 0 where
  pub done : IsActedBy (stopped_in old speed action) action begun speed old new before after
  pub refused : after.refused ≡ with_lines (refusal_lines (stopped_in old speed action) old.next begun) before.refused
  pub none : (stopped_in old speed action ≡ None → ⊥) → new ≡ old
  pub selected : IsSelected action old new
  pub next : new.next ≡ old.next
  pub unfound : new.unfound ≡ old.unfound

-- WHAT A RUN PROMISES goes on with these actions: its record with the events and the rings, and the events of the cards
pub record PromisesActions (actions : List Action) (begun speed : ℕ) (old new : Run) (before after : Outcome)
    (d e : Devices) : Type 0 where
  pub ringed : RingsActions actions begun speed old new before after d e
  pub cards : CardsActions actions begun speed old new before after d e

-- ALL GOES ON over the actions of a second, and the unit broke down where the power is lost, and nowhere else; and so
-- many writes at most were begun
pub record ActGoes (actions : ℕ) (before after : List Break) (d e : Devices) : Type 0 where
  pub later : AreLater d e
  pub calm : AreCalm before after d e
  pub more : length before ≤ length after
  pub broke : BreaksDown before after d.unit e.unit
  pub most : WritesFor 0 actions d e

-- AN ACTION, with power in its second or without it
pub record ActsSo (has_power : Bool) (action : Action) (begun speed : ℕ) (old new : Run) (before after : Outcome) : Type
    0 where
  pub done : IsActed has_power (is_lit old.power) action begun speed old new before after
  pub refused : after.refused ≡ with_lines
      (refusal_lines (refused_by has_power (is_lit old.power) old speed action) old.next begun) before.refused
  pub none : (refused_by has_power (is_lit old.power) old speed action ≡ None → ⊥) → new ≡ old
  pub lost : has_power ≡ true → is_lit old.power ≡ false → (new ≡ old) × (after ≡ before)
  pub dark : is_lit old.power ≡ false → is_lit new.power ≡ false
  pub selected : is_lit old.power ≡ true → IsSelected action old new
  pub next : new.next ≡ old.next
  pub unfound : new.unfound ≡ old.unfound

-- THE ACTION OF A LINE, if it has one
pub record ActsItem (item : Item) (has_power : Bool) (begun speed : ℕ) (old new : Run) (before after : Outcome) : Type
    0 where
  pub done : IsItemActed item has_power (is_lit old.power) begun speed old new before after
  pub dark : has_power ≡ false → is_lit new.power ≡ false
  pub next : new.next ≡ old.next
  pub unfound : new.unfound ≡ old.unfound

-- POWER IS BACK, and the cards are judged anew: it is the same second, and nothing is refused or cut
pub record Resumes (result : Result (Unit {0}) Failed) (old new : Run) (before after : Outcome) : Type 0 where
  pub next : new.next ≡ old.next
  pub unfound : new.unfound ≡ old.unfound
  pub power : OnOk result (new.power ≡ Lit)
  pub owes : OnOk result (new.minutes.owing ≡ 0)
  pub refused : after.refused ≡ before.refused
  pub uncut : failed_cuts after.breaks.items ≡ failed_cuts before.breaks.items

-- WHAT A RUN PROMISES goes on as the unit is mended and the cards are judged anew: its record, the events of the unit,
-- its rings, the events of the cards, and what stood on the cards
pub record PromisesResuming (kept speed : ℕ) (failed : Bool) (old new : Run) (before after : Outcome)
    (d e : Devices) : Type 0 where
  pub recorded : ResumesSo kept failed old new before after d e
  pub evented : EventsResuming kept speed failed old new before after d e
  pub ringed : RingsResuming kept failed old new before after d e
  pub cards : CardsResuming kept speed failed old new before after d e
  pub stands : StandsResuming kept speed failed old new before after d e

-- POWER IS BACK, or the unit is refused: it is the same second, and the run is awake
pub record IsWoken (result : Result (Unit {0}) RunFault) (old new : Run) (before after : Outcome) : Type 0 where
  pub late : IfErr result IsFoundLater
  pub next : new.next ≡ old.next
  pub awake : OnOk result (IsAwake new)
  pub unfound : OnOk result (new.unfound ≤ length after.breaks.items)
  pub refused : after.refused ≡ before.refused

-- WHAT A RUN PROMISES goes on as power comes back: its record, the events of the unit, its rings, the events of the
-- cards
pub record PromisesWaking (result : Result (Unit {0}) RunFault) (speed : ℕ) (old new : Run) (before after : Outcome)
    (d e : Devices) : Type 0 where
  pub recorded : WakesSo result speed old new before after d e
  pub evented : EventsWaking result speed old new before after d e
  pub ringed : RingsWaking result speed old new before after d e
  pub cards : CardsPowering result speed old new before after d e

-- ALL GOES ON: no clock and no count of a device falls, the unit broke down where the power is lost and nowhere else,
-- and no card without the line of a tear; and so many writes at most were begun
pub record BreaksGo (on_unit on_card : ℕ) (before after : List Break) (d e : Devices) : Type 0 where
  pub later : AreLater d e
  pub calm : AreCalm before after d e
  pub broke : BreaksDown before after d.unit e.unit
  pub most : WroteAtMost on_unit on_card d e

-- A SECOND BEGINS, with the power that is due: it is the next one, and nothing is refused
pub record BeginsSecond (result : Result Bool RunFault) (old new : Run) (before after : Outcome) : Type 0 where
  pub late : IfErr result IsFoundLater
  pub has : IfOk result (λ powered. powered ≡ has_power old.power old.next)
  pub next : OnOk result (new.next ≡ old.next)
  pub unfound : OnOk result (new.unfound ≤ length after.breaks.items)
  pub refused : after.refused ≡ before.refused

-- WHAT A RUN PROMISES goes on as a second begins: its record with the rings, the events of the cards, and what is noted
-- where power is back
pub record PromisesSecond (result : Result Bool RunFault) (speed : ℕ) (old new : Run) (before after : Outcome)
    (d e : Devices) : Type 0 where
  pub ringed : BeginsRinged result speed old new before after d e
  pub cards : BeginsCarded result speed old new before after d e
  pub noted : OnOk result (is_lit old.power ≡ false → has_power old.power old.next ≡ true
      → NotesPowerOn speed old new before after d e)

-- THE ACTIONS OF A SECOND, one after another
pub record ActsAll (has_power : Bool) (speed : ℕ) (items : List Item) (old new : Run) (before after : Outcome) : Type
    0 where
  pub done : AreActed has_power speed 0 items old new before after
  pub next : new.next ≡ old.next
  pub unfound : new.unfound ≡ old.unfound

-- WHAT A RUN PROMISES goes on over the actions of a second with power whose items are all actions
abbrev pub PromisesAll : (has_power : Bool) → (speed count : ℕ) → List Item → (old new : Run) → (before after : Outcome)
    → (d e : Devices) → Type 0
PromisesAll has_power speed count items old new before after d e = has_power ≡ true
    → length (actions_in items) ≡ count → count ≤ largest_number
    → PromisesActions (actions_in items) count speed old new before after d e

-- A CARD THAT SITS IN A SLOT WAS JUDGED as it enters: what became of it, and nothing else has changed
pub record AcceptsHere (entering : Enters) (old new : Run) (before after : Outcome) : Type 0 where
  pub enters : IsAccepted entering old new before after
  pub run : new ≡ record old { keeper = new.keeper; noted = new.noted }
  pub refused : after.refused ≡ before.refused
  pub beside : seat_in new.keeper.cabin.slots.seats (other_slot entering.slot)
      ≡ seat_in old.keeper.cabin.slots.seats (other_slot entering.slot)

-- WHAT A RUN PROMISES goes on as the card that enters is judged: its record, where it enters with the odometer of now,
-- the events of the unit, its rings, the events of the cards
pub record PromisesHere (entering : Enters) (failed : Bool) (old new : Run) (before after : Outcome)
    (d e : Devices) : Type 0 where
  pub recorded : IsOdometerNow old entering.odometer.0
      → JudgesSo entering.slot entering.which entering.at failed old new before after d e
  pub evented : EventsJudged entering.slot entering.which entering.at entering.speed failed old new before after d e
  pub ringed : RingsEntering entering.slot entering.which entering.at entering.odometer.0 failed old new before after d
      e
  pub cards : CardsJudged entering.slot entering.which entering.at entering.speed failed old before after d e

-- WHAT JUDGING IT LEAVES ON THE DEVICES: entries in the rings of the unit, and what is noted
pub record LeavesHere (entering : Enters) (failed : Bool) (old new : Run) (before after : Outcome) (U V : State)
    (d e : Devices) : Type 0 where
  pub rings : IsJudgedRinging entering failed old new before after U V
  pub noted : IsJudgedNoting entering failed old new before after d e

-- THE UNIT AND ONE CARD GO ON: no clock and no count falls, the detailed speed stays, and the card does not break down
-- without the line of a tear; and so many writes at most were begun
pub record CardGoes (on_unit on_card : ℕ) (before after : List Break) (U V x y : State) : Type 0 where
  pub clock : U.clock ≤ V.clock
  pub later : IsLater x y
  pub speeds : LeavesSpeeds U V
  pub calm : IsCalm before after x y
  pub most : (V.clock ≤ U.clock + on_unit) × (y.clock ≤ x.clock + on_card)

-- ALL GOES ON over so many turns, actions and `off` lines: no clock and no count of a device falls, none breaks down
-- but in a call that failed, the unit breaks down where the power is lost, and so many writes at most were begun
pub record ItemGoes (result : Result (Unit {0}) RunFault) (turns actions off_lines : ℕ) (old new : Run)
    (before after : Outcome) (d e : Devices) : Type 0 where
  pub later : AreAfter d e
  pub calm : AreCalm before.breaks.items after.breaks.items d e
  pub broke : BreaksDown before.breaks.items after.breaks.items d.unit e.unit
  pub most : WritesBetween turns actions (powered old before) (off_lines + powered_by result new after) d e

-- WHAT A RUN PROMISES goes on with these actions in a second with power
abbrev pub PromisesWithPower : (has_power : Bool) → List Action → (begun speed : ℕ) → (old new : Run)
    → (before after : Outcome) → (d e : Devices) → Type 0
PromisesWithPower has_power actions begun speed old new before after d e = has_power ≡ true
    → PromisesActions actions begun speed old new before after d e

-- What a run promises goes on over so many seconds more without actions, behind one at their speed
pub record PromisesMore (result : Result (Unit {0}) RunFault) (seconds speed : ℕ) (old new : Run)
    (before after : Outcome) (d e : Devices) : Type 0 where
  pub ringed : RingsMore result seconds speed old new before after d e
  pub cards : CardsMore result seconds speed old new before after d e

-- What a run promises goes on over so many seconds at one speed, with these actions at their beginning, where so many
-- items wait and all are actions
pub record PromisesSeconds (result : Result (Unit {0}) RunFault) (seconds speed count : ℕ) (actions : List Action)
    (old new : Run) (before after : Outcome) (d e : Devices) : Type 0 where
  pub ringed : length actions ≡ count → count ≤ largest_number
      → RingsSeconds result seconds speed actions old new before after d e
  pub cards : length actions ≡ count → count ≤ largest_number
      → CardsSeconds result seconds speed actions old new before after d e

-- What a run promises goes on over an item, with these actions waiting, where so many items wait and all are actions
pub record PromisesItem (result : Result (Unit {0}) RunFault) (item : Item) (count : ℕ) (actions : List Action)
    (old new : Run) (before after : Outcome) (d e : Devices) : Type 0 where
  pub ringed : length actions ≡ count → RingsItem result item actions old new before after d e
  pub cards : length actions ≡ count → CardsItem result item actions old new before after d e

-- ---- what the calls ask

-- A CARD MAY BE ACCEPTED OR TURNED AWAY in this second: it sits in the slot, newly, no minute is owed, and there is
-- room for what falls and for what is found
pub record MayAccept (slot : Slot) (card : Card) (when : Moment) (run : Run) (o : Outcome) : Type 0 where
  pub none : run.minutes.owing ≡ 0
  pub at : when.second ≡ run.next
  pub seat : seat_in run.keeper.cabin.slots.seats slot ≡ Some (record { card = card; newest = None })
  pub breaks : length o.breaks.items + falls_of run.keeper.cabin ≤ o.breaks.room
  pub finds : length o.finds.items < o.finds.room

-- THE CARD OF A SLOT, IF THERE IS ONE, MAY BE JUDGED ANEW in this second: it is not accepted, no minute is owed, and
-- there is room for what falls and for what is found
pub record MayJudgeAnew (slot : Slot) (when : Moment) (run : Run) (o : Outcome) : Type 0 where
  pub none : run.minutes.owing ≡ 0
  pub at : when.second ≡ run.next
  pub bare : IsBare (seat_in run.keeper.cabin.slots.seats slot)
  pub breaks : length o.breaks.items + falls_of run.keeper.cabin ≤ o.breaks.room
  pub finds : length o.finds.items + bare_count (seat_in run.keeper.cabin.slots.seats slot) ≤ o.finds.room

-- A CARD MAY BE PUT INTO A SLOT in this second: the slot is empty, the card is in no other, and there is room for what
-- that settles, for what falls and for what is found
pub record MayInsertCard (slot : Slot) (card : Card) (when : Moment) (run : Run) (o : Outcome) : Type 0 where
  pub at : when.second ≡ run.next
  pub empty : seat_in run.keeper.cabin.slots.seats slot ≡ None
  pub elsewhere : is_card (seat_in run.keeper.cabin.slots.seats (other_slot slot)) card ≡ false
  pub marks : length o.marks.items + 3 * run.minutes.owing ≤ o.marks.room
  pub breaks : length o.breaks.items + falls_of run.keeper.cabin + 1 ≤ o.breaks.room
  pub finds : length o.finds.items < o.finds.room

-- POWER MAY COME BACK: there is none, and there is room for what falls and for what is found
pub record MayWake (run : Run) (o : Outcome) : Type 0 where
  pub dark : is_lit run.power ≡ false
  pub breaks : length o.breaks.items + falls_of run.keeper.cabin < o.breaks.room
  pub finds : length o.finds.items + bare_seats run.keeper.cabin.slots.seats ≤ o.finds.room

-- THE UNIT TELLS THIS JOURNAL, and this rule of minutes
pub record IsToldBy (U : State) (journal : Notes) (minutes : Rule) : Type 0 where
  pub loaded : IsLoaded U journal
  pub rule : IfSome U.image (λ x. minutes ≡ rule_of x)

-- THERE IS ROOM for so many seconds without actions, and the first break of which it is not known what was kept is one
-- of those that were told, or the next
pub record HasRoomFor (seconds : ℕ) (run : Run) (o : Outcome) : Type 0 where
  pub room : HasRoom run o seconds 0 0 0
  pub unfound : run.unfound ≤ length o.breaks.items

-- A RUN MAY GO ON over so many seconds, with so many power cuts, insertions and actions: the formats can tell each
-- second, there is room, and the first break of which it is not known what was kept is one of those told, or the next
pub record MayGoOn (seconds offs insertions actions : ℕ) (run : Run) (o : Outcome) : Type 0 where
  pub small : run.next + seconds ≤ end_of_seconds
  pub room : HasRoom run o seconds offs insertions actions
  pub unfound : run.unfound ≤ length o.breaks.items

-- ACTIONS MAY BE DONE in a second, so many of which put a card in: the run is inside it, it has no power where the
-- second has none at its beginning, and there is room for them
pub record MayAct (has_power : Bool) (insertions actions : ℕ) (run : Run) (o : Outcome) (unit : State)
    (chip_a chip_b : CardState) (a b : State) : Type 0 where
  pub going : IsInsideSecond run unit chip_a chip_b a b
  pub dark : has_power ≡ false → is_lit run.power ≡ false
  pub room : HasRoomWithin run o 1 0 insertions actions

-- AN ACTION MAY BE DONE WITH POWER, which puts in so many cards: the run has it inside the second, and there is room
pub record MayActLit (insertions : ℕ) (run : Run) (o : Outcome) (unit : State) (chip_a chip_b : CardState)
    (a b : State) : Type 0 where
  pub lit : run.power ≡ Lit
  pub going : IsInsideSecond run unit chip_a chip_b a b
  pub room : HasRoomWithin run o 1 0 insertions 1

-- HOW A RUN STANDS BEHIND ACTIONS of a second, so many of which put a card in: it is inside it still; and where there
-- was room for these and some more, there is for those
pub record StandsActed (insertions actions : ℕ) (old new : Run) (before after : Outcome) (unit : State)
    (chip_a chip_b : CardState) (a b : State) : Type 0 where
  pub going : IsInsideSecond new unit chip_a chip_b a b
  pub room : (left offs puts others : ℕ)
      → HasRoomWithin old before (1 + left) offs (insertions + puts) (actions + others)
      → HasRoomWithin new after (1 + left) offs puts others

-- HOW A RUN STANDS AS A SECOND HAS BEGUN: the unit is a unit still; the run is inside the second, unless a fault is
-- answered; and where there was room for it and some more, there is
pub record StandsBegun (result : Result Bool RunFault) (old new : Run) (before after : Outcome) (unit : State)
    (chip_a chip_b : CardState) (a b : State) : Type 0 where
  pub is_unit : IsUnit unit
  pub going : OnOk result (IsInsideSecond new unit chip_a chip_b a b)
  pub room : (left offs insertions actions : ℕ) → HasRoom old before (1 + left) offs insertions actions
      → OnOk result (HasRoomWithin new after (1 + left) offs insertions actions)

-- THESE ARE AMONG THE ITEMS, from one index to another
pub record AreAmong (items : List Item) (from to : ℕ) : Type 0 where
  pub first : from ≤ to
  pub last : to ≤ length items

-- A RUN GOES ON: no clock and no count of a device falls; and so many writes it begins at most, by its power-ons, its
-- turns and its actions, whatever fails
pub record RunGoes (start : ℕ) (items : List Item) (after : Outcome) (d e : Devices) : Type 0 where
  pub later : AreAfter d e
  pub most : WritesIn start items (length (cuts true (log_of after))) d e
