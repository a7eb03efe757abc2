-- What the actions of a second and its turn leave of a run and of its devices, each in a few records (profile).
use Rattle.std.specs.Prelude.{ℕ, ◌+◌, ◌/◌, ◌∷◌, ◌≡◌, ◌≤◌, Bool, IfSome, List, None, OnOk, Option, Result, Some}
use Rattle.std.specs.Prelude.{[], false, is_err, is_some, length, not, true, ◌<◌, ◌*◌, ◌≢◌}
use Rattle.activity_codec.specs.declared.values.Activity.{Activity}
use Rattle.activity_codec.specs.declared.values.Slot.{Slot}
use Rattle.card_files.specs.card_layout.declared.command.CardState.{CardState}
use Rattle.device_calls.specs.card_session.Cards.{IsCardClosing}
use Rattle.device_calls.specs.card_session.Sessions.{IsSession, IsValue}
use Rattle.run_crew.specs.card_slots.Calls.{card_in, seat_in}
use Rattle.device_calls.specs.CardNotes.{IsNote}
use Rattle.unit_notes.specs.event_model.Spans.{gap_of}
use Rattle.log_model.specs.Log.{In}
use Rattle.log_model.specs.declared.lines.Break.{Break}
use Rattle.unit_model.specs.minute_model.declared.Minute.{Minute}
use Rattle.run_crew.specs.Cabin.{CabinIsSound, number_of_seat}
use Rattle.run_crew.specs.Cards.{known_of, session_of}
use Rattle.run_crew.specs.declared.cards.Accepted.{Accepted}
use Rattle.run_events.specs.Entries.{card_entry}
use Rattle.run_minutes.specs.Keeping.{CardMayBeCalled, HasItsRow, UnitMayBeCalled, most_tears, tears_of}
use Rattle.run_minutes.specs.Later.{AreAfter, AreCalm, AreLater, IsCalm, IsLater}
use Rattle.run_minutes.specs.Minutes.{IsReach, KeepingState, Reach}
use Rattle.run_minutes.specs.Stand.{KeepingGoes, Stand}
use Rattle.run_minutes.specs.Writes.{WroteAtMost, tear_unit_most}
use Rattle.run_minutes.specs.declared.keeper.Moment.{Moment}
use Rattle.run_outcome.specs.Broken.{BreaksDown}
use Rattle.run_outcome.specs.Lines.{Listed}
use Rattle.run_outcome.specs.declared.outcome.Outcome.{Outcome}
use Rattle.run_minutes.specs.run_promise.Between.{devices}
use Rattle.run_events.specs.run_rings.Same.{LeavesRings}
use Rattle.run_events.specs.run_speeds.Speeds.{LeavesSpeeds}
use Rattle.device_calls.specs.safety_model.Safe.{Devices, card_of}
use Rattle.tach_media.specs.Medium.{HasBroken, HasCause, LeavesOnly, State}
use Rattle.tach_media.specs.declared.fault.Failed.{Failed}
use Rattle.tacho_types.specs.declared.places.PlaceEntry.{PlaceEntry}
use Rattle.trace_model.specs.declared.Action.TheVariants.{Withdraw}
use Rattle.trace_model.specs.declared.Card.{Card}
use Rattle.unit_model.specs.Image.{IsUnit}
use Rattle.unit_notes.specs.Journal.{LeavesJournal}
use Rattle.unit_notes.specs.declared.unit_event.UnitEvent.{UnitEvent}
use Rattle.run_acts.specs.Acting.{Closed, Closing, IsClosed, IsNotedIn, IsNotedOn, IsPlaced, IsWithdrawn, closed_falls}
use Rattle.run_acts.specs.Acting.{IsBareIn, SettlingDecides, falls_by, left_run, now_moment, told_of}
use Rattle.run_acts.specs.ActsEvented.{EventsPlace, EventsWithdrawal, NoteLeaves}
use Rattle.run_acts.specs.Behind.{BooksWithdrawn}
use Rattle.run_acts.specs.Booked.{IsBookedTurn}
use Rattle.run_acts.specs.CardNotes.{LeavePlaces, LeavesPlaces, NotesOn, NotesOnCards, gap_on, on_seat}
use Rattle.run_acts.specs.CardWrites.{MayTakePlace, PlaceOn, ShutsSo, WithdrawsShut}
use Rattle.run_acts.specs.Evented.{EventsTurn, EventsLitTurn}
use Rattle.run_acts.specs.Faults.{NotesTurn}
use Rattle.run_acts.specs.Going.{CanBeCut, IsBetweenSeconds, RunHasPower, RunHasPowerAllSeated}
use Rattle.run_acts.specs.NotedEvents.{NotesEvents}
use Rattle.run_acts.specs.Noting.{AreGapEvents, GapReach, IsGapNoted, IsNoteRecorded, IsPlaceRecorded, NotesClosing}
use Rattle.run_acts.specs.Noting.{NotesFall, NotesPlace, NotesWithdrawing}
use Rattle.run_acts.specs.Power.{is_lit, passed}
use Rattle.run_acts.specs.Recording.{RecordsAction, RecordsTurn}
use Rattle.run_acts.specs.Ringing.{ClosesSo, WithdrawsSo, WritesPlace}
use Rattle.run_acts.specs.Room.{falls_of, HasRoom, HasRoomWithin, TakesNone}
use Rattle.run_acts.specs.RunCards.{CardsPlace, CardsTurn, CardsWithdrawal}
use Rattle.run_acts.specs.RunRinged.{RingsGap, RingsPlace, RingsTurn, RingsWithdrawal}
use Rattle.run_acts.specs.Speeds.{BringsBlock, SpeedsTurn}
use Rattle.run_acts.specs.Stays.{ClosesOnCard}
use Rattle.run_acts.specs.Stood.{StandsPlace, StandsTurn, StandsWithdrawal}
use Rattle.run_acts.specs.Turning.{IsLitTurn, IsTurnOf}
use Rattle.run_acts.specs.Writes.{close_unit_most, close_card_most, place_card_most, slot_gap_unit_most}
use Rattle.run_acts.specs.Writes.{slot_gap_card_most}
use Rattle.run_acts.specs.declared.run.Run.{Run}
use Rattle.unit_notes.specs.event_model.declared.kinds.TheConstants.{POWER_INTERRUPTION}
use Rattle.run_events.specs.message_model.Records.{insertion_ring}
use Rattle.unit_model.specs.declared.layout.TheConstants.{HIGHEST_ODOMETER}

-- THE CARD OF A SLOT WAS TO BE WITHDRAWN: what became of it, and nothing else has changed; of the room for lines it
-- takes no more than marks of the minutes that waited, and a break of each card that falls
pub record Withdraws (slot : Slot) (at : Moment) (failed : Bool) (old new : Run) (before after : Outcome) : Type 0 where
  pub card : IsWithdrawn (card_in (seat_in old.keeper.cabin.slots.seats slot)) slot at failed old new before after
  pub run : new ≡ record old { minutes = new.minutes; keeper = new.keeper }
  pub outcome : after ≡ record before { marks = after.marks; breaks = after.breaks }
  pub takes : TakesNone old new before after

-- WHAT THAT LEAVES ON THE DEVICES: the book behind it, the faults that are noted, the entry of its insertion, and the
-- last words of the card, or that it broke down in that
pub record LeavesWithdrawn (slot : Slot) (at : Moment) (failed : Bool) (old new : Run) (before after : Outcome)
    (d e : Devices) : Type 0 where
  pub booked : (card : Card) → card_in (seat_in old.keeper.cabin.slots.seats slot) ≡ Some card
      → (decided : List Minute) × (reach : Reach) × (closing : Option Closing) × (between : KeepingState)
      × SettlingDecides old.minutes decided
      × IsReach decided at (not (is_some closing)) (told_of (left_run slot at.second old) before) between reach
      × BooksWithdrawn card decided failed reach closing (told_of (left_run slot at.second old) before)
      (told_of new after) d e
  pub events : NotesWithdrawing (card_in (seat_in old.keeper.cabin.slots.seats slot)) slot at failed old new before
      after d e
  pub rings : is_some d.unit.image ≡ true
      → WithdrawsSo (card_in (seat_in old.keeper.cabin.slots.seats slot)) slot at failed old new before after d.unit
      e.unit
  pub shut : (card : Card) → card_in (seat_in old.keeper.cabin.slots.seats slot) ≡ Some card
      → WithdrawsShut card slot at failed old new before after d e

-- WHAT A RUN PROMISES goes on as a card is withdrawn: its record, the events of the unit, its rings, the events of the
-- cards, and what stood on them
pub record PromisesWithdrawal (slot : Slot) (at : Moment) (failed : Bool) (old new : Run) (before after : Outcome)
    (d e : Devices) : Type 0 where
  pub recorded : at.late ≡ false → (speed : ℕ)
      → RecordsAction (Withdraw slot) at.begun speed failed old new before after d e
  pub evented : EventsWithdrawal slot at failed old new before after d e
  pub ringed : RingsWithdrawal slot at failed old new before after d e
  pub cards : CardsWithdrawal slot at failed old before after d e
  pub stands : StandsWithdrawal slot at old before d e

-- WHATEVER HAS FAILED, power can be lost then; and the unit failed exactly where that was answered
pub record IsHeldBehind (failed : Bool) (new : Run) (d e : Devices) (chip_a chip_b : CardState) : Type 0 where
  pub held : CanBeCut (new.next / 60) new e.unit chip_a chip_b e.card_a e.card_b
  pub cause : HasCause d.unit e.unit failed

-- HOW A RUN STANDS BEHIND A CALL: whatever has failed, power can be lost then; and where the unit did not fail it has
-- power, and each card its seat
pub record RunStandsBehind (result : Result (Unit {0}) Failed) (new : Run) (d e : Devices) (chip_a chip_b : CardState)
    : Type 0 where
  pub held : IsHeldBehind (is_err result) new d e chip_a chip_b
  pub going : OnOk result (RunHasPowerAllSeated (new.next / 60) new e.unit chip_a chip_b e.card_a e.card_b)

-- HOW IT STANDS BEHIND A SETTLING: whatever has failed, power can be lost then; where the unit did not fail, whoever
-- was leaving is leaving still, with power; no minute is owed, and where it did not fail a card without a session sits
-- as it sat
pub record RunStandsSettled (result : Result (Unit {0}) Failed) (old new : Run) (d e : Devices)
    (chip_a chip_b chip_a_new chip_b_new : CardState) : Type 0 where
  pub held : IsHeldBehind (is_err result) new d e chip_a_new chip_b_new
  pub going : (leaving : Option Card)
      → RunHasPower leaving (old.next / 60) old d.unit chip_a chip_b d.card_a d.card_b
      → OnOk result (RunHasPower leaving (new.next / 60) new e.unit chip_a_new chip_b_new e.card_a e.card_b)
  pub none : new.minutes.owing ≡ 0
  pub bare : is_err result ≡ false → (slot : Slot) → IsBareIn old.keeper.cabin slot
      → (seat_in new.keeper.cabin.slots.seats slot ≡ seat_in old.keeper.cabin.slots.seats slot)
      × IsBareIn new.keeper.cabin slot

-- ALL GOES ON: no clock and no count of a device falls, none breaks down but in a call that failed, and no card without
-- the line of a tear; the detailed speed stays, and breaks are only added; and so many writes at most were begun
pub record AllGoOn (on_unit on_card : ℕ) (before after : List Break) (d e : Devices) : Type 0 where
  pub later : AreLater d e
  pub calm : AreCalm before after d e
  pub more : length before ≤ length after
  pub most : WroteAtMost on_unit on_card d e

-- A PLACE WAS TO BE NOTED for the card of a slot: whether that fell, and nothing else has changed; a tear more is a
-- card less
pub record PlacesSo (slot : Slot) (at : Moment) (old new : Run) (before after : Listed Break) : Type 0 where
  pub card : (fell : Bool) × IsPlaced (card_in (seat_in old.keeper.cabin.slots.seats slot)) slot at old new before after
      fell
  pub run : new ≡ record old { keeper = new.keeper }
  pub room : (after.room ≡ before.room)
      × (length after.items + falls_of new.keeper.cabin ≤ length before.items + falls_of old.keeper.cabin)

-- WHAT THAT LEAVES ON THE DEVICES: the events of the cards as they were, the place on the card and in the ring, and the
-- fault of a card that fell
pub record LeavesPlaced (slot : Slot) (entry : PlaceEntry) (at : Moment) (failed : Bool) (old new : Run)
    (before after : Listed Break) (d e : Devices) : Type 0 where
  pub card_events : NotesOnCards false old.keeper.cabin.cards new.keeper.cabin.cards (λ card. []) d e
  pub on_card : (card : Card) → card_in (seat_in old.keeper.cabin.slots.seats slot) ≡ Some card
      → PlaceOn (session_of old.keeper.cabin.cards card) (session_of new.keeper.cabin.cards card) failed entry
      (card_of d card) (card_of e card)
  pub events : NotesPlace (card_in (seat_in old.keeper.cabin.slots.seats slot)) slot at failed old new before after d e
  pub rings : is_some d.unit.image ≡ true
      → WritesPlace (number_of_seat old.keeper.cabin.cards (seat_in old.keeper.cabin.slots.seats slot)) entry failed
      d.unit e.unit

-- WHAT A RUN PROMISES goes on as a place is noted: its record, the events of the unit, its rings, the events of the
-- cards, and what stood on them
pub record PromisesPlace (slot : Slot) (entry : PlaceEntry) (at : Moment) (failed : Bool) (old new : Run)
    (before after : Listed Break) (d e : Devices) : Type 0 where
  pub recorded : IsPlaceRecorded slot at failed old new before after d e
  pub evented : EventsPlace slot at failed old new before after d e
  pub ringed : RingsPlace slot entry at failed old new before after d e
  pub cards : CardsPlace slot at failed old before after d e
  pub stands : StandsPlace slot at old before d e

-- THE INTERRUPTION OF POWER WAS TO BE NOTED: how far it came, and nothing else has changed; a tear more is a card less
pub record NotesGap (kept : ℕ) (failed : Bool) (old new : Run) (before after : Listed Break) : Type 0 where
  pub reach : (reach : GapReach) × IsGapNoted (gap_of kept old.next) (now_moment old) failed old new before after reach
  pub run : new ≡ record old { keeper = new.keeper }
  pub room : (after.room ≡ before.room)
      × (length after.items + falls_of new.keeper.cabin ≤ length before.items + falls_of old.keeper.cabin)

-- WHAT THAT LEAVES ON THE DEVICES: the interruption on the accepted cards, and no place; the events on the unit, and
-- its rings as they were
pub record LeavesGap (kept : ℕ) (failed : Bool) (old new : Run) (before after : Listed Break)
    (d e : Devices) : Type 0 where
  pub card_events : NotesOnCards failed old.keeper.cabin.cards new.keeper.cabin.cards
      (λ card. gap_on (gap_of kept old.next) old.keeper.memory.registration) d e
  pub places : LeavePlaces old.keeper.cabin.cards d e
  pub events : (reach : GapReach) × (vs : List UnitEvent)
      × AreGapEvents (gap_of kept old.next) (now_moment old) failed old new before after reach vs
      × NotesEvents vs failed d e
  pub rings : LeavesRings d.unit e.unit
  pub beside : NoteLeaves failed old before after d e

-- WHAT A RUN PROMISES goes on as the interruption is noted: its record, and the rings
pub record PromisesGap (failed : Bool) (old new : Run) (before after : Listed Break) (d e : Devices) : Type 0 where
  pub recorded : IsNoteRecorded (In 0) failed old new before after d e
  pub ringed : RingsGap failed old new before after d e

-- THE INTERRUPTION WAS TO BE NOTED ON THE CARD OF A SLOT: whether that fell, and nothing else has changed; a tear more
-- is a card less
pub record NotesIn (slot : Slot) (failed : Bool) (old new : Run) (before after : Listed Break) : Type 0 where
  pub fell : (fell : Bool) × IsNotedIn (card_in (seat_in old.keeper.cabin.slots.seats slot)) slot (now_moment old) old
      new before after fell × (failed ≡ true → fell ≡ true)
  pub run : new ≡ record old { keeper = new.keeper }
  pub room : (after.room ≡ before.room)
      × (length after.items + falls_of new.keeper.cabin ≤ length before.items + falls_of old.keeper.cabin)

-- WHAT THAT LEAVES ON THE DEVICES: its event on that card, and no place; the fault of a card that fell on the unit, and
-- its rings as they were
pub record LeavesIn (slot : Slot) (event : UnitEvent) (failed : Bool) (old new : Run) (before after : Listed Break)
    (d e : Devices) : Type 0 where
  pub card_events : NotesOnCards false old.keeper.cabin.cards new.keeper.cabin.cards
      (on_seat (seat_in old.keeper.cabin.slots.seats slot) (card_entry event old.keeper.memory.registration)) d e
  pub places : LeavePlaces old.keeper.cabin.cards d e
  pub events : NotesFall (λ fell. IsNotedIn (card_in (seat_in old.keeper.cabin.slots.seats slot)) slot (now_moment old)
      old new before after fell) old.next failed new d e
  pub rings : LeavesRings d.unit e.unit
  pub beside : NoteLeaves failed old before after d e

-- SECONDS OF ONE MINUTE ARE OVER: how they went, and what they leave as it was
pub record Turns (n speed begun : ℕ) (old new : Run) (before after : Outcome) : Type 0 where
  pub seconds : IsTurnOf (is_lit old.power) n speed begun old new before after
  pub next : new.next ≡ old.next + n
  pub unfound : new.unfound ≡ old.unfound
  pub refused : after.refused ≡ before.refused
  pub finds : after.finds ≡ before.finds

-- WHAT THAT LEAVES ON THE DEVICES, with power: the book behind them, and what is noted
pub record LeavesTurned (n speed begun : ℕ) (old new : Run) (before after : Outcome) (d e : Devices) : Type 0 where
  pub booked : is_lit old.power ≡ true → (between : Run) × IsBookedTurn n speed begun old between before after d e
      × (new ≡ passed n begun between)
  pub noted : is_lit old.power ≡ true
      → (between : Run) × NotesTurn n speed begun old between before after d.unit e.unit
      × (new ≡ passed n begun between)

-- WHAT A RUN PROMISES goes on over these seconds: its record, the events of the unit, its rings, the events of the
-- cards, the detailed speed, and what stood on the cards
pub record PromisesTurn (n speed begun : ℕ) (old new : Run) (before after : Outcome) (d e : Devices) : Type 0 where
  pub recorded : RecordsTurn n speed begun old new before after d e
  pub evented : EventsTurn n speed begun old new before after d e
  pub ringed : RingsTurn n speed begun old new before after d e
  pub cards : CardsTurn n speed begun old new before after d e
  pub speeds : SpeedsTurn n speed begun old new before after d e
  pub stands : StandsTurn n speed begun old before after d e

-- HOW A RUN STANDS BEHIND SO MANY SECONDS: it is between two of them; and where there was room for these and some more,
-- there is for those
pub record StandsTurned (n : ℕ) (old new : Run) (before after : Outcome) (unit : State) (chip_a chip_b : CardState)
    (a b : State) : Type 0 where
  pub going : IsBetweenSeconds new unit chip_a chip_b a b
  pub room : (left offs insertions actions : ℕ) → HasRoomWithin old before (n + left) offs insertions actions
      → HasRoom new after left offs insertions actions

-- ALL GOES ON over them, and the unit broke down where the power is lost, and nowhere else; and so many writes at most
-- were begun
pub record TurnGoes (on_unit on_card : ℕ) (before after : List Break) (d e : Devices) : Type 0 where
  pub later : AreAfter d e
  pub calm : AreCalm before after d e
  pub more : length before ≤ length after
  pub broke : BreaksDown before after d.unit e.unit
  pub most : WroteAtMost on_unit on_card d e

-- SECONDS OF ONE MINUTE WITH POWER are to be over: how they went, before the number of the next second goes on by them
pub record LitTurns (n speed begun : ℕ) (old new : Run) (before after : Outcome) : Type 0 where
  pub seconds : IsLitTurn n speed begun old new before after
  pub next : new.next ≡ old.next
  pub unfound : new.unfound ≡ old.unfound
  pub refused : after.refused ≡ before.refused
  pub finds : after.finds ≡ before.finds

-- WHAT THEY LEAVE ON THE DEVICES: the book behind them, what is noted, the events that are recorded so, and a block of
-- detailed speed, if they end one
pub record LeavesLit (n speed begun : ℕ) (old new : Run) (before after : Outcome) (d e : Devices) : Type 0 where
  pub booked : IsBookedTurn n speed begun old new before after d e
  pub noted : NotesTurn n speed begun old new before after d.unit e.unit
  pub evented : EventsLitTurn n speed begun old new before after d e
  pub block : BringsBlock n speed (not (is_lit new.power)) old new d.unit e.unit

-- WHAT THE NOTE OF AN INTERRUPTION LEAVES: its event on the card, and no place; on the unit the fault of a card that
-- fell, and its rings as they were
pub record ShowsGapOn (which : Card) (slot : Slot) (event : UnitEvent) (failed : Bool) (old new : Run)
    (before after : Listed Break) (U V x y : State) : Type 0 where
  pub card_events : NotesOn false (session_of old.keeper.cabin.cards which) (session_of new.keeper.cabin.cards which)
      (card_entry event old.keeper.memory.registration ∷ []) x y
  pub places : LeavesPlaces (session_of old.keeper.cabin.cards which) x y
  pub events : NotesFall (λ fell. IsNotedOn which slot (now_moment old) old new before after fell) old.next failed new
      (devices U x x) (devices V y y)
  pub rings : LeavesRings U V

-- ON THE UNIT the detailed speed stays, and what a write that is torn may leave is a journal still
pub record UnitWrites (U V : State) : Type 0 where
  pub speeds : LeavesSpeeds U V
  pub journal : LeavesOnly U V LeavesJournal

-- OF THE SESSION: what the note may leave of the image, and that it is the value of one
pub record NotesInSession (session : Option Accepted) (x y : State) : Type 0 where
  pub moments : IfSome session (λ a. LeavesOnly x y (IsNote a.session.application))
  pub value : IfSome session (λ a. IsValue a.session)

-- HOW UNIT AND CARD STAND: they may be called where the unit did not fail, with the rows of the cards, and the unit
-- failed exactly where that was answered
pub record StandsBehind (which : Card) (result : Result (Unit {0}) Failed) (old new : Run) (U V x y : State)
    (chip : CardState) : Type 0 where
  pub unit : IsUnit V
  pub ready : OnOk result (UnitMayBeCalled new.keeper V)
  pub rows : (c : Card) → HasItsRow old.keeper.cabin.cards U c → OnOk result (HasItsRow new.keeper.cabin.cards V c)
  pub card : CardMayBeCalled (known_of new.keeper.cabin.cards which) chip y
  pub size : y.size ≡ x.size
  pub cause : HasCause U V (is_err result)

-- WHAT THE NOTE OF A PLACE LEAVES: the place on the card, and no event; on the unit the fault of a card that fell, and
-- its rings as they were
pub record ShowsPlaceOn (which : Card) (slot : Slot) (entry : PlaceEntry) (at : Moment) (failed : Bool) (old new : Run)
    (before after : Listed Break) (U V x y : State) : Type 0 where
  pub card_events : NotesOn false (session_of old.keeper.cabin.cards which) (session_of new.keeper.cabin.cards which) []
      x y
  pub on_card : PlaceOn (session_of old.keeper.cabin.cards which) (session_of new.keeper.cabin.cards which) false entry
      x y
  pub places : MayTakePlace (session_of old.keeper.cabin.cards which) entry x y
  pub events : NotesFall (λ fell. IsNotedOn which slot at old new before after fell) at.second failed new
      (devices U x x) (devices V y y)
  pub rings : LeavesRings U V

-- WHAT THE CLOSING OF A SESSION LEAVES: the last words of the card, the entry of its insertion with its withdrawal, and
-- the fault of a card that fell
pub record ShowsClosing (which : Card) (slot : Slot) (at : Moment) (failed : Bool) (old new : Run)
    (before after : Listed Break) (U V x y : State) : Type 0 where
  pub events : NotesClosing which slot at failed old new before after (devices U x x) (devices V y y)
  pub rings : is_some U.image ≡ true → ClosesSo which slot at failed old new before after U V
  pub left : IfSome (session_of old.keeper.cabin.cards which)
      (λ s. (act : Activity) × LeavesOnly x y (λ i n. IsSession s.session i → IsCardClosing s.session act i n))
  pub shut : ShutsSo which slot at old new before after x y

-- THE CARD GOES ON: its clock and its counts do not fall, and it does not break down without the line of a tear
pub record CardGoesOn (before after : List Break) (x y : State) : Type 0 where
  pub later : IsLater x y
  pub calm : IsCalm before after x y

-- THE NOTE OF AN INTERRUPTION ON A CARD: whether it fell, what is left of unit and card, and how they stand; and so
-- many writes at most were begun
pub record NotesGapOn (which : Card) (slot : Slot) (event : UnitEvent) (result : Result (Unit {0}) Failed)
    (old new : Run) (before after : Listed Break) (U V x y : State) (chip : CardState) : Type 0 where
  pub noted : (fell : Bool) × IsNotedOn which slot (now_moment old) old new before after fell
      × HasBroken x y (falls_by fell) × HasCause x y fell × (is_err result ≡ true → fell ≡ true)
  pub shows : ShowsGapOn which slot event (is_err result) old new before after U V x y
  pub writes : UnitWrites U V
  pub known : NotesInSession (session_of old.keeper.cabin.cards which) x y
  pub behind : StandsBehind which result old new U V x y chip
  pub stands : (from : ℕ) (leaving : Option Card) → CabinIsSound from leaving old.keeper.cabin
      → CabinIsSound from leaving new.keeper.cabin
  pub clock_card : x.clock ≤ y.clock
  pub most : (V.clock ≤ U.clock + slot_gap_unit_most) × (y.clock ≤ x.clock + slot_gap_card_most)

-- THE NOTE OF A PLACE ON A CARD: whether it fell, what is left of unit and card, and how they stand; and so many writes
-- at most were begun
pub record NotesPlaceOn (which : Card) (slot : Slot) (entry : PlaceEntry) (at : Moment)
    (result : Result (Unit {0}) Failed) (old new : Run) (before after : Listed Break) (U V x y : State)
    (chip : CardState) : Type 0 where
  pub noted : (fell : Bool) × IsNotedOn which slot at old new before after fell
      × HasBroken x y (falls_by fell) × HasCause x y fell
  pub shows : ShowsPlaceOn which slot entry at (is_err result) old new before after U V x y
  pub writes : UnitWrites U V
  pub known : NotesInSession (session_of old.keeper.cabin.cards which) x y
  pub behind : StandsBehind which result old new U V x y chip
  pub stands : (from : ℕ) (leaving : Option Card) → CabinIsSound from leaving old.keeper.cabin
      → CabinIsSound from leaving new.keeper.cabin
  pub clock_card : x.clock ≤ y.clock
  pub most : (V.clock ≤ U.clock + tear_unit_most) × (y.clock ≤ x.clock + place_card_most)

-- THE CLOSING OF A SESSION: how it was closed, what is left of unit and card, and how they stand; and so many writes at
-- most were begun
pub record ClosesSession (which : Card) (slot : Slot) (at : Moment) (result : Result (Unit {0}) Failed) (old new : Run)
    (before after : Listed Break) (U V x y : State) (chip : CardState) : Type 0 where
  pub closed : (closing : Closing) × IsClosed which slot at old new before after closing
      × HasBroken x y (closed_falls closing)
      × (closing ≡ Closed → ClosesOnCard slot old.minutes (session_of old.keeper.cabin.cards which) x y)
  pub shows : ShowsClosing which slot at (is_err result) old new before after U V x y
  pub writes : UnitWrites U V
  pub behind : StandsBehind which result old new U V x y chip
  pub stands : (from : ℕ) → CabinIsSound from (Some which) old.keeper.cabin → CabinIsSound from None new.keeper.cabin
  pub most : (V.clock ≤ U.clock + close_unit_most) × (y.clock ≤ x.clock + close_card_most)
  pub goes : CardGoesOn before.items after.items x y

-- THE KEEPING GOES ON as a second settles: all goes on over what is kept, the detailed speed stays, and so many writes
-- at most were begun
pub record SettlingGoes (on_unit on_card : ℕ) (s t : Stand) : Type 0 where
  pub keeping : KeepingGoes s t
  pub speeds : LeavesSpeeds s.devices.unit t.devices.unit
  pub most : WroteAtMost on_unit on_card s.devices t.devices

-- A NOTE MAY BE MADE ON AN ACCEPTED CARD in this second: unit and card may be called, and the card has a session; the
-- second is not 0, its minute is no earlier than the slots', and there is room for a tear
pub record MayNoteOn (which : Card) (at : ℕ) (run : Run) (breaks : Listed Break) (U : State) (chip : CardState)
    (x : State) : Type 0 where
  pub ready : UnitMayBeCalled run.keeper U
  pub card : CardMayBeCalled (known_of run.keeper.cabin.cards which) chip x
  pub session : is_some (session_of run.keeper.cabin.cards which) ≡ true
  pub minute : run.keeper.cabin.slots.minute ≤ at / 60
  pub second : at ≢ 0
  pub room : length breaks.items < breaks.room

-- AN INTERRUPTION OF POWER, which began
pub record IsPowerGap (event : UnitEvent) : Type 0 where
  pub kind : event.kind ≡ POWER_INTERRUPTION
  pub begin : event.begin.0 ≢ 0

-- A SESSION MAY BE CLOSED in this second, if the card has one: the card may be called, the entry of its insertion is
-- one of the ring, and the odometer is within its bounds; the second is not 0, its minute is no earlier than the
-- slots', and there is room for a tear
pub record MayClose (which : Card) (at : ℕ) (run : Run) (breaks : Listed Break) (chip : CardState) (x : State) : Type
    0 where
  pub card : CardMayBeCalled (known_of run.keeper.cabin.cards which) chip x
  pub entry : IfSome (session_of run.keeper.cabin.cards which)
      (λ s. (s.entry < insertion_ring.count) × (s.noted ≤ run.noted))
  pub odometer : run.keeper.odometer ≤ HIGHEST_ODOMETER
  pub minute : run.keeper.cabin.slots.minute ≤ at / 60
  pub second : at ≢ 0
  pub room : length breaks.items + tears_of (session_of run.keeper.cabin.cards which) ≤ breaks.room

-- THERE IS ROOM TO SETTLE: for the marks of the minutes that are owed, and for a tear of each card
pub record HasRoomToSettle (run : Run) (o : Outcome) : Type 0 where
  pub marks : length o.marks.items + 3 * run.minutes.owing ≤ o.marks.room
  pub breaks : length o.breaks.items + most_tears run.keeper.cabin.cards ≤ o.breaks.room
