-- What the recorder with cards carries BETWEEN TWO SECONDS (profile): by its values, its devices, and the seconds of
-- the trace so far.
use Rattle.std.specs.Prelude.{◌≡◌, ◌⊎◌, ℕ, ◌-◌, ◌/◌, ◌≤◌, ◌<◌, true, false, Option, Some, None, IfSome, is_some, List}
use Rattle.std.specs.Prelude.{[]}
use Rattle.minute_rules.specs.activity_codec.declared.values.Slot.{Slot}
use Rattle.run_devices.specs.trace_model.declared.Card.{Card}
use Rattle.run_devices.specs.trace_model.Trace.{TraceSecond}
use Rattle.minute_rules.specs.minute_model.Span.{ungiven_of}
use Rattle.minute_rules.specs.Kept.{Kept, CountsSpan}
use Rattle.run_devices.specs.log_model.declared.lines.Mark.{Mark}
use Rattle.run_devices.specs.log_model.Log.{RunLog}
use Rattle.run_devices.specs.log_model.Slots.{Slots, is_accepted}
use Rattle.run_devices.specs.log_model.Course.{ToldSecond, fresh, went}
use Rattle.run_devices.specs.log_model.declared.lines.Refused.{Refused}
use Rattle.run_devices.specs.history_model.Book.{Book}
use Rattle.run_devices.specs.device_rule.Rules.{Standing}
use Rattle.run_devices.specs.run_unit_course.Followed.{UnitPower, Lit, Due, Lost}
use Rattle.run_devices.specs.run_unit_course.Legs.{Travel}
use Rattle.run_devices.specs.run_unit_course.Turn.{span_at}
use Rattle.run_devices.specs.unit_model.Image.{odometer_at}
use Rattle.run_devices.specs.unit_rule.Odometer.{odometer_after}
use Rattle.run_devices.specs.card_image.Own.{own_view, IsOwnValid}
use Rattle.run_devices.specs.device_calls.Times.{AreTimedSince}
use Rattle.run_devices.specs.safety_model.Recording.{card_image}
use Rattle.run_devices.specs.safety_model.Safe.{Devices, card_of, breakdowns_of, entered_by}
use Rattle.run_devices.specs.card_slots.Calls.{seat_in}
use Rattle.run_devices.specs.card_slots.Kept.{Kept as SlotsKept, left_of}
use Rattle.run_devices.specs.run_crew.declared.cabin.Cabin.{Cabin}
use Rattle.run_devices.specs.run_crew.Cards.{session_of}
use Rattle.run_devices.specs.run_promise.Found.{Found, found_of}
use Rattle.run_devices.specs.hand_model.Written.{Hands}
use Rattle.run_devices.specs.run_promise.Cards.{FirstKeep, IsUntouched}
use Rattle.run_devices.specs.run_promise.Between.{RunLedger}
use Rattle.run_devices.specs.run_course.Followed.{Progress}
use Rattle.run_devices.specs.run_course.Presence.{SlotsTell}
use Rattle.run_devices.specs.Told.{AreFoundCards, DevicesPowered, DevicesUnpowered, AreEarly}
use Rattle.run_devices.specs.run_promise.Origin.{Origin, rule_of, start_at, HistoryIsRecorded}
use Rattle.run_devices.specs.run_promise.Beside.{AreFewFound}
use Rattle.run_devices.specs.run_promise.Ends.{recording_by, MayBeWritten, IsBeside}
use Rattle.run_devices.specs.Presence.{PresentStand}
use Rattle.run_record.specs.Handed.{AreHandedBehind}

-- what a run has by value, as far as its record speaks of it: the lines and marks of its outcome, slots and sessions,
-- the first break of which it is not known what was kept, the number of the next second, how many actions the last one
-- had, the minutes of the span, and the odometer from which they are counted
pub record Values : Type 0 where
  pub log : RunLog
  pub marks : List Mark
  pub cabin : Cabin
  pub unfound : ℕ
  pub next : ℕ
  pub begun : ℕ
  pub minutes : Kept
  pub odometer : ℕ
  -- the refusals of sessions, which are no part of the log
  pub stops : List Refused

-- how far the run has gone
abbrev pub progress : Values → UnitPower → Book → Progress
progress v supply book = record {
  log = v.log;
  unfound = v.unfound;
  next = v.next;
  begun = v.begun;
  supply = supply;
  book = book;
  waiting = [];
}

-- what is carried of unit and cards
abbrev pub carried : Values → (due : ℕ) → Book → (Card → Standing) → (brought : Card → List ℕ)
    → (hands : Card → Hands) → (firsts : Card → List FirstKeep) → RunLedger
carried v due book standing brought hands firsts = record {
  due = due;
  book = book;
  marks = v.marks;
  standing = standing;
  brought = brought;
  hands = hands;
  firsts = firsts;
}

-- the slots as the log has them
abbrev pub slots_of : Values → List TraceSecond → Slots
slots_of v done = (went v.log done).before.slots

-- a card with a session left a slot last no later than in this minute
abbrev pub AreBack : (low : ℕ) → Cabin → Type 0
AreBack low cabin = (card : Card) → is_some (session_of cabin.cards card) ≡ true
    → IfSome (left_of cabin.slots.left card) (λ left. left ≤ low)

-- a card sits in one of the slots, accepted
abbrev pub SitsAccepted : SlotsKept → Card → Type 0
SitsAccepted kept card = (slot : Slot) × (n : ℕ)
    × (seat_in kept.seats slot ≡ Some (record { card = card; newest = Some n }))

-- a card left in this minute, or later
abbrev pub LeftSince : ℕ → Option ℕ → Type 0
LeftSince minute None = ⊥
LeftSince minute (Some left) = minute ≤ left

-- A card was judged in a second, to which its stored time at the start is not later; it sits accepted still, or has
-- left since.
pub record IsWrittenSince (o : Origin) (kept : SlotsKept) (last : ℕ) (card : Card) (since : ℕ) : Type 0 where
  pub stored : (own_view (card_image o.recording card)).stored ≤ since
  pub past : since ≤ last
  pub stays : SitsAccepted kept card ⊎ LeftSince (since / 60) (left_of kept.left card)

-- Over a step in this second a card that sits accepted does so still, and left when it did; or it has left in the
-- second's minute.
abbrev pub GoesOnIn : (u : ℕ) → (kept after : SlotsKept) → Card → Type 0
GoesOnIn u kept after card = ((SitsAccepted kept card → SitsAccepted after card)
    × (left_of after.left card ≡ left_of kept.left card)) ⊎ (left_of after.left card ≡ Some (u / 60))

-- A card may be written, and was judged in one of the seconds so far in which it entered.
pub record IsWritten (o : Origin) (done : List TraceSecond) (v : Values) (card : Card) : Type 0 where
  pub may : MayBeWritten (recording_by o done v.log) card
  pub time : ℕ
  pub since : IsWrittenSince o v.cabin.slots (v.next - 1) card time
  pub entered_then : 0 < entered_by (recording_by o done v.log) card time

-- each device tells its image; the clock of no card has gone back since the start; and each image that a stop might
-- have left of a valid card since then tells of its last use at the start, or of a whole minute
pub record AreThere (f : Found) (d : Devices) : Type 0 where
  pub unit : is_some d.unit.image ≡ true
  pub cards : (card : Card) → is_some (card_of d card).image ≡ true
  pub clocks : (card : Card) → (found_of f card).began ≤ (card_of d card).clock
  pub timed : (card : Card) → IsOwnValid (found_of f card).image
      → AreTimedSince (found_of f card).image (found_of f card).began (card_of d card)

-- WHILE THERE IS POWER, with these seconds of the span: unit and cards may be called and are as the book says, the
-- minutes stand for the span, and who was present in the minutes that are still to be kept is told by the slots, and
-- stands so.
pub record RecordPowered (o : Origin) (done : List TraceSecond) (span : List ToldSecond) (v : Values) (w : RunLedger)
    (d : Devices) : Type 0 where
  pub powered : DevicesPowered o.found w v.cabin.cards d
  pub due : w.due ≤ ungiven_of (span_at (rule_of o) v.next span)
  pub minutes : CountsSpan v.minutes (span_at (rule_of o) v.next span)
  pub tells : SlotsTell (start_at o) (went v.log done).told w.book.sure [] (v.next - 1)
      (ungiven_of (span_at (rule_of o) v.next span)) (slots_of v done) v.cabin.slots
  pub present : PresentStand o.found w.standing (went v.log done).told (fresh false (slots_of v done)) (v.next - 1)
      (ungiven_of (span_at (rule_of o) v.next span)) v.cabin
  pub back : AreBack (ungiven_of (span_at (rule_of o) v.next span)) v.cabin
  pub written : (card : Card) → is_some (session_of v.cabin.cards card) ≡ true → IsWritten o done v card

-- WITHOUT POWER: no card is accepted, and no minute of before is to be kept any more.
pub record RecordUnpowered (o : Origin) (done : List TraceSecond) (v : Values) (w : RunLedger) (d : Devices) : Type
    0 where
  pub powerless : DevicesUnpowered o.found w d
  pub due : w.due ≤ v.next / 60
  pub tells : SlotsTell (start_at o) (went v.log done).told w.book.sure [] (v.next - 1) (v.next / 60) (slots_of v done)
      v.cabin.slots
  pub bare : (c : Card) → session_of v.cabin.cards c ≡ None
  pub driver : is_accepted (slots_of v done).driver ≡ false
  pub codriver : is_accepted (slots_of v done).codriver ≡ false

-- the record by the power: while there is power that of the span so far, else that without power
abbrev pub IsHeldBy : Origin → List TraceSecond → UnitPower → Values → RunLedger → Devices → Type 0
IsHeldBy o done (Lit span) v w d = RecordPowered o done span v w d
IsHeldBy o done Due v w d = RecordUnpowered o done v w d
IsHeldBy o done Lost v w d = RecordUnpowered o done v w d

-- the odometer from which minutes are counted is that of the start and of what was travelled each time before power
-- came last
abbrev pub IsCountedFrom : Origin → (before : List ℕ) → (odometer : ℕ) → Type 0
IsCountedFrom o before odometer = odometer ≡ odometer_after (odometer_at o.recording.unit) before

-- so it is while there is power
abbrev pub IsCountedIn : UnitPower → Origin → (before : List ℕ) → (odometer : ℕ) → Type 0
IsCountedIn (Lit span) o before odometer = IsCountedFrom o before odometer
IsCountedIn Due o before odometer = Unit {0}
IsCountedIn Lost o before odometer = Unit {0}

-- THE RECORD behind these seconds
pub record RecordBetweenSeconds (o : Origin) (done : List TraceSecond) (supply : UnitPower) (v : Values)
    (d : Devices) : Type 0 where
  pub book : Book
  pub travel : Travel
  pub due : ℕ
  pub standing : Card → Standing
  pub brought : Card → List ℕ
  pub hands : Card → Hands
  pub firsts : Card → List FirstKeep
  pub recorded : HistoryIsRecorded o done (progress v supply book) travel v.marks (breakdowns_of d) brought
  pub beside : IsBeside o done (progress v supply book) travel v.marks d
  pub there : AreThere o.found d
  pub few : AreFewFound (recording_by o done v.log)
  pub written : (card : Card) → IsUntouched (found_of o.found card) (card_of d card) ⊎ IsWritten o done v card
  pub found : AreFoundCards o.found v.cabin.cards
  pub early : AreEarly (carried v due book standing brought hands firsts)
  pub held : IsHeldBy o done supply v (carried v due book standing brought hands firsts) d
  -- the entries by hand of the seconds so far, and what the sessions hold of them
  pub handed : AreHandedBehind (start_at o) book.sure o.found v.log done v.stops v.marks hands firsts
      (session_of v.cabin.cards)
  pub odometer : IsCountedIn supply o travel.before v.odometer
