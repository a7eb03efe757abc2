-- Cards are put into their slots and leave them in a run with cards (profile): what each of these actions makes of the
-- record within a second.
use Rattle.std.specs.Prelude.{◌≡◌, ℕ, suc, ◌+◌, ◌/◌, Bool, true, false, Some, None, List, [], ◌∷◌, ◌++◌, length}
use Rattle.std.specs.Prelude.{is_some}
use Rattle.std.specs.List.{AllByRecursion}
use Rattle.minute_rules.specs.activity_codec.declared.values.Slot.{Slot}
use Rattle.minute_rules.specs.activity_codec.Activity.{same_slot}
use Rattle.run_devices.specs.trace_model.declared.Card.{Card}
use Rattle.run_devices.specs.trace_model.declared.Action.{Action}
use Rattle.run_devices.specs.trace_model.declared.Action.TheVariants.{Insert, Withdraw, Tear as Pull}
use Rattle.run_devices.specs.trace_model.Trace.{TraceSecond}
use Rattle.run_devices.specs.run_model.declared.Device.TheVariants.{Unit as Recorder}
use Rattle.minute_rules.specs.minute_model.declared.Minute.{Minute}
use Rattle.minute_rules.specs.minute_model.Span.{settled, decided_in}
use Rattle.minute_rules.specs.Kept.{Kept, CountsSpan}
use Rattle.run_devices.specs.log_model.declared.lines.Break.{Break}
use Rattle.run_devices.specs.log_model.declared.lines.Break.TheVariants.{Tear}
use Rattle.run_devices.specs.log_model.Log.{Phase, In, Keeping, found_in}
use Rattle.run_devices.specs.log_model.Slots.{refusal}
use Rattle.run_devices.specs.log_model.Causes.{RoseBy}
use Rattle.run_devices.specs.log_model.Course.{Visit, Moved, went}
use Rattle.run_devices.specs.device_rule.Rules.{Standing, Out, In as IsIn, Torn}
use Rattle.run_devices.specs.run_unit_course.Legs.{all_travelled}
use Rattle.run_devices.specs.unit_model.Image.{odometer_at}
use Rattle.run_devices.specs.unit_rule.Odometer.{HasTravelled}
use Rattle.run_devices.specs.safety_model.Safe.{Devices, breakdowns_of}
use Rattle.run_devices.specs.card_slots.Calls.{seat_in, card_in}
use Rattle.run_devices.specs.run_crew.Cards.{session_of}
use Rattle.run_devices.specs.run_crew.Cabin.{CabinIsSound, with_card_in, with_slot_left, with_session_of, torn_out}
use Rattle.run_devices.specs.run_course.Seconds.{kept_all}
use Rattle.run_devices.specs.run_course.Reached.{moved_at, IsTearAt}
use Rattle.run_devices.specs.run_course.Moment.{entering_by}
use Rattle.run_devices.specs.run_course.Telling.{IsMore, BrokeDown}
use Rattle.run_devices.specs.Told.{DevicesPowered, DevicesUnpowered, with_standing}
use Rattle.run_devices.specs.run_promise.Origin.{Origin}
use Rattle.run_record.specs.Recorded.{Values, carried}
use Rattle.run_record.specs.Within.{course_in, IsLeaving, GoesOnSo, RecordInSecond, SecondGoesOn, RecordAtFailure}
use Rattle.run_record.specs.Judging.{IsNext, torn_values}

-- ---- a card is put into a slot

-- what a run has by value once a card was put into a slot, where these minutes stand for the span
abbrev pub put_values : Slot → Card → Kept → Values → Values
put_values slot card minutes v = record v { cabin = with_card_in slot card v.cabin; minutes = minutes }

-- nothing leaves a slot, and one is entered
abbrev pub entered_alone : Slot → Moved
entered_alone slot = record { enters = same_slot slot; leaving = λ other. [] }

-- A CARD WAS PUT INTO A SLOT: it enters with this moment and waits, and nothing was found at it; this decides the
-- minutes before this one, which are still to be kept.
pub record IsPutIntoSlot (o : Origin) (done : List TraceSecond) (s : TraceSecond) (v : Values) (d : Devices)
    (front : List Action) (slot : Slot) (card : Card) (minutes : Kept) (decided : List Minute)
    (w : RecordInSecond o done s (In (length front)) [] None [] v d) : Type 0 where
  pub goes : SecondGoesOn o done s (In (suc (length front))) (entering_by (length front) (Insert slot card)) None
      decided (put_values slot card minutes v) d w.b w.from
  pub moved : moved_at v.log (went goes.within.b.run.log done).before s (In (suc (length front))) ≡ entered_alone slot
  pub none : (x : Slot) → found_in v.log s.number (In (suc (length front))) x ≡ []
  pub settles : (course_in goes.within.b done s (In (suc (length front))) v.log).settled ≡ true
  pub to_here : goes.within.from + length decided ≡ s.number / 60

-- SO IT IS of an insertion that the slots let pass, where these minutes stand for the span with its settling.
abbrev pub ACardIsPutIn : Devices → Type 0
ACardIsPutIn d = (o : Origin) (done : List TraceSecond) (s : TraceSecond) (v : Values) (front : List Action)
    (slot : Slot) (card : Card) (rest : List Action) → s.actions ≡ front ++ Insert slot card ∷ rest →
    (w : RecordInSecond o done s (In (length front)) [] None [] v d)
    → refusal (course_in w.b done s (In (length front)) v.log).slots s.speed (Insert slot card) ≡ None →
    (minutes : Kept) → CountsSpan minutes (settled w.sp) → (decided : List Minute)
    → decided_in (settled w.sp) ≡ decided_in w.sp ++ decided →
    IsPutIntoSlot o done s v d front slot card minutes decided w

-- lines that tell of tears at a moment
abbrev pub AreTearsAt : TraceSecond → Phase → List Break → Type 0
AreTearsAt s at more = AllByRecursion (λ (b : Break). (slot : Slot) × (failed : Bool) × IsTearAt s at slot failed b)
    more

-- a card may be judged now, of which nothing was found at this moment
pub record MayBeJudged (o : Origin) (done : List TraceSecond) (s : TraceSecond) (at : Phase) (waits : List Visit)
    (v : Values) (d : Devices) (w : RecordInSecond o done s at waits None [] v d) (slot : Slot) (card : Card) : Type
    0 where
  pub next : IsNext o done s at waits [] v d w slot card
  pub none : (x : Slot) → found_in v.log s.number at x ≡ []

-- BEHIND THE KEEPING of these minutes it may be judged: since then the log tells of tears alone, and it sits there
-- still.
abbrev pub AnEnteredCardIsNext : (d e : Devices) → Type 0
AnEnteredCardIsNext d e = (o : Origin) (done : List TraceSecond) (s : TraceSecond) (v : Values) (front : List Action)
    (slot : Slot) (card : Card) (minutes : Kept) (decided : List Minute)
    → (w : RecordInSecond o done s (In (length front)) [] None [] v d) →
    (put : IsPutIntoSlot o done s v d front slot card minutes decided w) → (later : Values)
    → (x : RecordInSecond o done s (In (suc (length front))) (entering_by (length front) (Insert slot card)) None []
    later e) → x.b ≡ put.goes.within.b → x.from ≡ s.number / 60 →
    (more : List Break) → later.log ≡ record v.log { breaks = v.log.breaks ++ more }
    → AreTearsAt s (In (suc (length front))) more
    → seat_in later.cabin.slots.seats slot ≡ Some (record { card = card; newest = None }) →
    MayBeJudged o done s (In (suc (length front))) (entering_by (length front) (Insert slot card)) later e x slot card

-- ---- a card is withdrawn

-- what a run has by value as its card has left a slot
abbrev pub left_values : Slot → (second : ℕ) → Kept → Values → Values
left_values slot second minutes v = record v { cabin = with_slot_left slot second v.cabin; minutes = minutes }

-- A CARD HAS LEFT ITS SLOT with this moment, and its session, if it has one, is not closed yet; this decides the
-- minutes before this one.
pub record IsLeft (o : Origin) (done : List TraceSecond) (s : TraceSecond) (v : Values) (d : Devices)
    (front : List Action) (slot : Slot) (card : Card) (minutes : Kept) (decided : List Minute)
    (w : RecordInSecond o done s (In (length front)) [] None [] v d) : Type 0 where
  pub goes : SecondGoesOn o done s (In (suc (length front))) [] None decided (left_values slot s.number minutes v) d w.b
      w.from
  pub leaving : is_some (session_of v.cabin.cards card) ≡ true →
      IsLeaving v.log (went goes.within.b.run.log done).before s (In (suc (length front))) goes.within.from
      (goes.within.from + length decided) (with_slot_left slot s.number v.cabin) slot card
  pub settles : (course_in goes.within.b done s (In (suc (length front))) v.log).settled ≡ true
  pub to_here : goes.within.from + length decided ≡ s.number / 60

-- SO IT IS of a withdrawal that the slots and the speed let pass, where these minutes stand for the span with its
-- settling.
abbrev pub ACardLeaves : Devices → Type 0
ACardLeaves d = (o : Origin) (done : List TraceSecond) (s : TraceSecond) (v : Values) (front : List Action)
    (slot : Slot) (card : Card) (rest : List Action) → s.actions ≡ front ++ Withdraw slot ∷ rest →
    (w : RecordInSecond o done s (In (length front)) [] None [] v d)
    → refusal (course_in w.b done s (In (length front)) v.log).slots s.speed (Withdraw slot) ≡ None
    → card_in (seat_in v.cabin.slots.seats slot) ≡ Some card →
    (minutes : Kept) → CountsSpan minutes (settled w.sp) → (decided : List Minute)
    → decided_in (settled w.sp) ≡ decided_in w.sp ++ decided →
    IsLeft o done s v d front slot card minutes decided w

-- A CALL FOR A CARD THAT IS LEAVING, behind the keeping of these minutes
pub record IsCalledLeaving (o : Origin) (done : List TraceSecond) (s : TraceSecond) (at : Phase) (v : Values)
    (d e : Devices) (w : RecordInSecond o done s at [] None [] v d) (slot : Slot) (card : Card) : Type 0 where
  pub low : ℕ
  pub leaving : IsLeaving v.log (went w.b.run.log done).before s at low low v.cabin slot card
  pub is_now : w.from ≡ s.number / 60
  pub goes : GoesOnSo o v.cabin.cards d e
  pub travels : HasTravelled (odometer_at o.recording.unit) (kept_all w.new w.b.run.book)
      (all_travelled w.ds w.b.travel) e.unit

-- what a run has by value once the session of a card is closed
abbrev pub closed_values : Card → Values → Values
closed_values card v = record v { cabin = with_session_of card None v.cabin }

-- ITS SESSION IS CLOSED, and no card broke down: the card is not accepted any more;
abbrev pub ASessionIsClosed : (d e : Devices) → Type 0
ASessionIsClosed d e = (o : Origin) (done : List TraceSecond) (s : TraceSecond) (at : Phase) (v : Values)
    → (w : RecordInSecond o done s at [] None [] v d) → (slot : Slot) (card : Card)
    → IsCalledLeaving o done s at v d e w slot card →
    IsMore (breakdowns_of d) (breakdowns_of e) →
    DevicesPowered o.found (with_standing card Out
    (carried v w.due (kept_all w.new w.b.run.book) w.standing w.brought w.hands w.firsts))
    (closed_values card v).cabin.cards e →
    SecondGoesOn o done s at [] None [] (closed_values card v) e w.b w.from

-- or the unit failed behind that.
abbrev pub AClosingFails : (d e : Devices) → Type 0
AClosingFails d e = (o : Origin) (done : List TraceSecond) (s : TraceSecond) (at : Phase) (v : Values)
    → (w : RecordInSecond o done s at [] None [] v d) → (slot : Slot) (card : Card)
    → IsCalledLeaving o done s at v d e w slot card →
    IsMore (breakdowns_of d) (breakdowns_of e) →
    DevicesUnpowered o.found (with_standing card Out
    (carried v w.due (kept_all w.new w.b.run.book) w.standing w.brought w.hands w.firsts)) e
    → RoseBy 1 (w.b.broken Recorder) (breakdowns_of e Recorder) → (at ≡ Keeping → ⊥) →
    RecordAtFailure o done s at [] None (closed_values card v) e

-- what a run has by value where the card failed as its session was closed
abbrev pub fallen_values : Break → Card → (second : ℕ) → Values → Values
fallen_values b card second v = torn_values b (torn_out card second (with_session_of card None v.cabin)) v

-- THE CARD FAILED as its session was closed, and that is told: it is not accepted any more;
abbrev pub ALeavingCardIsTorn : (d e : Devices) → Type 0
ALeavingCardIsTorn d e = (o : Origin) (done : List TraceSecond) (s : TraceSecond) (at : Phase) (v : Values)
    → (w : RecordInSecond o done s at [] None [] v d) → (slot : Slot) (card : Card)
    → IsCalledLeaving o done s at v d e w slot card →
    (b : Break) → IsTearAt s at slot true b → BrokeDown card (breakdowns_of d) (breakdowns_of e) →
    DevicesPowered o.found (with_standing card Out
    (carried v w.due (kept_all w.new w.b.run.book) w.standing w.brought w.hands w.firsts))
    (fallen_values b card s.number v).cabin.cards e →
    SecondGoesOn o done s at [] None [] (fallen_values b card s.number v) e w.b w.from

-- or the unit failed behind that.
abbrev pub ALeavingTearFails : (d e : Devices) → Type 0
ALeavingTearFails d e = (o : Origin) (done : List TraceSecond) (s : TraceSecond) (at : Phase) (v : Values)
    → (w : RecordInSecond o done s at [] None [] v d) → (slot : Slot) (card : Card)
    → IsCalledLeaving o done s at v d e w slot card →
    (b : Break) → IsTearAt s at slot true b → BrokeDown card (breakdowns_of d) (breakdowns_of e) →
    DevicesUnpowered o.found (with_standing card Out
    (carried v w.due (kept_all w.new w.b.run.book) w.standing w.brought w.hands w.firsts)) e
    → RoseBy 1 (w.b.broken Recorder) (breakdowns_of e Recorder) → (at ≡ Keeping → ⊥) →
    RecordAtFailure o done s at [] None (fallen_values b card s.number v) e

-- ---- a card is pulled out, or fails in its slot

-- the line of a card that is pulled out with an action
abbrev pub pulled_line : (second begun : ℕ) → Slot → Break
pulled_line second begun slot = Tear second slot false begun false

-- A CARD IS PULLED OUT of its slot, and no device is called.
abbrev pub ACardIsPulledOut : Devices → Type 0
ACardIsPulledOut d = (o : Origin) (done : List TraceSecond) (s : TraceSecond) (v : Values) (front : List Action)
    (slot : Slot) (card : Card) (rest : List Action) → s.actions ≡ front ++ Pull slot ∷ rest →
    (w : RecordInSecond o done s (In (length front)) [] None [] v d)
    → card_in (seat_in v.cabin.slots.seats slot) ≡ Some card → (low : ℕ) → CabinIsSound low None v.cabin →
    SecondGoesOn o done s (In (suc (length front))) [] None []
    (torn_values (pulled_line s.number (suc (length front)) slot) (torn_out card s.number v.cabin) v) d w.b w.from

-- how a card stands that is torn out, where no minute before this one is to be kept any more
abbrev pub fallen : (floor : ℕ) → Standing → Standing
fallen floor Out = Out
fallen floor (IsIn session newest) = Torn session newest floor
fallen floor (Torn session newest low) = Torn session newest low

-- AN ACCEPTED CARD FAILED in its slot, as something was to be noted on it: with an action, in the keeping, or as power
-- comes with the second.
pub record IsCalledSeated (o : Origin) (done : List TraceSecond) (s : TraceSecond) (at : Phase) (v : Values)
    (d e : Devices) (w : RecordInSecond o done s at [] None [] v d) (slot : Slot) (card : Card) (b : Break) : Type
    0 where
  pub sits_ : card_in (seat_in v.cabin.slots.seats slot) ≡ Some card
  pub session : is_some (session_of v.cabin.cards card) ≡ true
  pub low : ℕ
  pub stands : CabinIsSound low None v.cabin
  pub here : IsTearAt s at slot true b
  pub power : at ≡ In 0 → (went w.b.run.log done).before.running ≡ false
  pub broke : BrokeDown card (breakdowns_of d) (breakdowns_of e)
  pub goes : GoesOnSo o v.cabin.cards d e
  pub travels : HasTravelled (odometer_at o.recording.unit) (kept_all w.new w.b.run.book)
      (all_travelled w.ds w.b.travel) e.unit

-- That is told, and it is torn out;
abbrev pub ASeatedCardIsTorn : (d e : Devices) → Type 0
ASeatedCardIsTorn d e = (o : Origin) (done : List TraceSecond) (s : TraceSecond) (at : Phase) (v : Values)
    → (w : RecordInSecond o done s at [] None [] v d) → (slot : Slot) (card : Card) (b : Break)
    → IsCalledSeated o done s at v d e w slot card b →
    DevicesPowered o.found (with_standing card (fallen w.from (w.standing card))
    (carried v w.due (kept_all w.new w.b.run.book) w.standing w.brought w.hands w.firsts))
    (torn_out card s.number v.cabin).cards e →
    SecondGoesOn o done s at [] None [] (torn_values b (torn_out card s.number v.cabin) v) e w.b w.from

-- or the unit failed behind that.
abbrev pub ASeatedTearFails : (d e : Devices) → Type 0
ASeatedTearFails d e = (o : Origin) (done : List TraceSecond) (s : TraceSecond) (at : Phase) (v : Values)
    → (w : RecordInSecond o done s at [] None [] v d) → (slot : Slot) (card : Card) (b : Break)
    → IsCalledSeated o done s at v d e w slot card b →
    DevicesUnpowered o.found (with_standing card (fallen w.from (w.standing card))
    (carried v w.due (kept_all w.new w.b.run.book) w.standing w.brought w.hands w.firsts)) e
    → RoseBy 1 (w.b.broken Recorder) (breakdowns_of e Recorder) → (at ≡ Keeping → ⊥) →
    RecordAtFailure o done s at [] None (torn_values b (torn_out card s.number v.cabin) v) e
