-- What the recorder with cards carries WITHIN A SECOND that has power (profile): at its power-on, at each of its
-- actions, and in its keeping.
use Rattle.std.specs.Prelude.{◌≡◌, ◌⊎◌, ◌&&◌, Bool, ℕ, suc, ◌+◌, ◌-◌, ◌*◌, ◌/◌, ◌≤◌, ◌<◌}
use Rattle.std.specs.Prelude.{true, false, Option, Some, None}
use Rattle.std.specs.Prelude.{IfSome, is_some, List, [], ◌∷◌, ◌++◌, Contains, length, filter, option_map}
use Rattle.std.specs.Prelude.{option_to_list}
use Rattle.minute_rules.specs.activity_codec.declared.values.Slot.{Slot}
use Rattle.minute_rules.specs.activity_codec.declared.values.Slot.TheVariants.{Driver, CoDriver}
use Rattle.minute_rules.specs.activity_codec.declared.values.Pick.{Pick}
use Rattle.run_devices.specs.trace_model.declared.Card.{Card}
use Rattle.run_devices.specs.trace_model.Trace.{TraceSecond}
use Rattle.run_devices.specs.trace_model.declared.Action.{Action}
use Rattle.run_devices.specs.trace_model.declared.Action.TheVariants.{Select, Place, Manual}
use Rattle.run_devices.specs.run_model.declared.Device.{Device}
use Rattle.run_devices.specs.run_model.declared.Device.TheVariants.{Unit as Recorder}
use Rattle.minute_rules.specs.minute_model.declared.Minute.{Minute}
use Rattle.minute_rules.specs.minute_model.Span.{Span, fed, picked, decided_in, ungiven_of}
use Rattle.minute_rules.specs.Kept.{Kept, CountsSpan}
use Rattle.run_devices.specs.log_model.declared.lines.Mark.{Mark}
use Rattle.run_devices.specs.log_model.declared.lines.Verdict.{Verdict}
use Rattle.run_devices.specs.log_model.declared.lines.Verdict.TheVariants.{Accepted as Takes, NotValid, TimeOverlap}
use Rattle.run_devices.specs.log_model.Causes.{RoseBy}
use Rattle.run_devices.specs.log_model.Log.{RunLog, Phase, In, Keeping, is_accepting, is_torn_in}
use Rattle.run_devices.specs.log_model.declared.lines.SlotFault.{SlotFault}
use Rattle.run_devices.specs.log_model.Slots.{same_card, refusal}
use Rattle.run_devices.specs.log_model.Course.{ToldSecond, Course, Visit, Before, went}
use Rattle.run_devices.specs.log_model.declared.lines.Refused.{Refused}
use Rattle.run_devices.specs.history_model.Minutes.{HistoryMinute}
use Rattle.run_devices.specs.history_model.Presence.{card_start}
use Rattle.run_devices.specs.history_model.History.{seated}
use Rattle.run_devices.specs.history_model.Book.{kept}
use Rattle.run_devices.specs.device_rule.Rules.{Standing}
use Rattle.run_devices.specs.run_unit_course.Followed.{UnitPower, Lit, Lost}
use Rattle.run_devices.specs.run_unit_course.Legs.{Travel, stranded_at, all_travelled}
use Rattle.run_devices.specs.run_unit_course.Lines.{cut_at}
use Rattle.run_devices.specs.run_unit_course.Turn.{span_at}
use Rattle.run_devices.specs.unit_model.Image.{odometer_at}
use Rattle.run_devices.specs.unit_rule.Odometer.{HasTravelled}
use Rattle.run_devices.specs.device_rule.Views.{owed}
use Rattle.run_devices.specs.card_image.Own.{own_view, own_bad_file, IsOwnValid}
use Rattle.run_devices.specs.safety_model.Recording.{card_image, unit_seen}
use Rattle.run_devices.specs.safety_model.Cards.{entered, overlaps, is_overlap}
use Rattle.run_devices.specs.safety_model.Safe.{Devices, card_of, breakdowns_of, entered_by}
use Rattle.run_devices.specs.run_promise.Found.{found_of}
use Rattle.run_devices.specs.hand_model.Written.{Hands}
use Rattle.run_devices.specs.run_promise.Cards.{FirstKeep, IsUntouched}
use Rattle.run_devices.specs.run_course.Followed.{Progress}
use Rattle.run_devices.specs.run_course.Moments.{and_break, and_refused}
use Rattle.run_devices.specs.run_course.Seconds.{next_told, kept_all, broken_at}
use Rattle.run_devices.specs.run_course.Presence.{SlotsTell}
use Rattle.run_devices.specs.run_promise.Going.{IsTakenAt}
use Rattle.run_devices.specs.run_course.Reached.{course_at, moved_at}
use Rattle.run_devices.specs.run_course.Lines.{times_of}
use Rattle.run_devices.specs.run_course.Moment.{Moment}
use Rattle.run_devices.specs.run_course.Telling.{IsMore, begun_by, IsLeft}
use Rattle.run_devices.specs.run_course.Kept.{HasDecided, AreMarkedSoFar}
use Rattle.run_devices.specs.Told.{AreFoundCards, DevicesPowered, DevicesUnpowered, AreEarly}
use Rattle.run_devices.specs.run_promise.Origin.{Origin, rule_of, start_at, first_of, HistoryIsRecorded}
use Rattle.run_devices.specs.run_promise.Ends.{recording_by, IsAllOwed, AreVerdicts}
use Rattle.run_devices.specs.run_promise.Beside.{HaveLeftMore, AreFewFound}
use Rattle.run_devices.specs.Presence.{PresentStand}
use Rattle.run_devices.specs.card_slots.declared.seats.Present.{Present}
use Rattle.run_devices.specs.card_slots.Calls.{seat_in, present_in, card_in}
use Rattle.run_devices.specs.card_slots.Kept.{Kept as SlotsKept, left_of}
use Rattle.run_devices.specs.run_crew.declared.cabin.Cabin.{Cabin}
use Rattle.run_devices.specs.run_crew.declared.cards.Cards.{Cards}
use Rattle.run_devices.specs.run_crew.Cards.{known_of, session_of}
use Rattle.run_devices.specs.run_crew.declared.cards.Accepted.{Accepted}
use Rattle.run_devices.specs.run_crew.Cabin.{SitsNowhere, CabinIsSound, with_minute_ended, with_power_lost}
use Rattle.run_record.specs.Recorded.{Values, progress, carried, IsWrittenSince, AreThere, IsCountedFrom}
use Rattle.run_record.specs.Recorded.{RecordBetweenSeconds}
use Rattle.run_record.specs.Handed.{AreHandedIn}
use Rattle.minute_rules.specs.activity_codec.declared.entries.Manual.{Manual as Entry}
use Rattle.minute_rules.specs.activity_codec.Activity.{activity_of}
use Rattle.run_devices.specs.hand_model.Holding.{stopped_by}
use Rattle.run_devices.specs.log_model.ByHand.{minute_on}
use Rattle.run_devices.specs.hand_model.declared.held.EnterFault.{EnterFault}
use Rattle.run_devices.specs.hand_model.declared.held.EnterFault.TheVariants as enter
use Rattle.run_devices.specs.log_model.declared.lines.SlotFault.TheVariants.{Begun, NotFree, Full}

-- as the second began, behind its power-on: how far the run had gone, the seconds of the span, what was travelled, the
-- marks, how often each device had broken down, and what acceptances had brought
pub record Beginning : Type 0 where
  pub run : Progress
  pub span : List ToldSecond
  pub travel : Travel
  pub marks : List Mark
  pub broken : Device → ℕ
  pub brought : Card → List ℕ

-- how the seconds before it went
abbrev pub told_before : Beginning → List TraceSecond → List ToldSecond
told_before b done = (went b.run.log done).told

-- its course at a moment, by this log
abbrev pub course_in : Beginning → List TraceSecond → TraceSecond → Phase → RunLog → Course
course_in b done s at log = course_at log (went b.run.log done).before s at

-- What may be found of a card in a second in whose minute it has entered so often (the same as `IsVerdict` of
-- safety_model, by that number),
abbrev pub SeenBy : Origin → (often : ℕ) → (unit card : List ℕ → Type 0) → Card → ℕ → Verdict → Type 0
SeenBy o often unit card c u (Takes replayed) =
    IsOwnValid (card_image o.recording c) × ((own_view (card_image o.recording c)).stored ≤ u)
    × ((i x : List ℕ) × unit i × card x × ((own_view x).stored ≤ u)
    × (length (owed c (unit_seen o.recording i) (own_view x)) ≡ replayed))
SeenBy o often unit card c u (NotValid fid place) = own_bad_file (card_image o.recording c) ≡ Some (fid, place)
SeenBy o often unit card c u (TimeOverlap stored now) = IsOwnValid (card_image o.recording c) × (now ≡ u)
    × ((u < stored)
    × ((stored ≡ (own_view (card_image o.recording c)).stored)
    ⊎ (((own_view (card_image o.recording c)).stored ≤ u) × (1 < often) × (stored ≡ 60 * suc (u / 60))
    × ((x : List ℕ) × card x × ((own_view x).stored ≡ stored)))))

-- and what an acceptance brings, by that number and the seconds before (the same as `BringsAll` of run_promise).
abbrev pub BringsBy : Origin → Beginning → List TraceSecond → (often : ℕ) → List Mark → Card → ℕ → Verdict → Type 0
BringsBy o b done often marks c u (Takes replayed) = IsAllOwed o.recording marks c replayed
    ⊎ ((1 < often) ⊎ ((t : ℕ) × (t < u) × (0 < entered_by (recording_by o done b.run.log) c t)))
BringsBy o b done often marks c u (NotValid fid place) = Unit {0}
BringsBy o b done often marks c u (TimeOverlap stored now) = Unit {0}

-- so a verdict may be found of a card: by the images, and by what it brings
abbrev pub VerdictBy : Origin → Beginning → List TraceSecond → (often : ℕ) → List Mark → (unit card : List ℕ → Type 0)
    → Card → ℕ → Verdict → Type 0
VerdictBy o b done often marks unit card c u v = SeenBy o often unit card c u v × BringsBy o b done often marks c u v

-- how often a card entered in the minute of a second, by what has come of that so far
abbrev pub often : Origin → Beginning → List TraceSecond → Course → ℕ → Card → ℕ
often o b done c u card = entered_by (recording_by o done b.run.log) card u + times_of card c.entered

-- WHAT WAS FOUND of cards in this second so far may be found of them; each acceptance is taken at the unit's last-kept
-- minute, and behind it no minute before this one is to be kept.
pub record IsFoundSo (o : Origin) (b : Beginning) (done : List TraceSecond) (c : Course) (u from : ℕ)
    (new : List HistoryMinute) (marks : List Mark) (brought : Card → List ℕ) (d : Devices) : Type 0 where
  pub may : (e : Visit) (v : Verdict) → Contains c.found (e, v) → (n : ℕ) × (n ≤ often o b done c u e.card)
      × VerdictBy o b done n marks (d.unit.left_since o.found.unit.began)
      ((card_of d e.card).left_since (found_of o.found e.card).began) e.card u v
  pub taken : (e : Visit) (v : Verdict) → Contains c.found (e, v) → is_accepting v ≡ true
      → (k : ℕ) × Contains (brought e.card) k × IsTakenAt (first_of o) b.run.book (kept_all new b.run.book) new k
  pub late : (e : Visit) (v : Verdict) → Contains c.found (e, v) → is_accepting v ≡ true → u / 60 ≤ from

-- of what was found, what tells of a later time of a card
abbrev pub overlaps_by : Origin → Card → List (Visit × Verdict) → List (Visit × Verdict)
overlaps_by o card found = filter (λ f. same_card card f.0.card && is_overlap o.recording card f.1) found

-- A card may be written now, in the second of this number: it was valid, and entered more often than it was found to
-- tell of a later time, where it does not wait still to be judged; and it was judged in one of the seconds before in
-- which it entered, or is in this one.
pub record MayBeWrittenSo (o : Origin) (b : Beginning) (done : List TraceSecond) (c : Course) (waits : List Visit)
    (u : ℕ) (kept : SlotsKept) (card : Card) : Type 0 where
  pub valid : IsOwnValid (card_image o.recording card)
  pub fewer : overlaps (recording_by o done b.run.log) card + length (overlaps_by o card c.found) + times_of card waits
      < entered (recording_by o done b.run.log) card + times_of card c.entered
  pub time : ℕ
  pub since : IsWrittenSince o kept u card time
  pub entered_then : (0 < entered_by (recording_by o done b.run.log) card time)
      ⊎ ((time ≡ u) × (times_of card waits < times_of card c.entered))

-- A card is as it was, or may be written.
abbrev pub IsSparedSo : Origin → Beginning → List TraceSecond → Course → (waits : List Visit) → (u : ℕ) → SlotsKept
    → Devices → Card → Type 0
IsSparedSo o b done c waits u kept d card = IsUntouched (found_of o.found card) (card_of d card)
    ⊎ MayBeWrittenSo o b done c waits u kept card

-- A CARD IS LEAVING a slot with this moment, and its session is not closed yet: it sits in none, and was not torn out.
-- All minutes before this one are to be kept by then; in those that are still to be kept, from the first of them on, it
-- was present in that slot, if at all.
pub record IsLeaving (log : RunLog) (before : Before) (s : TraceSecond) (at : Phase) (low high : ℕ) (cabin : Cabin)
    (slot : Slot) (card : Card) : Type 0 where
  pub leaves : (moved_at log before s at).leaving slot ≡ record { phase = at; slot = slot; card = card } ∷ []
  pub empty : seat_in cabin.slots.seats slot ≡ None
  pub nowhere : SitsNowhere cabin.slots.seats card
  pub untorn : is_torn_in log s.number at slot ≡ false
  pub to : high ≡ s.number / 60
  pub driver : (m : ℕ) (present : Present) → low ≤ m → present_in cabin.slots.past m ≡ Some present
      → present.driver ≡ Some card → slot ≡ Driver
  pub codriver : (m : ℕ) (present : Present) → low ≤ m → present_in cabin.slots.past m ≡ Some present
      → present.codriver ≡ Some card → slot ≡ CoDriver

-- A card with a session left a slot last no later than in the first minute that is still to be kept; or it is leaving
-- one.
abbrev pub AreBackAt : RunLog → Before → TraceSecond → Phase → (low high : ℕ) → Cabin → Type 0
AreBackAt log before s at low high cabin = (card : Card) → is_some (session_of cabin.cards card) ≡ true →
    IfSome (left_of cabin.slots.left card) (λ left. left ≤ low)
    ⊎ ((slot : Slot) × IsLeaving log before s at low high cabin slot card)

-- THE RECORD AT A MOMENT of a second. These cards have entered at it and are not judged yet; one may be leaving its
-- slot, whose session is not closed yet; the second is fed, or not; and of the minutes that it has decided these are
-- still to be kept.
pub record RecordInSecond (o : Origin) (done : List TraceSecond) (s : TraceSecond) (at : Phase) (waits : List Visit)
    (speed : Option ℕ) (rest : List Minute) (v : Values) (d : Devices) : Type 0 where
  -- as the second began
  pub b : Beginning
  pub lit : b.run.supply ≡ Lit b.span
  pub began : HistoryIsRecorded o done b.run b.travel b.marks b.broken b.brought
  pub unfound : v.unfound ≡ b.run.unfound
  pub next : v.next ≡ b.run.next
  -- what the log tells of it so far, and what it has decided
  pub moment : Moment b.run (went b.run.log done).before s at v.log waits b.broken (breakdowns_of d)
  pub sp : Span
  pub minutes : CountsSpan v.minutes sp
  pub ds : List Minute
  pub new : List HistoryMinute
  pub decided : HasDecided (rule_of o) (start_at o) (told_before b done) b.run b.span (course_in b done s at v.log)
      speed sp ds rest new
  -- the first minute that is still to be kept, behind those that are kept; with the others it is the first that is not
  -- decided
  pub from : ℕ
  pub kept_to : from ≡ ungiven_of (span_at (rule_of o) b.run.next b.span) + length ds
  pub until : from + length rest ≡ ungiven_of sp
  -- what is acknowledged
  pub stay : (mark : Mark) → Contains b.marks mark → Contains v.marks mark
  pub marked : AreMarkedSoFar v.marks (told_before b done) (course_in b done s at v.log) s.number new
  -- unit and cards are as the book says that has what is kept
  pub due : ℕ
  pub standing : Card → Standing
  pub brought : Card → List ℕ
  pub hands : Card → Hands
  pub firsts : Card → List FirstKeep
  pub powered : DevicesPowered o.found (carried v due (kept_all new b.run.book) standing brought hands firsts)
      v.cabin.cards d
  -- the entries by hand so far, and what the sessions hold of them
  pub handed : AreHandedIn (start_at o) (kept_all new b.run.book).sure o.found b.run.log done s at v.log
      (course_in b done s at v.log) v.stops v.marks hands firsts
      (session_of v.cabin.cards)
  pub found : AreFoundCards o.found v.cabin.cards
  pub early : AreEarly (carried v due (kept_all new b.run.book) standing brought hands firsts)
  pub late : due ≤ from
  pub more : (c : Card) (k : ℕ) → Contains (b.brought c) k → Contains (brought c) k
  -- who is present
  pub tells : SlotsTell (start_at o) (told_before b done) (b.run.book.sure ++ new) (course_in b done s at v.log).left
      s.number from (course_in b done s at v.log).slots v.cabin.slots
  pub present : PresentStand o.found standing (told_before b done) (course_in b done s at v.log) s.number from v.cabin
  pub back : AreBackAt v.log (went b.run.log done).before s at from (from + length rest) v.cabin
  -- what was found of cards, which may be written, and the odometer
  pub verdicts : AreVerdicts o done b.run.log b.run.unfound b.marks d
  pub finds : IsFoundSo o b done (course_in b done s at v.log) s.number from new v.marks brought d
  pub there : AreThere o.found d
  pub few : AreFewFound (recording_by o done b.run.log)
  pub spared : (c : Card) → IsSparedSo o b done (course_in b done s at v.log) waits s.number v.cabin.slots d c
  pub written : (c : Card) → is_some (session_of v.cabin.cards c) ≡ true
      → MayBeWrittenSo o b done (course_in b done s at v.log) waits s.number v.cabin.slots c
  pub travels : HasTravelled (odometer_at o.recording.unit) (kept_all new b.run.book) (all_travelled ds b.travel) d.unit
  pub odometer : IsCountedFrom o b.travel.before v.odometer

-- THE SECOND GOES ON: it began so, and this is the first minute that is still to be kept.
pub record SecondGoesOn (o : Origin) (done : List TraceSecond) (s : TraceSecond) (at : Phase) (waits : List Visit)
    (speed : Option ℕ) (rest : List Minute) (v : Values) (d : Devices) (b : Beginning) (first : ℕ) : Type 0 where
  pub within : RecordInSecond o done s at waits speed rest v d
  pub began : within.b ≡ b
  pub from : within.from ≡ first

-- the minute whose keeping was broken off, with its cards
abbrev pub lost_minute : Origin → Beginning → List TraceSecond → (new : List HistoryMinute) → Option Minute
    → Option HistoryMinute
lost_minute o b done new lost = option_map {T = Minute}
    (seated (start_at o) (told_before b done) (b.run.book.sure ++ new)) lost

-- THE RECORD WHERE A CALL ON THE UNIT HAS FAILED at a moment of a second, and the power is about to be cut: of what is
-- decided the next minute may be kept or not.
pub record RecordAtFailure (o : Origin) (done : List TraceSecond) (s : TraceSecond) (at : Phase) (waits : List Visit)
    (speed : Option ℕ) (v : Values) (d : Devices) : Type 0 where
  pub b : Beginning
  pub lit : b.run.supply ≡ Lit b.span
  pub began : HistoryIsRecorded o done b.run b.travel b.marks b.broken b.brought
  pub unfound : v.unfound ≡ b.run.unfound
  pub next : v.next ≡ b.run.next
  pub counted : Device → ℕ
  pub moment : Moment b.run (went b.run.log done).before s at v.log waits b.broken counted
  pub rise : IsMore counted (breakdowns_of d)
  pub broke : RoseBy 1 (b.broken Recorder) (breakdowns_of d Recorder)
  pub sp : Span
  pub ds : List Minute
  pub lost : Option Minute
  pub rest : List Minute
  pub new : List HistoryMinute
  pub decided : HasDecided (rule_of o) (start_at o) (told_before b done) b.run b.span (course_in b done s at v.log)
      speed sp ds (option_to_list lost ++ rest) new
  pub fed : (at ≡ Keeping → ⊥) → speed ≡ None
  pub kept : at ≡ Keeping → speed ≡ Some s.speed
  pub from : ℕ
  pub kept_to : from ≡ ungiven_of (span_at (rule_of o) b.run.next b.span) + length ds
  pub stay : (mark : Mark) → Contains b.marks mark → Contains v.marks mark
  pub due : ℕ
  pub standing : Card → Standing
  pub brought : Card → List ℕ
  pub hands : Card → Hands
  pub firsts : Card → List FirstKeep
  pub powerless : DevicesUnpowered o.found
      (carried v due (broken_at (lost_minute o b done new lost) (kept_all new b.run.book)) standing brought hands
      firsts) d
  pub handed : AreHandedIn (start_at o) (kept_all new b.run.book).sure o.found b.run.log done s at v.log
      (course_in b done s at v.log) v.stops v.marks hands firsts
      (λ c. None)
  pub found : AreFoundCards o.found v.cabin.cards
  pub early : AreEarly (carried v due (broken_at (lost_minute o b done new lost) (kept_all new b.run.book)) standing
      brought hands firsts)
  pub late : due ≤ s.number / 60
  pub low : from ≤ s.number / 60
  pub more : (c : Card) (k : ℕ) → Contains (b.brought c) k → Contains (brought c) k
  pub tells : SlotsTell (start_at o) (told_before b done) (b.run.book.sure ++ new) (course_in b done s at v.log).left
      s.number from (course_in b done s at v.log).slots v.cabin.slots
  pub verdicts : AreVerdicts o done b.run.log b.run.unfound b.marks d
  pub finds : IsFoundSo o b done (course_in b done s at v.log) s.number from new v.marks brought d
  pub there : AreThere o.found d
  pub few : AreFewFound (recording_by o done b.run.log)
  pub spared : (c : Card) → IsSparedSo o b done (course_in b done s at v.log) waits s.number v.cabin.slots d c
  pub travels : HasTravelled (odometer_at o.recording.unit)
      (broken_at (lost_minute o b done new lost) (kept_all new b.run.book))
      (stranded_at lost (all_travelled ds b.travel)) d.unit
  pub odometer : IsCountedFrom o b.travel.before v.odometer

-- what a run has by value behind the cut of a second, once that has gone
abbrev pub cut_values : TraceSecond → Phase → Values → Values
cut_values s at v = record v {
  log = and_break v.log (cut_at s.number true (begun_by s at));
  cabin = with_power_lost s.number v.cabin;
  next = suc v.next;
  begun = length s.actions;
}

-- POWER IS CUT: behind the second all is recorded.
abbrev pub ACutIsRecorded : Devices → Type 0
ACutIsRecorded d = (o : Origin) (done : List TraceSecond) (s : TraceSecond) (at : Phase) (waits : List Visit)
    (speed : Option ℕ) (v : Values) → RecordAtFailure o done s at waits speed v d → (rest : List Action)
    → IsLeft s at rest →
    RecordBetweenSeconds o (done ++ s ∷ []) Lost (cut_values s at v) d

-- what a run has by value behind a second
abbrev pub passed_values : TraceSecond → Values → Values
passed_values s v = record v { next = suc v.next; begun = length s.actions }

-- THE RECORD with this travelled before the span
pub record RecordedFrom (o : Origin) (done : List TraceSecond) (supply : UnitPower) (v : Values) (d : Devices)
    (before : List ℕ) : Type 0 where
  pub recorded : RecordBetweenSeconds o done supply v d
  pub travelled_before : recorded.travel.before ≡ before

-- THE SECOND ENDS: all that it decided is kept, and behind it all is recorded.
abbrev pub TheSecondIsOver : Devices → Type 0
TheSecondIsOver d = (o : Origin) (done : List TraceSecond) (s : TraceSecond) (v : Values)
    → (w : RecordInSecond o done s Keeping [] (Some s.speed) [] v d) →
    RecordedFrom o (done ++ s ∷ []) (Lit (w.b.span ++ next_told v.log done s ∷ [])) (passed_values s v) d
    w.b.travel.before

-- the first minute that a span has not decided
abbrev pub undecided_from : Origin → List ToldSecond → Values → ℕ
undecided_from o span v = ungiven_of (span_at (rule_of o) v.next span)

-- how a second begins behind one with power
abbrev pub begun_behind : (o : Origin) (done : List TraceSecond) (span : List ToldSecond) (v : Values) (d : Devices)
    → RecordBetweenSeconds o done (Lit span) v d → Beginning
begun_behind o done span v d r = record {
  run = progress v (Lit span) r.book;
  span = span;
  travel = r.travel;
  marks = v.marks;
  broken = breakdowns_of d;
  brought = r.brought;
}

-- A SECOND BEGINS behind one with power, in the same minute: nothing of it is told or decided yet.
abbrev pub ASecondBegins : Devices → Type 0
ASecondBegins d = (o : Origin) (done : List TraceSecond) (s : TraceSecond) (t : ToldSecond) (span : List ToldSecond)
    (v : Values) → (r : RecordBetweenSeconds o done (Lit (t ∷ span)) v d) → s.number ≡ v.next → s.has_power ≡ true →
    v.next / 60 ≡ (v.next - 1) / 60
    → SecondGoesOn o done s (In 0) [] None [] v d (begun_behind o done (t ∷ span) v d r)
    (undecided_from o (t ∷ span) v)

-- OR A MINUTE IS OVER: who was present in it is known.
abbrev pub AMinuteIsOver : Devices → Type 0
AMinuteIsOver d = (o : Origin) (done : List TraceSecond) (s : TraceSecond) (t : ToldSecond) (span : List ToldSecond)
    (v : Values) → (r : RecordBetweenSeconds o done (Lit (t ∷ span)) v d) → s.number ≡ v.next → s.has_power ≡ true →
    ((card : Card) → (found_of o.found card).start ≡ card_start (start_at o) card) →
    v.next / 60 ≡ (v.next - 1) / 60 + 1 → undecided_from o (t ∷ span) v ≤ (v.next - 1) / 60
    → (v.next - 1) / 60 ≤ undecided_from o (t ∷ span) v + 3 →
    CabinIsSound (undecided_from o (t ∷ span) v) None v.cabin →
    SecondGoesOn o done s (In 0) [] None [] (record v { cabin = with_minute_ended ((v.next - 1) / 60) v.cabin }) d
    (begun_behind o done (t ∷ span) v d r) (undecided_from o (t ∷ span) v)

-- THE SECOND IS FED behind all of its actions: these minutes are to be kept then.
abbrev pub ASecondIsFed : Devices → Type 0
ASecondIsFed d = (o : Origin) (done : List TraceSecond) (s : TraceSecond) (v : Values)
    → (w : RecordInSecond o done s (In (length s.actions)) [] None [] v d) →
    (minutes : Kept) → CountsSpan minutes (fed w.sp s.speed) → (rest : List Minute)
    → decided_in (fed w.sp s.speed) ≡ decided_in w.sp ++ rest →
    SecondGoesOn o done s Keeping [] (Some s.speed) rest (record v { minutes = minutes }) d w.b w.from

-- what a run has by value behind a refusal
abbrev pub refused_values : (second begun : ℕ) → SlotFault → Values → Values
refused_values second begun fault v = record
    v { log = and_refused v.log (record { second = second; fault = fault; begun = begun }) }

-- AN ACTION IS REFUSED, and that is told;
abbrev pub ARefusalIsRecorded : Devices → Type 0
ARefusalIsRecorded d = (o : Origin) (done : List TraceSecond) (s : TraceSecond) (v : Values) (front : List Action)
    (a : Action) (rest : List Action) → s.actions ≡ front ++ a ∷ rest →
    (w : RecordInSecond o done s (In (length front)) [] None [] v d) → (fault : SlotFault)
    → refusal (course_in w.b done s (In (length front)) v.log).slots s.speed a ≡ Some fault →
    SecondGoesOn o done s (In (suc (length front))) [] None [] (refused_values s.number (suc (length front)) fault v) d
    w.b w.from

-- what a run has by value behind a selection
abbrev pub heard_values : Kept → Values → Values
heard_values minutes v = record v { minutes = minutes }

-- or an activity IS SELECTED.
abbrev pub ASelectionIsRecorded : Devices → Type 0
ASelectionIsRecorded d = (o : Origin) (done : List TraceSecond) (s : TraceSecond) (v : Values) (front : List Action)
    (slot : Slot) (pick : Pick) (rest : List Action) → s.actions ≡ front ++ Select slot pick ∷ rest →
    (w : RecordInSecond o done s (In (length front)) [] None [] v d)
    → refusal (course_in w.b done s (In (length front)) v.log).slots s.speed (Select slot pick) ≡ None →
    (minutes : Kept) → CountsSpan minutes (picked w.sp slot pick)
    → SecondGoesOn o done s (In (suc (length front))) [] None [] (heard_values minutes v) d w.b w.from

-- two sessions are one, but for the entries by hand that they hold
abbrev pub AreOneBut : (old new : Option Accepted) → Type 0
AreOneBut None None = Unit {0}
AreOneBut None (Some b) = ⊥
AreOneBut (Some a) None = ⊥
AreOneBut (Some a) (Some b) = (b.session ≡ a.session) × (b.held.begun ≡ a.held.begun)

-- the same is known of a card, and its sessions are one but for the entries by hand that they hold
pub record IsAlike (old new : Cards) (card : Card) : Type 0 where
  pub number : (known_of new card).number ≡ (known_of old card).number
  pub sizes : (known_of new card).sizes ≡ (known_of old card).sizes
  pub row : (known_of new card).row ≡ (known_of old card).row
  pub session : AreOneBut (session_of old card) (session_of new card)

-- so it is of both cards
abbrev pub AreAlike : (old new : Cards) → Type 0
AreAlike old new = (card : Card) → IsAlike old new card

-- a session that holds an entry by hand too
abbrev pub with_entry : Entry → Accepted → Accepted
with_entry e a = record a { held = record a.held { entries = a.held.entries ++ e ∷ [] } }

-- how the log tells why a session does not take an entry by hand
abbrev pub stop_told : EnterFault → SlotFault
stop_told (enter.Begun first) = Begun first
stop_told (enter.NotFree newest inserted) = NotFree newest inserted
stop_told (enter.Full held) = Full held

-- why a session stops an entry by hand of a minute, if it does
abbrev pub stop_of : Accepted → (minute : ℕ) → Option SlotFault
stop_of a minute = option_map stop_told (stopped_by a.held a.session.minute minute)

-- AN ENTRY BY HAND IS ANSWERED at a place of the course: it is stopped, which a line tells, or the card's session holds
-- it
abbrev pub AnswersSo : Option SlotFault → (second begun : ℕ) → Entry → Card → (old new : Cards)
    → (stops after : List Refused) → Type 0
AnswersSo (Some fault) second begun e card old new stops after =
    (after ≡ stops ++ record { second = second; fault = fault; begun = begun } ∷ [])
    × ((c : Card) → session_of new c ≡ session_of old c)
AnswersSo None second begun e card old new stops after = (after ≡ stops)
    × ((c : Card) → same_card card c ≡ false → session_of new c ≡ session_of old c)
    × ((a : Accepted) → session_of old card ≡ Some a → session_of new card ≡ Some (with_entry e a))

-- it is answered by the session of a card, if that has one
abbrev pub IsAnswered : (second begun : ℕ) → Entry → Card → (old new : Cards) → (stops after : List Refused) → Type 0
IsAnswered second begun e card old new stops after = (a : Accepted) → session_of old card ≡ Some a
    → AnswersSo (stop_of a e.minute) second begun e card old new stops after

-- AN ENTRY BY HAND that slots and speed let pass: a session holds it, or stops it.
abbrev pub AnEntryByHandIsRecorded : Devices → Type 0
AnEntryByHandIsRecorded d = (o : Origin) (done : List TraceSecond) (s : TraceSecond) (v : Values) (front : List Action)
    (slot : Slot) (pick : Pick) (minute : ℕ) (rest : List Action) →
    s.actions ≡ front ++ Manual slot pick minute ∷ rest →
    (w : RecordInSecond o done s (In (length front)) [] None [] v d)
    → refusal (course_in w.b done s (In (length front)) v.log).slots s.speed (Manual slot pick minute) ≡ None →
    (cabin : Cabin) → cabin.slots ≡ v.cabin.slots → AreAlike v.cabin.cards cabin.cards → (stops : List Refused)
    → ((card : Card) → card_in (seat_in v.cabin.slots.seats slot) ≡ Some card
    → IsAnswered s.number (suc (length front))
    (record { minute = minute_on s.number minute; slot = slot; act = activity_of pick }) card v.cabin.cards cabin.cards
    v.stops stops) →
    SecondGoesOn o done s (In (suc (length front))) [] None [] (record v { cabin = cabin; stops = stops }) d w.b
    w.from

-- no session is new
abbrev pub AreOld : (old new : Cards) → Type 0
AreOld old new = (card : Card) → is_some (session_of new card) ≡ true → is_some (session_of old card) ≡ true

-- what a call leaves of the devices, unit and cards by the book apart: what might have been left might be left still,
-- and a card that was as it was is so, or has a session
pub record GoesOnSo (o : Origin) (cards : Cards) (d e : Devices) : Type 0 where
  pub left : HaveLeftMore o d e
  pub there : AreThere o.found d → AreThere o.found e
  pub untouched : (card : Card) → IsUntouched (found_of o.found card) (card_of d card)
      → IsUntouched (found_of o.found card) (card_of e card) ⊎ (is_some (session_of cards card) ≡ true)

-- A CALL of which nothing is told, as one that notes an event or a place: no card broke down, and unit and cards are as
-- the book says behind it too.
pub record IsCalled (o : Origin) (done : List TraceSecond) (s : TraceSecond) (at : Phase) (waits : List Visit)
    (speed : Option ℕ) (rest : List Minute) (v : Values) (d e : Devices)
    (w : RecordInSecond o done s at waits speed rest v d) : Type 0 where
  pub goes : GoesOnSo o v.cabin.cards d e
  pub breakdowns : IsMore (breakdowns_of d) (breakdowns_of e)
  pub powered : DevicesPowered o.found (carried v w.due (kept_all w.new w.b.run.book) w.standing w.brought w.hands
      w.firsts)
      v.cabin.cards e
  pub travels : HasTravelled (odometer_at o.recording.unit) (kept_all w.new w.b.run.book)
      (all_travelled w.ds w.b.travel) e.unit

-- SO THE SECOND GOES ON behind such a call.
abbrev pub ACallIsRecorded : (d e : Devices) → Type 0
ACallIsRecorded d e = (o : Origin) (done : List TraceSecond) (s : TraceSecond) (at : Phase) (waits : List Visit)
    (speed : Option ℕ) (rest : List Minute) (v : Values) → (w : RecordInSecond o done s at waits speed rest v d) →
    IsCalled o done s at waits speed rest v d e w → SecondGoesOn o done s at waits speed rest v e w.b w.from

-- A CALL IN WHICH THE UNIT FAILED: the next of the minutes that were to be kept may be kept or not, if it was begun.
pub record HasFailed (o : Origin) (done : List TraceSecond) (s : TraceSecond) (at : Phase) (waits : List Visit)
    (speed : Option ℕ) (rest : List Minute) (v : Values) (d e : Devices)
    (w : RecordInSecond o done s at waits speed rest v d) : Type 0 where
  pub goes : GoesOnSo o v.cabin.cards d e
  pub breakdowns : IsMore (breakdowns_of d) (breakdowns_of e)
  pub broke : RoseBy 1 (w.b.broken Recorder) (breakdowns_of e Recorder)
  pub unfed : (at ≡ Keeping → ⊥) → speed ≡ None
  pub feeds : at ≡ Keeping → speed ≡ Some s.speed
  pub lost : Option Minute
  pub others : List Minute
  pub parts : rest ≡ option_to_list lost ++ others
  pub due : ℕ
  pub due_later : w.due ≤ due
  pub due_late : due ≤ s.number / 60
  pub low : w.from ≤ s.number / 60
  pub standing : Card → Standing
  pub powerless : DevicesUnpowered o.found
      (carried v due (broken_at (lost_minute o w.b done w.new lost) (kept_all w.new w.b.run.book)) standing w.brought
      w.hands w.firsts) e
  pub travels : HasTravelled (odometer_at o.recording.unit)
      (broken_at (lost_minute o w.b done w.new lost) (kept_all w.new w.b.run.book))
      (stranded_at lost (all_travelled w.ds w.b.travel)) e.unit

-- SO THE RECORD IS where the unit failed: power is to be cut.
abbrev pub AFailureIsRecorded : (d e : Devices) → Type 0
AFailureIsRecorded d e = (o : Origin) (done : List TraceSecond) (s : TraceSecond) (at : Phase) (waits : List Visit)
    (speed : Option ℕ) (rest : List Minute) (v : Values) → (w : RecordInSecond o done s at waits speed rest v d) →
    HasFailed o done s at waits speed rest v d e w → RecordAtFailure o done s at waits speed v e

-- A PLACE is told of: its note is a call of its own.
abbrev pub APlaceIsRecorded : Devices → Type 0
APlaceIsRecorded d = (o : Origin) (done : List TraceSecond) (s : TraceSecond) (v : Values) (front : List Action)
    (slot : Slot) (ending : Bool) (country region : ℕ) (rest : List Action) →
    s.actions ≡ front ++ Place slot ending country region ∷ rest →
    (w : RecordInSecond o done s (In (length front)) [] None [] v d)
    → refusal (course_in w.b done s (In (length front)) v.log).slots s.speed (Place slot ending country region)
    ≡ None →
    SecondGoesOn o done s (In (suc (length front))) [] None [] v d w.b w.from
