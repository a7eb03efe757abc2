-- What a run with cards promises, over devices that began with one image each (profile).
use Rattle.std.specs.Prelude.{◌≢◌, ◌<◌, ◌≤◌, ◌/◌, ℕ, List, [], Contains, length}
use Rattle.trace_model.specs.declared.Card.{Card}
use Rattle.trace_model.specs.declared.Item.{Item}
use Rattle.trace_model.specs.Trace.{TraceSecond, seconds_of}
use Rattle.log_model.specs.declared.lines.Mark.{Mark}
use Rattle.log_model.specs.Causes.{device_of}
use Rattle.log_model.specs.Log.{RunLog}
use Rattle.unit_minutes.specs.unit_model.Decoding.{Decodes}
use Rattle.unit_minutes.specs.unit_model.Image.{last_kept}
use Rattle.unit_minutes.specs.unit_model.Versions.{rule_of}
use Rattle.device_calls.specs.card_image.Own.{own_number, IsOwnValid}
use Rattle.device_calls.specs.safety_model.Recording.{Recording}
use Rattle.device_calls.specs.safety_model.Safe.{Devices, card_of, breakdowns_of}
use Rattle.device_calls.specs.safety_model.Unit.{marks_of}
use Rattle.device_calls.specs.unit_rule.OtherRows.{KeepsRows}
use Rattle.run_minutes.specs.run_promise.Opening.{BeginsAs}
use Rattle.run_minutes.specs.run_promise.Origin.{Origin}
use Rattle.run_minutes.specs.run_promise.Ends.{EndsRun}
use Rattle.run_opening.specs.Begun.{found_in, IsRefusedBy as IsRefusedAs}
use Rattle.run_opening.specs.Opening.{IsAsItWas}
use Rattle.run_opening.specs.declared.fault.RunFault.{RunFault}
use Rattle.run_outcome.specs.declared.outcome.Outcome.{Outcome}
use Rattle.log_model.specs.declared.lines.Refused.{Refused}
use Rattle.log_model.specs.ByHand.{stops}
use Rattle.run_minutes.specs.Books.{HaveTime}
use Rattle.run_acts.specs.Going.{largest_number}
use Rattle.run_acts.specs.Recording.{log_of}
use Rattle.recorder_with_cards.specs.Breakdowns.{BreakdownsAreCounted}
use Rattle.recorder_with_cards.specs.Written.{AreWritten}
use Rattle.recorder_with_cards.specs.Stays.{HaveTheirStays, HasAllStays, HaveStoodExactly}
use Rattle.recorder_with_cards.specs.Still.{StayDense, KeepTheirHolders, KeepTheirVehicles}
use Rattle.recorder_with_cards.specs.Side.{ShowTheSide}
use Rattle.recorder_with_cards.specs.KeptAfter.{TellsKept}
use Rattle.recorder_with_cards.specs.LastKept.{TellsLast}
use Rattle.recorder_with_cards.specs.Placed.{ShowTheirPlaces}
use Rattle.recorder_with_cards.specs.Measured.{MeasureTheirVehicles}
use Rattle.recorder_with_cards.specs.Sessions.{TellTheirSessions}
use Rattle.recorder_with_cards.specs.CardEvents.{ShowTheirEvents}
use Rattle.recorder_with_cards.specs.Speeds.{CarriesItsSpeeds}
use Rattle.recorder_with_cards.specs.Moments.{TellsInTime}

-- each device began with this image alone
pub record BeginAs (unit card_a card_b : List ℕ) (began : Devices) : Type 0 where
  pub of_unit : BeginsAs unit began.unit
  pub of_a : BeginsAs card_a began.card_a
  pub of_b : BeginsAs card_b began.card_b

-- a run on devices with these images, by the rule of the unit's, with these seconds, this log and these refusals of
-- sessions
abbrev pub recorded_with : (unit card_a card_b : List ℕ) → List TraceSecond → RunLog → (stops : List Refused)
    → Recording
recorded_with unit card_a card_b trace log
    stops = record {
      rule = rule_of unit;
      unit = unit;
      card_a = card_a;
      card_b = card_b;
      trace = trace;
      log = log;
      stops = stops;
    }

-- the run of a trace, as its outcome tells it
abbrev pub recording_of : (unit card_a card_b : List ℕ) → (start : ℕ) → List Item → Outcome → Recording
recording_of unit card_a card_b start items out = recorded_with unit card_a card_b (seconds_of start items) (log_of out)
    (stops out.refused.items)

-- before its first second
abbrev pub opened_with : (unit card_a card_b : List ℕ) → Recording
opened_with unit card_a card_b = recorded_with unit card_a card_b [] (record { breaks = []; refused = []; finds = [] })
    []

-- what it began with
abbrev pub origin_of : (unit card_a card_b : List ℕ) → (start : ℕ) → (began : Devices) → Origin
origin_of unit card_a card_b start began = record {
  recording = opened_with unit card_a card_b;
  found = found_in (opened_with unit card_a card_b) began;
  from = start;
  breakdowns = breakdowns_of began;
}

-- THE IMAGES WITH WHICH A RUN MAY BEGIN: the unit's decodes, the first second is in a later minute than its last-kept
-- one, and the cards that are valid have two numbers.
pub record MayRecord (unit card_a card_b : List ℕ) (start : ℕ) : Type 0 where
  pub decodes : Decodes unit
  pub later : last_kept unit < start / 60
  pub numbers : IsOwnValid card_a → IsOwnValid card_b → own_number card_a ≢ own_number card_b

-- WHAT A STOP MAY LEAVE BEGINS A RUN: with whichever images one might have left of the unit and the cards since a run
-- began, each at a moment of its own, a run may begin in any minute later than that unit's last-kept one.
abbrev pub BeginsAgain : (began now : Devices) → Type 0
BeginsAgain began now = (unit card_a card_b : List ℕ) → now.unit.left_since began.unit.clock unit
    → now.card_a.left_since began.card_a.clock card_a → now.card_b.left_since began.card_b.clock card_b
    → (start : ℕ) → last_kept unit < start / 60 → MayRecord unit card_a card_b start

-- EACH DEVICE BEGAN WITH THIS IMAGE ALONE, no count of writes has come to its end, and the items can be told in numbers
pub record IsTold (unit card_a card_b : List ℕ) (items : List Item) (began now : Devices) : Type 0 where
  pub begins : BeginAs unit card_a card_b began
  pub time : HaveTime now
  pub few : length items ≤ largest_number

-- these marks are of a moment since a clock
abbrev pub AreSince : ℕ → List Mark → Type 0
AreSince since marks = (m : Mark) → Contains marks m → since ≤ m.clock

-- WHAT A RUN PROMISES that was recorded. An image of a device is here each one that a stop may leave of it.
pub record EndsTrace (unit card_a card_b : List ℕ) (start : ℕ) (items : List Item) (out : Outcome)
    (began now : Devices) : Type 0 where
  -- it could begin
  pub may : MayRecord unit card_a card_b start
  -- the crash-safety theorem, causes and completeness hold of it
  pub ends : EndsRun (recording_of unit card_a card_b start items out) out.marks.items began now
  -- every image of the unit shows its auxiliary records: events and faults, insertions with their withdrawals, places,
  -- and the odometer
  pub side : ShowTheSide (recording_of unit card_a card_b start items out) began now
  -- every image of a card that was valid has been written so
  pub written : AreWritten (recording_of unit card_a card_b start items out) now
  -- every image of a card on which no call failed, where none on the unit did, shows exactly what its stays in the
  -- slots make of it, whatever the other card did
  pub stays : HaveTheirStays (recording_of unit card_a card_b start items out) out.marks.items began now
  -- where no call failed at all, they are the stays of both by the lines of the log, with what was owed at each and the
  -- vehicle before it
  pub both : HasAllStays (recording_of unit card_a card_b start items out) out.marks.items now
  -- whatever failed, what each card showed before the minute of the first failed call was exactly its stays so far, and
  -- stands
  pub stood : HaveStoodExactly (recording_of unit card_a card_b start items out) began now
  -- the owed rows of every image of the unit since the start stand as they stood, or were taken for one of the two
  -- cards, and what is owed to any other card stays
  pub rows : (y : List ℕ) → now.unit.left_since began.unit.clock y → KeepsRows unit card_a card_b y
  -- what was found kept after its cuts was so
  pub kept : TellsKept (recording_of unit card_a card_b start items out) began.unit.clock now.unit
  -- the last-kept minute of each image of the unit is that of the last minute which it shows
  pub last : TellsLast (last_kept unit) ends.safe.unit
  -- rings that were dense stay dense
  pub dense : StayDense (recording_of unit card_a card_b start items out) now
  -- each valid card stays its holder's, with all that no call writes
  pub holders : KeepTheirHolders (recording_of unit card_a card_b start items out) began now
  -- it has no vehicle entry but of the unit's vehicle and of those that it had
  pub vehicles : KeepTheirVehicles (recording_of unit card_a card_b start items out) began now
  -- with odometers that the vehicle had in the run or the card before it
  pub measures : MeasureTheirVehicles (recording_of unit card_a card_b start items out) now
  -- it tells of no session that was closed
  pub sessions : TellTheirSessions (recording_of unit card_a card_b start items out) now
  -- it shows the places that were entered by it
  pub places : ShowTheirPlaces (recording_of unit card_a card_b start items out) now
  -- and its events of the run
  pub cards : ShowTheirEvents (recording_of unit card_a card_b start items out) began now
  -- where the pointer of its ring of detailed speed was an index, as in a unit that decodes, every image of the unit
  -- carries the blocks of the run
  pub speeds : CarriesItsSpeeds (recording_of unit card_a card_b start items out) began now
  -- with whatever a stop might have left a run may begin again
  pub again : BeginsAgain began now
  -- no failed call is told later than in the second in which its device acknowledges the next minute: by then the run
  -- was complete, and no device had broken down more often than was told
  pub timely : TellsInTime (recording_of unit card_a card_b start items out) start out.marks.items began now
  -- each minute that a card has acknowledged it has acknowledged in the run
  pub since : (c : Card) → AreSince (card_of began c).clock (marks_of (device_of c) out.marks.items)

-- A RUN THAT WAS RECORDED: it ends so, and each device has broken down just as often as it is told
pub record RecordsTrace (unit card_a card_b : List ℕ) (start : ℕ) (items : List Item) (out : Outcome)
    (began now : Devices) : Type 0 where
  pub ends : EndsTrace unit card_a card_b start items out began now
  pub counted : BreakdownsAreCounted (recording_of unit card_a card_b start items out) began now

-- OR IT WAS KEPT FROM BEING RECORDED: by these images, or a call that has failed in the opening; each device is as it
-- was.
pub record IsKeptFrom (unit card_a card_b : List ℕ) (start : ℕ) (began now : Devices) (fault : RunFault) : Type 0 where
  pub cause : IsRefusedAs (opened_with unit card_a card_b) start began now fault
  pub same_unit : IsAsItWas began.unit now.unit
  pub same_a : IsAsItWas began.card_a now.card_a
  pub same_b : IsAsItWas began.card_b now.card_b
