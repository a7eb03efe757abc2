-- A run of a trace without a card's line (profile): it uses no card, and its unit is safe, whatever the cards bring.
use Rattle.std.specs.Prelude.{◌≡◌, ◌⊎◌, ◌+◌, ◌<◌, ◌≤◌, ℕ, Bool, true, false, IsTrue, List, [], is_some, length, take}
use Rattle.std.specs.Prelude.{All, Result, IfErr, OnOk}
use Rattle.std.specs.List.{AllByRecursion}
use Rattle.trace_model.specs.declared.Card.{Card}
use Rattle.trace_model.specs.declared.Action.TheVariants.{Select, Insert, Withdraw, Tear, Place, Manual}
use Rattle.trace_model.specs.declared.Item.{Item}
use Rattle.trace_model.specs.declared.Item.TheVariants.{Run, Off, Act}
use Rattle.trace_model.specs.Trace.{TraceSecond, seconds_of}
use Rattle.trace_text.specs.declared.lines_trace.Trace.{Trace}
use Rattle.trace_text.specs.Trace.{IsWellFormed}
use Rattle.minute_model.specs.declared.Rule.{Rule}
use Rattle.run_model.specs.declared.Device.{Device}
use Rattle.run_model.specs.declared.Device.TheVariants.{Unit as OfUnit, CardA, CardB}
use Rattle.tach_media.specs.Medium.{State, HasBroken, HasBrokenAtMost, Rose, LeavesOnly, Unchanged, last_count}
use Rattle.log_model.specs.declared.lines.Break.{Break}
use Rattle.log_model.specs.declared.lines.Mark.{Mark}
use Rattle.log_model.specs.declared.lines.Verdict.{Verdict}
use Rattle.log_model.specs.Log.{RunLog}
use Rattle.log_model.specs.Course.{ToldSecond, Visit, went}
use Rattle.log_model.specs.Causes.{cuts, device_of, second_of}
use Rattle.event_model.specs.Events.{Tearing, events_of}
use Rattle.history_model.specs.Minutes.{HistoryMinute}
use Rattle.history_model.specs.Presence.{Start}
use Rattle.history_model.specs.History.{unit_history, with_lost}
use Rattle.gated_ring.specs.Ring.{Shape, IsDense, ring_list}
use Rattle.message_model.specs.Records.{insertion_ring, unit_place_ring}
use Rattle.unit_model.specs.declared.layout.TheConstants.{SPEED_LIMIT}
use Rattle.unit_model.specs.Image.{IsUnit, recorded, last_kept, odometer_at, number_of}
use Rattle.unit_model.specs.Versions.{rule_of}
use Rattle.safety_model.specs.Unit.{UnitSafe, HasEachDecided, IsFilled, issued_bytes, marks_of}
use Rattle.note_model.specs.Odometer.{SpanFrom, AreSpansFrom, MayStore}
use Rattle.run_unit_course.specs.Complete.{AreMarked}
use Rattle.unit_rule.specs.Odometer.{OdometerSafe}
use Rattle.unit_rule.specs.OtherRows.{OwesStill}
use Rattle.unit_minutes.specs.DayOdometers.{RecordsDay}
use Rattle.run_promise.specs.Days.{HasWords, IsBegunIn}
use Rattle.run_events.specs.Shown.{ShowsSince}
use Rattle.run_opening.specs.declared.fault.RunFault.{RunFault}
use Rattle.run_opening.specs.declared.fault.RunFault.TheVariants.{MediumFault, BadUnit, ClockBack, SameCard}
use Rattle.run_opening.specs.Units.{IsUnitRefused}
use Rattle.recorder_with_cards.specs.Words.{log_of, largest_number, IsFoundLater, IsLater}
use Rattle.run_speeds.specs.Speeds.{HasSpeedRing, HasSpeeds}
use Rattle.run_speeds.specs.Spans.{blocks_by, is_sure_block}
use Rattle.run_outcome.specs.declared.outcome.Outcome.{Outcome}
use Rattle.run_outcome.specs.Room.{IsReserved}
use Rattle.recorder_with_cards.specs.Writes.{unit_writes}
use Rattle.recorder_with_cards.specs.Ends.{recording_of}
use Rattle.recorder_with_cards.specs.KeptAfter.{TellsKept}
use Rattle.recorder_with_cards.specs.LastKept.{TellsLast}
use Rattle.recorder_with_cards.specs.Moments.{TellsMoreSince, HadBroken, IsNear}
use Rattle.tacho.specs.Blank.{no_image}

-- ---- its trace

-- a line that no card bears on: a run, an `off` or a selection
abbrev pub needs_no_card : Item → Bool
needs_no_card (Run seconds speed) = true
needs_no_card (Off seconds) = true
needs_no_card (Act (Select slot pick)) = true
needs_no_card (Act (Insert slot card)) = false
needs_no_card (Act (Withdraw slot)) = false
needs_no_card (Act (Tear slot)) = false
needs_no_card (Act (Place slot ending country region)) = false
needs_no_card (Act (Manual slot pick minute)) = false

-- a trace for the unit alone: none of its lines is a card's
abbrev pub IsForUnit : List Item → Type 0
IsForUnit items = AllByRecursion (λ item. IsTrue (needs_no_card item)) items

-- a trace may be recorded on the unit alone, with this outcome, which has no line yet
pub record MayBeAlone (trace : Trace) (outcome : Outcome) (unit : State) : Type 0 where
  pub well : IsWellFormed trace.start trace.items
  pub for_unit : IsForUnit trace.items
  pub reserved : IsReserved trace.items outcome
  pub sized : IsUnit unit

-- ---- its log

-- the seconds of a trace that begins at a second, as the run went
abbrev pub told_of : Outcome → (start : ℕ) → List Item → List ToldSecond
told_of o start items = (went (log_of o) (seconds_of start items)).told

-- the unit history of such a run by a rule of minutes
abbrev pub history_of : Rule → Start → Outcome → (start : ℕ) → List Item → List HistoryMinute
history_of rule cards o start items = unit_history rule cards (log_of o) (told_of o start items)

-- its fronts up to a cut's limit, each with its lost minute
abbrev pub lost_of : Rule → Start → Outcome → (start : ℕ) → List Item → List (List HistoryMinute)
lost_of rule cards o start items = with_lost rule cards (log_of o) (told_of o start items)

-- nothing may be found of a card: none enters
abbrev pub NoVerdict : Card → ℕ → Verdict → Type 0
NoVerdict card second verdict = ⊥

-- so often the devices have broken down
abbrev pub counts : (unit card_a card_b : ℕ) → Device → ℕ
counts unit card_a card_b OfUnit = unit
counts unit card_a card_b CardA = card_a
counts unit card_a card_b CardB = card_b

-- ---- what is recorded

-- a run starts with this image alone: a read gives it, and since then a stop leaves no other
pub record StartsAs (x : List ℕ) (unit : State) : Type 0 where
  pub tells : is_some unit.image ≡ true
  pub only : (c : List ℕ) → unit.left_since unit.clock c → c ≡ x

-- an image's odometer is one that the spans of the run store, each with what was stored as it began
pub record ShowsStored (x : List ℕ) (start : ℕ) (items : List Item) (o : Outcome) (y : List ℕ) : Type 0 where
  pub spans : List SpanFrom
  pub are_spans : AreSpansFrom (rule_of x) (log_of o) (told_of o start items) (odometer_at x) (last_kept x) spans
  pub odometer : MayStore (rule_of x) (odometer_at x) (last_kept x) spans (last_kept y) (odometer_at y)

-- a ring shows exactly what it showed at the start, and is dense where it was
pub record ShowsOld (ring : Shape) (x y : List ℕ) : Type 0 where
  pub shown : ring_list ring y ≡ ring_list ring x
  pub dense : IsDense ring x → IsDense ring y

-- A MOMENT of such a run, behind these seconds, as a second with this number begins, on a unit that had broken down so
-- often before it. By the log of then, whose breaks are of earlier seconds, and by the marks of then each decided
-- minute is acknowledged, but where a call failed in the second that decided it. And the unit had broken down no more
-- often, as it had begun the writes of one of these marks, than failed calls have cut the power by that log.
pub record IsUnitMoment (rule : Rule) (before : ℕ) (done : List TraceSecond) (number : ℕ) (log : RunLog)
    (marks : List Mark) (unit : State) : Type 0 where
  pub by_then : RunLog
  pub told : TellsMoreSince number by_then log
  pub earlier : AllByRecursion (λ (b : Break). second_of b < number) by_then.breaks
  pub count : ℕ
  pub few : count ≤ length marks
  pub complete : AreMarked rule by_then done (take count marks)
  pub broken : unit.breakdowns < last_count → All (λ (m : Mark).
      HadBroken unit m.clock (before + length (cuts true by_then))) (marks_of OfUnit (take count marks))

-- EACH FAILURE IS TOLD BY THE SECOND IN WHICH THE UNIT ACKNOWLEDGES A DECIDED MINUTE: as any second of a trace began
-- that has an action, comes behind one that has, or begins a minute, the run had come to such a moment; or since one
-- the trace gave no power.
abbrev pub TellsUnitInTime : Rule → (before from : ℕ) → List TraceSecond → RunLog → List Mark → State → Type 0
TellsUnitInTime rule before from trace log marks unit = (n : ℕ) → n < length trace → (k : ℕ) × (k ≤ n)
    × IsNear from trace k n × IsUnitMoment rule before (take k trace) (from + k) log marks unit

-- WHAT A RUN HAS RECORDED on the unit alone of a trace, that began with this image, as the unit stood then: the
-- crash-safety theorem of the unit, by the rule of minutes of that image.
pub record IsAlone (cards : Start) (x : List ℕ) (start : ℕ) (items : List Item) (o : Outcome)
    (began unit : State) : Type 0 where
  pub safe : UnitSafe (recorded x) (history_of (rule_of x) cards o start items)
      (lost_of (rule_of x) cards o start items) o.marks.items began.clock unit
  -- no minute is told as acknowledged by a card
  pub none : (c : Card) → marks_of (device_of c) o.marks.items ≡ []
  -- what the unit was issued with stays, in every image that a stop might have left since
  pub issued : (y : List ℕ) → unit.left_since began.clock y → issued_bytes y ≡ issued_bytes x
  -- and what is owed to any card, in each of them
  pub owed : (y : List ℕ) → unit.left_since began.clock y → OwesStill x y
  -- the odometer of each image that a stop may leave is the start's and the whole kilometres of each span; and so it is
  -- stored
  pub odometer : (y : List ℕ) → unit.may_leave y
      → OdometerSafe (rule_of x) (log_of o) (told_of o start items) (odometer_at x) y
  pub stored : (y : List ℕ) → unit.may_leave y → ShowsStored x start items o y
  -- and so is that of each day that it records: as at the start, or that at the end of the first minute with which the
  -- run began the day
  pub days : (y : List ℕ) → unit.may_leave y → (day odometer : ℕ) → RecordsDay y day odometer
      → RecordsDay x day odometer ⊎ IsBegunIn (recording_of x no_image no_image start items o) y day odometer
  -- and its days have, up to its last-kept minute, the words of the start with just the new ones of the minutes that it
  -- has
  pub words : (y : List ℕ) → unit.may_leave y → HasWords (recording_of x no_image no_image start items o) y
  -- each image that a stop may leave holds the events of the run: one that was noted in a second in which a call on the
  -- unit failed frees the one place that it takes, and no other; so it is with the first over speeding and their number
  pub events : (number : Card → List ℕ) (sessions : ℕ → Visit → ℕ) (t : Tearing) (y : List ℕ) → unit.may_leave y
      → ShowsSince number (log_of o) x
      (λ kind. events_of kind (number_of x SPEED_LIMIT) sessions t (log_of o) (seconds_of start items)) y
  -- the rings of insertions and places show what they showed
  pub insertions : (y : List ℕ) → unit.may_leave y → ShowsOld insertion_ring x y
  pub places : (y : List ℕ) → unit.may_leave y → ShowsOld unit_place_ring x y
  -- each image that a stop may leave carries the blocks of detailed speed of the run
  pub speeds : HasSpeedRing x → HasSpeeds (is_sure_block (log_of o)) x began.clock
      (blocks_by (log_of o) (seconds_of start items)) unit
  -- what was found kept after its cuts was so
  pub kept : TellsKept (recording_of x no_image no_image start items o) began.clock unit
  -- the last-kept minute of each image that a stop might have left since the start is that of the last minute which it
  -- shows
  pub last : TellsLast (last_kept x) safe
  -- each decided minute is acknowledged, but where a call failed in the second that decided it
  pub complete : AreMarked (rule_of x) (log_of o) (seconds_of start items) o.marks.items
  -- and no failed call is told later than in the second in which the unit acknowledges the next minute, where it tells
  -- when it broke down
  pub timely : TellsUnitInTime (rule_of x) began.breakdowns start (seconds_of start items) (log_of o) o.marks.items unit
  -- where no call on the unit failed, each decided minute stands in the history, and each image that a stop may leave
  -- has all of it
  pub whole : cuts true (log_of o) ≡ []
      → HasEachDecided (rule_of x) (told_of o start items) (history_of (rule_of x) cards o start items)
      × ((y : List ℕ) → unit.may_leave y → IsFilled (recorded x) (history_of (rule_of x) cards o start items) y)

-- ---- or why it is not

-- a fault of a run on the unit alone: that of a device is the unit's, which has failed
abbrev pub IsUnitFault : (old new : State) → RunFault → Type 0
IsUnitFault old new (MediumFault device) = (device ≡ OfUnit) × Rose old.faults new.faults
IsUnitFault old new (BadUnit place) = Unit {0}
IsUnitFault old new (ClockBack kept second) = Unit {0}
IsUnitFault old new (SameCard number) = ⊥

-- A RUN IS REFUSED, whatever the unit tells: by the opening, for one of its causes, with the unit as it was and no line
-- told; or later by a unit that was read anew at a power-on.
abbrev pub IsRefusedAlone : (start : ℕ) → (before after : Outcome) → (old new : State) → RunFault → Type 0
IsRefusedAlone start before after old new
    fault = (IsUnitRefused start old new fault × LeavesOnly old new Unchanged × (after ≡ before)) ⊎ IsFoundLater fault

-- ---- what its call says of failures

-- WHATEVER FAILS: so many writes begin at most on the unit, where failed calls have cut its power so often, and it
-- keeps its size
pub record GoesAlone (start : ℕ) (items : List Item) (failed : ℕ) (U V : State) : Type 0 where
  pub most : V.clock ≤ U.clock + unit_writes start items failed
  pub unit : IsUnit V

-- BREAKDOWNS OF THE UNIT ARE TOLD: each cut that a failed call made is one more; and where none has cut the power of a
-- run that is recorded, it has not broken down, nor where no call on it failed; and it has not more often than those
-- cuts. No clock and no count of it has fallen.
pub record TellsUnitBreakdowns (result : Result (Unit {0}) RunFault) (after : Outcome) (U V : State) : Type 0 where
  pub broke : HasBroken U V (length (cuts true (log_of after)))
  pub calm : OnOk result (cuts true (log_of after) ≡ [] → V.breakdowns ≡ U.breakdowns)
  pub told : OnOk result (HasBrokenAtMost U V (length (cuts true (log_of after))))
  pub later : IsLater U V

-- A REFUSAL IS TOLD: it is the unit's, and came in the opening, as the unit was, or of a unit that was read anew at a
-- power-on; over a unit that began with one image and whose clock does not run out it came in the opening
pub record TellsRefusal (result : Result (Unit {0}) RunFault) (start : ℕ) (items : List Item) (before after : Outcome)
    (U V : State) : Type 0 where
  pub fault : IfErr result (IsUnitFault U V)
  pub early : IfErr result (IsRefusedAlone start before after U V)
  pub refused : IfErr result (λ f. (x : List ℕ) → StartsAs x U → V.clock < last_count → length items ≤ largest_number
      → IsUnitRefused start U V f × LeavesOnly U V Unchanged × (after ≡ before))
