-- What is recorded of a run with cards, as its calls say it (profile): between two seconds, and within one.
use Rattle.std.specs.Prelude.{◌≡◌, ◌+◌, ◌-◌, ◌<◌, Bool, true, false, None, List, [], ◌∷◌, ◌++◌, All, ℕ, suc, length}
use Rattle.trace_model.specs.declared.Action.{Action}
use Rattle.trace_model.specs.declared.Card.{Card}
use Rattle.trace_model.specs.Trace.{TraceSecond, driven}
use Rattle.unit_model.specs.minute_model.declared.Minute.{Minute}
use Rattle.log_model.specs.ByHand.{by_slots, stops}
use Rattle.log_model.specs.Log.{RunLog, Phase, In}
use Rattle.log_model.specs.Causes.{cuts}
use Rattle.log_model.specs.Course.{Visit, went}
use Rattle.log_model.specs.Slots.{refusal}
use Rattle.run_crew.specs.card_slots.Calls.{logged}
use Rattle.device_calls.specs.run_unit_course.Followed.{UnitPower, Lit as IsLit, Due as IsDue, Lost as IsLost}
use Rattle.unit_model.specs.Decoding.{Decodes}
use Rattle.unit_model.specs.Image.{odometer_at}
use Rattle.unit_model.specs.Versions.{rule_of}
use Rattle.device_calls.specs.unit_rule.Odometer.{odometer_after}
use Rattle.device_calls.specs.unit_rule.Rule.{started}
use Rattle.hand_model.specs.card_image.Own.{own_number, IsOwnValid}
use Rattle.device_calls.specs.safety_model.Recording.{card_image, brought}
use Rattle.device_calls.specs.safety_model.Safe.{Devices}
use Rattle.run_minutes.specs.run_promise.Found.{found_of}
use Rattle.run_crew.specs.declared.cabin.Cabin.{Cabin}
use Rattle.run_crew.specs.Cabin.{with_power_lost}
use Rattle.run_outcome.specs.declared.outcome.Outcome.{Outcome}
use Rattle.run_minutes.specs.run_promise.Origin.{Origin}
use Rattle.run_note_record.specs.Ringed.{notes_in}
use Rattle.run_note_record.specs.Uses.{vehicle_in}
use Rattle.run_minutes.specs.Books.{HaveTime}
use Rattle.run_record.specs.Recorded.{Values, RecordBetweenSeconds}
use Rattle.run_record.specs.Within.{Beginning, RecordInSecond, RecordAtFailure, passed_values}
use Rattle.run_acts.specs.declared.run.Run.{Run}
use Rattle.run_acts.specs.declared.run.Power.{Power}
use Rattle.run_acts.specs.declared.run.Power.TheVariants.{Lit, Due, Lost}
use Rattle.run_acts.specs.Power.{is_lit}
use Rattle.run_acts.specs.Closings.{notes_within}
use Rattle.run_acts.specs.Stays.{AllStay}
use Rattle.run_acts.specs.Truths.{truths_of, truths_within, marked}

-- the log of an outcome: of the refusals those of slots and power, by which alone the course of a run goes
abbrev pub log_of : Outcome → RunLog
log_of out = record { breaks = out.breaks.items; refused = by_slots out.refused.items; finds = out.finds.items }

-- what a run has by value, as far as its record speaks of it
abbrev pub values_of : Run → Outcome → Values
values_of run out = record {
  log = log_of out;
  marks = out.marks.items;
  cabin = run.keeper.cabin;
  unfound = run.unfound;
  next = run.next;
  begun = run.begun;
  minutes = run.minutes;
  odometer = run.keeper.odometer;
  stops = stops out.refused.items;
}

-- the power of a run between two seconds is that of the seconds so far: a span that goes on has a second
abbrev pub Supplies : Power → UnitPower → Type 0
Supplies Lit (IsLit (t ∷ span)) = Unit {0}
Supplies Lit (IsLit []) = ⊥
Supplies Lit IsDue = ⊥
Supplies Lit IsLost = ⊥
Supplies Due (IsLit span) = ⊥
Supplies Due IsDue = Unit {0}
Supplies Due IsLost = ⊥
Supplies Lost (IsLit span) = ⊥
Supplies Lost IsDue = ⊥
Supplies Lost IsLost = Unit {0}

-- WHAT A RUN BEGAN WITH: a unit whose image decodes, by whose rule it goes, and the cards as the opening found them by
-- their images, in the vehicle of that unit
pub record IsOrigin (o : Origin) : Type 0 where
  pub rule : o.recording.rule ≡ rule_of o.recording.unit
  pub decodes : Decodes o.recording.unit
  pub unit : o.found.unit ≡ started o.recording.unit o.found.unit.number_a o.found.unit.number_b o.found.unit.began
  pub image : (c : Card) → (found_of o.found c).image ≡ card_image o.recording c
  pub start : (c : Card) → (found_of o.found c).start ≡ brought o.recording c
  pub number : (c : Card) → IsOwnValid (card_image o.recording c)
      → (found_of o.found c).number ≡ own_number (card_image o.recording c)
  pub long : (c : Card) → IsOwnValid (card_image o.recording c) → length (own_number (card_image o.recording c)) ≡ 18
  pub bytes : (c : Card) → All (λ n. n < 256) (card_image o.recording c)
  pub vehicle : (c : Card) → (found_of o.found c).vehicle ≡ vehicle_in o
  pub named : length (vehicle_in o).0 ≡ 15

-- BETWEEN TWO SECONDS, behind these: all is recorded, and the odometer that minutes are counted from is that at the
-- last power-on; the unit tells the registration of its image at the start; and each card shows exactly what its stays
-- make of it, where no call failed, by what is noted and true so far. No second goes on: its number counts for nothing.
pub record RunRecorded (o : Origin) (done : List TraceSecond) (run : Run) (out : Outcome) (d : Devices) : Type 0 where
  pub origin : IsOrigin o
  pub supply : UnitPower
  pub vehicle : run.keeper.memory.registration ≡ vehicle_in o
  pub powers : Supplies run.power supply
  pub recorded : RecordBetweenSeconds o done supply (values_of run out) d
  pub odometer : run.power ≡ Lit
      → run.keeper.odometer ≡ odometer_after (odometer_at o.recording.unit) recorded.travel.before
  pub stay : AllStay o (marked out.marks.items (truths_of o (log_of out) done)) 0 (log_of out)
      (notes_in (log_of out) done) run.keeper.memory.registration run.keeper.cabin d

-- WITHIN A SECOND, while there is power
pub record RunWithin (o : Origin) (done : List TraceSecond) (s : TraceSecond) (at : Phase) (waits : List Visit)
    (rest : List Minute) (run : Run) (out : Outcome) (d : Devices) : Type 0 where
  pub origin : IsOrigin o
  pub vehicle : run.keeper.memory.registration ≡ vehicle_in o
  pub lit : run.power ≡ Lit
  pub within : RecordInSecond o done s at waits None rest (values_of run out) d
  pub odometer : run.keeper.odometer ≡ odometer_after (odometer_at o.recording.unit) within.b.travel.before
  pub stay : AllStay o (marked out.marks.items (truths_within o within.b.run.log done s)) s.number (log_of out)
      (notes_within within.b done s at (log_of out)) run.keeper.memory.registration run.keeper.cabin d

-- POWER COMES with the second behind these: by the log it was not on as they ended
abbrev pub ComesPower : List TraceSecond → Outcome → Type 0
ComesPower done out = (went (log_of out) done).before.running ≡ false

-- WHERE POWER WAS CUT in a second: it is recorded as that second will be, once it has gone; a call has failed, and that
-- is told.
pub record RunCut (o : Origin) (done : List TraceSecond) (s : TraceSecond) (run : Run) (out : Outcome)
    (d : Devices) : Type 0 where
  pub origin : IsOrigin o
  pub vehicle : run.keeper.memory.registration ≡ vehicle_in o
  pub lost : run.power ≡ Lost
  pub recorded : RecordBetweenSeconds o (done ++ s ∷ []) IsLost (passed_values s (values_of run out)) d
  pub failed : cuts true (log_of out) ≡ [] → ⊥

-- IN A SECOND to which the trace gives power, behind so many of its actions: it goes on, or power was cut in it
abbrev pub InSecondBy : (lit : Bool) → Origin → List TraceSecond → TraceSecond → (n : ℕ) → Run → Outcome → Devices
    → Type 0
InSecondBy true o done s n run out d = RunWithin o done s (In n) [] [] run out d
InSecondBy false o done s n run out d = RunCut o done s run out d

-- as the run has power, or not
abbrev pub InSecond : Origin → List TraceSecond → TraceSecond → (n : ℕ) → Run → Outcome → Devices → Type 0
InSecond o done s n run out d = InSecondBy (is_lit run.power) o done s n run out d

-- THE UNIT HAS FAILED at a moment of a second, and power is about to be cut, whoever waits then; slots and sessions may
-- be others than those that are recorded, if a cut leaves the same of both (a card was accepted, and the note of that
-- failed). Minutes are counted from an odometer that is the run's, but where the unit was read and its mending failed.
pub record RunFails (o : Origin) (done : List TraceSecond) (s : TraceSecond) (at : Phase) (run : Run) (out : Outcome)
    (d : Devices) : Type 0 where
  pub waits : List Visit
  pub cabin : Cabin
  pub same : with_power_lost s.number cabin ≡ with_power_lost s.number run.keeper.cabin
  pub odometer : ℕ
  pub counted : run.power ≡ Lit → odometer ≡ run.keeper.odometer
  pub vehicle : run.keeper.memory.registration ≡ vehicle_in o
  pub within : RecordAtFailure o done s at waits None
      (record (values_of run out) { cabin = cabin; odometer = odometer }) d

-- THE SECOND GOES ON at a moment where these wait, as it began
pub record RunGoesOn (o : Origin) (done : List TraceSecond) (s : TraceSecond) (at : Phase) (waits : List Visit)
    (run : Run) (out : Outcome) (d : Devices) (b : Beginning) : Type 0 where
  pub goes : RunWithin o done s at waits [] run out d
  pub began : goes.within.b ≡ b

-- or the unit has failed in a call
abbrev pub GoesOnOrFails : (failed : Bool) → Origin → List TraceSecond → TraceSecond → Phase → List Visit → Run
    → Outcome → Devices → Beginning → Type 0
GoesOnOrFails false o done s at waits run out d b = RunGoesOn o done s at waits run out d b
GoesOnOrFails true o done s at waits run out d b = RunFails o done s at run out d

-- behind a call: the second goes on at a moment where these wait; or the unit has failed in it
abbrev pub GoesOnOrCut : (failed : Bool) → Origin → List TraceSecond → TraceSecond → Phase → List Visit → Run → Outcome
    → Devices → Type 0
GoesOnOrCut false o done s at waits run out d = RunWithin o done s at waits [] run out d
GoesOnOrCut true o done s at waits run out d = RunFails o done s at run out d

-- A SECOND of the trace is the next one of a run: it is given power, at this speed
pub record IsNow (s : TraceSecond) (speed : ℕ) (run : Run) : Type 0 where
  pub number : s.number ≡ run.next
  pub given : s.has_power ≡ true
  pub speed_is : s.speed ≡ speed

-- AN ACTION of a second is carried out, which slots and speed do not refuse: it is the next one, and behind it so many
-- have begun. The second goes on as it began.
abbrev pub RecordsAction : Action → (begun speed : ℕ) → (failed : Bool) → (old new : Run) → (before after : Outcome)
    → (d e : Devices) → Type 0
RecordsAction action begun speed failed old new before after d e = (o : Origin) (done : List TraceSecond)
    (s : TraceSecond) → IsNow s speed old →
    (front rest : List Action) → s.actions ≡ front ++ action ∷ rest → begun ≡ suc (length front)
    → refusal (logged old.keeper.cabin.slots.seats) speed action ≡ None →
    (w : RunWithin o done s (In (length front)) [] [] old before d) → HaveTime e
    → GoesOnOrFails failed o done s (In begun) [] new after e w.within.b

-- N SECONDS of one minute: the first has had all of its actions, so many; the others, where there are any, have none,
-- and nor has it then. Behind them all is recorded.
abbrev pub RecordsTurn : (n speed begun : ℕ) → (old new : Run) → (before after : Outcome) → (d e : Devices) → Type 0
RecordsTurn n speed begun old new before after d e = (o : Origin) (done : List TraceSecond) (s : TraceSecond)
    → IsNow s speed old → length s.actions ≡ begun → (1 < n → s.actions ≡ []) →
    InSecond o done s begun old before d → HaveTime e
    → RunRecorded o (done ++ s ∷ driven (n - 1) (s.number + 1) speed []) new after e
