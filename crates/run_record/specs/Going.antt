-- How the record goes on over seconds that are taken at once: without power, of an `off` line, and with power where
-- nothing happens; and how it begins (profile).
use Rattle.std.specs.Prelude.{◌≡◌, ℕ, suc, ◌+◌, ◌-◌, ◌/◌, ◌%◌, ◌<◌, ◌≤◌, None, List, [], ◌∷◌, ◌++◌, map, false}
use Rattle.run_devices.specs.trace_model.declared.Action.{Action}
use Rattle.run_devices.specs.trace_model.declared.Card.{Card}
use Rattle.run_devices.specs.trace_model.Trace.{TraceSecond, driven, dark}
use Rattle.minute_rules.specs.Kept.{Kept, CountsSpan}
use Rattle.run_devices.specs.log_model.declared.lines.Refused.{Refused}
use Rattle.run_devices.specs.log_model.Causes.{refusals_at, refusal_told}
use Rattle.run_devices.specs.log_model.Course.{ToldSecond, without_power}
use Rattle.run_devices.specs.history_model.Book.{not_begun}
use Rattle.run_devices.specs.run_unit_course.Followed.{UnitPower, Lit, Due, Lost, IsDark}
use Rattle.run_devices.specs.run_unit_course.Legs.{not_travelled}
use Rattle.run_devices.specs.run_unit_course.Lines.{cut_at}
use Rattle.run_devices.specs.run_unit_course.Turn.{span_at}
use Rattle.run_devices.specs.unit_model.Image.{odometer_at}
use Rattle.run_devices.specs.unit_rule.Odometer.{HasTravelled}
use Rattle.run_devices.specs.safety_model.Safe.{Devices, card_of, breakdowns_of}
use Rattle.run_devices.specs.card_slots.Kept.{nothing_yet}
use Rattle.run_devices.specs.run_crew.Cabin.{with_power_lost}
use Rattle.run_devices.specs.run_crew.Cards.{session_of}
use Rattle.run_devices.specs.run_promise.Found.{found_of}
use Rattle.run_devices.specs.run_promise.Cards.{IsUntouched}
use Rattle.run_devices.specs.run_course.Moments.{and_break}
use Rattle.run_devices.specs.run_course.Quiet.{quiet_seconds, begun_after}
use Rattle.run_devices.specs.run_course.Telling.{IsMore}
use Rattle.run_devices.specs.Told.{AreFoundCards, DevicesUnpowered}
use Rattle.run_devices.specs.run_promise.Origin.{Origin, rule_of, first_of}
use Rattle.run_devices.specs.run_promise.Seconds.{empty_log}
use Rattle.run_record.specs.Recorded.{Values, slots_of, AreThere, RecordBetweenSeconds}
use Rattle.run_record.specs.Within.{RecordedFrom}
use Rattle.run_devices.specs.run_promise.Opening.{carried_first}

-- what a run has by value behind n seconds without power: these refusals more, and the last second had so many actions
abbrev pub dark_values : (n begun : ℕ) → List Refused → Values → Values
dark_values n begun refused v = record v {
  log = record v.log { refused = v.log.refused ++ refused };
  next = v.next + n;
  begun = begun;
}

-- WITHOUT POWER, up to the minute's end after a failed call: the actions of the first second are refused.
abbrev pub DarkSecondsStayRecorded : Devices → Type 0
DarkSecondsStayRecorded d = (o : Origin) (done : List TraceSecond) (v : Values) → RecordBetweenSeconds o done Lost v d
    → (n speed : ℕ) (actions : List Action) (refused : List Refused) (begun : ℕ) →
    0 < v.next % 60 → v.next % 60 + suc n ≤ 60 → map refusal_told refused ≡ refusals_at v.next (without_power 0 actions)
    →
    RecordBetweenSeconds o (done ++ driven (suc n) v.next speed actions) Lost (dark_values (suc n) begun refused v) d

-- what a run has by value behind n seconds of an `off` line
abbrev pub off_values : (n : ℕ) → Values → Values
off_values n v = record v { next = v.next + n; begun = 0 }

-- AN `off` LINE where there is no power,
abbrev pub AnOffLineStaysRecorded : Devices → Type 0
AnOffLineStaysRecorded d = (o : Origin) (done : List TraceSecond) (supply : UnitPower) (v : Values)
    → RecordBetweenSeconds o done supply v d → IsDark supply → (n : ℕ)
    → RecordBetweenSeconds o (done ++ dark (suc n) v.next) Due (off_values (suc n) v) d

-- what a run has by value behind n seconds of an `off` line that cuts the power in the second before it
abbrev pub off_cut_values : (n : ℕ) → Values → Values
off_cut_values n v = record v {
  log = and_break v.log (cut_at (v.next - 1) false v.begun);
  cabin = with_power_lost (v.next - 1) v.cabin;
  next = v.next + n;
  begun = 0;
}

-- and where there is: the power is cut in the last second.
abbrev pub AnOffCutStaysRecorded : Devices → Type 0
AnOffCutStaysRecorded d = (o : Origin) (done : List TraceSecond) (t : ToldSecond) (span : List ToldSecond) (v : Values)
    → RecordBetweenSeconds o done (Lit (t ∷ span)) v d → (n : ℕ)
    → RecordBetweenSeconds o (done ++ dark (suc n) v.next) Due (off_cut_values (suc n) v) d

-- what a run has by value behind n seconds in which nothing happens, where these minutes stand for the longer span
abbrev pub quiet_values : (n : ℕ) → Kept → Values → Values
quiet_values n minutes v = record v { next = v.next + n; begun = begun_after n v.begun; minutes = minutes }

-- the span with n such seconds more
abbrev pub quiet_span : (o : Origin) (done : List TraceSecond) (n speed : ℕ) → List ToldSecond → Values
    → List ToldSecond
quiet_span o done n speed span v = span ++ quiet_seconds n v.next speed (slots_of v done)

-- SECONDS WITH POWER in which nothing happens, within a minute.
abbrev pub QuietSecondsStayRecorded : Devices → Type 0
QuietSecondsStayRecorded d = (o : Origin) (done : List TraceSecond) (t : ToldSecond) (span : List ToldSecond)
    (v : Values) → (r : RecordBetweenSeconds o done (Lit (t ∷ span)) v d) → (n speed : ℕ) → 0 < v.next % 60
    → v.next % 60 + suc n < 60 →
    (minutes : Kept) → CountsSpan minutes (span_at (rule_of o) (v.next + suc n)
    (quiet_span o done (suc n) speed (t ∷ span) v)) →
    RecordedFrom o (done ++ driven (suc n) v.next speed []) (Lit (quiet_span o done (suc n) speed (t ∷ span) v))
    (quiet_values (suc n) minutes v) d r.travel.before

-- AT THE START nothing is recorded: nobody sits, each card is as it was, and unit and cards wait.
pub record MayStart (o : Origin) (v : Values) (d : Devices) : Type 0 where
  pub early : first_of o < o.from / 60
  pub log : v.log ≡ empty_log
  pub marks : v.marks ≡ []
  pub slots : v.cabin.slots ≡ nothing_yet
  pub bare : (c : Card) → session_of v.cabin.cards c ≡ None
  pub unfound : v.unfound ≡ 0
  pub next : v.next ≡ o.from
  pub begun : v.begun ≡ 0
  pub stops : v.stops ≡ []
  pub breakdowns : IsMore o.breakdowns (breakdowns_of d)
  pub powerless : DevicesUnpowered o.found
      (carried_first (o.from / 60)) d
  pub found : AreFoundCards o.found v.cabin.cards
  pub there : AreThere o.found d
  pub untouched : (c : Card) → IsUntouched (found_of o.found c) (card_of d c)
  pub travels : HasTravelled (odometer_at o.recording.unit) not_begun (not_travelled o.recording.unit) d.unit

-- SO A RUN BEGINS: behind no second it waits for power.
abbrev pub ARunBegins : Devices → Type 0
ARunBegins d = (o : Origin) (v : Values) → MayStart o v d → RecordBetweenSeconds o [] Due v d
