-- The events that a second has noted SO FAR, and how it goes on with each note (Annex IB, section III.12; the moments:
-- profile).
use Rattle.std.specs.Prelude.{◌≡◌, ℕ, suc, ◌==◌, not, ◌&&◌, Bool, true, false, List, [], ◌∷◌, ◌++◌, Contains}
use Rattle.run_devices.specs.trace_model.declared.Action.{Action}
use Rattle.run_devices.specs.trace_model.Trace.{TraceSecond}
use Rattle.run_devices.specs.run_model.declared.Device.{Device}
use Rattle.run_devices.specs.run_model.declared.Device.TheVariants.{Unit as Recorder}
use Rattle.run_devices.specs.log_model.declared.lines.Verdict.{Verdict}
use Rattle.run_devices.specs.log_model.Log.{RunLog, Phase, Keeping, is_accepting}
use Rattle.run_devices.specs.log_model.Causes.{RoseBy}
use Rattle.run_devices.specs.log_model.Course.{ToldSecond, Visit, went}
use Rattle.run_devices.specs.event_model.declared.kinds.TheConstants.{DRIVING_WITHOUT_CARD, OVER_SPEEDING}
use Rattle.run_devices.specs.event_model.declared.kinds.TheConstants.{POWER_INTERRUPTION}
use Rattle.run_devices.specs.event_model.Events.{Event, Tearing, AreTorn, seen_of, events_of}
use Rattle.run_devices.specs.run_unit_course.Lines.{cut_at}
use Rattle.run_devices.specs.run_unit_course.Followed.{Lit, Lost}
use Rattle.run_devices.specs.run_unit_course.Turn.{begins_with}
use Rattle.run_devices.specs.safety_model.Safe.{Devices}
use Rattle.run_events.specs.unit_events.Shown.{all_kinds}
use Rattle.run_devices.specs.run_course.Moments.{and_break}
use Rattle.run_devices.specs.run_course.Followed.{Progress, BookFollowsRun}
use Rattle.run_devices.specs.run_course.Seconds.{next_told}
use Rattle.run_devices.specs.run_course.Moment.{Moment}
use Rattle.run_devices.specs.run_course.Telling.{IsMore, begun_by, IsLeft}
use Rattle.run_events.specs.Shown.{by_kind, none_sure, all_sure, ShowsEvents, ShowsSince, AreTheFirst}
use Rattle.run_events.specs.Seconds.{seen_next}
use Rattle.run_events.specs.Gaps.{HasGaps}
use Rattle.run_events.specs.Choice.{IsTornIn, IsPlainFrom}
use Rattle.run_devices.specs.run_promise.Origin.{Origin, rule_of, start_at, first_of}
use Rattle.run_devices.specs.run_promise.Beside.{HaveLeftMore}
use Rattle.run_note_record.specs.Opened.{IsOpenSo, AreOpenSo}
use Rattle.run_note_record.specs.Uses.{AreExact, AreExactIn}
use Rattle.run_note_record.specs.Evented.{number_in, limit_in, brought_now, NotesMore}
use Rattle.run_note_record.specs.Evented.{Evented, EventedBy}

-- how far a second has come with its notes: at its power-on, before the interruption is noted; as its cards are judged
-- and torn out; and once what has ended with the second before is noted
pub data Stage : Type 0 where
  Waking : Stage
  Acting : Stage
  Ended : Stage

-- so far all events of these types were noted as they came, and of the others none
abbrev pub is_told : Stage → (kind : ℕ) → Bool
is_told Waking kind = not (kind == DRIVING_WITHOUT_CARD) && not (kind == OVER_SPEEDING)
    && not (kind == POWER_INTERRUPTION)
is_told Acting kind = not (kind == DRIVING_WITHOUT_CARD) && not (kind == OVER_SPEEDING)
is_told Ended kind = true

-- each acceptance so far found a session open that an image of the card told, that of the start where it comes for the
-- first time
abbrev pub AreOpen : Origin → RunLog → List TraceSecond → TraceSecond → (own : ℕ → Visit → ℕ) → Devices → Type 0
AreOpen o log done s own d = (f : Visit × Verdict) → Contains (seen_next log done s).told.course.found f
    → is_accepting f.1 ≡ true →
    IsOpenSo o (went log done).told (done ++ s ∷ []) d f.0.card s.number (own s.number f.0)

-- an image shows these events more than one before it, each of which was noted
abbrev pub ShowsThese : Origin → List Event → (x c : List ℕ) → Type 0
ShowsThese o es x c = ShowsEvents (number_in o) all_sure x (by_kind es) c

-- WITHIN A SECOND that began so, by its log so far: these events more were noted in it, which every image of the unit
-- shows behind those of the seconds before.
pub record EventedIn (o : Origin) (done : List TraceSecond) (s : TraceSecond) (p : Progress) (stage : Stage)
    (log : RunLog) (d : Devices) : Type 0 where
  -- as it began
  pub tearing : Tearing
  pub sessions : ℕ → Visit → ℕ
  pub plain : IsPlainFrom p.next tearing
  pub torn : AreTorn tearing (seen_of p.log done)
  pub gaps : HasGaps p.log p.unfound p.supply done
  pub open_before : AreOpenSo o (went p.log done).told done d sessions
  pub exact_before : AreExact o p.log done sessions
  -- what no log tells of it, and what it has noted
  pub here : Tearing
  pub own : ℕ → Visit → ℕ
  pub more : List Event
  pub noted : (c : List ℕ) → d.unit.may_leave c
      → (x : List ℕ) × ShowsSince (number_in o) p.log o.recording.unit
      (λ kind. events_of kind (limit_in o) sessions tearing p.log done) x × ShowsThese o more x c
  pub told : (kind : ℕ) → Contains all_kinds kind → is_told stage kind ≡ true
      → by_kind more kind ≡ brought_now o log done s here own kind
  pub untold : (kind : ℕ) → Contains all_kinds kind → is_told stage kind ≡ false → by_kind more kind ≡ []
  pub open_now : AreOpen o log done s own d
  pub exact_now : AreExactIn o log done s own

-- calls note these events
abbrev pub NotesThese : Origin → List Event → (d e : Devices) → Type 0
NotesThese o es d e = NotesMore o all_sure (by_kind es) d e

-- A STEP IS NOTED: a line is told, or none, and what no log tells is chosen further; it brings these events of the
-- types that are noted as they come, and they are noted.
abbrev pub AStepIsNoted : (d e : Devices) → Type 0
AStepIsNoted d e = (o : Origin) (done : List TraceSecond) (s : TraceSecond) (p : Progress) (stage : Stage)
    (log later : RunLog) → (v : EventedIn o done s p stage log d)
    → (here : Tearing) (own : ℕ → Visit → ℕ) (es : List Event) →
    ((kind : ℕ) → Contains all_kinds kind → is_told stage kind ≡ true
    → brought_now o later done s here own kind ≡ brought_now o log done s v.here v.own kind ++ by_kind es kind) →
    ((kind : ℕ) → Contains all_kinds kind → is_told stage kind ≡ false → by_kind es kind ≡ []) → NotesThese o es d e
    → HaveLeftMore o d e → AreOpen o later done s own e → AreExactIn o later done s own →
    EventedIn o done s p stage later e

-- A STAGE IS DONE: the events of the types that were put off are noted.
abbrev pub AStageIsDone : (d e : Devices) → Type 0
AStageIsDone d e = (o : Origin) (done : List TraceSecond) (s : TraceSecond) (p : Progress) (stage next : Stage)
    (log : RunLog) → (v : EventedIn o done s p stage log d) → (es : List Event) →
    ((kind : ℕ) → is_told stage kind ≡ true → is_told next kind ≡ true) →
    ((kind : ℕ) → Contains all_kinds kind → is_told stage kind ≡ true → by_kind es kind ≡ []) →
    ((kind : ℕ) → Contains all_kinds kind → is_told stage kind ≡ false → is_told next kind ≡ true
    → by_kind es kind ≡ brought_now o log done s v.here v.own kind) →
    ((kind : ℕ) → Contains all_kinds kind → is_told next kind ≡ false → by_kind es kind ≡ []) → NotesThese o es d e
    → HaveLeftMore o d e →
    EventedIn o done s p next log e

-- at which stage a second begins: at its power-on if power comes with it
abbrev pub stage_of : (starts : Bool) → Stage
stage_of true = Waking
stage_of false = Acting

-- A SECOND BEGINS: nothing is told of it yet, and nothing is noted.
abbrev pub TheSecondBegins : Devices → Type 0
TheSecondBegins d = (o : Origin) (done : List TraceSecond) (p : Progress)
    → BookFollowsRun (rule_of o) (start_at o) o.from (first_of o) done p → EventedBy o done p d
    → (span : List ToldSecond) → p.supply ≡ Lit span → (s : TraceSecond) → s.number ≡ p.next → s.has_power ≡ true →
    EventedIn o done s p (stage_of (begins_with span)) p.log d

-- THE SECOND ENDS with its keeping, and all that it brings is noted.
abbrev pub TheSecondIsNoted : Devices → Type 0
TheSecondIsNoted d = (o : Origin) (done : List TraceSecond) (p : Progress)
    → BookFollowsRun (rule_of o) (start_at o) o.from (first_of o) done p → (span : List ToldSecond)
    → p.supply ≡ Lit span → (s : TraceSecond) (log : RunLog) (mid now : Device → ℕ) →
    Moment p (went p.log done).before s Keeping log [] mid now → (v : EventedIn o done s p Ended log d)
    → IsTornIn v.here (seen_next log done s) →
    Evented o (done ++ s ∷ []) log p.unfound (suc p.next) (Lit (span ++ next_told log done s ∷ [])) d

-- OR THE UNIT FAILS IN IT, at any stage: none of the events that it brings is sure then, and what was noted, and a
-- failed call has left, are the first of them.
abbrev pub TheSecondIsCut : (d e : Devices) → Type 0
TheSecondIsCut d e = (o : Origin) (done : List TraceSecond) (p : Progress)
    → BookFollowsRun (rule_of o) (start_at o) o.from (first_of o) done p → (span : List ToldSecond)
    → p.supply ≡ Lit span → (s : TraceSecond) (at : Phase) (log : RunLog) (waits : List Visit)
    (mid now later : Device → ℕ) →
    Moment p (went p.log done).before s at log waits mid now → IsMore now later
    → RoseBy 1 (mid Recorder) (later Recorder) → (rest : List Action) → IsLeft s at rest
    → let cut : RunLog = and_break log (cut_at s.number true (begun_by s at)) in
    (stage : Stage) → (v : EventedIn o done s p stage log d) → (here : Tearing) (own : ℕ → Visit → ℕ)
    → IsTornIn here (seen_next cut done s) → AreOpen o cut done s own e → HaveLeftMore o d e →
    (es : List Event) → AreTheFirst (by_kind (v.more ++ es)) (brought_now o cut done s here own)
    → NotesMore o none_sure (by_kind es) d e →
    Evented o (done ++ s ∷ []) cut p.unfound (suc p.next) Lost e
