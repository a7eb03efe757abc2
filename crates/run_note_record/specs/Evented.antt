-- The events and faults that a run with cards has noted on its unit by now (Annex IB, section III.12; the moments:
-- profile): what is carried of them BETWEEN TWO SECONDS, and over each kind of second.
use Rattle.std.specs.Prelude.{◌≡◌, ℕ, suc, ◌+◌, ◌-◌, ◌≤◌, Bool, true, false, List, [], ◌∷◌, ◌++◌, length, Contains}
use Rattle.run_devices.specs.trace_model.declared.Card.{Card}
use Rattle.run_devices.specs.trace_model.declared.Action.{Action}
use Rattle.run_devices.specs.trace_model.Trace.{TraceSecond}
use Rattle.run_devices.specs.run_model.declared.Device.{Device}
use Rattle.run_devices.specs.run_model.declared.Device.TheVariants.{Unit as Recorder}
use Rattle.run_devices.specs.card_image.Own.{own_number}
use Rattle.run_devices.specs.log_model.declared.lines.Verdict.{Verdict}
use Rattle.run_devices.specs.log_model.Log.{RunLog, Phase, Keeping, is_accepting}
use Rattle.run_devices.specs.log_model.Causes.{RoseBy, device_of}
use Rattle.run_devices.specs.log_model.Course.{ToldSecond, Visit, went}
use Rattle.run_devices.specs.log_model.Spans.{AreInOrder}
use Rattle.run_devices.specs.event_model.Events.{Event, Tearing, AreTorn, seen_of, seen_spans}
use Rattle.run_devices.specs.note_model.Events.{AreSessions}
use Rattle.run_devices.specs.unit_model.declared.layout.TheConstants.{SPEED_LIMIT, OVER_COUNT}
use Rattle.run_devices.specs.unit_model.Image.{number_of}
use Rattle.run_devices.specs.run_unit_course.Lines.{cut_at}
use Rattle.run_devices.specs.run_unit_course.Followed.{UnitPower, Lit, Lost, MayPower, IsDark}
use Rattle.run_devices.specs.safety_model.Recording.{Recording, card_image, told_of}
use Rattle.run_devices.specs.safety_model.Safe.{Devices, card_of, breakdowns_of}
use Rattle.run_devices.specs.safety_model.Side.{events_in}
use Rattle.run_events.specs.unit_events.Shown.{all_kinds}
use Rattle.run_devices.specs.run_promise.Found.{found_of}
use Rattle.run_devices.specs.run_course.Moments.{and_break}
use Rattle.run_devices.specs.run_course.Followed.{Progress, BookFollowsRun}
use Rattle.run_devices.specs.run_course.Seconds.{next_told}
use Rattle.run_devices.specs.run_course.Moment.{Moment}
use Rattle.run_devices.specs.run_course.Telling.{IsMore, begun_by, IsLeft}
use Rattle.run_events.specs.Shown.{by_kind, none_sure, all_sure, ShowsEvents, ShowsSince, AreTheFirst, SaysNothing}
use Rattle.run_events.specs.Seconds.{second_events, seen_next}
use Rattle.run_events.specs.Gaps.{HasGaps}
use Rattle.run_events.specs.Choice.{chosen, told_at, IsTornIn, IsPlainFrom}
use Rattle.run_events.specs.Running.{HasEvents}
use Rattle.run_devices.specs.run_promise.Origin.{Origin, rule_of, start_at, first_of}
use Rattle.run_devices.specs.run_promise.Beside.{HaveLeftMore}
use Rattle.run_devices.specs.run_promise.Seconds.{at_start, found_again}
pub use Rattle.run_note_record.specs.Opened.{session_in, images_in}
use Rattle.run_note_record.specs.Opened.{AreFirst, IsOpenSo, AreOpenSo}
use Rattle.run_note_record.specs.Uses.{TellExactly, AreExact, AreExactIn}

-- the number of a card, by its image at the start
abbrev pub number_in : Origin → Card → List ℕ
number_in o c = own_number (card_image o.recording c)

-- the speed limit of the unit, by its image at the start
abbrev pub limit_in : Origin → ℕ
limit_in o = number_of o.recording.unit SPEED_LIMIT

-- WHAT IS CARRIED OF THE EVENTS behind these seconds: what no log tells of them, of cards that were torn out and of
-- sessions that were found open (exactly, where no call failed on the card), of which nothing is chosen from the next
-- second on; every image of the unit shows the events, by that; and it is known what was kept between the power spans,
-- but where a power-on failed. `unfound` is the first break of which it is not known.
pub record Evented (o : Origin) (done : List TraceSecond) (log : RunLog) (unfound next : ℕ) (supply : UnitPower)
    (d : Devices) : Type 0 where
  pub tearing : Tearing
  pub sessions : ℕ → Visit → ℕ
  pub plain : IsPlainFrom next tearing
  pub events : HasEvents (number_in o) o.recording.unit (limit_in o) log done d.unit tearing sessions
  pub gaps : HasGaps log unfound supply done
  pub found_open : AreOpenSo o (went log done).told done d sessions
  pub exact : AreExact o log done sessions

-- how far a run has gone, as far as its events go
abbrev pub EventedBy : Origin → List TraceSecond → Progress → Devices → Type 0
EventedBy o done p d = Evented o done p.log p.unfound p.next p.supply d

-- ---- what calls make of the unit's images

-- a call of which no event is told: each image that it may leave says no other than one before it
abbrev pub NotesNothing : (d e : Devices) → Type 0
NotesNothing d e = (c : List ℕ) → e.unit.may_leave c → (x : List ℕ) × d.unit.may_leave x × SaysNothing x c

-- these events more are shown, of which each that is sure was noted
abbrev pub NotesMore : Origin → (sure : Event → Bool) → (more : ℕ → List Event) → (d e : Devices) → Type 0
NotesMore o sure more d e = (c : List ℕ) → e.unit.may_leave c
    → (x : List ℕ) × d.unit.may_leave x × ShowsEvents (number_in o) sure x more c

-- ---- at the start, and as the unit is read

-- NOTHING IS NOTED at the start.
abbrev pub NothingIsNoted : Devices → Type 0
NothingIsNoted d = (o : Origin) → ((x : List ℕ) → d.unit.may_leave x → x ≡ o.recording.unit)
    → number_of o.recording.unit OVER_COUNT ≤ 255 → EventedBy o [] (at_start o) d

-- CALLS of which no event is told leave it so.
abbrev pub EventsStay : (d e : Devices) → Type 0
EventsStay d e = (o : Origin) (done : List TraceSecond) (log : RunLog) (unfound next : ℕ) (supply : UnitPower)
    → Evented o done log unfound next supply d → NotesNothing d e → HaveLeftMore o d e
    → Evented o done log unfound next supply e

-- POWER IS BACK: the unit is read, and of the cuts before it is known what was kept.
abbrev pub EventsAreFound : (d e : Devices) → Type 0
EventsAreFound d e = (o : Origin) (done : List TraceSecond) (p : Progress)
    → BookFollowsRun (rule_of o) (start_at o) o.from (first_of o) done p → EventedBy o done p d
    → MayPower p.supply p.next → (k : ℕ) → NotesNothing d e → HaveLeftMore o d e →
    EventedBy o done (found_again k p) e

-- ---- over a second

-- what no log tells of tears, behind a second of which this was chosen
abbrev pub tearing_now : TraceSecond → (here t : Tearing) → Tearing
tearing_now s here t = chosen s.number here t

-- the session times that were found, behind a second of which these were
abbrev pub sessions_now : TraceSecond → (own sessions : ℕ → Visit → ℕ) → ℕ → Visit → ℕ
sessions_now s own sessions = told_at s.number own sessions

-- what the second brings of each type
abbrev pub brought_now : Origin → RunLog → List TraceSecond → TraceSecond → (here : Tearing) → (own : ℕ → Visit → ℕ)
    → (kind : ℕ) → List Event
brought_now o log done s here own kind = second_events kind (limit_in o) own here log (seen_spans (seen_of log done))
    (seen_next log done s)

-- WHAT NO LOG TELLS of a second is chosen so: of its tears, so that it fits it; and each acceptance found a session
-- open that an image of the card told, that of the start where it comes for the first time, and where no call failed on
-- the card that which the insertion before has left.
pub record IsChosen (o : Origin) (log : RunLog) (done : List TraceSecond) (s : TraceSecond) (here : Tearing)
    (own : ℕ → Visit → ℕ) (d : Devices) : Type 0 where
  pub fits : IsTornIn here (seen_next log done s)
  pub found_open : (f : Visit × Verdict) → Contains (seen_next log done s).told.course.found f → is_accepting f.1 ≡ true
      →
      IsOpenSo o (went log done).told (done ++ s ∷ []) d f.0.card s.number (own s.number f.0)
  pub exact : AreExactIn o log done s own

-- A SECOND WITH POWER, to its end: all that it brings was noted.
abbrev pub ASecondIsNoted : (d e : Devices) → Type 0
ASecondIsNoted d e = (o : Origin) (done : List TraceSecond) (p : Progress)
    → BookFollowsRun (rule_of o) (start_at o) o.from (first_of o) done p → EventedBy o done p d
    → (span : List ToldSecond) → p.supply ≡ Lit span →
    (s : TraceSecond) (log : RunLog) (mid now : Device → ℕ) → Moment p (went p.log done).before s Keeping log [] mid now
    → (here : Tearing) (own : ℕ → Visit → ℕ) → IsChosen o log done s here own e → HaveLeftMore o d e →
    (more : List Event) → ((kind : ℕ) → Contains all_kinds kind
    → by_kind more kind ≡ brought_now o log done s here own kind)
    → NotesMore o all_sure (by_kind more) d e →
    Evented o (done ++ s ∷ []) log p.unfound (suc p.next) (Lit (span ++ next_told log done s ∷ [])) e

-- OR THE UNIT FAILED IN IT, and power is cut: none of the events that it brings is sure, and of the first of them a
-- failed call has left what it has.
abbrev pub ASecondIsBroken : (d e : Devices) → Type 0
ASecondIsBroken d e = (o : Origin) (done : List TraceSecond) (p : Progress)
    → BookFollowsRun (rule_of o) (start_at o) o.from (first_of o) done p → EventedBy o done p d
    → (span : List ToldSecond) → p.supply ≡ Lit span →
    (s : TraceSecond) (at : Phase) (log : RunLog) (waits : List Visit) (mid now later : Device → ℕ)
    → Moment p (went p.log done).before s at log waits mid now → IsMore now later
    → RoseBy 1 (mid Recorder) (later Recorder) →
    (rest : List Action) → IsLeft s at rest → let cut : RunLog = and_break log (cut_at s.number true (begun_by s at)) in
    (here : Tearing) (own : ℕ → Visit → ℕ) → IsChosen o cut done s here own e → HaveLeftMore o d e
    → (some : ℕ → List Event) → AreTheFirst some (brought_now o cut done s here own)
    → NotesMore o none_sure some d e →
    Evented o (done ++ s ∷ []) cut p.unfound (suc p.next) Lost e

-- A POWER-ON FAILED at once.
abbrev pub APowerOnIsBroken : (d e : Devices) → Type 0
APowerOnIsBroken d e = (o : Origin) (done : List TraceSecond) (p : Progress)
    → BookFollowsRun (rule_of o) (start_at o) o.from (first_of o) done p → EventedBy o done p d
    → MayPower p.supply p.next →
    (s : TraceSecond) → s.number ≡ p.next → s.has_power ≡ true → (mid later : Device → ℕ) → IsMore mid later
    → RoseBy 1 (mid Recorder) (later Recorder) → NotesNothing d e → HaveLeftMore o d e →
    Evented o (done ++ s ∷ []) (and_break p.log (cut_at s.number true 0)) p.unfound (suc p.next) Lost e

-- ---- without power

-- A SECOND WITHOUT POWER brings nothing: its actions are refused.
abbrev pub ADarkSecondBringsNothing : Devices → Type 0
ADarkSecondBringsNothing d = (o : Origin) (done : List TraceSecond) (log later : RunLog) (unfound next : ℕ)
    (supply now : UnitPower) → AreInOrder o.from done → next ≡ o.from + length done
    → Evented o done log unfound next supply d → IsDark supply →
    (s : TraceSecond) → s.number ≡ next → later.breaks ≡ log.breaks → later.finds ≡ log.finds
    → (seen_next later done s).told.lit ≡ false → IsDark now
    → Evented o (done ++ s ∷ []) later unfound (suc next) now d

-- THE LAST SECOND TURNS OUT TO BE A CUT'S, as an `off` line says: its events are the same.
abbrev pub AnOffCutBringsNothing : Devices → Type 0
AnOffCutBringsNothing d = (o : Origin) (done : List TraceSecond) (p : Progress)
    → BookFollowsRun (rule_of o) (start_at o) o.from (first_of o) done p → EventedBy o done p d
    → (t : ToldSecond) (span : List ToldSecond) → p.supply ≡ Lit (t ∷ span) →
    Evented o done (and_break p.log (cut_at (p.next - 1) false p.begun)) p.unfound p.next Lost d

-- ---- at the end

-- An image shows the events and faults of a recording, as its auxiliary records are to show them.
pub record ShowsEventsOf (r : Recording) (began now : Devices) (x : List ℕ) : Type 0 where
  pub sessions : ℕ → Visit → ℕ
  pub are_sessions : AreSessions (λ c. (card_of now c).left_since (card_of began c).clock) session_in (told_of r)
      sessions
  pub are_first : AreFirst (card_image r) (told_of r) r.trace sessions
  pub exact : TellExactly r began sessions
  pub tearing : Tearing
  pub are_torn : AreTorn tearing (seen_of r.log r.trace)
  -- one that is not sure frees the one place that it takes, and no other
  pub events : ShowsSince (λ c. own_number (card_image r c)) r.log r.unit (events_in r sessions tearing) x

-- AT THE END of a run every image of the unit shows them, where a recording has its images at the start, its trace and
-- its log.
abbrev pub EventsAreShown : (began now : Devices) → Type 0
EventsAreShown began now = (o : Origin) (done : List TraceSecond) (log : RunLog) (unfound next : ℕ) (supply : UnitPower)
    → Evented o done log unfound next supply now → (r : Recording) → r.unit ≡ o.recording.unit
    → ((c : Card) → card_image r c ≡ card_image o.recording c) →
    r.trace ≡ done → r.log ≡ log → ((c : Card) → (found_of o.found c).began ≡ (card_of began c).clock)
    → ((c : Card) → o.breakdowns (device_of c) ≡ breakdowns_of began (device_of c)) → (x : List ℕ)
    → now.unit.may_leave x → ShowsEventsOf r began now x
