-- WHAT A SECOND HAS BROUGHT SO FAR, whatever is chosen of what no log tells of it, and what each line of it adds: with
-- the cards that sit in the slots as it is told (Annex IB, section III.12; the moments: profile).
use Rattle.std.specs.Prelude.{◌≡◌, ℕ, zero, suc, Bool, true, false, not, Option, Some, None, List, [], ◌∷◌, ◌++◌}
use Rattle.std.specs.Prelude.{Contains, is_some, nat_lt, slice_get, option_map, option_to_list, if◌then◌else◌}
use Rattle.std.specs.List.{AllByRecursion}
use Rattle.run_events.specs.activity_codec.declared.values.Slot.{Slot}
use Rattle.run_events.specs.activity_codec.declared.values.Slot.TheVariants.{Driver, CoDriver}
use Rattle.run_events.specs.activity_codec.Activity.{same_slot}
use Rattle.run_devices.specs.trace_model.declared.Card.{Card}
use Rattle.run_devices.specs.trace_model.declared.Action.{Action}
use Rattle.run_devices.specs.trace_model.declared.Action.TheVariants.{Insert}
use Rattle.run_devices.specs.trace_model.Trace.{TraceSecond}
use Rattle.run_devices.specs.run_model.declared.Device.{Device}
use Rattle.run_devices.specs.run_model.declared.Device.TheVariants.{Unit as Recorder}
use Rattle.run_devices.specs.log_model.declared.lines.Break.{Break}
use Rattle.run_devices.specs.log_model.declared.lines.Find.{Find}
use Rattle.run_devices.specs.log_model.declared.lines.Refused.{Refused}
use Rattle.run_devices.specs.log_model.declared.lines.Verdict.{Verdict}
use Rattle.run_devices.specs.log_model.declared.lines.Verdict.TheVariants.{Accepted, NotValid, TimeOverlap}
use Rattle.run_devices.specs.log_model.Log.{RunLog, Phase, In, Keeping, is_accepting, is_torn_in, found_in, kept_after}
use Rattle.run_devices.specs.log_model.Slots.{Slots, Sitting, in_slot, other_slot, is_accepted}
use Rattle.run_devices.specs.log_model.Causes.{RoseBy}
use Rattle.run_devices.specs.log_model.Course.{ToldSecond, Visit, visits, went}
use Rattle.run_devices.specs.event_model.declared.kinds.TheConstants.{CARD_NOT_VALID, TIME_OVERLAP}
use Rattle.run_devices.specs.event_model.declared.kinds.TheConstants.{INSERTION_WHILE_DRIVING}
use Rattle.run_devices.specs.event_model.declared.kinds.TheConstants.{SESSION_NOT_CLOSED, POWER_INTERRUPTION}
use Rattle.run_devices.specs.event_model.declared.kinds.TheConstants.{CARD_FAULT}
use Rattle.run_devices.specs.event_model.declared.entries.Span.{Span}
use Rattle.run_devices.specs.event_model.Spans.{gap_of}
use Rattle.run_devices.specs.event_model.Events.{Event, Crew, Seen, Tearing, AreTorn, crew_of, with_card, accepted_card}
use Rattle.run_devices.specs.event_model.Events.{noted_with}
use Rattle.run_devices.specs.event_model.Events.{last_number, torn_at, accepted_at, is_first, seen_of, seen_spans}
use Rattle.run_devices.specs.event_model.Events.{events_of}
use Rattle.run_devices.specs.run_unit_course.Lines.{cut_at}
use Rattle.run_devices.specs.run_unit_course.Followed.{Lit, Lost}
use Rattle.run_devices.specs.run_unit_course.Turn.{begins_with}
use Rattle.run_devices.specs.safety_model.Safe.{Devices}
use Rattle.run_events.specs.unit_events.Shown.{all_kinds}
use Rattle.run_devices.specs.run_course.Moments.{and_break, and_find, and_refused}
use Rattle.run_devices.specs.run_course.Followed.{Progress, BookFollowsRun}
use Rattle.run_devices.specs.run_course.Seconds.{next_told}
use Rattle.run_devices.specs.run_course.Reached.{course_at, moved_at, Reaches, IsTearAt, IsFindAt}
use Rattle.run_devices.specs.run_course.Moment.{Moment}
use Rattle.run_devices.specs.run_course.Telling.{IsMore, IsOneOut, begun_by, IsLeft}
use Rattle.run_events.specs.Shown.{by_kind, none_sure, ShowsSince}
use Rattle.run_events.specs.Seconds.{last_of, span_before, bares_by, overs_by, seen_next}
use Rattle.run_events.specs.Gaps.{HasGaps}
use Rattle.run_events.specs.Choice.{IsPlainFrom}
use Rattle.run_devices.specs.run_promise.Origin.{Origin, rule_of, start_at, first_of}
use Rattle.run_devices.specs.run_promise.Beside.{HaveLeftMore}
use Rattle.run_note_record.specs.Opened.{IsOpenSo, AreOpenSo}
use Rattle.run_note_record.specs.Uses.{AreExact, AreExactIn, FindsMore}
use Rattle.run_note_record.specs.Evented.{number_in, limit_in, brought_now, NotesMore, Evented, EventedBy}
use Rattle.run_note_record.specs.Noting.{Stage, Waking, Acting, Ended, is_told, AreOpen, ShowsThese, NotesThese}
use Rattle.run_note_record.specs.Noting.{stage_of}
use Rattle.run_note_record.specs.Bringing.{NotFound}

-- ---- the choice

-- an action puts a card into this slot
abbrev pub puts_into : Slot → Option Action → Bool
puts_into slot (Some (Insert at card)) = same_slot at slot
puts_into slot _ = false

-- of two cards that are torn out at a moment the driver's is the first, but where an action puts a card into the driver
-- slot at it
abbrev pub first_planned : List Action → ℕ → Bool
first_planned actions zero = true
first_planned actions (suc n) = not (puts_into Driver (slice_get actions n))

-- the choice as a second begins: none was torn out as an interruption was noted; and of two cards that are torn out in
-- an insertion the one beside is the first
abbrev pub planned : TraceSecond → Tearing
planned s = record { by_gap = λ u slot. false; driver_first = λ u k. first_planned s.actions k }

-- A choice fits what the log tells of a second so far, and every insertion of it; before the interruption is noted no
-- card was torn out by that.
pub record FitsSoFar (stage : Stage) (s : TraceSecond) (t : Tearing) (x : Seen) : Type 0 where
  pub put_in : (n : ℕ) (slot : Slot) → puts_into slot (slice_get s.actions n) ≡ true
      → is_first t s.number (suc n) slot ≡ false
  pub still : (slot : Slot) → s.speed ≡ 0 → torn_at x (In 0) slot ≡ true → is_some (accepted_at x (In 0) slot) ≡ true
      → t.by_gap s.number slot ≡ true
  pub before : (slot : Slot) → accepted_at x (In 0) slot ≡ None → t.by_gap s.number slot ≡ false
  pub waking : stage ≡ Waking → (slot : Slot) → t.by_gap s.number slot ≡ false

-- ---- what a second has brought

-- WHAT A SECOND HAS BROUGHT by its log so far, by one choice that fits it: these events, of the types that are noted as
-- they come.
pub record SoFar (o : Origin) (done : List TraceSecond) (s : TraceSecond) (stage : Stage) (log : RunLog)
    (more : List Event) (d : Devices) : Type 0 where
  pub here : Tearing
  pub own : ℕ → Visit → ℕ
  pub told : (kind : ℕ) → Contains all_kinds kind → is_told stage kind ≡ true
      → by_kind more kind ≡ brought_now o log done s here own kind
  pub untold : (kind : ℕ) → Contains all_kinds kind → is_told stage kind ≡ false → by_kind more kind ≡ []
  pub fits : FitsSoFar stage s here (seen_next log done s)
  pub open_now : AreOpen o log done s own d
  pub exact_now : AreExactIn o log done s own

-- LINES, or a stage that is done, ADD these events: from one log and stage to another. Steps follow one another by
-- `more ++ es`.
pub record Adds (o : Origin) (done : List TraceSecond) (s : TraceSecond) (stage : Stage) (log : RunLog) (next : Stage)
    (later : RunLog) (es : List Event) (d : Devices) : Type 0 where
  pub kinds : AllByRecursion (λ e. Contains all_kinds e.kind) es
  pub on : (more : List Event) → SoFar o done s stage log more d → SoFar o done s next later (more ++ es) d

-- ONE STEP BEHIND ANOTHER adds the events of both, in that order.
abbrev pub StepsFollow : Devices → Type 0
StepsFollow d = (o : Origin) (done : List TraceSecond) (s : TraceSecond) (first second third : Stage)
    (log mid later : RunLog) (es more : List Event) →
    Adds o done s first log second mid es d → Adds o done s second mid third later more d
    → Adds o done s first log third later (es ++ more) d

-- ---- what is carried of it

-- WITHIN A SECOND that began so: every image of the unit shows these events more, behind those of the seconds before.
pub record EventedNow (o : Origin) (done : List TraceSecond) (s : TraceSecond) (p : Progress) (stage : Stage)
    (log : RunLog) (d : Devices) : Type 0 where
  pub tearing : Tearing
  pub sessions : ℕ → Visit → ℕ
  pub plain : IsPlainFrom p.next tearing
  pub torn : AreTorn tearing (seen_of p.log done)
  pub gaps : HasGaps p.log p.unfound p.supply done
  pub open_before : AreOpenSo o (went p.log done).told done d sessions
  pub exact_before : AreExact o p.log done sessions
  pub more : List Event
  pub noted : (c : List ℕ) → d.unit.may_leave c
      → (x : List ℕ) × ShowsSince (number_in o) p.log o.recording.unit
      (λ kind. events_of kind (limit_in o) sessions tearing p.log done) x × ShowsThese o more x c
  pub so_far : SoFar o done s stage log more d

-- the run goes on with a second that has power
pub record BeginsNow (o : Origin) (done : List TraceSecond) (p : Progress) (span : List ToldSecond)
    (s : TraceSecond) : Type 0 where
  pub followed : BookFollowsRun (rule_of o) (start_at o) o.from (first_of o) done p
  pub lit : p.supply ≡ Lit span
  pub number : s.number ≡ p.next
  pub given : s.has_power ≡ true

-- A SECOND BEGINS: nothing is told of it yet.
abbrev pub ASecondBegins : Devices → Type 0
ASecondBegins d = (o : Origin) (done : List TraceSecond) (p : Progress) (span : List ToldSecond) (s : TraceSecond)
    → BeginsNow o done p span s → EventedBy o done p d → EventedNow o done s p (stage_of (begins_with span)) p.log d

-- A CALL NOTES WHAT ITS LINES ADD.
abbrev pub ACallNotes : (d e : Devices) → Type 0
ACallNotes d e = (o : Origin) (done : List TraceSecond) (s : TraceSecond) (p : Progress) (stage next : Stage)
    (log later : RunLog) (es : List Event) → EventedNow o done s p stage log d →
    Adds o done s stage log next later es e → NotesThese o es d e → HaveLeftMore o d e
    → EventedNow o done s p next later e

-- THE SECOND ENDS.
abbrev pub ASecondEnds : Devices → Type 0
ASecondEnds d = (o : Origin) (done : List TraceSecond) (p : Progress) (span : List ToldSecond) (s : TraceSecond)
    → BeginsNow o done p span s → (log : RunLog) (mid now : Device → ℕ)
    → Moment p (went p.log done).before s Keeping log [] mid now →
    EventedNow o done s p Ended log d
    → Evented o (done ++ s ∷ []) log p.unfound (suc p.next) (Lit (span ++ next_told log done s ∷ [])) d

-- of none of these events it is sure that it was noted: what a failed call has left of them
abbrev pub NotesUnsure : Origin → List Event → (d e : Devices) → Type 0
NotesUnsure o es d e = NotesMore o none_sure (by_kind es) d e

-- OR THE UNIT FAILS in a call, behind lines that add these events: the cut that is told ends the second.
abbrev pub AFailureCuts : (d e : Devices) → Type 0
AFailureCuts d e = (o : Origin) (done : List TraceSecond) (p : Progress) (span : List ToldSecond) (s : TraceSecond)
    → BeginsNow o done p span s → (stage next : Stage) (log later : RunLog) (es : List Event)
    → EventedNow o done s p stage log d →
    Adds o done s stage log next later es e → NotesUnsure o es d e → HaveLeftMore o d e
    → (at : Phase) (waits : List Visit) (mid now after : Device → ℕ)
    → Moment p (went p.log done).before s at later waits mid now → IsMore now after
    → RoseBy 1 (mid Recorder) (after Recorder) →
    (rest : List Action) → IsLeft s at rest → (next ≡ Ended → at ≡ Keeping)
    → Evented o (done ++ s ∷ []) (and_break later (cut_at s.number true (begun_by s at))) p.unfound (suc p.next)
    Lost e

-- ---- what each line adds

-- the accepted cards at a moment
abbrev pub crew_at : Progress → List TraceSecond → TraceSecond → Phase → RunLog → Crew
crew_at p done s at log = crew_of (course_at log (went p.log done).before s at).slots

-- the fault of the card of a slot, with the cards that are left
abbrev pub fault_with : (second : ℕ) → Slot → Crew → Event
fault_with u slot crew = noted_with CARD_FAULT u u (with_card slot None crew)

-- what a judged card brings beside these, with itself where it is accepted
abbrev pub judged_with : (session second speed : ℕ) → Slot → Card → Crew → Verdict → List Event
judged_with session u speed slot card crew (NotValid fid place) = noted_with CARD_NOT_VALID u u
    (with_card slot None crew) ∷ []
judged_with session u speed slot card crew (TimeOverlap stored now) = noted_with TIME_OVERLAP u stored
    (with_card slot None crew) ∷ []
judged_with session u speed slot card crew (Accepted replayed) =
    (if nat_lt 0 speed then noted_with INSERTION_WHILE_DRIVING u u (with_card slot (Some card) crew) ∷ [] else [])
    ++ (if nat_lt 0 session then noted_with SESSION_NOT_CLOSED session u (with_card slot (Some card) crew) ∷ [] else [])

-- the interruption behind these power spans, if there is one
abbrev pub interruption : RunLog → List (List Seen) → (second : ℕ) → Crew → List Event
interruption log [] u crew = []
interruption log (span ∷ spans) u crew =
    option_to_list (option_map {T = Span} {U = Event} (λ gap. noted_with POWER_INTERRUPTION gap.begin gap.end crew)
    (gap_of (kept_after log (last_number (last_of (span ∷ spans)))) u))

-- the card of a slot may be torn out behind that of the other one
abbrev pub MayFollow : Phase → Slot → RunLog → TraceSecond → Type 0
MayFollow (In zero) slot log s = ⊥
MayFollow (In (suc n)) slot log s = is_torn_in log s.number (In (suc n)) (other_slot slot) ≡ true
    → puts_into (other_slot slot) (slice_get s.actions n) ≡ false
MayFollow Keeping Driver log s = is_torn_in log s.number Keeping CoDriver ≡ false
MayFollow Keeping CoDriver log s = Unit {0}

-- A CARD IS TORN OUT in an action or in the keeping.
abbrev pub ATearAdds : Devices → Type 0
ATearAdds d = (o : Origin) (done : List TraceSecond) (p : Progress) (span : List ToldSecond) (s : TraceSecond)
    → BeginsNow o done p span s → (at : Phase) (log : RunLog) → Reaches p s at log →
    (slot : Slot) (card : Card) (b : Break) → IsTearAt s at slot true b → is_torn_in log s.number at slot ≡ false →
    IsOneOut at slot card ((moved_at log (went p.log done).before s at).leaving slot
    ++ visits at slot (course_at log (went p.log done).before s at).slots) →
    NotFound at (other_slot slot) log s.number → MayFollow at slot log s →
    Adds o done s Acting log Acting (and_break log b) (fault_with s.number slot (crew_at p done s at log) ∷ []) d

-- the stage of an action, or of a power-on
abbrev pub stage_in : ℕ → Stage
stage_in zero = Waking
stage_in (suc n) = Acting

-- no card is accepted as power begins
pub record AreBare (slots : Slots) : Type 0 where
  pub driver : is_accepted slots.driver ≡ false
  pub codriver : is_accepted slots.codriver ≡ false

-- a card that is accepted in a second behind these was found with this session open: an image of it told that
abbrev pub IsOpenWith : Origin → (told : List ToldSecond) → List TraceSecond → TraceSecond → Card → Verdict
    → (session : ℕ) → Devices → Type 0
IsOpenWith o told done s card verdict session d = is_accepting verdict ≡ true
    → IsOpenSo o told (done ++ s ∷ []) d card s.number session

-- at a power-on it comes before all of the co-driver slot's card
abbrev pub ComesInTurn : Slot → RunLog → (second : ℕ) → Type 0
ComesInTurn Driver log u = (is_torn_in log u (In 0) CoDriver ≡ false) × (found_in log u (In 0) CoDriver ≡ [])
ComesInTurn CoDriver log u = Unit {0}

-- A CARD IS JUDGED, in an action or at a power-on.
abbrev pub AFindAdds : Devices → Type 0
AFindAdds d = (o : Origin) (done : List TraceSecond) (p : Progress) (span : List ToldSecond) (s : TraceSecond)
    → BeginsNow o done p span s → (n : ℕ) (log : RunLog) → Reaches p s (In n) log →
    (f : Find) → IsFindAt s (In n) f
    → (n ≡ 0 → AreBare (went p.log done).before.slots × ComesInTurn f.slot log s.number) →
    (x : Sitting) → in_slot (course_at log (went p.log done).before s (In n)).slots f.slot ≡ Some x
    → found_in log s.number (In n) f.slot ≡ []
    → (moved_at log (went p.log done).before s (In n)).enters f.slot ≡ true →
    (session : ℕ) → IsOpenWith o (went p.log done).told done s x.card f.verdict session d
    → FindsMore o p.log done s log (and_find log f) x.card (if is_accepting f.verdict then session ∷ [] else []) →
    Adds o done s (stage_in n) log (stage_in n) (and_find log f)
    (judged_with session s.number s.speed f.slot x.card (crew_at p done s (In n) log) f.verdict) d

-- A CARD IS TORN OUT AS IT IS JUDGED at a power-on: at rest before it is accepted.
abbrev pub AWakingTearAdds : Devices → Type 0
AWakingTearAdds d = (o : Origin) (done : List TraceSecond) (p : Progress) (s : TraceSecond) → BeginsNow o done p [] s
    → (log : RunLog) → Reaches p s (In 0) log → AreBare (went p.log done).before.slots →
    (slot : Slot) (x : Sitting) (b : Break) → IsTearAt s (In 0) slot true b
    → in_slot (course_at log (went p.log done).before s (In 0)).slots slot ≡ Some x → ComesInTurn slot log s.number
    → (s.speed ≡ 0 → x.accepted ≡ None) →
    Adds o done s Waking log Waking (and_break log b) (fault_with s.number slot (crew_at p done s (In 0) log) ∷ []) d

-- the card of a slot, which is accepted, falls as the interruption is noted on it: its line, and its fault
abbrev pub FallsAt : (fell : Bool) → List TraceSecond → Progress → TraceSecond → Slot → (log later : RunLog)
    → List Event → Type 0
FallsAt false done p s slot log later es = (later ≡ log) × (es ≡ [])
FallsAt true done p s slot log later es = (b : Break) × IsTearAt s (In 0) slot true b
    × (is_some (accepted_card (in_slot (course_at log (went p.log done).before s (In 0)).slots slot)) ≡ true)
    × (later ≡ and_break log b) × (es ≡ fault_with s.number slot (crew_at p done s (In 0) log) ∷ [])

-- THE POWER-ON IS DONE: the interruption before it, if there was one, is noted, and then on the cards.
abbrev pub AnInterruptionAdds : Devices → Type 0
AnInterruptionAdds d = (o : Origin) (done : List TraceSecond) (p : Progress) (s : TraceSecond) → BeginsNow o done p [] s
    → (log mid later : RunLog) → Reaches p s (In 0) log → AreBare (went p.log done).before.slots →
    (driver codriver : Bool) (es more : List Event) → FallsAt driver done p s Driver log mid es
    → FallsAt codriver done p s CoDriver mid later more →
    Adds o done s Waking log Acting later (interruption log (seen_spans (seen_of p.log done)) s.number
    (crew_at p done s (In 0) log) ++ (es ++ more)) d

-- AN ACTION IS REFUSED, or a card is pulled out: that adds nothing. No line is told of a selection, an insertion or a
-- withdrawal by itself.
abbrev pub ARefusalAddsNothing : Devices → Type 0
ARefusalAddsNothing d = (o : Origin) (done : List TraceSecond) (p : Progress) (span : List ToldSecond) (s : TraceSecond)
    → BeginsNow o done p span s → (at : Phase) (log : RunLog) → Reaches p s at log → (r : Refused) →
    Adds o done s Acting log Acting (and_refused log r) [] d

-- a card is pulled out of a slot in an action: nobody is left in it
abbrev pub APullAddsNothing : Devices → Type 0
APullAddsNothing d = (o : Origin) (done : List TraceSecond) (p : Progress) (span : List ToldSecond) (s : TraceSecond)
    → BeginsNow o done p span s → (n : ℕ) (log : RunLog) → Reaches p s (In (suc n)) log →
    (slot : Slot) (b : Break) → IsTearAt s (In (suc n)) slot false b
    → is_torn_in log s.number (In (suc n)) slot ≡ false →
    (moved_at log (went p.log done).before s (In (suc n))).leaving slot
    ++ visits (In (suc n)) slot (course_at log (went p.log done).before s (In (suc n))).slots ≡ []
    → NotFound (In (suc n)) (other_slot slot) log s.number →
    Adds o done s Acting log Acting (and_break log b) [] d

-- WHAT HAS ENDED with the second before is noted behind all else.
abbrev pub WhatEndsIsAdded : Devices → Type 0
WhatEndsIsAdded d = (o : Origin) (done : List TraceSecond) (p : Progress) (span : List ToldSecond) (s : TraceSecond)
    → BeginsNow o done p span s → (at : Phase) (log : RunLog) → Reaches p s at log →
    let x : Seen = seen_next log done s in
    let front : List Seen = span_before (seen_spans (seen_of p.log done)) x in
    Adds o done s Acting log Ended log (bares_by front (x ∷ []) ++ overs_by (limit_in o) front (x ∷ [])) d
