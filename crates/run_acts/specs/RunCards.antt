-- WHAT THE CARDS SHOW of their events, as a run with cards carries it (profile): between two seconds, and within one;
-- and what calls make of that.
use Rattle.std.specs.Prelude.{◌≡◌, ◌+◌, ◌-◌, ◌<◌, ◌++◌, ℕ, suc, Bool, true, false, not, None, List, [], ◌∷◌, length}
use Rattle.activity_codec.specs.declared.values.Slot.{Slot}
use Rattle.trace_model.specs.declared.Card.{Card}
use Rattle.trace_model.specs.declared.Action.{Action}
use Rattle.trace_model.specs.declared.Action.TheVariants.{Withdraw, Place}
use Rattle.trace_model.specs.Trace.{TraceSecond, driven}
use Rattle.card_files.specs.card_layout.declared.files.Application.{Application}
use Rattle.hand_model.specs.card_image.Own.{own_sizes, IsOwnValid}
use Rattle.card_files.specs.declared.current_use.CurrentUse.{CurrentUse}
use Rattle.unit_notes.specs.event_model.Events.{Event, Seen, seen_of, seen_spans}
use Rattle.unit_model.specs.minute_model.declared.Minute.{Minute}
use Rattle.log_model.specs.Log.{RunLog, In}
use Rattle.log_model.specs.Slots.{refusal}
use Rattle.log_model.specs.Course.{ToldSecond, Before, Course, Visit, went}
use Rattle.unit_notes.specs.note_model.Odometer.{SpanFrom}
use Rattle.run_events.specs.run_rings.Spans.{with_second}
use Rattle.run_crew.specs.card_slots.Calls.{logged}
use Rattle.device_calls.specs.safety_model.Recording.{card_image}
use Rattle.device_calls.specs.safety_model.Safe.{Devices, card_of}
use Rattle.run_events.specs.Seconds.{gap_by}
use Rattle.run_note_record.specs.Evented.{images_in}
pub use Rattle.run_note_record.specs.Uses.{vehicle_of, vehicle_in}
use Rattle.run_note_record.specs.Uses.{notes_in, notes_now, uses_in}
use Rattle.run_events.specs.run_rings.Notes.{course_behind}
use Rattle.run_minutes.specs.run_promise.Origin.{Origin}
use Rattle.run_note_record.specs.OnCards.{CardsStay}
use Rattle.log_model.specs.declared.lines.Break.{Break}
use Rattle.run_outcome.specs.Lines.{Listed}
use Rattle.run_outcome.specs.declared.outcome.Outcome.{Outcome}
use Rattle.run_minutes.specs.declared.keeper.Moment.{Moment}
use Rattle.run_minutes.specs.Books.{HaveTime}
use Rattle.run_acts.specs.declared.run.Run.{Run}
use Rattle.run_acts.specs.Power.{is_lit}
use Rattle.run_acts.specs.Recording.{log_of, RunWithin, RunCut, IsNow}
use Rattle.run_acts.specs.RunRinged.{with_cut, AreSpansNow}
use Rattle.run_acts.specs.Settling.{settled_run}
use Rattle.run_acts.specs.OnCards.{MetSecond, as_accepted, met_seconds, met_accepted, ShowsOn, StillShows, AreUses}
use Rattle.run_acts.specs.Stays.{Whose, covers, AreKnown}

-- the sizes of a card, by its image at the start
abbrev pub sizes_in : Origin → Card → Application
sizes_in o c = own_sizes (card_image o.recording c)

-- A CARD SHOWS the events of these seconds: at each of its acceptances a use was found on it, which an image of it
-- told, and this one where its stays are known; each image that it may leave shows what the seconds brought, on the
-- events of its image at the start.
pub record CardShown (o : Origin) (c : Card) (log : RunLog) (seconds : List MetSecond) (found : List CurrentUse)
    (d : Devices) : Type 0 where
  pub uses : List CurrentUse
  pub are : AreUses (images_in o d c) uses (met_accepted c seconds)
  pub exact : (whose : Whose) → covers whose c ≡ true → AreKnown whose o log d → uses ≡ found
  pub shows : ShowsOn c (vehicle_in o) (images_in o d c) uses (card_image o.recording c) log seconds (card_of d c)

-- so does each that was valid
abbrev pub CardsShown : Origin → RunLog → List MetSecond → (found : Card → List CurrentUse) → Devices → Type 0
CardsShown o log seconds found d = (c : Card) → IsOwnValid (card_image o.recording c)
    → CardShown o c log seconds (found c) d

-- BETWEEN TWO SECONDS, behind these
abbrev pub CardsBehind : Origin → List TraceSecond → RunLog → Devices → Type 0
CardsBehind o done log d = CardsShown o log (met_seconds log done) (λ c. uses_in o c (notes_in log done)) d

-- a second with power as it has gone so far, as far as the events of cards see it
abbrev pub so_far : Before → TraceSecond → Course → Seen
so_far before s c = record {
  told = record {
    second = record { number = s.number; speed = s.speed; picks = c.picks };
    given = true;
    lit = true;
    starts = not before.running;
    cut = false;
    course = c;
  };
  after = λ n. c.slots;
  within = λ n. c.slots;
  itself = c.slots;
}

-- behind these of its actions, where the log was `began` as it began
abbrev pub seen_behind : (began : RunLog) → List TraceSecond → TraceSecond → (front : List Action) → (log : RunLog)
    → Seen
seen_behind began done s front log = so_far (went began done).before s
    (course_behind log (went began done).before s front)

-- the interruption before it, if power begins with it
abbrev pub gap_behind : (began : RunLog) → List TraceSecond → TraceSecond → (front : List Action) → (log : RunLog)
    → List Event
gap_behind began done s front log = gap_by as_accepted began (seen_spans (seen_of began done))
    (seen_behind began done s front log)

-- so it is met, with this interruption before it
abbrev pub met_so : (began : RunLog) → List TraceSecond → TraceSecond → (front : List Action) → (log : RunLog)
    → (gap : List Event) → MetSecond
met_so began done s front log gap = record { seen = seen_behind began done s front log; gap = gap }

-- WITHIN A SECOND: the interruption before it is noted
abbrev pub CardsIn : Origin → List TraceSecond → TraceSecond → (began : RunLog) → (front : List Action) → (log : RunLog)
    → Devices → Type 0
CardsIn o done s began front log d =
    CardsShown o log
    (met_seconds began done ++ met_so began done s front log (gap_behind began done s front log) ∷ [])
    (λ c. uses_in o c (notes_now began done log s)) d

-- or it is not noted yet, as its cards are judged at a power-on
abbrev pub CardsWaking : Origin → List TraceSecond → TraceSecond → (began : RunLog) → (log : RunLog) → Devices → Type 0
CardsWaking o done s began log d = CardsShown o log (met_seconds began done ++ met_so began done s [] log [] ∷ [])
    (λ c. uses_in o c (notes_now began done log s)) d

-- calls leave the events of each card that was valid
abbrev pub StillShow : Origin → (d e : Devices) → Type 0
StillShow o d e = (c : Card) → IsOwnValid (card_image o.recording c)
    → StillShows (sizes_in o c) (card_of d c) (card_of e c)

-- ---- what calls say of it

-- THE MINUTES THAT A SETTLING DECIDES were to be kept in an action: the cards show their events still.
abbrev pub CardsSettling : (decided : List Minute) → Moment → (old new : Run) → (before : Outcome) → (d e : Devices)
    → Type 0
CardsSettling decided at old new before d e = (o : Origin) (done : List TraceSecond) (s : TraceSecond) (n : ℕ)
    (waits : List Visit) → at ≡ record { second = s.number; begun = suc n; late = false } →
    (w : RunWithin o done s (In (suc n)) waits decided (settled_run new.minutes old) before d) → HaveTime e
    → StillShow o d e

-- and it leaves their places, and measures their vehicle entries with readings of the power spans of now
abbrev pub PlacesSettling : (decided : List Minute) → Moment → (old new : Run) → (before : Outcome) → (d e : Devices)
    → Type 0
PlacesSettling decided at old new before d e = (o : Origin) (done : List TraceSecond) (s : TraceSecond) (n : ℕ)
    (waits : List Visit) → at ≡ record { second = s.number; begun = suc n; late = false } →
    (w : RunWithin o done s (In (suc n)) waits decided (settled_run new.minutes old) before d) → HaveTime e
    → (spans : List SpanFrom) (t : ToldSecond)
    → AreSpansNow done s w.within.b.run.log spans old.keeper.odometer t
    → CardsStay o (with_second spans old.keeper.odometer t) d e

-- BEHIND A CALL in a second they go on so far; or the unit has failed in the last of these actions, as the cut says
-- that is told next.
abbrev pub CardsGoOn : (failed : Bool) → Origin → List TraceSecond → TraceSecond → (began : RunLog)
    → (front : List Action) → RunLog → Devices → Type 0
CardsGoOn false o done s began front log d = CardsIn o done s began front log d
CardsGoOn true o done s began front log d = CardsIn o done s began front (with_cut log s front) d

-- AN ACTION of a second is carried out, which slots and speed do not refuse.
abbrev pub CardsAction : Action → (begun speed : ℕ) → (failed : Bool) → (old : Run) → (before after : Outcome)
    → (d e : Devices) → Type 0
CardsAction action begun speed failed old before after d e = (o : Origin) (done : List TraceSecond) (s : TraceSecond)
    → IsNow s speed old → (front rest : List Action) → s.actions ≡ front ++ action ∷ rest → begun ≡ suc (length front) →
    refusal (logged old.keeper.cabin.slots.seats) speed action ≡ None → old.keeper.memory.registration ≡ vehicle_in o
    → (w : RunWithin o done s (In (length front)) [] [] old before d)
    → CardsIn o done s w.within.b.run.log front (log_of before) d → HaveTime e →
    CardsGoOn failed o done s w.within.b.run.log (front ++ action ∷ []) (log_of after) e

-- A CARD IS WITHDRAWN
abbrev pub CardsWithdrawal : Slot → Moment → (failed : Bool) → (old : Run) → (before after : Outcome) → (d e : Devices)
    → Type 0
CardsWithdrawal slot at failed old before after d e = at.late ≡ false → (speed : ℕ)
    → CardsAction (Withdraw slot) at.begun speed failed old before after d e

-- A PLACE IS NOTED
abbrev pub CardsPlace : Slot → Moment → (failed : Bool) → (old : Run) → (breaks after : Listed Break) → (d e : Devices)
    → Type 0
CardsPlace slot at failed old breaks after d e = at.late ≡ false
    → (ending : Bool) (country region speed : ℕ) (before : Outcome) → before.breaks ≡ breaks →
    CardsAction (Place slot ending country region) at.begun speed failed old before (record before { breaks = after }) d
    e

-- BEHIND ALL ACTIONS of a second the cards show the events of it and of all before; or power was cut in it, and it is
-- over.
abbrev pub CardsAtBy : (lit : Bool) → Origin → List TraceSecond → TraceSecond → (n : ℕ) → Run → Outcome → Devices
    → Type 0
CardsAtBy true o done s n run out d = (w : RunWithin o done s (In n) [] [] run out d)
    × CardsIn o done s w.within.b.run.log s.actions (log_of out) d
CardsAtBy false o done s n run out d = RunCut o done s run out d × CardsBehind o (done ++ s ∷ []) (log_of out) d

-- N SECONDS of one minute: behind them the cards show the events of all.
abbrev pub CardsTurn : (n speed begun : ℕ) → (old new : Run) → (before after : Outcome) → (d e : Devices) → Type 0
CardsTurn n speed begun old new before after d e = (o : Origin) (done : List TraceSecond) (s : TraceSecond)
    → IsNow s speed old → length s.actions ≡ begun → (1 < n → s.actions ≡ []) →
    CardsAtBy (is_lit old.power) o done s begun old before d → HaveTime e
    → CardsBehind o (done ++ s ∷ driven (n - 1) (s.number + 1) speed []) (log_of after) e
