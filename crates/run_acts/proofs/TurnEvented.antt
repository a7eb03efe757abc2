-- The minutes that seconds of one minute decide are kept behind them, and what has ended is noted: the events behind them.
use Rattle.std.proofs.Common.{◌≡◌, ◌∙◌, ⊎_elim, ℕ, suc, ◌+◌, ◌-◌, ◌/◌, ◌^◌, ◌≤◌, ◌<◌, Bool, true, false, Some, List, [], ◌∷◌, ◌++◌, length, refl, ap, sym, subst, arith}
use Rattle.trace_model.specs.Trace.{TraceSecond}
use Rattle.log_model.specs.run_model.declared.Device.{Device}
use Rattle.log_model.specs.run_model.declared.Device.TheVariants.{Unit as Recorder}
use Rattle.tach_media.specs.Medium.{IsCoherent}
use Rattle.unit_model.specs.minute_model.declared.Minute.{Minute}
use Rattle.minute_rules.specs.Kept.{Kept}
use Rattle.log_model.specs.declared.lines.Break.{Break}
use Rattle.log_model.specs.declared.lines.Mark.{Mark}
use Rattle.log_model.specs.Log.{RunLog, Keeping}
use Rattle.log_model.specs.Causes.{RoseBy}
use Rattle.log_model.specs.Course.{ToldSecond as Second, went}
use Rattle.run_minutes.specs.unit_memory.declared.memory.UnitFacts.{UnitFacts}
use Rattle.unit_model.specs.Image.{IsUnit, odometer_at}
use Rattle.device_calls.specs.unit_rule.Odometer.{odometer_after}
use Rattle.device_calls.specs.run_unit_course.Followed.{Lit as IsLit, Lost as IsLost}
use Rattle.unit_notes.specs.event_model.Events.{Event, Seen, seen_of, seen_spans}
use Rattle.run_events.specs.Turned.{AreEnded, AreLow}
use Rattle.device_calls.specs.safety_model.Safe.{Devices, breakdowns_of}
use Rattle.unit_notes.specs.declared.unit_event.UnitEvent.{UnitEvent}
use Rattle.run_crew.specs.Cabin.{AreTwo, crew_of}
use Rattle.run_events.specs.run_course.Moments.{and_break}
use Rattle.run_events.specs.run_course.Seconds.{next_told}
use Rattle.run_events.specs.run_course.Moment.{Moment as SecondMoment, goes_on}
use Rattle.run_events.specs.run_course.Reached.{Reaches}
use Rattle.run_events.specs.declared.watch.Watch.{Watch}
use Rattle.run_events.specs.declared.watch.Ended.{Ended as WatchEnded}
use Rattle.run_events.specs.Noting.{IsFed}
use Rattle.run_outcome.specs.declared.outcome.Outcome.{Outcome}
use Rattle.run_outcome.specs.Lines.{Listed, cut_at}
use Rattle.run_minutes.specs.run_promise.Origin.{Origin}
use Rattle.run_events.specs.Seconds.{bares_by, overs_by, span_before, seen_next}
use Rattle.run_note_record.specs.Evented.{limit_in, number_in, Evented}
use Rattle.run_note_record.specs.Noting.{Acting, Ended}
use Rattle.run_note_record.specs.EventsSoFar.{EventedNow, Adds, BeginsNow}
use Rattle.run_note_record.proofs.Adding.{call-notes, steps-follow, second-ends_now}
use Rattle.run_note_record.proofs.Ending.{ends-added}
use Rattle.run_minutes.specs.declared.keeper.Keeper.{Keeper}
use Rattle.run_minutes.specs.declared.keeper.Moment.{Moment}
use Rattle.run_minutes.specs.Books.{HaveTime}
use Rattle.run_minutes.specs.Minutes.{KeepingState, Reach, Whole, Short, present_at}
use Rattle.run_minutes.specs.Faults.{faults_to, NotesFaults}
use Rattle.run_record.specs.Recorded.{Values}
use Rattle.run_record.specs.Within.{RecordInSecond}
use Rattle.run_acts.specs.declared.run.Run.{Run}
use Rattle.run_acts.specs.declared.run.Power.{Power}
use Rattle.run_acts.specs.declared.run.Power.TheVariants.{Lit}
use Rattle.run_acts.specs.Power.{cut_run, passed}
use Rattle.run_acts.specs.Booked.{IsTurnReach, BooksTurn}
use Rattle.run_acts.specs.Devices.{DevicesGoOn}
use Rattle.run_acts.specs.Faults.{NotesKeeping, NotesEnded}
use Rattle.run_acts.specs.Named.{NamesValid, named_as, watched_as}
use Rattle.run_acts.specs.NotedEvents.{AreTold, NotesSo}
use Rattle.run_acts.specs.Recording.{log_of, values_of, Supplies, IsOrigin}
use Rattle.run_acts.specs.Rounds.{Point, moment_of, keeping_of}
use Rattle.run_acts.specs.RoundLaws.{KeepsSo, HaveBrokenOff}
use Rattle.run_acts.specs.Turning.{late_moment, told_of, cut_where, cut_breaks}
use Rattle.run_acts.specs.Evented.{IsWatching, span_of, TurnedEvents}
use Rattle.run_acts.proofs.EventCrews.{AllSitWell}
use Rattle.run_acts.proofs.KeptEvents.{faults-are, turn-noted, turn-cut}
use Rattle.run_acts.proofs.Named.{both-valid, are-numbered}
use Rattle.run_acts.proofs.Numbers.{all-long, so-as, told-named}
use Rattle.run_acts.proofs.RoundFaults.{AddsFaults, IsUntoldAt, HasCome, keeping-adds, keeping-moment, keeping-cuts, keeping-notes}
use Rattle.run_acts.proofs.TurnRecorded.{pushed, keeps, off, rose, at-is}

pub turn-come : (all : List Minute) (at : Moment) (failed : Bool) (t u : KeepingState) (reach : Reach) → IsTurnReach all at failed t u reach → HasCome all at t u reach
turn-come all at failed t u (Whole xs) is = is
turn-come all at false t u (Short xs m round) is = absurd is
turn-come all at true t u (Short xs m round) is = is

-- IN THE KEEPING of the last second, where what ends with it is what these new seconds end behind those of a span
module _ (old : Run) (before : Outcome) (minutes : Kept) (keeper : Keeper) (watch : Watch) (marks : Listed Mark) (breaks : Listed Break) (n begun speed : ℕ) (failed : Bool) (decided : List Minute) (reach : Reach) (d e : Devices)
    (is : IsTurnReach decided (late_moment old.next n begun) failed (told_of (record old { minutes = minutes }) before) (told_of (record old { minutes = minutes; keeper = keeper; watch = watch }) (record before { marks = marks; breaks = breaks })) reach)
    (books : BooksTurn decided failed reach (told_of (record old { minutes = minutes }) before) (told_of (record old { minutes = minutes; keeper = keeper; watch = watch }) (record before { marks = marks; breaks = breaks })) d e)
    (devices : DevicesGoOn failed old.keeper.cabin.cards keeper.cabin.cards d e) (odometer : keeper.odometer ≡ old.keeper.odometer) (two : (m : ℕ) → AreTwo (present_at old.keeper.cabin m).driver (present_at old.keeper.cabin m).codriver)
    (lit : old.power ≡ Lit) (some : 0 < n) (time : HaveTime e)
    (o : Origin) (origin : IsOrigin o) (done : List TraceSecond) (s : TraceSecond) (next gone : ℕ) (w : RecordInSecond o done s Keeping [] (Some s.speed) decided (record (values_of old before) { minutes = minutes; next = next; begun = gone }) d)
    (number : s.number ≡ old.next + n - 1) (next_is : next ≡ old.next + n - 1) (actions : length s.actions ≡ begun) (stored : old.keeper.odometer ≡ odometer_after (odometer_at o.recording.unit) w.b.travel.before)
    (few : s.number / 60 ≤ w.from + 4) (low_end : w.from + length decided ≤ s.number / 60)
    (small : s.number < 2 ^ 32) (well : AllSitWell old.keeper.cabin) (untold : IsUntoldAt s Keeping (log_of before) old.keeper.cabin decided) (whole : IsCoherent d.unit) (unit : IsUnit d.unit)
    (noted : NotesKeeping decided n speed (late_moment old.next n begun) failed (record old { minutes = minutes }) (record old { minutes = minutes; keeper = keeper; watch = watch }) before (record before { marks = marks; breaks = breaks }) d.unit e.unit)
    (limit : old.keeper.memory.limit ≡ limit_in o) (memory : keeper.memory ≡ old.keeper.memory) (evented : EventedNow o done s w.b.run Acting (log_of before) d) where
  abbrev fed : Run
  fed = record old { minutes = minutes }

  abbrev between : Run
  between = record old { minutes = minutes; keeper = keeper; watch = watch }

  abbrev told : Outcome
  told = record before { marks = marks; breaks = breaks }

  abbrev q : Point
  q = keeping_of s

  abbrev v : Values
  v = record (values_of old before) { minutes = minutes; next = next; begun = gone }

  abbrev t : KeepingState
  t = told_of fed before

  abbrev u : KeepingState
  u = told_of between told

  abbrev later : RunLog
  later = log_of told

  keeps_ : KeepsSo o done s q decided t v d e w
  keeps_ = keeps old before minutes keeper watch marks breaks n begun failed decided reach d e is books devices odometer two lit some time o origin done s next gone w number next_is actions stored few low_end

  off_ : HaveBrokenOff t u d e
  off_ = off old before minutes keeper watch marks breaks n begun failed decided reach d e is books devices odometer two lit some time o origin done s next gone w number next_is actions stored few low_end

  rose_ : failed ≡ true → RoseBy 1 (breakdowns_of d Recorder) (breakdowns_of e Recorder)
  rose_ = rose old before minutes keeper watch marks breaks n begun failed decided reach d e is books devices odometer two lit some time o origin done s next gone w number next_is actions stored few low_end

  here : late_moment old.next n begun ≡ moment_of s q
  here = at-is old before minutes keeper watch marks breaks n begun failed decided reach d e is books devices odometer two lit some time o origin done s next gone w number next_is actions stored few low_end

  come : (r : Reach) → IsTurnReach decided (late_moment old.next n begun) failed t u r → HasCome decided (moment_of s q) t u r
  come r h = turn-come decided (moment_of s q) failed t u r (subst (λ (m : Moment). IsTurnReach decided m failed t u r) here h)

  abbrev vs : Reach → List UnitEvent
  vs r = faults_to old.keeper (moment_of s q) r t

  a : (r : Reach) → HasCome decided (moment_of s q) t u r → AddsFaults o done s (log_of before) later (vs r) e
  a r h = keeping-adds d e o origin done s q decided t u v w keeps_ small well untold off_ r h

  same-vs : (r : Reach) → faults_to old.keeper (late_moment old.next n begun) r t ≡ vs r
  same-vs r = ap (λ (m : Moment). faults_to old.keeper m r t) here

  begins : BeginsNow o done w.b.run w.b.span s
  begins = record { followed = w.began.followed; lit = w.lit; number = w.moment.number; given = w.moment.given }

  -- how far it has come
  pub come-now : HasCome decided (moment_of s q) t u reach
  come-now = come reach is

  pub moment-then : (now : Device → ℕ) × SecondMoment w.b.run (went w.b.run.log done).before s Keeping later [] w.b.broken now
  moment-then = let m = keeping-moment d e o origin done s q decided t u v w keeps_ small well untold off_ reach come-now in (m.now, m.moment)

  -- the second, as its events see it
  abbrev x : Seen
  x = seen_next later done s

  abbrev front : List Seen
  front = span_before (seen_spans (seen_of w.b.run.log done)) x

  module _ (span new : List Seen) (low : AreLow span) (lows : AreLow new) (valid : NamesValid o (bares_by span new ++ overs_by (limit_in o) span new))
      (ends : (ended : WatchEnded) → IsFed old.watch watch old.next n speed (crew_of old.keeper.cabin) ended → AreEnded (watched_as o) (limit_in o) span new ended)
      (watches : (ended : WatchEnded) → IsFed old.watch watch old.next n speed (crew_of old.keeper.cabin) ended → IsWatching o (span_of later (done ++ s ∷ [])) watch)
      (brings : bares_by span new ++ overs_by (limit_in o) span new ≡ bares_by front (x ∷ []) ++ overs_by (limit_in o) front (x ∷ [])) where
    abbrev brought : List Event
    brought = bares_by span new ++ overs_by (limit_in o) span new

    -- the faults, and what has ended
    adds : (r : Reach) (h : HasCome decided (moment_of s q) t u r) → Adds o done s Acting (log_of before) Ended later ((a r h).events ++ brought) e
    adds r h =
        let m = keeping-moment d e o origin done s q decided t u v w keeps_ small well untold off_ r h in
        let reached : Reaches w.b.run s Keeping later = record { goes = goes_on m.moment; up_to = m.moment.up_to; is = m.moment.is } in
        steps-follow e o done s Acting Acting Ended (log_of before) later later (a r h).events brought (a r h).adds
        (subst (λ (es : List Event). Adds o done s Acting later Ended later es e) (sym brings) (ends-added e o done w.b.run w.b.span s begins Keeping later reached))

    notes : (r : Reach) (h : HasCome decided (moment_of s q) t u r) (f : Bool) → NotesEnded n speed (late_moment old.next n begun) f r fed between before d.unit e.unit → NotesSo f o ((a r h).events ++ brought) d e
    notes r h f g =
        so-as o f ((a r h).events ++ brought) d e (both-valid o (a r h).events brought (a r h).valid valid) (by f g)
      where
        told_ : AreTold (number_in (named_as o)) (faults_to old.keeper (late_moment old.next n begun) r t) (a r h).events
        told_ = told-named o (faults_to old.keeper (late_moment old.next n begun) r t) (a r h).events (a r h).valid (subst (λ (ws : List UnitEvent). AreTold (number_in o) ws (a r h).events) (sym (same-vs r)) (a r h).told)

        by : (f : Bool) → NotesEnded n speed (late_moment old.next n begun) f r fed between before d.unit e.unit → NotesSo f (named_as o) ((a r h).events ++ brought) d e
        by false g = turn-noted (faults_to old.keeper (late_moment old.next n begun) r t) g.ended d.unit e.unit d.card_a d.card_b e.card_a e.card_b whole unit (faults-are old.keeper (late_moment old.next n begun) r t) (named_as o) (all-long o origin.long) (a r h).events told_
            (watched_as o) (are-numbered o origin) (limit_in o) span new (ends g.ended g.fed) low lows g.noted
        by true g = turn-cut (faults_to old.keeper (late_moment old.next n begun) r t) g.ended d.unit e.unit d.card_a d.card_b e.card_a e.card_b whole unit (faults-are old.keeper (late_moment old.next n begun) r t) (named_as o) (all-long o origin.long) (a r h).events told_
            (watched_as o) (are-numbered o origin) (limit_in o) span new (ends g.ended g.fed) low lows g.noted

    -- THE SECONDS ARE OVER, and all that they bring is noted
    over-now : (r : Reach) → HasCome decided (moment_of s q) t u r → NotesEnded n speed (late_moment old.next n begun) false r fed between before d.unit e.unit → TurnedEvents o (done ++ s ∷ []) (passed n begun between) told e
    over-now r h g =
        let m = keeping-moment d e o origin done s q decided t u v w keeps_ small well untold off_ r h in
        let p = pushed w.b.span (next_told later done s) in
        let now = call-notes d e o done s w.b.run Acting Ended (log_of before) later ((a r h).events ++ brought) evented (adds r h) (notes r h false g) keeps_.goes.left in
        let end : Evented o (done ++ s ∷ []) later w.b.run.unfound (suc w.b.run.next) (IsLit (w.b.span ++ next_told later done s ∷ [])) e = second-ends_now e o done w.b.run w.b.span s begins later w.b.broken m.now m.moment now in
        record {
          supply = IsLit (p.first ∷ p.rest);
          powers = subst (λ (pw : Power). Supplies pw (IsLit (p.first ∷ p.rest))) (sym lit) tt;
          evented = subst (λ (k : ℕ). Evented o (done ++ s ∷ []) later old.unfound k (IsLit (p.first ∷ p.rest)) e) (let at = w.next in omega (arith, next_is, some, at))
              (subst (λ (k : ℕ). Evented o (done ++ s ∷ []) later k (suc w.b.run.next) (IsLit (p.first ∷ p.rest)) e) (sym w.unfound)
              (subst (λ (ss : List Second). Evented o (done ++ s ∷ []) later w.b.run.unfound (suc w.b.run.next) (IsLit ss) e) p.is end));
          limit = ap (λ (m_ : UnitFacts). m_.limit) memory ∙ limit;
          watched = λ on. watches g.ended g.fed;
        }

    -- OR POWER IS CUT
    cut-now : Evented o (done ++ s ∷ []) (and_break later (cut_at s.number true (length s.actions))) w.b.run.unfound (suc w.b.run.next) IsLost e →
        TurnedEvents o (done ++ s ∷ []) (passed n begun (cut_run (old.next + n - 1) between)) (cut_breaks true (old.next + n - 1) begun told) e
    cut-now end = record {
      supply = IsLost;
      powers = tt;
      evented = subst (λ (k : ℕ). Evented o (done ++ s ∷ []) (and_break later (cut_at (old.next + n - 1) true begun)) old.unfound k IsLost e) (let at = w.next in omega (arith, next_is, some, at))
          (subst (λ (k : ℕ). Evented o (done ++ s ∷ []) (and_break later (cut_at (old.next + n - 1) true begun)) k (suc w.b.run.next) IsLost e) (sym w.unfound)
          (subst (λ (k : ℕ). Evented o (done ++ s ∷ []) (and_break later (cut_at (old.next + n - 1) true k)) w.b.run.unfound (suc w.b.run.next) IsLost e) actions
          (subst (λ (k : ℕ). Evented o (done ++ s ∷ []) (and_break later (cut_at k true (length s.actions))) w.b.run.unfound (suc w.b.run.next) IsLost e) number end)));
      limit = ap (λ (m_ : UnitFacts). m_.limit) memory ∙ limit;
      watched = λ on. absurd (cc);
    }

    by : (f : Bool) → failed ≡ f → NotesKeeping decided n speed (late_moment old.next n begun) f fed between before told d.unit e.unit → ((r : Reach) → IsTurnReach decided (late_moment old.next n begun) f t u r → HasCome decided (moment_of s q) t u r) →
        TurnedEvents o (done ++ s ∷ []) (passed n begun (cut_where f (old.next + n - 1) between)) (cut_breaks f (old.next + n - 1) begun told) e
    by false same h comes = ⊎_elim
        (λ off_. absurd (let bad : false ≡ true = off_.0 in cc))
        (λ g. over-now h.0 (comes h.0 h.1) g)
        h.2
    by true same h comes =
        let r = h.0 in
        let c = comes h.0 h.1 in
        cut-now (⊎_elim
        (λ g. keeping-cuts d e o origin done s q decided t u v w keeps_ small well untold off_ r c Acting (a r c).events (a r c).adds
        (keeping-notes (vs r) true d e whole unit (faults-are old.keeper (moment_of s q) r t) (subst (λ (ws : List UnitEvent). NotesFaults true ws d.unit e.unit) (same-vs r) g.2) o origin (a r c).events (a r c).told (a r c).valid)
        (rose_ same) (λ ends_. refl) evented)
        (λ g. keeping-cuts d e o origin done s q decided t u v w keeps_ small well untold off_ r c Ended ((a r c).events ++ brought) (adds r c) (notes r c true g) (rose_ same) (λ ends_. refl) evented)
        h.2)

    pub keeping-events : TurnedEvents o (done ++ s ∷ []) (passed n begun (cut_where failed (old.next + n - 1) between)) (cut_breaks failed (old.next + n - 1) begun told) e
    keeping-events = by failed refl noted come
