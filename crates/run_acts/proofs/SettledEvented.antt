-- The minutes that a settling decides are kept in an action: what is noted of the faults of their cards.
use Rattle.std.proofs.Common.{◌≡◌, ℕ, suc, ◌/◌, ◌^◌, ◌≤◌, ◌<◌, Bool, true, false, List, ◌++◌, Option, refl, subst, arith}
use Rattle.trace_model.specs.declared.Card.{Card}
use Rattle.trace_model.specs.Trace.{TraceSecond}
use Rattle.card_files.specs.card_layout.declared.command.CardState.{CardState}
use Rattle.tach_media.specs.Medium.{State, IsCoherent}
use Rattle.unit_model.specs.minute_model.declared.Minute.{Minute}
use Rattle.unit_model.specs.minute_model.Span.{decided_in, settled, ungiven_of}
use Rattle.minute_rules.specs.Kept.{Kept, CountsSpan}
use Rattle.log_model.specs.declared.lines.Break.{Break}
use Rattle.log_model.specs.declared.lines.Mark.{Mark}
use Rattle.log_model.specs.Log.{In}
use Rattle.log_model.specs.Course.{Visit}
use Rattle.log_model.specs.Causes.{RoseBy}
use Rattle.log_model.specs.run_model.declared.Device.TheVariants.{Unit as Recorder}
use Rattle.unit_model.specs.Image.{IsUnit}
use Rattle.device_calls.specs.safety_model.Safe.{Devices, breakdowns_of}
use Rattle.unit_notes.specs.declared.unit_event.UnitEvent.{UnitEvent}
use Rattle.run_outcome.specs.declared.outcome.Outcome.{Outcome}
use Rattle.run_outcome.specs.Lines.{Listed}
use Rattle.run_minutes.specs.run_promise.Origin.{Origin}
use Rattle.run_note_record.specs.Noting.{Acting}
use Rattle.run_note_record.specs.EventsSoFar.{EventedNow}
use Rattle.run_note_record.proofs.Adding.{call-notes}
use Rattle.run_minutes.specs.declared.keeper.Keeper.{Keeper}
use Rattle.run_minutes.specs.declared.keeper.Moment.{Moment}
use Rattle.run_minutes.specs.Books.{HaveTime}
use Rattle.run_minutes.specs.Decided.{BooksAll, readings_of}
use Rattle.run_minutes.specs.Minutes.{KeepingState, Reach, Whole, Short, IsReach}
use Rattle.run_minutes.specs.Faults.{faults_to, NotesFaults}
use Rattle.run_record.specs.Recorded.{Values}
use Rattle.run_acts.specs.declared.run.Run.{Run}
use Rattle.run_acts.specs.Acting.{told_of}
use Rattle.run_acts.specs.Going.{end_of_seconds, RunHasPower}
use Rattle.run_acts.specs.Devices.{DevicesGoOn}
use Rattle.run_acts.specs.Recording.{log_of, values_of, RunWithin}
use Rattle.run_acts.specs.Rounds.{Point, moment_of, settling_at}
use Rattle.run_acts.specs.RoundLaws.{KeepsSo, HaveBrokenOff, carried_at}
use Rattle.run_acts.specs.Settling.{settled_run}
use Rattle.run_acts.specs.NotedEvents.{NotesSo}
use Rattle.run_acts.specs.Evented.{IsUntold, EventsGoOn}
use Rattle.run_acts.proofs.KeptEvents.{faults-are}
use Rattle.run_acts.proofs.EventCrews.{all-well}
use Rattle.run_acts.proofs.GoesOn.{unit-rose}
use Rattle.run_acts.proofs.RoundFaults.{AddsFaults, HasCome, keeping-adds, keeping-cuts, keeping-notes}
use Rattle.run_acts.proofs.SettledRecorded.{keeps, number, booked}

has-come : (all : List Minute) (at : Moment) (failed : Bool) (t u : KeepingState) (reach : Reach) → IsReach all at failed t u reach → HasCome all at t u reach
has-come all at false t u (Whole xs) is = is
has-come all at false t u (Short xs m round) is = absurd is
has-come all at true t u (Whole xs) is = absurd is
has-come all at true t u (Short xs m round) is = is

-- A SETTLING
module _ {U A0 B0 : State} {chip_a chip_b : CardState} (old : Run) (before : Outcome) (minutes : Kept) (keeper : Keeper) (marks : Listed Mark) (breaks : Listed Break) (at : Moment) (failed : Bool) (decided : List Minute) (d e : Devices)
    (leaving : Option Card) (g : RunHasPower leaving (old.next / 60) old U chip_a chip_b A0 B0) (small : old.next ≤ end_of_seconds) (stands : CountsSpan minutes (settled g.span)) (given : decided_in (settled g.span) ≡ decided_in g.span ++ decided)
    (odometer : keeper.odometer ≡ old.keeper.odometer) (reach : Reach)
    (is : IsReach decided at failed (told_of old before) (told_of (record old { minutes = minutes; keeper = keeper }) (record before { marks = marks; breaks = breaks })) reach)
    (books : BooksAll decided failed reach (told_of old before) (told_of (record old { minutes = minutes; keeper = keeper }) (record before { marks = marks; breaks = breaks })) d e)
    (devices : DevicesGoOn failed old.keeper.cabin.cards keeper.cabin.cards d e)
    (whole : IsCoherent d.unit) (unit : IsUnit d.unit) (faults : NotesFaults failed (faults_to old.keeper at reach (told_of old before)) d.unit e.unit)
    (o : Origin) (done : List TraceSecond) (s : TraceSecond) (n : ℕ) (waits : List Visit) (here : at ≡ record { second = s.number; begun = suc n; late = false }) (r : RunWithin o done s (In (suc n)) waits decided (settled_run minutes old) before d)
    (time : HaveTime e) (untold : IsUntold s n (log_of before) old.keeper.cabin) (evented : EventedNow o done s r.within.b.run Acting (log_of before) d) where
  abbrev new : Run
  new = record old { minutes = minutes; keeper = keeper }

  abbrev after : Outcome
  after = record before { marks = marks; breaks = breaks }

  abbrev q : Point
  q = settling_at (suc n) waits

  abbrev v : Values
  v = values_of (settled_run minutes old) before

  keeps_ : KeepsSo o done s q decided (told_of old before) v d e r.within
  keeps_ = keeps old before minutes keeper marks breaks at failed decided d e leaving g small stands given odometer reach is books devices o done s (suc n) waits (omega arith) here r time

  low : s.number < 2 ^ 32
  low = let same = number old before minutes keeper marks breaks at failed decided d e leaving g small stands given odometer reach is books devices o done s (suc n) waits (omega arith) here r time in omega (arith, same, small)

  is-here : IsReach decided (moment_of s q) failed (told_of old before) (told_of new after) reach
  is-here = subst (λ (m : Moment). IsReach decided m failed (told_of old before) (told_of new after) reach) here is

  come : HasCome decided (moment_of s q) (told_of old before) (told_of new after) reach
  come = has-come decided (moment_of s q) failed (told_of old before) (told_of new after) reach is-here

  off : HaveBrokenOff (told_of old before) (told_of new after) d e
  off = record { a = devices.card_a.broken; b = devices.card_b.broken; rests = record { card_a = devices.card_a.rests; card_b = devices.card_b.rests } }

  abbrev vs : List UnitEvent
  vs = faults_to old.keeper (moment_of s q) reach (told_of old before)

  a : AddsFaults o done s (log_of before) (log_of after) vs e
  a = keeping-adds d e o r.origin done s q decided (told_of old before) (told_of new after) v r.within keeps_ low (all-well (ungiven_of g.span) leaving old.keeper.cabin g.cabin) untold off reach come

  notes : NotesSo failed o a.events d e
  notes = keeping-notes vs failed d e whole unit (faults-are old.keeper (moment_of s q) reach (told_of old before))
      (subst (λ (m : Moment). NotesFaults failed (faults_to old.keeper m reach (told_of old before)) d.unit e.unit) here faults) o r.origin a.events a.told a.valid

  rose : failed ≡ true → RoseBy 1 (breakdowns_of d Recorder) (breakdowns_of e Recorder)
  rose = unit-rose o (carried_at o done s q decided (told_of old before) v d r.within) failed old.keeper.cabin.cards keeper.cabin.cards d e r.within.powered r.within.there devices (readings_of old.keeper decided)
      (booked old before minutes keeper marks breaks at failed decided d e leaving g small stands given odometer reach is books devices o done s (suc n) waits (omega arith) here r time).1

  by : (f : Bool) → failed ≡ f → NotesSo f o a.events d e → EventsGoOn f o done s r.within.b.run (In (suc n)) Acting (log_of after) e
  by false same notes_ = call-notes d e o done s r.within.b.run Acting Acting (log_of before) (log_of after) a.events evented a.adds notes_ keeps_.goes.left
  by true same notes_ = keeping-cuts d e o r.origin done s q decided (told_of old before) (told_of new after) v r.within keeps_ low (all-well (ungiven_of g.span) leaving old.keeper.cabin g.cabin) untold off reach come Acting a.events a.adds notes_ (rose same)
      (λ ends. absurd (cc)) evented

  pub settling-events : EventsGoOn failed o done s r.within.b.run (In (suc n)) Acting (log_of after) e
  settling-events = by failed refl notes
