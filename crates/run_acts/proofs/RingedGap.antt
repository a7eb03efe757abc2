-- The interruption of power is noted before any action, and so the rings go on.
use Rattle.std.proofs.Common.{◌≡◌, ◌∙◌, inr, ℕ, suc, ◌≤◌, Bool, true, false, Option, Some, None, List, [], ◌∷◌, ◌++◌, length, refl, ap, sym, subst, append_assoc, append-nil}
use Rattle.activity_codec.specs.declared.values.Slot.{Slot}
use Rattle.activity_codec.specs.declared.values.Slot.TheVariants.{Driver, CoDriver}
use Rattle.trace_model.specs.declared.Card.{Card}
use Rattle.trace_model.specs.Trace.{TraceSecond}
use Rattle.unit_notes.specs.event_model.declared.entries.Span.{Span}
use Rattle.log_model.specs.declared.lines.Break.{Break}
use Rattle.log_model.specs.Log.{RunLog, In, cut_in, found_in}
use Rattle.log_model.specs.Course.{ToldSecond, Before, Went, went}
use Rattle.unit_notes.specs.note_model.Odometer.{SpanFrom}
use Rattle.unit_notes.specs.note_model.Noted.{Note}
use Rattle.device_calls.specs.safety_model.Safe.{Devices}
use Rattle.run_crew.specs.card_slots.Calls.{seat_in, card_in}
use Rattle.device_calls.specs.run_unit_course.Lines.{cut_at}
use Rattle.run_outcome.specs.Lines.{Listed}
use Rattle.run_outcome.specs.declared.outcome.Outcome.{Outcome}
use Rattle.run_minutes.specs.declared.keeper.Moment.{Moment}
use Rattle.run_minutes.specs.Keeping.{SessionsGoOn}
use Rattle.run_minutes.proofs.Seats.{sessions-none, sessions-then}
use Rattle.run_events.specs.run_rings.Notes.{notes_to, sits_accepted}
use Rattle.run_events.specs.run_rings.Spans.{with_second}
use Rattle.run_events.proofs.run_rings.Actions.{power-notes}
use Rattle.run_minutes.specs.run_promise.Origin.{Origin}
use Rattle.run_minutes.specs.run_promise.Beside.{HaveLeftMore}
use Rattle.run_note_record.specs.Moved.{moves_so_far}
use Rattle.run_note_record.specs.Ringed.{Ringed, LeavesRings, notes_in, since_at}
use Rattle.run_note_record.specs.RingsSoFar.{RingedBehind, RingedIn, AreFewer, HasMoreBreaks, GoesBehind, notes_so_far}
use Rattle.run_note_record.specs.Steps.{nobody, spans_cut}
use Rattle.run_note_record.specs.OnCards.{CardsStay}
use Rattle.run_note_record.specs.Sessions.{IsBrokenSince}
use Rattle.run_note_record.proofs.Sessions.{stay-may}
use Rattle.run_acts.specs.CardNotes.{LeavePlaces}
use Rattle.run_acts.proofs.CardPlaces.{leave-stays}
use Rattle.run_note_record.proofs.OnCards.{call-failed-more}
use Rattle.run_note_record.proofs.Rings.{fewer-sit, rings-stay}
use Rattle.run_note_record.proofs.SoFar.{failed-more, goes-alike, cut-ends}
use Rattle.run_acts.specs.declared.run.Run.{Run}
use Rattle.run_acts.specs.Acting.{IsNotedOn, IsNotedIn, now_moment, noted_run, noted_breaks}
use Rattle.run_acts.specs.ActsEvented.{NoteLeaves}
use Rattle.run_acts.specs.Noting.{GapReach, NoGap, UnitFailed, DriverFell, BothSlots, AreNotedIn, IsGapNoted}
use Rattle.run_acts.specs.Recording.{log_of, values_of, RunWithin, ComesPower}
use Rattle.run_acts.specs.RunRinged.{seats_of, IsLastFrom, RingsWithin, with_cut, RingsGoOn, RingsGap}
use Rattle.run_acts.proofs.Cabins.{noted-sessions}
use Rattle.run_acts.proofs.NoteRecorded.{same-course}
use Rattle.run_acts.proofs.RingedLines.{AreTears, TellsBeside, tears-both, tears-beside}
use Rattle.run_acts.proofs.RingedSecond.{cut-is, cut-found, goes-behind, power-here, here-append, tears-here_, since-begun}
use Rattle.run_acts.proofs.RingedPlace.{noted-tears}
use Rattle.run_acts.proofs.RingedClosed.{fewer-seats}

-- ---- what the note tells, and of which cards

-- these lines more, each of a card that was torn out; the sessions go on, and nothing else that the rings go by has changed
pub record NotesOn (at : Moment) (old new : Run) (breaks after : Listed Break) : Type 0 where
  pub lines : List Break
  pub are : after.items ≡ breaks.items ++ lines
  pub tears : AreTears at lines
  pub sessions : SessionsGoOn old.keeper.cabin.cards new.keeper.cabin.cards
  pub noted : new.noted ≡ old.noted
  pub odometer : new.keeper.odometer ≡ old.keeper.odometer

notes-none : (at : Moment) (run new : Run) (breaks after : Listed Break) → new ≡ run → after ≡ breaks → NotesOn at run new breaks after
notes-none at run new breaks after same lines_same = record {
  lines = [];
  are = ap (λ (l : Listed Break). l.items) lines_same ∙ sym (append-nil breaks.items);
  tears = tt;
  sessions = subst (λ (r : Run). SessionsGoOn run.keeper.cabin.cards r.keeper.cabin.cards) (sym same) (sessions-none run.keeper.cabin.cards);
  noted = ap (λ (r : Run). r.noted) same;
  odometer = ap (λ (r : Run). r.keeper.odometer) same;
}

notes-then : (at : Moment) (x y z : Run) (a b c : Listed Break) → NotesOn at x y a b → NotesOn at y z b c → NotesOn at x z a c
notes-then at x y z a b c first next = record {
  lines = first.lines ++ next.lines;
  are = next.are ∙ ap (λ (bs : List Break). bs ++ next.lines) first.are ∙ append_assoc a.items first.lines next.lines;
  tears = tears-both at first.lines next.lines first.tears next.tears;
  sessions = sessions-then x.keeper.cabin.cards y.keeper.cabin.cards z.keeper.cabin.cards first.sessions next.sessions;
  noted = next.noted ∙ first.noted;
  odometer = next.odometer ∙ first.odometer;
}

notes-on : (card : Card) (slot : Slot) (at : Moment) (old new : Run) (breaks after : Listed Break) (fell : Bool) → IsNotedOn card slot at old new breaks after fell → NotesOn at old new breaks after
notes-on card slot at old new breaks after fell is = record {
  lines = noted_breaks fell slot at;
  are = ap (λ (l : Listed Break). l.items) is.told;
  tears = noted-tears fell slot at;
  sessions = subst (λ (r : Run). SessionsGoOn old.keeper.cabin.cards r.keeper.cabin.cards) (sym is.run) (noted-sessions card at.second old fell);
  noted = ap (λ (r : Run). r.noted) is.run ∙ same fell;
  odometer = ap (λ (r : Run). r.keeper.odometer) is.run ∙ stored fell;
}
  where
    same : (f : Bool) → (noted_run f card at.second old).noted ≡ old.noted
    same false = refl
    same true = refl

    stored : (f : Bool) → (noted_run f card at.second old).keeper.odometer ≡ old.keeper.odometer
    stored false = refl
    stored true = refl

notes-in : (who : Option Card) (slot : Slot) (at : Moment) (old new : Run) (breaks after : Listed Break) (fell : Bool) → IsNotedIn who slot at old new breaks after fell → NotesOn at old new breaks after
notes-in None slot at old new breaks after fell is = notes-none at old new breaks after is.0 is.1
notes-in (Some card) slot at old new breaks after fell is = notes-on card slot at old new breaks after fell is.0

notes-both : (at : Moment) (old new : Run) (breaks after : Listed Break) (driver codriver : Bool) → AreNotedIn at old new breaks after driver codriver → NotesOn at old new breaks after
notes-both at old new breaks after driver codriver are =
    notes-then at old are.between new breaks are.told after (notes-in (card_in (seat_in old.keeper.cabin.slots.seats Driver)) Driver at old are.between breaks are.told driver are.first)
    (notes-in (card_in (seat_in are.between.keeper.cabin.slots.seats CoDriver)) CoDriver at are.between new are.told after codriver are.second)

pub gap-notes : (gap : Option Span) (at : Moment) (failed : Bool) (old new : Run) (breaks after : Listed Break) (reach : GapReach) → IsGapNoted gap at failed old new breaks after reach → NotesOn at old new breaks after
gap-notes None at failed old new breaks after NoGap is = notes-none at old new breaks after is.1 is.2
gap-notes None at failed old new breaks after UnitFailed is = absurd is
gap-notes None at failed old new breaks after DriverFell is = absurd is
gap-notes None at failed old new breaks after (BothSlots driver codriver) is = absurd is
gap-notes (Some span) at failed old new breaks after NoGap is = absurd is
gap-notes (Some span) at failed old new breaks after UnitFailed is = notes-none at old new breaks after is.1 is.2
gap-notes (Some span) at failed old new breaks after DriverFell is = notes-in (card_in (seat_in old.keeper.cabin.slots.seats Driver)) Driver at old new breaks after true is.1
gap-notes (Some span) at failed old new breaks after (BothSlots driver codriver) is = notes-both at old new breaks after driver codriver is.0

-- ---- before any action

module _ (o : Origin) (done : List TraceSecond) (s : TraceSecond) (old new : Run) (out : Outcome) (after : Listed Break) (d e : Devices) (w : RunWithin o done s (In 0) [] [] old out d) (comes : ComesPower done out)
    (n : NotesOn (record { second = s.number; begun = 0; late = false }) old new out.breaks after) (leaves : LeavesRings d.unit e.unit) (left : HaveLeftMore o d e) (spans : List SpanFrom) (t : ToldSecond) (places : CardsStay o (with_second spans old.keeper.odometer t) d e) (rings : RingsWithin o done s w.within.b.run.log [] old (log_of out) spans t d) where
  abbrev log : RunLog
  log = log_of out

  abbrev later : RunLog
  later = log_of (record out { breaks = after })

  abbrev was : Before
  was = (went w.within.b.run.log done).before

  later-is : later ≡ record log { breaks = log.breaks ++ n.lines }
  later-is = ap (λ (bs : List Break). record log { breaks = bs }) n.are

  told : TellsBeside log later s.number (In 0)
  told = tears-beside (record { second = s.number; begun = 0; late = false }) n.lines log later later-is n.tears

  off : was.running ≡ false
  off = ap (λ (x : Went). x.before.running) (sym (same-course o done s (In 0) [] [] old out d w)) ∙ comes

  -- a power-on notes who is accepted, whoever is torn out then
  same-notes : (x y : RunLog) → ((slot : Slot) → found_in y s.number (In 0) slot ≡ found_in x s.number (In 0) slot) → notes_to y was s [] ≡ notes_to x was s []
  same-notes x y same =
      (power-notes y was s).0 off
      ∙ (λ i. sits_accepted s.number Driver was.slots.driver (same Driver i) ++ sits_accepted s.number CoDriver was.slots.codriver (same CoDriver i))
      ∙ sym ((power-notes x was s).0 off)

  fewer : AreFewer (seats_of old) (seats_of new)
  fewer = fewer-seats old new n.noted n.sessions

  -- by a later log
  ringed-by : (y : RunLog) → HasMoreBreaks log y → ((slot : Slot) → found_in y s.number (In 0) slot ≡ found_in log s.number (In 0) slot) → RingedIn o done s w.within.b.run.log [] y spans old.keeper.odometer t (seats_of new) e
  ringed-by y more found =
      let now : List SpanFrom = with_second spans old.keeper.odometer t in
      let notes : List Note = notes_so_far w.within.b.run.log done log s [] in
      let stays : Ringed (since_at o w.within.b.run.log done y s []) y now notes (seats_of old) e = rings-stay d e (since_at o w.within.b.run.log done y s []) log y now now notes (seats_of old) rings.ringed.ringed leaves left (stay-may o now (λ c t. IsBrokenSince (moves_so_far w.within.b.run.log done y s []) y c notes t) d e places) (goes-alike log y now now notes (failed-more log y more) (call-failed-more log y more) (λ u. refl) (λ u n is. is)) in
      record {
        spans_are = rings.ringed.spans_are;
        before = rings.ringed.before;
        early = rings.ringed.early;
        second = rings.ringed.second;
        ringed = subst (λ (l : List Note). Ringed (since_at o w.within.b.run.log done y s []) y now l (seats_of new) e) (ap (λ (l : List Note). notes_in w.within.b.run.log done ++ l) (sym (same-notes log y found)))
            (fewer-sit e (since_at o w.within.b.run.log done y s []) y now notes (seats_of old) (seats_of new) stays fewer);
      }

  abbrev log_cut : RunLog
  log_cut = with_cut later s []

  later-uncut : cut_in later s.number ≡ None
  later-uncut = told.cut ∙ w.within.moment.up_to.uncut

  cut-lines : log_cut ≡ record log { breaks = log.breaks ++ (n.lines ++ cut_at s.number true 0 ∷ []) }
  cut-lines = ap (λ (l : RunLog). with_cut l s []) later-is ∙ ap (λ (bs : List Break). record log { breaks = bs }) (append_assoc log.breaks n.lines (cut_at s.number true 0 ∷ []))

  counted-on : new.noted ≤ length later.finds
  counted-on = subst (λ (k : ℕ). k ≤ length log.finds) (sym n.noted) rings.counted

  pub gap-ringed : (failed : Bool) → RingsGoOn failed o done s w.within.b [] new later spans t e
  gap-ringed false = record {
    base = subst (λ (b : ℕ). IsLastFrom b (with_second spans b t)) (sym n.odometer) rings.base;
    counted = counted-on;
    ringed = subst (λ (b : ℕ). RingedIn o done s w.within.b.run.log [] later spans b t (seats_of new) e) (sym n.odometer)
        (ringed-by later (n.lines, ap (λ (l : RunLog). l.breaks) later-is) (λ slot. told.found (In 0) slot));
  }
  gap-ringed true =
      let gone : GoesBehind w.within.b.run.log log_cut done = goes-behind o done s (In 0) [] None [] (values_of old out) d w.within (n.lines ++ cut_at s.number true 0 ∷ []) log_cut cut-lines
      (here-append s.number n.lines (cut_at s.number true 0 ∷ []) (tears-here_ s.number 0 false n.lines n.tears) (refl, tt)) in
      let ringed = ringed-by log_cut (n.lines ++ cut_at s.number true 0 ∷ [], ap (λ (l : RunLog). l.breaks) cut-lines) (λ slot. cut-found later s.number 0 later-uncut (In 0) slot ∙ told.found (In 0) slot) in
      record {
        counted = counted-on;
        lines = since-begun o done s (In 0) [] None [] (values_of old out) d w.within later (n.lines, ap (λ (l : RunLog). l.breaks) later-is);
        behind = gone;
        odometer = n.odometer ∙ w.odometer;
        ringed = subst (λ (b : ℕ). RingedBehind o (done ++ s ∷ []) log_cut (suc s.number) (spans_cut spans b log_cut done s) nobody e) (sym n.odometer)
            (cut-ends e o done s w.within.b.run.log log_cut [] s.actions spans old.keeper.odometer t (seats_of new) nobody ringed gone
            (power-here o done s (In 0) [] None [] (values_of old out) d w.within) refl (cut-is later s.number 0 later-uncut) (λ c. inr refl));
      }

-- AS THE CALL SAYS IT
pub note-ringed : (gap : Option Span) (failed : Bool) (old new : Run) (breaks after : Listed Break) (d e : Devices) → (reach : GapReach) × IsGapNoted gap (now_moment old) failed old new breaks after reach → LeavesRings d.unit e.unit → NoteLeaves failed old breaks after d e → LeavePlaces old.keeper.cabin.cards d e →
    RingsGap failed old new breaks after d e
note-ringed gap failed old new breaks after d e noted leaves left places = λ o done s out w comes spans t rings.
    let here : now_moment old ≡ record { second = s.number; begun = 0; late = false } = ap (λ (u : ℕ). record { second = u; begun = 0; late = false }) (w.within.next ∙ sym w.within.moment.number) in
    gap-ringed o done s old new (record out { breaks = breaks }) after d e w comes (subst (λ (m : Moment). NotesOn m old new breaks after) here (gap-notes gap (now_moment old) failed old new breaks after noted.0 noted.1)) leaves (left o done s out w comes).0 spans t (leave-stays o (with_second spans old.keeper.odometer t) done s (In 0) [] [] old (record out { breaks = breaks }) d e w places) rings failed
