-- Actions that bring the cards no events: a place, a withdrawal.
use Rattle.std.proofs.Common.{◌≡◌, ◌∙◌, inr, suc, Bool, true, false, None, List, [], ◌∷◌, ◌++◌, length, sym, ap, subst, append_assoc}
use Rattle.activity_codec.specs.declared.values.Slot.{Slot}
use Rattle.trace_model.specs.declared.Action.{Action}
use Rattle.trace_model.specs.declared.Action.TheVariants.{Place}
use Rattle.trace_model.specs.Trace.{TraceSecond}
use Rattle.log_model.specs.declared.lines.Break.{Break}
use Rattle.log_model.specs.Log.{RunLog, In}
use Rattle.device_calls.specs.safety_model.Safe.{Devices}
use Rattle.run_outcome.specs.Lines.{Listed}
use Rattle.run_outcome.specs.declared.outcome.Outcome.{Outcome}
use Rattle.run_minutes.specs.declared.keeper.Moment.{Moment}
use Rattle.run_minutes.specs.Keeping.{with_lines}
use Rattle.run_minutes.specs.run_promise.Origin.{Origin}
use Rattle.run_minutes.specs.run_promise.Beside.{HaveLeftMore}
use Rattle.run_minutes.specs.Later.{AreLater}
use Rattle.run_note_record.specs.Uses.{notes_now, uses_in}
use Rattle.run_note_record.proofs.SoFar.{failed-more}
use Rattle.run_acts.specs.declared.run.Run.{Run}
use Rattle.run_acts.specs.Acting.{IsSettled, Closing, closed_breaks, noted_breaks, told_of}
use Rattle.run_acts.specs.CardNotes.{NotesOnCards}
use Rattle.run_acts.specs.Devices.{AreLeftMore}
use Rattle.run_acts.specs.Recording.{log_of, values_of, RunWithin}
use Rattle.run_acts.specs.RunRinged.{with_cut}
use Rattle.run_acts.specs.RunCards.{CardsIn, StillShow, CardsGoOn, CardsPlace}
use Rattle.run_acts.proofs.CardCourse.{PutsNone}
use Rattle.run_acts.proofs.CardSecond.{quiet-shown, quiet-action}
use Rattle.run_acts.proofs.CardStays.{place-still}
use Rattle.run_acts.proofs.AllStay.{StoodBefore}
use Rattle.run_acts.proofs.KeptSeats.{stood-later}
use Rattle.run_note_record.proofs.UsesSoFar.{FoundTo}
use Rattle.run_acts.proofs.CardUses.{lines-still, cut-still}
use Rattle.run_acts.proofs.RingedLines.{AreTears, tears-beside, tears-both, up-to-tells}
use Rattle.run_acts.proofs.RingedSecond.{goes-to, is-cut, power-here, more-left}
use Rattle.run_acts.proofs.RingedPlace.{noted-tears}
use Rattle.run_acts.proofs.RingedClosed.{closed-tears}
use Rattle.run_acts.proofs.WithdrawnRecorded.{moment-is}

-- AN ACTION THAT PUTS NO CARD INTO A SLOT, and leaves the events of the cards
pub quiet-goes : (o : Origin) (done : List TraceSecond) (s : TraceSecond) (front rest : List Action) (a : Action) (are : s.actions ≡ front ++ a ∷ rest) (run : Run) (out : Outcome) (d e : Devices) (w : RunWithin o done s (In (length front)) [] [] run out d) → PutsNone a →
    (lines : List Break) (later : RunLog) → later ≡ record (log_of out) { breaks = (log_of out).breaks ++ lines } → AreTears (record { second = s.number; begun = suc (length front); late = false }) lines → StoodBefore o d e → HaveLeftMore o d e → StillShow o d e →
    CardsIn o done s w.within.b.run.log front (log_of out) d → (failed : Bool) → CardsGoOn failed o done s w.within.b.run.log (front ++ a ∷ []) later e
quiet-goes o done s front rest a are run out d e w puts lines later is tears stood left still cards false =
    let g = goes-to o done s front rest a are (values_of run out) d w.within lines later is tears in
    let beside = tears-beside (record { second = s.number; begun = suc (length front); late = false }) lines (log_of out) later is tears in
    let to : FoundTo (log_of out) s.number (length front) = λ k x lt. w.within.moment.up_to.found (In k) x lt in
    quiet-shown o done s w.within.b.run.log front (front ++ a ∷ []) (log_of out) later d e cards
    (lines-still o w.within.b.run.log done s (power-here o done s (In (length front)) [] None [] (values_of run out) d w.within) (log_of out) later front (a ∷ rest) are g.same to (λ k x lt. beside.found (In k) x ∙ to k x lt) lines (ap (λ (l : RunLog). l.breaks) is) d e stood)
    (failed-more (log_of out) later g.lines) (quiet-action o done s w.within.b.run.log front a (log_of out) later g.same (inr (inr puts))) left still
quiet-goes o done s front rest a are run out d e w puts lines later is tears stood left still cards true =
    let g = (is-cut o done s front rest a are (values_of run out) d w.within lines later is tears).goes in
    let cut : RunLog = with_cut later s (front ++ a ∷ []) in
    quiet-shown o done s w.within.b.run.log front (front ++ a ∷ []) (log_of out) cut d e cards
    (λ c. cut-still o c later (log_of out) s.number (length (front ++ a ∷ [])) d e (uses_in o c (notes_now w.within.b.run.log done (log_of out) s)) (uses_in o c (notes_now w.within.b.run.log done cut s))) (failed-more (log_of out) cut g.lines) (quiet-action o done s w.within.b.run.log front a (log_of out) cut g.same (inr (inr puts))) left still

-- ---- a place

pub place-cards : (slot : Slot) (at : Moment) (failed fell : Bool) (old new : Run) (breaks after : Listed Break) (d e : Devices) → at.second ≡ old.next → after ≡ with_lines (noted_breaks fell slot at) breaks →
    NotesOnCards false old.keeper.cabin.cards new.keeper.cabin.cards (λ card. []) d e → AreLeftMore d e → AreLater d e → CardsPlace slot at failed old breaks after d e
place-cards slot at failed fell old new breaks after d e second told notes keeps later = λ late ending country region speed before is o done s here front rest are n allowed vehicle w cards time.
    let moment : at ≡ record { second = s.number; begun = suc (length front); late = false } = moment-is at s.number (suc (length front)) (second ∙ sym here.number) n late in
    let lines : List Break = noted_breaks fell slot at in
    quiet-goes o done s front rest (Place slot ending country region) are old before d e w tt lines (log_of (record before { breaks = after }))
    (ap (λ (l : Listed Break). record (log_of before) { breaks = l.items }) (told ∙ ap (λ (l : Listed Break). with_lines lines l) (sym is)))
    (subst (λ (m : Moment). AreTears m lines) moment (noted-tears fell slot at)) (stood-later o done s (In (length front)) [] None [] (values_of old before) d w.within e later)
    (more-left o d e (w.within.powered.lit.unit.unit_holds [] []).later w.within.there.clocks keeps)
    (place-still o done s (In (length front)) [] [] old before d e w new.keeper.cabin.cards notes) cards failed

-- ---- a withdrawal

-- what is told of a settling
pub record TellsLines (at : Moment) (before after : Outcome) : Type 0 where
  pub lines : List Break
  pub are : log_of after ≡ record (log_of before) { breaks = (log_of before).breaks ++ lines }
  pub tears : AreTears at lines

pub settled-lines : (at : Moment) (failed : Bool) (old new : Run) (before after : Outcome) → IsSettled at failed old new before after → TellsLines at before after
settled-lines at failed old new before after is =
    let t = up-to-tells at is.decided failed (told_of old before) (told_of new after) is.kept in
    record { lines = t.lines; are = ap log_of is.outcome ∙ ap (λ (bs : List Break). record (log_of before) { breaks = bs }) t.are; tears = t.tears }

-- and then of a closing
pub closed-lines : (at : Moment) (before told : Outcome) (after : Listed Break) (closing : Closing) (slot : Slot) → TellsLines at before told → after ≡ with_lines (closed_breaks closing slot at) told.breaks → TellsLines at before (record told { breaks = after })
closed-lines at before told after closing slot t is = record {
  lines = t.lines ++ closed_breaks closing slot at;
  are = ap (λ (l : Listed Break). record (log_of told) { breaks = l.items }) is
      ∙ ap (λ (l : RunLog). record l { breaks = l.breaks ++ closed_breaks closing slot at }) t.are
      ∙ ap (λ (bs : List Break). record (log_of before) { breaks = bs }) (append_assoc (log_of before).breaks t.lines (closed_breaks closing slot at));
  tears = tears-both at t.lines (closed_breaks closing slot at) t.tears (closed-tears closing slot at);
}
