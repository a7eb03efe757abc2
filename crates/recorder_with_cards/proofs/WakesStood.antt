-- What stood on the cards before the first failed call, as power comes: each card is judged, and the interruption noted.
use Rattle.std.proofs.Common.{◌≡◌, ◌∙◌, ℕ, ◌+◌, ◌<◌, ◌≤◌, Bool, Option, Some, None, List, [], ◌∷◌, ◌++◌, length, refl, sym, subst, arith, append-nil}
use Rattle.std.specs.List.{AllByRecursion}
use Rattle.activity_codec.specs.declared.values.Slot.{Slot}
use Rattle.activity_codec.specs.declared.values.Slot.TheVariants.{Driver, CoDriver}
use Rattle.trace_model.specs.declared.Card.{Card}
use Rattle.trace_model.specs.Trace.{TraceSecond}
use Rattle.device_calls.specs.event_model.declared.entries.Span.{Span}
use Rattle.log_model.specs.declared.lines.Break.{Break}
use Rattle.log_model.specs.Log.{RunLog, In}
use Rattle.log_model.specs.Same.{SameAt}
use Rattle.log_model.specs.Spans.{AreInOrder}
use Rattle.log_model.specs.Course.{Visit}
use Rattle.run_minutes.specs.card_slots.Calls.{card_in}
use Rattle.device_calls.specs.safety_model.Safe.{Devices}
use Rattle.run_acts.proofs.run_course.Logs.{all-before, found_log, other-number, same-at, same-found}
use Rattle.run_acts.proofs.run_note_record.RingsWaking.{still-failed, still-call-failed}
use Rattle.run_outcome.specs.declared.outcome.Outcome.{Outcome}
use Rattle.run_outcome.specs.Lines.{Listed}
use Rattle.run_minutes.specs.declared.keeper.Moment.{Moment}
use Rattle.run_minutes.specs.Books.{HaveTime}
use Rattle.run_minutes.specs.run_promise.Beside.{HaveLeftMore}
use Rattle.run_minutes.specs.run_promise.Origin.{Origin}
use Rattle.run_acts.specs.run_record.Within.{Beginning}
use Rattle.run_acts.specs.run_record.Waking.{both_slots}
use Rattle.run_acts.specs.declared.run.Run.{Run}
use Rattle.run_acts.specs.Acting.{now_moment}
use Rattle.run_acts.specs.CardNotes.{LeavePlaces}
use Rattle.run_acts.specs.Noting.{GapReach, IsGapNoted}
use Rattle.run_acts.specs.Recording.{log_of, values_of, RunWithin}
use Rattle.run_acts.specs.RunCards.{vehicle_in}
use Rattle.run_acts.specs.Stood.{LetStand, TellsOn}
use Rattle.run_acts.proofs.CardPlaces.{leave-stays}
use Rattle.run_acts.proofs.Stood.{failed-still, cut-still, stand-itself, tells-beside, tells-self, vehicles-let}
use Rattle.recorder_with_cards.specs.Accepting.{IsBare, IsAnew}
use Rattle.recorder_with_cards.specs.Judged.{moment_in, RunNext}
use Rattle.recorder_with_cards.specs.JudgedRings.{TellsHere}
use Rattle.recorder_with_cards.specs.JudgedCards.{CardsJudged, CardsAnew}
use Rattle.recorder_with_cards.proofs.Resumed.{RunWaking, waiting_in, driver-next, codriver-next}
use Rattle.recorder_with_cards.proofs.GapShown.{HasLines, gap-lines}
use Rattle.recorder_with_cards.proofs.WakesCards.{waking-later}

-- ---- what a log tells more

-- lines of a later second
pub here-tells : (done : List TraceSecond) (from : ℕ) (log later : RunLog) (n : ℕ) → AreInOrder from done → from + length done ≤ n → TellsHere log later n → TellsOn log later done
here-tells done from log later n order late h = record {
  same = all-before (λ (u : ℕ). SameAt log later u) from done order (λ u lt. same-at log later n h.breaks.0 h.breaks.1 h.breaks.2 h.finds.0 h.finds.1 h.finds.2 u (other-number n u (omega (arith, lt, late))));
  still = failed-still log later h.breaks.0 h.breaks.1;
  cut = cut-still log later h.breaks.0 h.breaks.1;
}

-- what was kept, once that is found
pub found-tells : (done : List TraceSecond) (from : ℕ) (log : RunLog) (i k : ℕ) → AreInOrder from done → TellsOn log (found_log i k log) done
found-tells done from log i k order = record {
  same = all-before (λ (u : ℕ). SameAt log (found_log i k log) u) from done order (λ u lt. same-found log i k u);
  still = λ u has. still-call-failed log i k u has;
  cut = λ u has. still-failed log i k u has;
}

-- nothing more is told yet
none-here : (log : RunLog) (n : ℕ) → TellsHere log log n
none-here log n = record { breaks = ([], sym (append-nil log.breaks), tt); finds = ([], sym (append-nil log.finds), tt) }

-- ---- A CARD IS JUDGED
abbrev pub StandsTo : Origin → List TraceSecond → (before after : Outcome) → (d e : Devices) → Type 0
StandsTo o done before after d e = LetStand o d e × TellsOn (log_of before) (log_of after) done

card-stands : (o : Origin) (done : List TraceSecond) (s : TraceSecond) (waits fewer : List Visit) (slot : Slot) (card : Card) (old : Run) (before after : Outcome) (d e : Devices) (next : RunNext o done s 0 waits fewer old before d slot card) → 0 < s.number → old.keeper.memory.registration ≡ vehicle_in o → (at : Moment) → at ≡ moment_in s 0 → (speed : ℕ) → s.speed ≡ speed → (failed : Bool) →
    CardsJudged slot card at speed failed old before after d e → HaveTime e → StandsTo o done before after d e
card-stands o done s waits fewer slot card old before after d e next some vehicle at at_is speed speed_is failed judges time =
    let j = judges o done s 0 waits fewer at_is speed_is next vehicle time in
    let w = next.goes.within in (
      record { left = j.left; made = j.made },
      tells-beside w.b.run.log (log_of before) (log_of after) done
          (waking-later o done s (In 0) waits None [] (values_of old before) d w (log_of before) (none-here (log_of before) s.number) some).behind.same
          (waking-later o done s (In 0) waits None [] (values_of old before) d w (log_of after) j.here some).behind.same j.here.breaks.0 j.here.breaks.1,
    )

-- nobody sits there
bare-stands : (o : Origin) (done : List TraceSecond) (before after : Outcome) (d e : Devices) → after ≡ before → ((P : Devices → Type 0) → P d → P e) → StandsTo o done before after d e
bare-stands o done before after d e same still = (
  still (λ (x : Devices). LetStand o d x) (stand-itself o d),
  subst (λ (q : Outcome). TellsOn (log_of before) (log_of q) done) (sym same) (tells-self (log_of before) done),
)

-- THE DRIVER SLOT'S CARD
pub driver-stands : (o : Origin) (done : List TraceSecond) (s : TraceSecond) (b : Beginning) (card : Option Card) (rest : List Visit) (old : Run) (before : Outcome) (d : Devices) → RunWaking o done s b (waiting_in Driver card ++ rest) both_slots old before d → AllByRecursion (λ (x : Visit). x.phase ≡ In 0) rest →
    card_in old.keeper.cabin.slots.seats.driver ≡ card → IsBare old.keeper.cabin.slots.seats.driver → 0 < s.number → old.keeper.memory.registration ≡ vehicle_in o → (at : Moment) → at ≡ moment_in s 0 → (speed : ℕ) → s.speed ≡ speed → (failed : Bool) (new : Run) (after : Outcome) →
    IsAnew card Driver at speed old new before after → (e : Devices) → (card ≡ None → (P : Devices → Type 0) → P d → P e) → HaveTime e → CardsAnew card Driver at speed failed old before after d e → StandsTo o done before after d e
driver-stands o done s b None rest old before d w once is bare some vehicle at at_is speed speed_is failed new after anew e still time shows = bare-stands o done before after d e anew.1 (still refl)
driver-stands o done s b (Some card) rest old before d w once is bare some vehicle at at_is speed speed_is failed new after anew e still time shows =
    card-stands o done s (waiting_in Driver (Some card) ++ rest) rest Driver card old before after d e (driver-next o done s b card rest old before d w once is bare).0 some vehicle at at_is speed speed_is failed shows time

-- THE CO-DRIVER SLOT'S CARD
pub codriver-stands : (o : Origin) (done : List TraceSecond) (s : TraceSecond) (b : Beginning) (card : Option Card) (old : Run) (before : Outcome) (d : Devices) → RunWaking o done s b (waiting_in CoDriver card) (CoDriver ∷ []) old before d →
    card_in old.keeper.cabin.slots.seats.codriver ≡ card → IsBare old.keeper.cabin.slots.seats.codriver → 0 < s.number → old.keeper.memory.registration ≡ vehicle_in o → (at : Moment) → at ≡ moment_in s 0 → (speed : ℕ) → s.speed ≡ speed → (failed : Bool) (new : Run) (after : Outcome) →
    IsAnew card CoDriver at speed old new before after → (e : Devices) → (card ≡ None → (P : Devices → Type 0) → P d → P e) → HaveTime e → CardsAnew card CoDriver at speed failed old before after d e → StandsTo o done before after d e
codriver-stands o done s b None old before d w is bare some vehicle at at_is speed speed_is failed new after anew e still time shows = bare-stands o done before after d e anew.1 (still refl)
codriver-stands o done s b (Some card) old before d w is bare some vehicle at at_is speed speed_is failed new after anew e still time shows =
    card-stands o done s (waiting_in CoDriver (Some card)) [] CoDriver card old before after d e (codriver-next o done s b card old before d w is bare) some vehicle at at_is speed speed_is failed shows time

-- ---- THE INTERRUPTION IS NOTED
pub gap-stands : (o : Origin) (done : List TraceSecond) (s : TraceSecond) (run : Run) (out : Outcome) (d e : Devices) (w : RunWithin o done s (In 0) [] [] run out d) → 0 < s.number → (gap : Option Span) (failed : Bool) (new : Run) (after : Listed Break) (reach : GapReach) → IsGapNoted gap (now_moment run) failed run new out.breaks after reach →
    LeavePlaces run.keeper.cabin.cards d e → HaveLeftMore o d e → StandsTo o done out (record out { breaks = after }) d e
gap-stands o done s run out d e w some gap failed new after reach is places left =
    let here : run.next ≡ s.number = w.within.next ∙ sym w.within.moment.number in
    let lines = subst (λ (u : ℕ). HasLines u out.breaks after) here (gap-lines gap (now_moment run) failed run new out.breaks after reach is) in
    let told : TellsHere (log_of out) (log_of (record out { breaks = after })) s.number = record { breaks = lines; finds = ([], sym (append-nil (log_of out).finds), tt) } in (
      vehicles-let o [] d e left (leave-stays o [] done s (In 0) [] [] run out d e w places).vehicles,
      tells-beside w.within.b.run.log (log_of out) (log_of (record out { breaks = after })) done
          (waking-later o done s (In 0) [] None [] (values_of run out) d w.within (log_of out) (none-here (log_of out) s.number) some).behind.same
          (waking-later o done s (In 0) [] None [] (values_of run out) d w.within (log_of (record out { breaks = after })) told some).behind.same lines.0 lines.1,
    )
