-- What an action of a second leaves of the events that the cards show.
use Rattle.std.proofs.Common.{◌≡◌, ◌∙◌, inl, inr, ℕ, suc, ◌<◌, ◌≤◌, true, false, Option, Some, None, List, [], ◌∷◌, ◌++◌, length, take, refl, ap, sym, subst, append-nil, append_assoc, ⊎_elim}
use Rattle.activity_codec.specs.declared.values.Slot.{Slot}
use Rattle.activity_codec.specs.declared.values.Pick.{Pick}
use Rattle.trace_model.specs.declared.Card.{Card}
use Rattle.trace_model.specs.declared.Action.{Action}
use Rattle.trace_model.specs.declared.Action.TheVariants.{Select, Manual, Tear as Pull}
use Rattle.trace_model.specs.Trace.{TraceSecond}
use Rattle.log_model.specs.declared.lines.Break.{Break}
use Rattle.log_model.specs.declared.lines.Break.TheVariants.{Tear}
use Rattle.log_model.specs.declared.lines.Refused.{Refused}
use Rattle.log_model.specs.declared.lines.SlotFault.{SlotFault}
use Rattle.log_model.specs.Log.{RunLog, In, cut_in, is_torn_in, found_in}
use Rattle.log_model.specs.Slots.{refusal}
use Rattle.log_model.specs.Course.{Before, Course, went}
use Rattle.run_minutes.specs.card_slots.Calls.{seat_in, card_in, logged}
use Rattle.device_calls.specs.safety_model.Safe.{Devices}
use Rattle.run_acts.specs.run_rings.Notes.{course_behind}
use Rattle.run_acts.specs.run_course.Moments.{and_break, and_refused}
use Rattle.run_acts.proofs.run_course.Lookups.{break-more, refusal-more}
use Rattle.run_acts.specs.run_course.Reached.{course_at}
use Rattle.run_acts.specs.run_note_record.Uses.{notes_now, uses_in}
use Rattle.run_acts.proofs.AllStay.{stood-self, known-fewer, known-as}
use Rattle.run_acts.proofs.run_note_record.SoFar.{left-itself, failed-more}
use Rattle.run_minutes.specs.Keeping.{with_lines}
use Rattle.run_outcome.specs.declared.outcome.Outcome.{Outcome}
use Rattle.run_minutes.specs.run_promise.Origin.{Origin}
use Rattle.run_acts.specs.run_record.Within.{Beginning}
use Rattle.run_acts.specs.declared.run.Run.{Run}
use Rattle.run_acts.specs.Acting.{pulled_breaks}
use Rattle.run_acts.specs.Recording.{log_of, values_of, RunWithin, RunGoesOn, IsNow}
use Rattle.run_acts.specs.RunCards.{CardsBehind, CardsIn, CardsAction}
use Rattle.device_calls.specs.run_unit_course.Lines.{cut_at}
use Rattle.run_acts.specs.run_note_record.RingsSoFar.{GoesBehind}
use Rattle.run_acts.specs.RunRinged.{with_cut}
use Rattle.run_acts.proofs.Asked.{pulls-one}
use Rattle.run_acts.proofs.RingedSecond.{cut-is, here-append, power-here}
use Rattle.run_acts.proofs.CardEnds.{IsLater, ends-shown, cut-short}
use Rattle.run_acts.proofs.CardTurn.{lines-later}
use Rattle.run_acts.proofs.CardSecond.{quiet-shown, quiet-action}
use Rattle.run_acts.proofs.CardShown.{FindsStill}
use Rattle.run_acts.proofs.run_note_record.UsesSoFar.{FoundTo}
use Rattle.run_acts.proofs.CardUses.{still-found}
use Rattle.run_acts.proofs.CardStays.{shows-self}
use Rattle.run_acts.proofs.CardActs.{quiet-goes}
use Rattle.run_acts.specs.ByHand.{stop_by, stopped_in}
use Rattle.recorder_with_cards.proofs.ActsRecorded.{refuses}
use Rattle.recorder_with_cards.proofs.RingsHeld.{behind-at, goes-refused, goes-torn}
use Rattle.recorder_with_cards.proofs.CardsHeld.{to-began, to-log, first-are}
use Rattle.recorder_with_cards.proofs.HereDone.{TellsMoreOf}
use Rattle.recorder_with_cards.proofs.SlotLines.{whose, stops-hand, stop-by-session, refusal-by-slots, log-one, log-stop}

-- an activity is selected
pub selected-cards : (d : Devices) (slot : Slot) (pick : Pick) (begun speed : ℕ) (run : Run) (out : Outcome) → CardsAction (Select slot pick) begun speed false run out out d d
selected-cards d slot pick begun speed run out o done s now front rest are is allowed vehicle w cards time =
    quiet-goes o done s front rest (Select slot pick) are run out d d w tt [] (log_of out) (ap (λ (bs : List Break). record (log_of out) { breaks = bs }) (sym (append-nil (log_of out).breaks))) tt (stood-self o d) (left-itself o d) (shows-self o d) cards false

-- or an entry by hand passes the slots
pub hand-cards : (d : Devices) (slot : Slot) (pick : Pick) (minute begun speed : ℕ) (run : Run) (out : Outcome) → CardsAction (Manual slot pick minute) begun speed false run out out d d
hand-cards d slot pick minute begun speed run out o done s now front rest are is allowed vehicle w cards time =
    quiet-goes o done s front rest (Manual slot pick minute) are run out d d w tt [] (log_of out) (ap (λ (bs : List Break). record (log_of out) { breaks = bs }) (sym (append-nil (log_of out).breaks))) tt (stood-self o d) (left-itself o d) (shows-self o d) cards false

-- a card is pulled out
pub pulled-cards : (d : Devices) (slot : Slot) (begun speed : ℕ) (run : Run) (out : Outcome) → CardsAction (Pull slot) begun speed false run out
    (record out { breaks = with_lines (pulled_breaks (card_in (seat_in run.keeper.cabin.slots.seats slot)) slot (record { second = run.next; begun = begun; late = false })) out.breaks }) d d
pulled-cards d slot begun speed run out o done s now front rest are is allowed vehicle w cards time = by (card_in (seat_in run.keeper.cabin.slots.seats slot)) refl (pulls-one run.keeper.cabin.slots.seats slot speed allowed)
  where
    log : RunLog
    log = log_of out

    line : Break
    line = Tear s.number slot false (suc (length front)) false

    to : FoundTo log s.number (length front)
    to k x lt = w.within.moment.up_to.found (In k) x lt

    -- its line tells of no find
    finds : (c : Card) → FindsStill o c log (and_break log line) d d (uses_in o c (notes_now w.within.b.run.log done log s)) (uses_in o c (notes_now w.within.b.run.log done (and_break log line) s))
    finds c whose in_ known = (
      known-fewer whose o log (and_break log line) (line ∷ []) d d refl (stood-self o d) known,
      still-found o w.within.b.run.log done s (power-here o done s (In (length front)) [] None [] (values_of run out) d w.within) c log (and_break log line) front (Pull slot ∷ rest) are
          (goes-torn log s front slot false w.within.moment.up_to.uncut).same to (λ k x lt. (break-more log line s.number).found (In k) x ∙ to k x lt),
    )

    by : (card : Option Card) → card_in (seat_in run.keeper.cabin.slots.seats slot) ≡ card → (card_in (seat_in run.keeper.cabin.slots.seats slot) ≡ None → ⊥) →
        CardsIn o done s w.within.b.run.log (front ++ Pull slot ∷ []) (log_of (record out { breaks = with_lines (pulled_breaks card slot (record { second = run.next; begun = begun; late = false })) out.breaks })) d
    by None none_ one = absurd (one none_)
    by (Some card) some one =
        let goes = goes-torn log s front slot false w.within.moment.up_to.uncut in
        let told = quiet-shown o done s w.within.b.run.log front (front ++ Pull slot ∷ []) log (and_break log line) d d cards finds (failed-more log (and_break log line) goes.lines)
        (quiet-action o done s w.within.b.run.log front (Pull slot) log (and_break log line) goes.same (inr (inr tt))) (left-itself o d) (shows-self o d) in
        subst (λ (u : ℕ). CardsIn o done s w.within.b.run.log (front ++ Pull slot ∷ []) (and_break log (Tear u slot false begun false)) d) now.number
        (subst (λ (k : ℕ). CardsIn o done s w.within.b.run.log (front ++ Pull slot ∷ []) (and_break log (Tear s.number slot false k false)) d) (sym is) told)

-- or it is refused
course-refused : (log : RunLog) (was : Before) (s : TraceSecond) (front : List Action) (line : Refused) → course_behind (and_refused log line) was s front ≡ course_behind log was s front
unfolding is_torn_in found_in cut_in
course-refused log was s front line = refl

pub refused-cards : (o : Origin) (done : List TraceSecond) (s : TraceSecond) (speed : ℕ) (run : Run) (before : Outcome) (d : Devices) → IsNow s speed run → (front : List Action) (a : Action) (rest : List Action) → s.actions ≡ front ++ a ∷ rest →
    (w : RunWithin o done s (In (length front)) [] [] run before d) → CardsIn o done s w.within.b.run.log front (log_of before) d → (fault : SlotFault) → stopped_in run speed a ≡ Some fault → (after : Outcome) →
    after ≡ record before { refused = with_lines (record { second = run.next; fault = fault; begun = suc (length front) } ∷ []) before.refused } → CardsIn o done s w.within.b.run.log (front ++ a ∷ []) (log_of after) d
refused-cards o done s speed run before d now front a rest are w cards fault is after told =
    let log : RunLog = log_of before in
    let was : Before = (went w.within.b.run.log done).before in
    let uncut = w.within.moment.up_to.uncut in
    let line : Refused = record { second = run.next; fault = fault; begun = suc (length front) } in
    let later : RunLog = and_refused log line in
    let goes = goes-refused log later.refused s front uncut in
    let few : length front ≤ length s.actions = w.within.moment.is in
    let same : course_behind log was s front ≡ course_at log was s (In (length front)) = behind-at log was s front (a ∷ rest) are uncut few in
    let on : CardsIn o done s w.within.b.run.log (front ++ a ∷ []) (log_of (record before { refused = with_lines (line ∷ []) before.refused })) d =
    ⊎_elim
    (λ (slots : refusal (logged run.keeper.cabin.slots.seats) speed a ≡ Some fault).
    let faults : refusal (course_behind log was s front).slots s.speed a ≡ Some fault = ap (λ (c : Course). refusal c.slots s.speed a) same ∙ refuses o done s speed run before d now front a rest are w (Some fault) slots in
    subst (λ (l : RunLog). CardsIn o done s w.within.b.run.log (front ++ a ∷ []) l d) (sym (log-one before line (refusal-by-slots (logged run.keeper.cabin.slots.seats) speed a fault slots)))
    (quiet-shown o done s w.within.b.run.log front (front ++ a ∷ []) log later d d cards
    (λ c whose in_ known. (
      known-as whose o log later d refl known,
      still-found o w.within.b.run.log done s (power-here o done s (In (length front)) [] None [] (values_of run before) d w.within) c log later front (a ∷ rest) are goes.same (λ k x lt. w.within.moment.up_to.found (In k) x lt)
          (λ k x lt. (refusal-more log later.refused s.number).found (In k) x ∙ w.within.moment.up_to.found (In k) x lt),
    )) (failed-more log later goes.lines)
    (quiet-action o done s w.within.b.run.log front a log later goes.same (inr (inl (fault, ap (λ (c : Course). refusal c.slots s.speed a) (course-refused log was s front line) ∙ faults)))) (left-itself o d) (shows-self o d)))
    (λ (session : (refusal (logged run.keeper.cabin.slots.seats) speed a ≡ None) × (stop_by a run ≡ Some fault)).
    let hand = stops-hand a run fault session.1 in
    subst (λ (l : RunLog). CardsIn o done s w.within.b.run.log (front ++ a ∷ []) l d) (sym (log-stop before line (stop-by-session a run fault session.1)))
    (subst (λ (x : Action). CardsIn o done s w.within.b.run.log (front ++ x ∷ []) log d) (sym hand.3)
    (quiet-goes o done s front rest (Manual hand.0 hand.1 hand.2) (subst (λ (x : Action). s.actions ≡ front ++ x ∷ rest) hand.3 are) run before d d w tt [] log (ap (λ (bs : List Break). record log { breaks = bs }) (sym (append-nil log.breaks))) tt (stood-self o d) (left-itself o d) (shows-self o d) cards false)))
    (whose run speed a fault is) in
    subst (λ (q : Outcome). CardsIn o done s w.within.b.run.log (front ++ a ∷ []) (log_of q) d) (sym told) on

-- ---- the second goes on, by the log of now

pub cards-on : (o : Origin) (done : List TraceSecond) (s : TraceSecond) (n : ℕ) (run : Run) (out : Outcome) (d : Devices) (front rest : List Action) (b : Beginning) → s.actions ≡ front ++ rest → length front ≡ n → 0 < s.number →
    RunGoesOn o done s (In n) [] run out d b → CardsIn o done s b.run.log front (log_of out) d → CardsIn o done s (log_of out) (take n s.actions) (log_of out) d
cards-on o done s n run out d front rest b are many some g cards =
    subst (λ (as_ : List Action). CardsIn o done s (log_of out) as_ (log_of out) d) (sym (first-are s.actions front rest n are many))
    (to-log o done s (In n) [] None [] (values_of run out) d g.goes.within some front (subst (λ (q : Beginning). CardsIn o done s q.run.log front (log_of out) d) (sym g.began) cards))

pub cards-now : (o : Origin) (done : List TraceSecond) (s : TraceSecond) (run : Run) (out : Outcome) (d : Devices) (front rest : List Action) → s.actions ≡ front ++ rest → 0 < s.number → (w : RunWithin o done s (In (length front)) [] [] run out d) →
    CardsIn o done s (log_of out) (take (length front) s.actions) (log_of out) d → CardsIn o done s w.within.b.run.log front (log_of out) d
cards-now o done s run out d front rest are some w cards =
    to-began o done s (In (length front)) [] None [] (values_of run out) d w.within some front
    (subst (λ (as_ : List Action). CardsIn o done s (log_of out) as_ (log_of out) d) (first-are s.actions front rest (length front) are refl) cards)

-- ---- or power is cut in it

-- its lines, with the cut behind them, came since the second began
pub cut-later : (o : Origin) (done : List TraceSecond) (s : TraceSecond) (n : ℕ) (run : Run) (out : Outcome) (d : Devices) (w : RunWithin o done s (In n) [] [] run out d) (told : Outcome) (front : List Action) → TellsMoreOf s.number out.breaks.items told.breaks.items →
    GoesBehind w.within.b.run.log (with_cut (log_of told) s front) done → 0 < s.number → IsLater w.within.b.run.log (with_cut (log_of told) s front) done s.number
cut-later o done s n run out d w told front m behind some =
    let l = lines-later o done s (In n) [] None [] (values_of run out) d w.within [] (log_of out) (ap (λ (bs : List Break). record (log_of out) { breaks = bs }) (sym (append-nil (log_of out).breaks))) tt some in
    let line : Break = cut_at s.number true (length front) in
    record {
      behind = behind;
      more = (l.more ++ m.0) ++ line ∷ [];
      breaks = ap (λ (bs : List Break). bs ++ line ∷ []) (m.1 ∙ ap (λ (bs : List Break). bs ++ m.0) l.breaks ∙ append_assoc w.within.b.run.log.breaks l.more m.0) ∙ append_assoc w.within.b.run.log.breaks (l.more ++ m.0) (line ∷ []);
      here = here-append s.number (l.more ++ m.0) (line ∷ []) (here-append s.number l.more m.0 l.here m.2) (refl, tt);
      early = l.early;
      some = some;
    }

pub cut-cards : (o : Origin) (done : List TraceSecond) (s : TraceSecond) (n : ℕ) (run : Run) (out : Outcome) (d e : Devices) (w : RunWithin o done s (In n) [] [] run out d) (told : Outcome) (front rest : List Action) → s.actions ≡ front ++ rest →
    IsLater w.within.b.run.log (with_cut (log_of told) s front) done s.number → cut_in (log_of told) s.number ≡ None → CardsIn o done s w.within.b.run.log front (with_cut (log_of told) s front) e → CardsBehind o (done ++ s ∷ []) (with_cut (log_of told) s front) e
cut-cards o done s n run out d e w told front rest are l uncut cards =
    let cut : RunLog = with_cut (log_of told) s front in
    let power = power-here o done s (In n) [] None [] (values_of run out) d w.within in
    ends-shown o done s w.within.b.run.log cut l power front cut e e cards (λ c whose in_ known. (known, refl)) (λ u is. is)
    (cut-short o done s w.within.b.run.log cut l power front rest are (cut-is (log_of told) s.number (length front) uncut)) (left-itself o e) (shows-self o e)
