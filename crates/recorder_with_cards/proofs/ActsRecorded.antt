-- What an action of a second leaves of the record.
use Rattle.std.proofs.Common.{◌≡◌, ◌∙◌, ℕ, suc, ◌+◌, Bool, true, Option, Some, None, List, [], ◌∷◌, ◌++◌, length, refl, ap, sym, subst, arith, append_assoc, length-append, ⊎_elim, false}
use Rattle.activity_codec.specs.declared.values.Slot.{Slot}
use Rattle.activity_codec.specs.declared.values.Pick.{Pick}
use Rattle.activity_codec.specs.declared.entries.Manual.{Manual as HandEntry}
use Rattle.trace_model.specs.declared.Action.{Action}
use Rattle.trace_model.specs.declared.Action.TheVariants.{Select, Manual}
use Rattle.trace_model.specs.Trace.{TraceSecond}
use Rattle.trace_model.specs.declared.Card.{Card}
use Rattle.log_model.specs.declared.lines.SlotFault.{SlotFault}
use Rattle.log_model.specs.Log.{In, RunLog}
use Rattle.log_model.specs.Slots.{refusal, same_card}
use Rattle.run_minutes.specs.card_slots.Calls.{logged, seat_in, card_in}
use Rattle.run_minutes.proofs.card_slots.Refusing.{refuse-alike}
use Rattle.device_calls.specs.run_unit_course.Followed.{Lost as IsLost}
use Rattle.unit_minutes.specs.unit_model.Image.{odometer_at}
use Rattle.device_calls.specs.unit_rule.Odometer.{odometer_after}
use Rattle.device_calls.specs.safety_model.Safe.{Devices}
use Rattle.run_acts.proofs.run_course.Presence.{slots-agree}
use Rattle.run_acts.specs.run_crew.declared.cabin.Cabin.{Cabin}
use Rattle.run_acts.specs.run_course.Telling.{IsLeft}
use Rattle.run_outcome.specs.declared.outcome.Outcome.{Outcome}
use Rattle.run_outcome.specs.Lines.{cut_at, Listed}
use Rattle.run_minutes.specs.run_promise.Origin.{Origin, start_at}
use Rattle.run_minutes.specs.Books.{HaveTime}
use Rattle.run_minutes.specs.Keeping.{with_lines}
use Rattle.run_acts.specs.run_record.Recorded.{Values, RecordBetweenSeconds}
use Rattle.run_acts.specs.run_record.Within.{Beginning, course_in, told_before, cut_values, passed_values, SecondGoesOn, AreAlike, IsAnswered, AnswersSo, stop_of as stop_of_session}
use Rattle.run_acts.proofs.run_record.Acting.{refusal-recorded, selection-recorded}
use Rattle.run_acts.proofs.run_record.ByHand.{hand-recorded}
use Rattle.run_acts.proofs.run_record.Cutting.{cut-recorded, recounted}
use Rattle.run_acts.specs.declared.run.Run.{Run}
use Rattle.run_acts.specs.Power.{is_lit, cut_run, with_cabin}
use Rattle.run_acts.specs.Recording.{log_of, values_of, IsOrigin, RunWithin, RunCut, InSecondBy, InSecond, RunFails, RunGoesOn, IsNow}
use Rattle.recorder_with_cards.specs.Acting.{IsSelected}
use Rattle.recorder_with_cards.specs.Recorded.{Inside, ActsBy}
use Rattle.recorder_with_cards.proofs.SlotLines.{whose, none-of-both, stops-hand, stop-by-session, refusal-by-slots, log-one, log-stop, values-slots, stops-one}
use Rattle.log_model.specs.declared.lines.Refused.{Refused}
use Rattle.log_model.specs.declared.lines.Mark.{Mark}
use Rattle.log_model.specs.ByHand.{minute_on, stops, is_stop}
use Rattle.run_acts.specs.run_course.Moments.{and_refused}
use Rattle.run_acts.specs.Closings.{notes_within}
use Rattle.run_acts.specs.Truths.{truths_within, marked}
use Rattle.run_acts.specs.Stays.{AllStay}
use Rattle.run_acts.proofs.AllStay.{all-noted, log-self, same-on, no-cut}
use Rattle.run_acts.proofs.NotesThen.{select-now, hand-now, refuse-now}
use Rattle.run_minutes.specs.Keeping.{session_at}
use Rattle.run_acts.specs.ByHand.{entry_from, cabin_holding, entered_run, stop_of, stop_by, stopped_in, stop_in, holding}
use Rattle.run_acts.proofs.ByHand.{holding-slots, holding-alike, cards-same, taken-there}
use Rattle.run_acts.proofs.HeldStays.{all-holding}
use Rattle.std.specs.Prelude.{option_map}
use Rattle.trace_model.specs.declared.Card.TheVariants.{A, B}
use Rattle.run_acts.specs.run_crew.declared.cards.Accepted.{Accepted}
use Rattle.run_acts.specs.run_crew.declared.cards.Cards.{Cards}
use Rattle.run_acts.specs.run_crew.Cards.{session_of}
use Rattle.run_acts.proofs.run_crew.Sessions.{session_set, session_apart}

-- ---- with power, or cut

module _ (o : Origin) (done : List TraceSecond) (s : TraceSecond) (run : Run) (out : Outcome) (d : Devices) where
  pub cut-in : (n : ℕ) → RunCut o done s run out d → InSecond o done s n run out d
  cut-in n h = subst (λ (b : Bool). InSecondBy b o done s n run out d) (sym (ap is_lit h.lost)) h

-- two cards are apart either way
turned : (c d : Card) → same_card c d ≡ false → same_card d c ≡ false
turned A A is = is
turned A B is = refl
turned B A is = refl
turned B B is = is

-- ---- one action

module _ (o : Origin) (done : List TraceSecond) (s : TraceSecond) (speed : ℕ) (run : Run) (before : Outcome) (d : Devices) (now : IsNow s speed run)
    (front : List Action) (a : Action) (rest : List Action) (are : s.actions ≡ front ++ a ∷ rest) (h : RunWithin o done s (In (length front)) [] [] run before d) where
  -- slots and speed refuse it in the log as they do in the slots
  pub refuses : (r : Option SlotFault) → refusal (logged run.keeper.cabin.slots.seats) speed a ≡ r → refusal (course_in h.within.b done s (In (length front)) (values_of run before).log).slots s.speed a ≡ r
  refuses r is =
      let w = h.within in
      let c = course_in w.b done s (In (length front)) (values_of run before).log in
      refuse-alike run.keeper.cabin.slots.seats c.slots s.speed a (slots-agree (start_at o) (told_before w.b done) (w.b.run.book.sure ++ w.new) c.left s.number w.from c.slots run.keeper.cabin.slots w.tells)
      ∙ ap (λ (k : ℕ). refusal (logged run.keeper.cabin.slots.seats) k a) now.speed_is ∙ is

  -- the odometer is that of the same span
  same-odometer : (b : Beginning) → b ≡ h.within.b → run.keeper.odometer ≡ odometer_after (odometer_at o.recording.unit) b.travel.before
  same-odometer b is = h.odometer ∙ ap (λ (x : Beginning). odometer_after (odometer_at o.recording.unit) x.travel.before) (sym is)

  -- slots or speed refuse it
  refused-slots : (fault : SlotFault) → refusal (logged run.keeper.cabin.slots.seats) speed a ≡ Some fault → (after : Outcome) → after ≡ record before { refused = with_lines (record { second = run.next; fault = fault; begun = suc (length front) } ∷ []) before.refused }
      → RunGoesOn o done s (In (suc (length front))) [] run after d h.within.b
  refused-slots fault is after told =
      let line : Refused = record { second = s.number; fault = fault; begun = suc (length front) } in
      let pre : Outcome = record before { refused = with_lines (line ∷ []) before.refused } in
      let same : log_of pre ≡ and_refused (log_of before) line = log-one before line (refusal-by-slots (logged run.keeper.cabin.slots.seats) speed a fault is) in
      let g : SecondGoesOn o done s (In (suc (length front))) [] None [] (values_of run pre) d h.within.b h.within.from =
      subst (λ (v : Values). SecondGoesOn o done s (In (suc (length front))) [] None [] v d h.within.b h.within.from) (sym (values-slots run before line (refusal-by-slots (logged run.keeper.cabin.slots.seats) speed a fault is)))
      (refusal-recorded d o done s (values_of run before) front a rest are h.within fault (refuses (Some fault) is)) in
      subst (λ (x : Outcome). RunGoesOn o done s (In (suc (length front))) [] run x d h.within.b) (sym told)
      (subst (λ (u : ℕ). RunGoesOn o done s (In (suc (length front))) [] run (record before { refused = with_lines (record { second = u; fault = fault; begun = suc (length front) } ∷ []) before.refused }) d h.within.b) now.number
      (record {
        goes = record {
          origin = h.origin;
          vehicle = h.vehicle;
          lit = h.lit;
          within = g.within;
          odometer = same-odometer g.within.b g.began;
          stay = subst (λ (b : Beginning). AllStay o (marked before.marks.items (truths_within o b.run.log done s)) s.number (log_of pre) (notes_within b done s (In (suc (length front))) (log_of pre)) run.keeper.memory.registration run.keeper.cabin d) (sym g.began)
              (subst (λ (l : RunLog). AllStay o (marked before.marks.items (truths_within o h.within.b.run.log done s)) s.number l (notes_within h.within.b done s (In (suc (length front))) l) run.keeper.memory.registration run.keeper.cabin d) (sym same)
              (all-noted o (marked before.marks.items (truths_within o h.within.b.run.log done s)) s.number (log_of before) (and_refused (log_of before) line) (notes_within h.within.b done s (In (length front)) (log_of before)) (notes_within h.within.b done s (In (suc (length front))) (and_refused (log_of before) line))
              run.keeper.memory.registration run.keeper.cabin d (same-on o (log_of before) (and_refused (log_of before) line) d refl refl)
              (λ whose known c in_. refuse-now o done s front rest a are (values_of run before) d h.within fault (refuses (Some fault) is) line c) h.stay));
        };
        began = g.began;
      }))

  -- an activity is selected
  pub selected : (slot : Slot) (pick : Pick) → a ≡ Select slot pick → refusal (logged run.keeper.cabin.slots.seats) speed a ≡ None → (new : Run) → IsSelected (Select slot pick) run new
      → RunGoesOn o done s (In (suc (length front))) [] new before d h.within.b
  selected slot pick is allowed new picks =
      let w = h.within in
      let c = course_in w.b done s (In (length front)) (values_of run before).log in
      let g = selection-recorded d o done s (values_of run before) front slot pick rest (subst (λ (x : Action). s.actions ≡ front ++ x ∷ rest) is are) w
      (subst (λ (x : Action). refusal c.slots s.speed x ≡ None) is (refuses None allowed)) new.minutes (picks.1 w.sp w.minutes) in
      subst (λ (r : Run). RunGoesOn o done s (In (suc (length front))) [] r before d h.within.b) (sym picks.0)
      (record {
        goes = record {
          origin = h.origin;
          vehicle = h.vehicle;
          lit = h.lit;
          within = g.within;
          odometer = same-odometer g.within.b g.began;
          stay = subst (λ (b : Beginning). AllStay o (marked before.marks.items (truths_within o b.run.log done s)) s.number (log_of before) (notes_within b done s (In (suc (length front))) (log_of before)) run.keeper.memory.registration run.keeper.cabin d) (sym g.began)
              (all-noted o (marked before.marks.items (truths_within o h.within.b.run.log done s)) s.number (log_of before) (log_of before) (notes_within h.within.b done s (In (length front)) (log_of before)) (notes_within h.within.b done s (In (suc (length front))) (log_of before)) run.keeper.memory.registration run.keeper.cabin d
              (log-self o (log_of before) d) (λ whose known c in_. select-now o done s front rest slot pick (subst (λ (x : Action). s.actions ≡ front ++ x ∷ rest) is are) (values_of run before) d h.within c) h.stay);
        };
        began = g.began;
      })

  -- an entry by hand passes the slots: it is held, or a session stops it; the log is the same
  passed-by : (slot : Slot) (pick : Pick) (minute : ℕ) → a ≡ Manual slot pick minute → refusal (logged run.keeper.cabin.slots.seats) speed a ≡ None → (cabin : Cabin) → cabin.slots ≡ run.keeper.cabin.slots → AreAlike run.keeper.cabin.cards cabin.cards → (after : Outcome) → log_of after ≡ log_of before
      → after.marks ≡ before.marks → ((card : Card) → card_in (seat_in run.keeper.cabin.slots.seats slot) ≡ Some card → IsAnswered run.next (suc (length front)) (entry_from slot pick (minute_on run.next minute)) card run.keeper.cabin.cards cabin.cards (stops before.refused.items) (stops after.refused.items))
      → AllStay o (marked before.marks.items (truths_within o h.within.b.run.log done s)) s.number (log_of before) (notes_within h.within.b done s (In (length front)) (log_of before)) run.keeper.memory.registration cabin d
      → RunGoesOn o done s (In (suc (length front))) [] (with_cabin cabin run) after d h.within.b
  passed-by slot pick minute is allowed cabin slots alike after log marks answers stays =
      let here : s.actions ≡ front ++ Manual slot pick minute ∷ rest = subst (λ (x : Action). s.actions ≡ front ++ x ∷ rest) is are in
      let first = hand-recorded d o done s (values_of run before) front slot pick minute rest here h.within (subst (λ (x : Action). refusal (course_in h.within.b done s (In (length front)) (values_of run before).log).slots s.speed x ≡ None) is (refuses None allowed)) cabin slots alike (stops after.refused.items)
      (λ card there. subst (λ (u : ℕ). IsAnswered u (suc (length front)) (entry_from slot pick (minute_on u minute)) card run.keeper.cabin.cards cabin.cards (stops before.refused.items) (stops after.refused.items)) (sym now.number) (answers card there)) in
      let g : SecondGoesOn o done s (In (suc (length front))) [] None [] (values_of (with_cabin cabin run) after) d h.within.b h.within.from =
      subst (λ (l : RunLog). SecondGoesOn o done s (In (suc (length front))) [] None [] (record (values_of (with_cabin cabin run) after) { log = l }) d h.within.b h.within.from) (sym log)
      (subst (λ (ms : List Mark). SecondGoesOn o done s (In (suc (length front))) [] None [] (record (values_of (with_cabin cabin run) before) { marks = ms; stops = stops after.refused.items }) d h.within.b h.within.from) (sym (ap (λ (l : Listed Mark). l.items) marks)) first) in
      record {
        goes = record {
          origin = h.origin;
          vehicle = h.vehicle;
          lit = h.lit;
          within = g.within;
          odometer = same-odometer g.within.b g.began;
          stay = subst (λ (b : Beginning). AllStay o (marked after.marks.items (truths_within o b.run.log done s)) s.number (log_of after) (notes_within b done s (In (suc (length front))) (log_of after)) run.keeper.memory.registration cabin d) (sym g.began)
              (subst (λ (ms : List Mark). AllStay o (marked ms (truths_within o h.within.b.run.log done s)) s.number (log_of after) (notes_within h.within.b done s (In (suc (length front))) (log_of after)) run.keeper.memory.registration cabin d) (sym (ap (λ (l : Listed Mark). l.items) marks))
              (subst (λ (l : RunLog). AllStay o (marked before.marks.items (truths_within o h.within.b.run.log done s)) s.number l (notes_within h.within.b done s (In (suc (length front))) l) run.keeper.memory.registration cabin d) (sym log)
              (all-noted o (marked before.marks.items (truths_within o h.within.b.run.log done s)) s.number (log_of before) (log_of before) (notes_within h.within.b done s (In (length front)) (log_of before)) (notes_within h.within.b done s (In (suc (length front))) (log_of before)) run.keeper.memory.registration cabin d
              (log-self o (log_of before) d) (λ whose known c in_. hand-now o done s front rest slot pick minute here (values_of run before) d h.within c) stays)));
        };
        began = g.began;
      }

  -- why the session of a card stops it, if it does
  stop-is : (slot : Slot) (minute : ℕ) (why : Option SlotFault) → stop_of slot minute run ≡ why → (card : Card) → card_in (seat_in run.keeper.cabin.slots.seats slot) ≡ Some card → (x : Accepted) → session_of run.keeper.cabin.cards card ≡ Some x → stop_of_session x (minute_on run.next minute) ≡ why
  stop-is slot minute why is card there x some =
      sym (ap (λ (q : Option Card). stop_in (session_at run.keeper.cabin.cards q) (minute_on run.next minute)) there ∙ ap (λ (q : Option Accepted). stop_in q (minute_on run.next minute)) some) ∙ is

  -- that holds it
  held-answers : (slot : Slot) (pick : Pick) (minute : ℕ) → stop_of slot minute run ≡ None → (card : Card) → card_in (seat_in run.keeper.cabin.slots.seats slot) ≡ Some card
      → IsAnswered run.next (suc (length front)) (entry_from slot pick (minute_on run.next minute)) card run.keeper.cabin.cards (cabin_holding (entry_from slot pick (minute_on run.next minute)) (card_in (seat_in run.keeper.cabin.slots.seats slot)) run.keeper.cabin).cards (stops before.refused.items) (stops before.refused.items)
  held-answers slot pick minute takes card there x some =
      let e : HandEntry = entry_from slot pick (minute_on run.next minute) in
      let cards : Cards = run.keeper.cabin.cards in
      let lines : List Refused = stops before.refused.items in
      subst (λ (why : Option SlotFault). AnswersSo why run.next (suc (length front)) e card cards (cabin_holding e (card_in (seat_in run.keeper.cabin.slots.seats slot)) run.keeper.cabin).cards lines lines) (sym (stop-is slot minute None takes card there x some))
      (subst (λ (q : Option Card). AnswersSo None run.next (suc (length front)) e card cards (cabin_holding e q run.keeper.cabin).cards lines lines) (sym there) (
        refl,
        λ c apart. session_apart card c (option_map (holding e) (session_of cards card)) cards (turned card c apart),
        λ y has. session_set card (option_map (holding e) (session_of cards card)) cards ∙ ap (option_map (holding e)) has,
      ))

  -- or a line tells it
  stopped-answers : (slot : Slot) (pick : Pick) (minute : ℕ) (fault : SlotFault) → stop_of slot minute run ≡ Some fault → is_stop fault ≡ true → (card : Card) → card_in (seat_in run.keeper.cabin.slots.seats slot) ≡ Some card → (after : Outcome)
      → after ≡ record before { refused = with_lines (record { second = run.next; fault = fault; begun = suc (length front) } ∷ []) before.refused }
      → IsAnswered run.next (suc (length front)) (entry_from slot pick (minute_on run.next minute)) card run.keeper.cabin.cards run.keeper.cabin.cards (stops before.refused.items) (stops after.refused.items)
  stopped-answers slot pick minute fault why stop card there after told x some =
      let e : HandEntry = entry_from slot pick (minute_on run.next minute) in
      let cards : Cards = run.keeper.cabin.cards in
      let line : Refused = record { second = run.next; fault = fault; begun = suc (length front) } in
      subst (λ (w : Option SlotFault). AnswersSo w run.next (suc (length front)) e card cards cards (stops before.refused.items) (stops after.refused.items)) (sym (stop-is slot minute (Some fault) why card there x some))
      (ap (λ (y : Outcome). stops y.refused.items) told ∙ stops-one before.refused.items line stop, λ c. refl)

  -- nothing stops it
  pub entered : (slot : Slot) (pick : Pick) (minute : ℕ) → a ≡ Manual slot pick minute → stopped_in run speed a ≡ None → RunGoesOn o done s (In (suc (length front))) [] (entered_run slot pick minute run) before d h.within.b
  entered slot pick minute is unstopped =
      let none = none-of-both run speed a unstopped in
      let cabin = run.keeper.cabin in
      let card : Option Card = card_in (seat_in cabin.slots.seats slot) in
      let e : HandEntry = entry_from slot pick (minute_on run.next minute) in
      let takes : stop_of slot minute run ≡ None = subst (λ (x : Action). stop_by x run ≡ None) is none.1 in
      passed-by slot pick minute is none.0 (cabin_holding e card cabin) (holding-slots e card cabin) (holding-alike e card cabin) before refl refl (held-answers slot pick minute takes)
      (all-holding o (marked before.marks.items (truths_within o h.within.b.run.log done s)) s.number (log_of before) (notes_within h.within.b done s (In (length front)) (log_of before)) run.keeper.memory.registration cabin card e d (taken-there (session_at cabin.cards card) (minute_on run.next minute) takes) h.stay)

  alike-self : AreAlike run.keeper.cabin.cards run.keeper.cabin.cards
  alike-self = cards-same run.keeper.cabin.cards

  -- a session stops it
  stopped-by : (fault : SlotFault) → refusal (logged run.keeper.cabin.slots.seats) speed a ≡ None → stop_by a run ≡ Some fault → (after : Outcome) → after ≡ record before { refused = with_lines (record { second = run.next; fault = fault; begun = suc (length front) } ∷ []) before.refused }
      → RunGoesOn o done s (In (suc (length front))) [] run after d h.within.b
  stopped-by fault passes stop after told =
      let hand = stops-hand a run fault stop in
      let line : Refused = record { second = run.next; fault = fault; begun = suc (length front) } in
      passed-by hand.0 hand.1 hand.2 hand.3 passes run.keeper.cabin refl alike-self after (ap log_of told ∙ log-stop before line (stop-by-session a run fault stop)) (ap (λ (x : Outcome). x.marks) told)
      (λ card there. stopped-answers hand.0 hand.1 hand.2 fault (subst (λ (x : Action). stop_by x run ≡ Some fault) hand.3 stop) (stop-by-session a run fault stop) card there after told) h.stay

  -- IT IS REFUSED, by slots and speed, or by a session
  pub refused : (fault : SlotFault) → stopped_in run speed a ≡ Some fault → (after : Outcome) → after ≡ record before { refused = with_lines (record { second = run.next; fault = fault; begun = suc (length front) } ∷ []) before.refused }
      → RunGoesOn o done s (In (suc (length front))) [] run after d h.within.b
  refused fault is after told =
      ⊎_elim (λ slots. refused-slots fault slots after told) (λ session. stopped-by fault session.0 session.1 after told) (whose run speed a fault is)

-- ---- the unit has failed: power is cut

-- the actions behind this one are left
pub left : (front rest : List Action) (a : Action) (s : TraceSecond) {begun : ℕ} → begun ≡ suc (length front) → s.actions ≡ front ++ a ∷ rest → IsLeft s (In begun) rest
left front rest a s here are = (front ++ a ∷ [], are ∙ sym (append_assoc front (a ∷ []) rest), let long = length-append front (a ∷ []) in omega (arith, long, here))

pub cut : (o : Origin) (done : List TraceSecond) (s : TraceSecond) (begun : ℕ) (rest : List Action) (run new : Run) (out after : Outcome) (d : Devices) → IsOrigin o → s.number ≡ run.next → IsLeft s (In begun) rest
    → RunFails o done s (In begun) run out d → new ≡ cut_run run.next run → after ≡ record out { breaks = with_lines (cut_at run.next true begun ∷ []) out.breaks } → RunCut o done s new after d
cut o done s begun rest run new out after d origin number left fails is told =
    let v : Values = record (values_of run out) { cabin = fails.cabin; odometer = fails.odometer } in
    let r = recounted o (done ++ s ∷ []) (cut_values s (In begun) v) d run.keeper.odometer (cut-recorded o done s (In begun) fails.waits None v d fails.within rest left) in
    subst (λ (x : Outcome). RunCut o done s new x d) (sym told)
    (subst (λ (x : Run). RunCut o done s x (record out { breaks = with_lines (cut_at run.next true begun ∷ []) out.breaks }) d) (sym is)
    (subst (λ (u : ℕ). RunCut o done s (cut_run u run) (record out { breaks = with_lines (cut_at u true begun ∷ []) out.breaks }) d) number
    (record {
      origin = origin;
      vehicle = fails.vehicle;
      lost = refl;
      recorded = subst (λ (cabin : Cabin). RecordBetweenSeconds o (done ++ s ∷ []) IsLost
          (passed_values s (record (values_of run (record out { breaks = with_lines (cut_at s.number true begun ∷ []) out.breaks })) { cabin = cabin })) d) fails.same r;
      failed = λ none. no-cut (log_of out) s.number begun none;
    })))

-- ---- some actions, and then others

pub actions-then : (I : Inside) (xs ys : List Action) (m n speed : ℕ) (a b c : Run) (p q r : Outcome) (d e f : Devices) → n ≡ m + length ys → b.next ≡ a.next → (HaveTime f → HaveTime e)
    → ActsBy I xs m speed a b p q d e → ActsBy I ys n speed b c q r e f → ActsBy I (xs ++ ys) n speed a c p r d f
actions-then I xs ys m n speed a b c p q r d e f is next earlier first later o done s now front rest are begun in_ time =
    let many = length-append xs ys in
    let mid : I o done s m b q e = first o done s now front (ys ++ rest) (are ∙ ap (λ (l : List Action). front ++ l) (append_assoc xs ys rest)) (omega (arith, begun, many, is)) in_ (earlier time) in
    let at : m ≡ length (front ++ xs) = let long = length-append front xs in omega (arith, begun, many, is, long) in
    later o done s (record { number = now.number ∙ sym next; given = now.given; speed_is = now.speed_is }) (front ++ xs) rest
    (are ∙ ap (λ (l : List Action). front ++ l) (append_assoc xs ys rest) ∙ sym (append_assoc front xs (ys ++ rest))) (omega (arith, is, at))
    (subst (λ (k : ℕ). I o done s k b q e) at mid) time

-- no action
pub no-action : (I : Inside) (n speed : ℕ) (run : Run) (out : Outcome) (d : Devices) → ActsBy I [] n speed run run out out d d
no-action I n speed run out d o done s now front rest are begun in_ time = subst (λ (k : ℕ). I o done s k run out d) (let e : length front ≡ n = omega (arith, begun) in e) in_
