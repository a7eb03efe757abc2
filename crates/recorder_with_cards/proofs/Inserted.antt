-- A card is put into a slot: the minutes before are kept, and then it is judged.
use Rattle.std.proofs.Common.{◌≡◌, ◌∙◌, inr, ⊎_elim, ℕ, suc, ◌+◌, ◌≤◌, Bool, true, false, Option, Some, None, is_some, List, [], ◌∷◌, ◌++◌, length, refl, ap, sym, subst, arith, append-nil, append_assoc, length-append}
use Rattle.std.specs.Prelude.{slice_get}
use Rattle.activity_codec.specs.declared.values.Slot.{Slot}
use Rattle.activity_codec.specs.declared.values.Slot.TheVariants.{Driver, CoDriver}
use Rattle.trace_model.specs.declared.Card.{Card}
use Rattle.trace_model.specs.declared.Action.{Action}
use Rattle.trace_model.specs.declared.Action.TheVariants.{Insert}
use Rattle.trace_model.specs.Trace.{TraceSecond}
use Rattle.minute_rules.specs.minute_model.declared.Minute.{Minute}
use Rattle.minute_rules.specs.minute_model.Span.{Span, settled, decided_in, travelled_of}
use Rattle.minute_rules.specs.Kept.{CountsSpan}
use Rattle.log_model.specs.declared.lines.Break.{Break}
use Rattle.activity_codec.specs.Activity.{same_slot}
use Rattle.log_model.specs.Log.{In, found_in}
use Rattle.log_model.specs.Slots.{refusal, other_slot, same_card}
use Rattle.log_model.specs.Course.{Visit, ToldSecond}
use Rattle.log_model.specs.ByHand.{by_slots}
use Rattle.unit_minutes.specs.unit_model.Image.{odometer_at}
use Rattle.device_calls.specs.unit_rule.Odometer.{odometer_by, odometer_after}
use Rattle.device_calls.specs.note_model.Odometer.{SpanFrom}
use Rattle.device_calls.specs.safety_model.Safe.{Devices}
use Rattle.run_minutes.specs.card_slots.Calls.{Seats, seat_in, is_card, logged}
use Rattle.run_acts.specs.run_course.Moment.{entering_by}
use Rattle.run_outcome.specs.declared.outcome.Outcome.{Outcome}
use Rattle.run_acts.specs.run_rings.Spans.{with_second}
use Rattle.run_acts.specs.run_note_record.Ringed.{since_in}
use Rattle.run_acts.specs.run_note_record.OnCards.{CardsStay}
use Rattle.run_minutes.specs.run_promise.Origin.{Origin}
use Rattle.run_minutes.specs.declared.keeper.Moment.{Moment}
use Rattle.run_minutes.specs.Books.{HaveTime}
use Rattle.run_minutes.specs.Keeping.{Fate, Still, Has, Fell, breaks_by, tear_of}
use Rattle.run_minutes.specs.Minutes.{KeepingState, AreKept, none, more}
use Rattle.run_acts.specs.run_record.Within.{Beginning}
use Rattle.run_acts.specs.run_record.Taking.{IsPutIntoSlot, AreTearsAt, MayBeJudged}
use Rattle.run_acts.proofs.run_record.Putting.{card-put, entered-next}
use Rattle.run_acts.specs.declared.run.Run.{Run}
use Rattle.run_acts.specs.run_crew.Cabin.{SitsThere, CabinIsSound, with_card_in}
use Rattle.run_acts.specs.run_crew.Cards.{session_of}
use Rattle.run_acts.specs.run_crew.declared.cards.Accepted.{Accepted}
use Rattle.device_calls.specs.note_model.Noted.{Note}
use Rattle.run_minutes.specs.card_slots.declared.seats.Seat.{Seat}
use Rattle.run_acts.specs.Closings.{spells_of, last_slot, notes_within}
use Rattle.run_acts.specs.Truths.{truths_within, marked}
use Rattle.run_acts.specs.Stays.{sits_in, IsPlaced, AllStay}
use Rattle.run_acts.proofs.AllStay.{Moves, moves-bare, moves-same, placed-bare, placed-same, all-moved, log-self}
use Rattle.run_acts.proofs.SeatsThen.{same-as, put-other, filled-slot}
use Rattle.run_acts.proofs.NotesThen.{put-now}
use Rattle.recorder_with_cards.proofs.Allowed.{insert-empty, insert-elsewhere}
use Rattle.run_acts.specs.run_note_record.Noting.{Acting}
use Rattle.run_acts.specs.run_note_record.EventsSoFar.{EventedNow, puts_into}
use Rattle.run_acts.specs.Acting.{IsSettled, IsBareIn, told_of}
use Rattle.run_acts.specs.Evented.{EventsGoOn, EventsSettling, IsUntold}
use Rattle.run_acts.specs.Recording.{log_of, values_of, RunWithin, RunFails, GoesOnOrFails, IsNow}
use Rattle.run_acts.specs.Settling.{settled_run, RecordsSettling, SettlesTo, IsSettledIn}
use Rattle.recorder_with_cards.specs.Accepting.{put_run}
use Rattle.recorder_with_cards.specs.Judged.{moment_in, RunNext, JudgesSo, IsInTurn, EventsJudged}
use Rattle.recorder_with_cards.specs.JudgedRings.{RingsJudged, IsJudgedInRings, IsOdometerOf}
use Rattle.recorder_with_cards.specs.JudgedCards.{CardsJudged, IsJudgedOnCards}
use Rattle.run_acts.specs.RunCards.{vehicle_in, PlacesSettling}
use Rattle.run_acts.specs.RunRinged.{AreSpansNow}
use Rattle.run_minutes.specs.unit_memory.declared.memory.UnitFacts.{UnitFacts}
use Rattle.recorder_with_cards.proofs.Staying.{settled-watched}
use Rattle.recorder_with_cards.proofs.ActsRecorded.{refuses}
use Rattle.recorder_with_cards.proofs.Resumed.{judged-as}

-- ---- the lines of a settling tell of tears at its moment

tears-both : (s : TraceSecond) (n : ℕ) (xs ys : List Break) → AreTearsAt s (In n) xs → AreTearsAt s (In n) ys → AreTearsAt s (In n) (xs ++ ys)
tears-both s n [] ys first second = second
tears-both s n (x ∷ xs) ys first second = (first.0, tears-both s n xs ys first.1 second)

tears-by : (s : TraceSecond) (n : ℕ) (at : Moment) → at ≡ moment_in s n → n ≤ length s.actions → (fate : Fate) (slot : Slot) → AreTearsAt s (In n) (breaks_by fate slot at)
tears-by s n at now le Still slot = tt
tears-by s n at now le (Has accepted clock) slot = tt
tears-by s n at now le Fell slot = ((slot, true, (n, false, ap (λ (m : Moment). tear_of slot m) now, refl, le, λ late. absurd (let bad : false ≡ true = late in cc))), tt)

tears-kept : (s : TraceSecond) (n : ℕ) (at : Moment) → at ≡ moment_in s n → n ≤ length s.actions → (ms : List Minute) (t u : KeepingState) → AreKept at ms t u →
    (lines : List Break) × (u.breaks.items ≡ t.breaks.items ++ lines) × AreTearsAt s (In n) lines
tears-kept s n at now le ms t u (none v) = ([], sym (append-nil v.breaks.items), tt)
tears-kept s n at now le ms t u (more m front round v mid kept is) =
    let before = tears-kept s n at now le front v mid kept in
    let driver : List Break = breaks_by round.driver Driver at in
    let codriver : List Break = breaks_by round.codriver CoDriver at in (
      (before.0 ++ driver) ++ codriver,
      ap (λ (xs : List Break). (xs ++ driver) ++ codriver) before.1 ∙ ap (λ (xs : List Break). xs ++ codriver) (append_assoc v.breaks.items before.0 driver) ∙ append_assoc v.breaks.items (before.0 ++ driver) codriver,
      tears-both s n (before.0 ++ driver) codriver (tears-both s n before.0 driver before.2 (tears-by s n at now le round.driver Driver)) (tears-by s n at now le round.codriver CoDriver),
    )

-- ---- the slot into which an action puts its card

get-at : (front : List Action) (a : Action) (rest : List Action) → slice_get (front ++ a ∷ rest) (length front) ≡ Some a
get-at [] a rest = refl
get-at (x ∷ front) a rest = get-at front a rest

slot-is : (x y : Slot) → same_slot x y ≡ true → x ≡ y
slot-is Driver Driver is = refl
slot-is Driver CoDriver is = absurd (cc)
slot-is CoDriver Driver is = absurd (cc)
slot-is CoDriver CoDriver is = refl

slots-apart : (slot : Slot) → same_slot slot (other_slot slot) ≡ false
slots-apart Driver = refl
slots-apart CoDriver = refl

-- a card that may be put in sits nowhere
nowhere-put : (seats : Seats) (slot : Slot) (card : Card) (speed : ℕ) → refusal (logged seats) speed (Insert slot card) ≡ None → SitsThere seats card → ⊥
nowhere-put seats Driver card speed allowed there =
    ⊎_elim
    (λ driver. let wrong : false ≡ true = sym (ap (λ (q : Option Seat). is_card q card) (insert-empty seats Driver card speed allowed)) ∙ driver in cc)
    (λ codriver. let wrong : false ≡ true = sym (insert-elsewhere seats Driver card speed allowed) ∙ codriver in cc) there
nowhere-put seats CoDriver card speed allowed there =
    ⊎_elim
    (λ driver. let wrong : false ≡ true = sym (insert-elsewhere seats CoDriver card speed allowed) ∙ driver in cc)
    (λ codriver. let wrong : false ≡ true = sym (ap (λ (q : Option Seat). is_card q card) (insert-empty seats CoDriver card speed allowed)) ∙ codriver in cc) there

-- ---- A CARD IS PUT IN

module _ (slot : Slot) (card : Card) (at : Moment) (speed : ℕ) (old : Run) (before : Outcome) (d : Devices) (o : Origin) (done : List TraceSecond) (s : TraceSecond) (now : IsNow s speed old) (front rest : List Action) (actions : s.actions ≡ front ++ Insert slot card ∷ rest)
    (second : at.second ≡ old.next) (begun : at.begun ≡ suc (length front)) (late : at.late ≡ false) (allowed : refusal (logged old.keeper.cabin.slots.seats) speed (Insert slot card) ≡ None) (h : RunWithin o done s (In (length front)) [] [] old before d)
    (low : ℕ) (seated : CabinIsSound low None old.keeper.cabin) where
  abbrev n : ℕ
  n = length front

  pub at-is : at ≡ moment_in s (suc n)
  at-is =
      ap (λ (x : ℕ). record { second = x; begun = at.begun; late = at.late }) (second ∙ sym now.number)
      ∙ ap (λ (x : ℕ). record { second = s.number; begun = x; late = at.late }) begun
      ∙ ap (λ (x : Bool). record { second = s.number; begun = suc n; late = x }) late

  -- nothing is noted of it yet; it has no session, and the other card sits as it did
  abbrev notes-before : List Note
  notes-before = notes_within h.within.b done s (In (length front)) (log_of before)

  abbrev notes-put : List Note
  notes-put = notes_within h.within.b done s (In (suc (length front))) (log_of before)

  same-notes : (c : Card) → spells_of c notes-put ≡ spells_of c notes-before
  same-notes c = put-now o done s front rest slot card actions (values_of old before) d h.within (refuses o done s speed old before d now front (Insert slot card) rest actions h None allowed) c

  -- it sat nowhere
  no-session : session_of old.keeper.cabin.cards card ≡ None
  no-session = by (session_of old.keeper.cabin.cards card) refl
    where
      by : (q : Option Accepted) → session_of old.keeper.cabin.cards card ≡ q → session_of old.keeper.cabin.cards card ≡ None
      by None is = is
      by (Some a) is =
          ⊎_elim
          (λ there. absurd (nowhere-put old.keeper.cabin.slots.seats slot card speed allowed there))
          (λ leaving. absurd (let wrong : None ≡ Some card = leaving in cc))
          (seated.only card (ap (λ (q : Option Accepted). is_some q) is))

  abbrev Puts : Card → Type 0
  Puts c = Moves s.number (spells_of c notes-before) (spells_of c notes-put) (sits_in old.keeper.cabin.slots.seats c) (sits_in (with_card_in slot card old.keeper.cabin).slots.seats c) (session_of old.keeper.cabin.cards c) (session_of old.keeper.cabin.cards c)

  each-put : (c : Card) → Puts c
  each-put c = by (same_card card c) refl
    where
      by : (b : Bool) → same_card card c ≡ b → Puts c
      by true mine =
          subst Puts (same-as card c mine)
          (moves-bare s.number (spells_of card notes-before) (spells_of card notes-put) (sits_in old.keeper.cabin.slots.seats card) (sits_in (with_card_in slot card old.keeper.cabin).slots.seats card) (session_of old.keeper.cabin.cards card)
          (session_of old.keeper.cabin.cards card) (same-notes card) no-session no-session)
      by false other =
          moves-same s.number (spells_of c notes-before) (spells_of c notes-put) (sits_in old.keeper.cabin.slots.seats c) (sits_in (with_card_in slot card old.keeper.cabin).slots.seats c) (session_of old.keeper.cabin.cards c) (session_of old.keeper.cabin.cards c)
          (same-notes c) (put-other old.keeper.cabin.slots.seats slot card c None (insert-empty old.keeper.cabin.slots.seats slot card speed allowed) other) refl

  -- the others sit where they sat
  places-put : (c : Card) → IsPlaced notes-before old.keeper.cabin c → IsPlaced notes-put (with_card_in slot card old.keeper.cabin) c
  places-put c was = by (same_card card c) refl
    where
      by : (b : Bool) → same_card card c ≡ b → IsPlaced notes-put (with_card_in slot card old.keeper.cabin) c
      by true mine = subst (λ (x : Card). IsPlaced notes-put (with_card_in slot card old.keeper.cabin) x) (same-as card c mine) (placed-bare notes-put (with_card_in slot card old.keeper.cabin) card no-session)
      by false other =
          placed-same notes-before notes-put old.keeper.cabin (with_card_in slot card old.keeper.cabin) c (ap last_slot (same-notes c)) (λ at_ there. filled-slot old.keeper.cabin.slots.seats slot at_ card c None other there) (λ some. some) was

  pub stays-put : AllStay o (marked before.marks.items (truths_within o h.within.b.run.log done s)) s.number (log_of before) notes-put old.keeper.memory.registration (with_card_in slot card old.keeper.cabin) d
  stays-put =
      all-moved o (marked before.marks.items (truths_within o h.within.b.run.log done s)) s.number (log_of before) (log_of before) notes-before notes-put old.keeper.memory.registration old.keeper.cabin (with_card_in slot card old.keeper.cabin) d (log-self o (log_of before) d) (λ whose known c in_. each-put c) (λ whose known c in_. places-put c) h.stay

  within-actions : suc n ≤ length s.actions
  within-actions = let all = ap (λ (xs : List Action). length xs) actions in let long = length-append front (Insert slot card ∷ rest) in omega (arith, all, long)

  -- these minutes are to be kept then
  module _ (mid : Run) (told : Outcome) (failed : Bool) (settles : IsSettled at failed (put_run slot card old) mid before told) (decided : List Minute) (given : (span : Span) → CountsSpan old.minutes span → decided_in (settled span) ≡ decided_in span ++ decided) where
    pub put : IsPutIntoSlot o done s (values_of old before) d front slot card mid.minutes decided h.within
    put = card-put d o done s (values_of old before) front slot card rest actions h.within (refuses o done s speed old before d now front (Insert slot card) rest actions h None allowed)
        mid.minutes (settles.minutes h.within.sp h.within.minutes) decided (given h.within.sp h.within.minutes)

    abbrev waits : List Visit
    waits = entering_by n (Insert slot card)

    abbrev pub waiting : RunWithin o done s (In (suc n)) waits decided (settled_run mid.minutes (put_run slot card old)) before d
    waiting = record {
      origin = h.origin;
      vehicle = h.vehicle;
      lit = h.lit;
      within = put.goes.within;
      odometer = h.odometer ∙ ap (λ (b : Beginning). odometer_after (odometer_at o.recording.unit) b.travel.before) (sym put.goes.began);
      stay = subst (λ (b : Beginning). AllStay o (marked before.marks.items (truths_within o b.run.log done s)) s.number (log_of before) (notes_within b done s (In (suc (length front))) (log_of before)) old.keeper.memory.registration (with_card_in slot card old.keeper.cabin) d) (sym put.goes.began) stays-put;
    }

    -- the places stay in them, and the vehicle entries are measured
    pub settled-places : (e : Devices) → PlacesSettling decided at (put_run slot card old) mid before d e → HaveTime e → (spans : List SpanFrom) (t : ToldSecond) → AreSpansNow done s h.within.b.run.log spans old.keeper.odometer t → CardsStay o (with_second spans old.keeper.odometer t) d e
    settled-places e stay time spans t now_ = stay o done s n waits at-is waiting time spans t (subst (λ (b : Beginning). AreSpansNow done s b.run.log spans old.keeper.odometer t) (sym put.goes.began) now_)

    module _ (e : Devices) (records : RecordsSettling decided at failed (put_run slot card old) mid before told d e) (time : HaveTime e) where
      kept : SettlesTo failed o done s (In (suc n)) waits waiting.within.b waiting.within.from (waiting.within.from + length decided) (put_run slot card old) mid before told d e
      kept = records o done s (suc n) waits (omega arith) at-is waiting time

      -- the unit failed as they were kept
      pub unsettled : failed ≡ true → RunFails o done s (In at.begun) mid told e
      unsettled fails =
          let cut = subst (λ (f : Bool). SettlesTo f o done s (In (suc n)) waits waiting.within.b waiting.within.from (waiting.within.from + length decided) (put_run slot card old) mid before told d e) fails kept in
          subst (λ (m : ℕ). RunFails o done s (In m) mid told e) (sym begun) (record { waits = waits; cabin = mid.keeper.cabin; same = refl; odometer = mid.keeper.odometer; counted = λ power. refl; vehicle = ap (λ (m : UnitFacts). m.registration) (settled-watched at failed (put_run slot card old) mid before told settles).memory ∙ h.vehicle; within = cut })

      -- or they are kept, and the card is judged
      module _ (well : failed ≡ false) (seat : seat_in mid.keeper.cabin.slots.seats slot ≡ Some (record { card = card; newest = None })) where
        abbrev on : IsSettledIn o done s (In (suc n)) waits waiting.within.b waiting.within.from (waiting.within.from + length decided) (put_run slot card old) mid before told d e
        on = subst (λ (f : Bool). SettlesTo f o done s (In (suc n)) waits waiting.within.b waiting.within.from (waiting.within.from + length decided) (put_run slot card old) mid before told d e) well kept

        lines : (added : List Break) × (told.breaks.items ≡ before.breaks.items ++ added) × AreTearsAt s (In (suc n)) added
        lines =
            let all = subst (λ (f : Bool). IsSettled at f (put_run slot card old) mid before told) well settles in
            tears-kept s (suc n) at at-is within-actions all.decided (told_of (put_run slot card old) before) (told_of mid told) all.kept

        log-is : log_of told ≡ record (log_of before) { breaks = before.breaks.items ++ lines.0 }
        log-is =
            ap (λ (q : Outcome). record (log_of told) { refused = by_slots q.refused.items; finds = q.finds.items }) settles.outcome
            ∙ ap (λ (xs : List Break). record (log_of before) { breaks = xs }) lines.1

        judged : MayBeJudged o done s (In (suc n)) waits (values_of mid told) e on.goes.within slot card
        judged = entered-next d e o done s (values_of old before) front slot card mid.minutes decided h.within put (values_of mid told) on.goes.within on.began on.from lines.0 log-is lines.2 seat

        abbrev next : RunNext o done s (suc n) waits [] mid told e slot card
        next = record { goes = on.goes; next = judged.next; none = judged.none slot; order = λ is_driver. inr (judged.none CoDriver) }

        pub inserted : (judged_failed : Bool) (new : Run) (after : Outcome) (later : Devices) → JudgesSo slot card at judged_failed mid new told after e later → HaveTime later → GoesOnOrFails judged_failed o done s (In at.begun) [] new after later h.within.b
        inserted judged_failed new after later judges end =
            subst (λ (m : ℕ). GoesOnOrFails judged_failed o done s (In m) [] new after later h.within.b) (sym begun)
            (subst (λ (b : Beginning). GoesOnOrFails judged_failed o done s (In (suc n)) [] new after later b) (on.began ∙ put.goes.began)
            (judged-as judged_failed o done s (suc n) waits mid new told after e later on.goes (judges o done s (suc n) waits [] at-is next end)))

        -- its insertion in the rings, where the odometer of then is that of these spans
        pub next-judged : (spans : List SpanFrom) → ((w : RunWithin o done s (In (suc (length front))) (entering_by (length front) (Insert slot card)) [] mid told e) → w.within.b ≡ h.within.b → IsOdometerOf spans s.number (odometer_by mid.keeper.odometer (travelled_of w.within.sp))) →
            mid.noted ≤ length (log_of told).finds → (judged_failed : Bool) (new : Run) (after : Outcome) (later : Devices) → RingsJudged slot card at judged_failed mid new told after e later → HaveTime later →
            IsJudgedInRings judged_failed (since_in o h.within.b.run.log done s) s (suc (length front)) slot card spans mid new told after e later
        next-judged spans odometer counted judged_failed new after later judges end =
            subst (λ (b : Beginning). IsJudgedInRings judged_failed (since_in o b.run.log done s) s (suc n) slot card spans mid new told after e later) (on.began ∙ put.goes.began)
            (judges o done s (suc n) waits [] at-is next spans (odometer on.goes (on.began ∙ put.goes.began)) counted end)

        -- what it brings the card of events
        pub next-cards : (judged_failed : Bool) (after : Outcome) (later : Devices) → CardsJudged slot card at speed judged_failed mid told after e later → mid.keeper.memory.registration ≡ vehicle_in o → HaveTime later →
            IsJudgedOnCards judged_failed o h.within.b.run.log done s (suc (length front)) slot card told after e later
        next-cards judged_failed after later judges vehicle end =
            subst (λ (b : Beginning). IsJudgedOnCards judged_failed o b.run.log done s (suc n) slot card told after e later) (on.began ∙ put.goes.began)
            (judges o done s (suc n) waits [] at-is now.speed_is next vehicle end)

  -- ---- ITS EVENTS

  acts : slice_get s.actions (length front) ≡ Some (Insert slot card)
  acts = ap (λ (as_ : List Action). slice_get as_ (length front)) actions ∙ get-at front (Insert slot card) rest

  puts-it : (x : Slot) → puts_into x (slice_get s.actions (length front)) ≡ same_slot slot x
  puts-it x = ap (puts_into x) acts

  -- nothing is told of the action yet, and the card is not accepted in the slot into which it is put
  module _ (bare : IsBareIn (with_card_in slot card old.keeper.cabin) slot) where
    untold : IsUntold s (length front) (log_of before) (put_run slot card old).keeper.cabin
    untold = record {
      torn = λ x. h.within.moment.up_to.torn (In (suc (length front))) x (omega arith);
      found = λ x. h.within.moment.up_to.found (In (suc (length front))) x (omega arith);
      bare = λ x puts. subst (IsBareIn (with_card_in slot card old.keeper.cabin)) (slot-is slot x (sym (puts-it x) ∙ puts)) bare;
    }

    module _ (mid : Run) (told : Outcome) (failed : Bool) (settles : IsSettled at failed (put_run slot card old) mid before told) (decided : List Minute) (given : (span : Span) → CountsSpan old.minutes span → decided_in (settled span) ≡ decided_in span ++ decided)
        (e : Devices) (notes : EventsSettling decided at failed (put_run slot card old) mid before told d e) (time : HaveTime e) (now_ : EventedNow o done s h.within.b.run Acting (log_of before) d) where
      abbrev w : RunWithin o done s (In (suc (length front))) (entering_by (length front) (Insert slot card)) decided (settled_run mid.minutes (put_run slot card old)) before d
      w = waiting mid told failed settles decided given

      abbrev put-began : w.within.b ≡ h.within.b
      put-began = (put mid told failed settles decided given).goes.began

      -- the minutes before are kept
      pub settled-evented : EventsGoOn failed o done s h.within.b.run (In (suc (length front))) Acting (log_of told) e
      settled-evented =
          subst (λ (b : Beginning). EventsGoOn failed o done s b.run (In (suc (length front))) Acting (log_of told) e) put-began
          (notes o done s (length front) (entering_by (length front) (Insert slot card)) at-is w untold (subst (λ (b : Beginning). EventedNow o done s b.run Acting (log_of before) d) (sym put-began) now_) time)

      -- the unit failed as they were kept
      pub unsettled-evented : failed ≡ true → EventsGoOn true o done s h.within.b.run (In at.begun) Acting (log_of told) e
      unsettled-evented fails =
          subst (λ (m : ℕ). EventsGoOn true o done s h.within.b.run (In m) Acting (log_of told) e) (sym begun)
          (subst (λ (f : Bool). EventsGoOn f o done s h.within.b.run (In (suc (length front))) Acting (log_of told) e) fails settled-evented)

      -- or they are kept, and the card is judged
      module _ (many : List Minute) (given_ : (span : Span) → CountsSpan old.minutes span → decided_in (settled span) ≡ decided_in span ++ many) (records : RecordsSettling many at failed (put_run slot card old) mid before told d e) (well : failed ≡ false)
          (seat : seat_in mid.keeper.cabin.slots.seats slot ≡ Some (record { card = card; newest = None })) where
        abbrev next_ : RunNext o done s (suc (length front)) (entering_by (length front) (Insert slot card)) [] mid told e slot card
        next_ = next mid told failed settles many given_ e records time well seat

        abbrev all-began : next_.goes.within.b ≡ h.within.b
        all-began = (on mid told failed settles many given_ e records time well seat).began ∙ (put mid told failed settles many given_).goes.began

        none-else : (x : Slot) → found_in (log_of told) s.number (In (suc (length front))) x ≡ []
        none-else x = (judged mid told failed settles many given_ e records time well seat).none x

        turn : IsInTurn next_.goes.within.b done s (suc (length front)) (log_of told) slot
        turn = record {
          first = λ is. absurd (omega (arith, is));
          starts = λ is. absurd (omega (arith, is));
          other_unfound = λ m is. none-else (other_slot slot);
          apart = λ m is. subst (λ (k : ℕ). puts_into (other_slot slot) (slice_get s.actions k) ≡ false) (let same : length front ≡ m = omega (arith, is) in same) (puts-it (other_slot slot) ∙ slots-apart slot);
        }

        pub inserted-evented : (judged_failed : Bool) (new : Run) (after : Outcome) (later : Devices) → EventsJudged slot card at speed judged_failed mid new told after e later → HaveTime later →
            EventsGoOn judged_failed o done s h.within.b.run (In at.begun) Acting (log_of after) later
        inserted-evented judged_failed new after later judges end =
            subst (λ (m : ℕ). EventsGoOn judged_failed o done s h.within.b.run (In m) Acting (log_of after) later) (sym begun)
            (subst (λ (b : Beginning). EventsGoOn judged_failed o done s b.run (In (suc (length front))) Acting (log_of after) later) all-began
            (judges o done s (suc (length front)) (entering_by (length front) (Insert slot card)) [] at-is now.speed_is next_ turn
            (subst (λ (b : Beginning). EventedNow o done s b.run Acting (log_of told) e) (sym all-began) (subst (λ (f : Bool). EventsGoOn f o done s h.within.b.run (In (suc (length front))) Acting (log_of told) e) well settled-evented)) end))
