-- Power is back: the unit was read and mended, a span begins, and the cards in the slots are judged one after the other.
use Rattle.std.proofs.Common.{◌≡◌, ◌∙◌, inr, ⊎_elim, ℕ, ◌/◌, ◌≤◌, Bool, true, false, Option, Some, None, IfSome, is_some, List, [], ◌∷◌, ◌++◌, Contains, map, length, refl, ap, sym, subst, arith, append-nil}
use Rattle.std.specs.List.{AllByRecursion}
use Rattle.std.proofs.lemmas.List.Elements.{Contains-push, Contains-push_cases, Contains-append_left}
use Rattle.std.proofs.lemmas.List.Sums.{fold-append}
use Rattle.activity_codec.specs.declared.values.Slot.{Slot}
use Rattle.activity_codec.specs.declared.values.Slot.TheVariants.{Driver, CoDriver}
use Rattle.trace_model.specs.declared.Card.{Card}
use Rattle.trace_model.specs.declared.Card.TheVariants.{A, B}
use Rattle.trace_model.specs.Trace.{TraceSecond}
use Rattle.tach_media.specs.Medium.{State, IsCoherent, LeavesOnly, Unchanged, HasCause}
use Rattle.tach_media.proofs.Runs.{starts}
use Rattle.minute_rules.specs.minute_model.declared.Rule.{Rule}
use Rattle.unit_minutes.specs.unit_model.Versions.{rule_of as unit_rule}
use Rattle.device_calls.proofs.safety_model.Issued.{issued-rule}
use Rattle.minute_rules.specs.Kept.{CountsSpan}
use Rattle.log_model.specs.declared.lines.Find.{Find}
use Rattle.log_model.specs.declared.lines.Mark.{Mark}
use Rattle.log_model.specs.declared.lines.Verdict.TheVariants as verdict
use Rattle.log_model.specs.Log.{RunLog, In, found_in}
use Rattle.log_model.specs.Slots.{Slots, Sitting}
use Rattle.log_model.specs.Spans.{spans_of}
use Rattle.log_model.specs.Course.{Visit, Went, went, fresh, visits, card_in as card_of_sitting}
use Rattle.device_calls.specs.history_model.Minutes.{HistoryMinute}
use Rattle.device_calls.specs.history_model.Presence.{Start}
use Rattle.device_calls.specs.history_model.Book.{Book, found}
use Rattle.device_calls.specs.device_rule.Rules.{Standing}
use Rattle.unit_minutes.specs.unit_model.declared.layout.TheConstants.{HIGHEST_ODOMETER}
use Rattle.unit_minutes.specs.unit_model.Image.{last_kept, odometer_at}
use Rattle.unit_minutes.specs.declared.notes.Notes.{Notes}
use Rattle.unit_minutes.specs.Image.{Agrees, IsFoundBy}
use Rattle.unit_minutes.specs.Mends.{IsMending}
use Rattle.device_calls.specs.run_unit_course.Lines.{found_from}
use Rattle.device_calls.specs.run_unit_course.Followed.{UnitPower, MayPower}
use Rattle.device_calls.specs.run_unit_course.Legs.{Travel, resumed}
use Rattle.device_calls.specs.run_unit_course.Turn.{span_at}
use Rattle.device_calls.specs.unit_rule.Rule.{Started}
use Rattle.device_calls.specs.unit_rule.Marks.{UnitFollowsBook}
use Rattle.device_calls.specs.unit_rule.Odometer.{odometer_by, odometer_after, ShowsOdometer, HasTravelled}
use Rattle.device_calls.proofs.unit_rule.Travelling.{odometer-sum}
use Rattle.device_calls.specs.Rule.{Both, CardRests, IsTakenUp, IsHeldMended}
use Rattle.device_calls.specs.note_model.Odometer.{SpanFrom}
use Rattle.device_calls.specs.safety_model.Safe.{Devices, card_of, breakdowns_of}
use Rattle.run_minutes.specs.card_slots.declared.seats.Seat.{Seat}
use Rattle.run_minutes.specs.card_slots.Calls.{card_in}
use Rattle.run_minutes.specs.card_slots.Kept.{Kept}
use Rattle.run_acts.specs.run_crew.declared.cabin.Cabin.{Cabin}
use Rattle.run_minutes.specs.run_promise.Between.{devices}
use Rattle.run_acts.specs.run_course.Moments.{and_find}
use Rattle.run_acts.specs.run_course.Presence.{SitsAs}
use Rattle.run_acts.specs.run_course.Followed.{Progress, BookFollowsRun}
use Rattle.run_acts.proofs.run_course.Logs.{found_log}
use Rattle.run_acts.specs.run_course.Telling.{IsMore}
use Rattle.run_acts.specs.run_note_record.Stored.{StandsOn, StoresOff}
use Rattle.run_acts.proofs.run_note_record.Bases.{stays-stored}
use Rattle.run_minutes.specs.run_promise.Beside.{HaveLeftMore}
use Rattle.run_minutes.specs.run_promise.Seconds.{found_again}
use Rattle.run_minutes.proofs.run_promise.Seconds.{found-recorded}
use Rattle.log_model.specs.run_model.declared.Device.TheVariants.{Unit as Recorder}
use Rattle.log_model.specs.Causes.{RoseBy}
use Rattle.run_outcome.specs.declared.outcome.Outcome.{Outcome}
use Rattle.run_minutes.specs.run_promise.Origin.{Origin, rule_of, start_at, first_of}
use Rattle.run_minutes.specs.declared.keeper.Keeper.{Keeper}
use Rattle.run_minutes.specs.declared.keeper.Moment.{Moment}
use Rattle.run_minutes.specs.Books.{HaveTime}
use Rattle.run_insertion.specs.declared.lines.Entering.{Entering}
use Rattle.run_insertion.specs.Entering.{Ending, Unfit, Ahead, Fell, Unasked, Unnoted, Seated, Lost, ending_of, find_of, finds_by}
use Rattle.run_acts.specs.run_record.Recorded.{Values, progress, carried, slots_of, RecordUnpowered, RecordBetweenSeconds}
use Rattle.run_acts.specs.run_record.Within.{Beginning, RecordAtFailure}
use Rattle.run_acts.specs.run_record.Powering.{odometer_found, counted_from, read_values, begun_values, begun_again, IsBack, IsOnlyRead}
use Rattle.run_acts.specs.run_record.Waking.{IsWaking, both_slots}
use Rattle.run_acts.proofs.run_record.Powering.{off-of, power-wakes, mending-fails}
use Rattle.run_acts.proofs.run_record.Calls.{is-back, only-read}
use Rattle.run_acts.proofs.run_record.Waking.{but-first, next-waking, find-other}
use Rattle.run_acts.specs.declared.run.Run.{Run}
use Rattle.run_acts.specs.declared.run.Power.TheVariants.{Lit}
use Rattle.run_acts.specs.Power.{IsSpanBegun, is_lit}
use Rattle.run_acts.specs.Recording.{IsOrigin, log_of, values_of, RunWithin, ComesPower, GoesOnOrCut, GoesOnOrFails}
use Rattle.run_acts.specs.run_note_record.Uses.{vehicle_in}
use Rattle.run_acts.proofs.NoteRecorded.{same-course}
use Rattle.run_acts.proofs.Stored.{stored-back}
use Rattle.recorder_with_cards.specs.Accepting.{IsBare, IsAnew}
use Rattle.recorder_with_cards.specs.Judged.{moment_in, RunNext, RunBehind, JudgedTo, JudgesAnew}
use Rattle.recorder_with_cards.proofs.Read.{unit-tells, unit-issued, image-of, at-image}
use Rattle.recorder_with_cards.proofs.StoredCalls.{mend-stays}
use Rattle.device_calls.specs.note_model.Noted.{Note}
use Rattle.run_acts.specs.run_note_record.Ringed.{notes_in}
use Rattle.run_acts.specs.Closings.{spells_of, notes_within}
use Rattle.run_acts.specs.run_crew.declared.cards.Accepted.{Accepted}
use Rattle.run_acts.specs.run_crew.Cards.{session_of}
use Rattle.run_acts.specs.Truths.{Grow, truths_of, truths_within, marked}
use Rattle.run_acts.specs.Stays.{sits_in, AllStay}
use Rattle.run_acts.proofs.run_rings.Same.{rings-moments, behind-same}
use Rattle.run_acts.proofs.Comings.{leaves-more}
use Rattle.run_acts.proofs.AllStay.{all-unit, all-of, all-noted, all-true, all-second, found-on}
use Rattle.run_acts.proofs.NotesThen.{notes-wake, notes-found, went-found}
use Rattle.run_acts.proofs.Truths.{grow-on, marked-still}
use Rattle.run_acts.proofs.TruthsThen.{truths-begin, truths-same}

-- ---- a run at its power-on

-- power begins with a second that begins so, and these cards wait, of those in these slots nothing was found yet
pub record RunWaking (o : Origin) (done : List TraceSecond) (s : TraceSecond) (b : Beginning) (waits : List Visit) (untold : List Slot) (run : Run) (out : Outcome) (d : Devices) : Type 0 where
  pub origin : IsOrigin o
  pub vehicle : run.keeper.memory.registration ≡ vehicle_in o
  pub lit : run.power ≡ Lit
  pub waking : IsWaking o done s b (values_of run out) d waits untold
  pub odometer : run.keeper.odometer ≡ odometer_after (odometer_at o.recording.unit) b.travel.before
  pub stay : AllStay o (marked out.marks.items (truths_within o b.run.log done s)) s.number (log_of out) (notes_within b done s (In 0) (log_of out)) run.keeper.memory.registration run.keeper.cabin d

abbrev pub within-of : (o : Origin) (done : List TraceSecond) (s : TraceSecond) (b : Beginning) (waits : List Visit) (untold : List Slot) (run : Run) (out : Outcome) (d : Devices) → RunWaking o done s b waits untold run out d → RunWithin o done s (In 0) waits [] run out d
within-of o done s b waits untold run out d w = record {
  origin = w.origin;
  vehicle = w.vehicle;
  lit = w.lit;
  within = w.waking.within;
  odometer = w.odometer ∙ ap (λ (x : Beginning). odometer_after (odometer_at o.recording.unit) x.travel.before) (sym w.waking.began);
  stay = subst (λ (x : Beginning). AllStay o (marked out.marks.items (truths_within o x.run.log done s)) s.number (log_of out) (notes_within x done s (In 0) (log_of out)) run.keeper.memory.registration run.keeper.cabin d) (sym w.waking.began) w.stay;
}

-- both slots are to be told of
driver-too : Contains both_slots Driver
driver-too = Contains-append_left (Driver ∷ []) (CoDriver ∷ []) Driver (Contains-push [] Driver)

codriver-too : Contains both_slots CoDriver
codriver-too = Contains-push (Driver ∷ []) CoDriver

either-too : (slot : Slot) → Contains both_slots slot
either-too Driver = driver-too
either-too CoDriver = codriver-too

-- ---- who waits

-- the card of a slot, where there is one
abbrev pub waiting_in : Slot → Option Card → List Visit
waiting_in slot None = []
waiting_in slot (Some card) = record { phase = In 0; slot = slot; card = card } ∷ []

visit-of : (start : Start) (past : List HistoryMinute) (from : ℕ) (k : Kept) (slot : Slot) (seat : Option Seat) (x : Option Sitting) → SitsAs start past from k seat x →
    map (λ card. record { phase = In 0; slot = slot; card = card }) (card_of_sitting x) ≡ waiting_in slot (card_in seat)
visit-of start past from k slot None None h = refl
visit-of start past from k slot None (Some y) h = absurd h
visit-of start past from k slot (Some seat) None h = absurd h
visit-of start past from k slot (Some seat) (Some y) h = ap (λ (card : Card). record { phase = In 0; slot = slot; card = card } ∷ []) (sym h.0)

pub entered-are : (start : Start) (past : List HistoryMinute) (from : ℕ) (k : Kept) (slots : Slots) → SitsAs start past from k k.seats.driver slots.driver → SitsAs start past from k k.seats.codriver slots.codriver →
    (fresh true slots).entered ≡ waiting_in Driver (card_in k.seats.driver) ++ waiting_in CoDriver (card_in k.seats.codriver)
entered-are start past from k slots driver codriver =
    ap (λ (xs : List Visit). xs ++ visits (In 0) CoDriver slots) (visit-of start past from k Driver k.seats.driver slots.driver driver)
    ∙ ap (λ (xs : List Visit). waiting_in Driver (card_in k.seats.driver) ++ xs) (visit-of start past from k CoDriver k.seats.codriver slots.codriver codriver)

pub at-once : (slot : Slot) (card : Option Card) → AllByRecursion (λ (x : Visit). x.phase ≡ In 0) (waiting_in slot card)
at-once slot None = tt
at-once slot (Some card) = (refl, tt)

-- ---- of the calls

pub wholes-of : (U X Y : State) → IsCoherent X → IsCoherent Y → (c : Card) → IsCoherent (card_of (devices U X Y) c)
wholes-of U X Y a b A = a
wholes-of U X Y a b B = b

pub kept-of : (j : Notes) (image : Option (List ℕ)) → IfSome image (IsFoundBy j) → IfSome image (λ x. last_kept x ≡ j.kept)
kept-of j None h = tt
kept-of j (Some x) h = h.kept

-- nothing was called
pub same-devices : {M C D : Type 0} (P : Devices → Type 0) (unit : M → State) (first : C → State) (second : D → State) (m n : M) (a b : C) (x y : D) → (n ≡ m) × (b ≡ a) × (y ≡ x) → P (devices (unit m) (first a) (second x)) → P (devices (unit n) (first b) (second y))
same-devices P unit first second m n a b x y same h =
    subst (λ z. P (devices (unit z) (first b) (second y))) (sym same.0)
    (subst (λ z. P (devices (unit m) (first z) (second y))) (sym same.1)
    (subst (λ z. P (devices (unit m) (first a) (second z))) (sym same.2) h))

-- ---- the odometer that is found

rests : (a : ℕ) → a ≤ HIGHEST_ODOMETER → odometer_by a 0 ≡ a
rests a low = omega (arith, low)

shown-so : (start : ℕ) (legs : List ℕ) → start ≤ HIGHEST_ODOMETER → odometer_after start (legs ++ 0 ∷ []) ≡ odometer_after start legs
shown-so start legs low =
    let most : odometer_after start legs ≤ HIGHEST_ODOMETER = (let is = odometer-sum start legs low in omega (arith, is)) in
    fold-append odometer_by start legs (0 ∷ []) ∙ rests (odometer_after start legs) most

pub odometer-found : (start : ℕ) (b : Book) (leg : ℕ) (g : Travel) (unit : State) (x : List ℕ) → HasTravelled start b (resumed leg g) unit → unit.may_leave x → odometer_at x ≡ odometer_after start (resumed leg g).before
odometer-found start b leg g unit x h there =
    let shown : ShowsOdometer start b (resumed leg g) x = h.now x there in
    let none : shown.leg ≡ 0 = ⊎_elim (λ is. is) (λ some. absurd (let bad : None ≡ Some shown.leg = some in cc)) shown.side in
    shown.is ∙ ap (λ (n : ℕ). odometer_after start ((resumed leg g).before ++ n ∷ [])) none ∙ shown-so start (resumed leg g).before h.begins

-- the unit was read, so it is known what was kept, but it broke down as it was mended
pub record IsReadAgain (o : Origin) (done : List TraceSecond) (p : Progress) (k : ℕ) (d e : Devices) : Type 0 where
  pub followed : BookFollowsRun (rule_of o) (start_at o) o.from (first_of o) done (found_again k p)
  pub left : HaveLeftMore o d e
  pub more : IsMore (breakdowns_of d) (breakdowns_of e)
  pub broke : RoseBy 1 (breakdowns_of d Recorder) (breakdowns_of e Recorder)

-- ---- THE UNIT WAS READ, and is mended

module _ (o : Origin) (origin : IsOrigin o) (done : List TraceSecond) (s : TraceSecond) (supply : UnitPower) (v : Values) (U X Y : State) (r : RecordBetweenSeconds o done supply v (devices U X Y)) (may : MayPower supply v.next) (number : s.number ≡ v.next) (given : s.has_power ≡ true)
    (whole : IsCoherent U) (wholes : (c : Card) → IsCoherent (card_of (devices U X Y) c)) (works : U.works ≡ true) (j : Notes) (found_so : IfSome U.image (λ x. last_kept x ≡ j.kept))
    (W : State) (failed : Bool) (mends : LeavesOnly U W (IsMending j)) (tells : is_some W.image ≡ is_some U.image) (cause : HasCause U W failed)
    (holds : (st : Started) (due : ℕ) (b : Book) (marks : List Mark) → UnitFollowsBook st due b marks U → IsHeldMended st due b marks W)
    (taken_a : (q : Both) (c : Card) (b : Book) (z : Standing) → CardRests q c b z U X → IsTakenUp q c b z failed W X)
    (taken_b : (q : Both) (c : Card) (b : Book) (z : Standing) → CardRests q c b z U Y → IsTakenUp q c b z failed W Y)
    (old : Run) (vehicle : old.keeper.memory.registration ≡ vehicle_in o) (out : Outcome) (values : values_of old out ≡ read_values j.kept v) where
  abbrev d : Devices
  d = devices U X Y

  abbrev e : Devices
  e = devices W X Y

  has-image : (x : List ℕ) × (U.image ≡ Some x)
  has-image = image-of U.image (unit-tells o done supply v d r may)

  kept-is : last_kept has-image.0 ≡ j.kept
  kept-is = at-image (λ (x : List ℕ). last_kept x ≡ j.kept) U.image has-image.0 has-image.1 found_so

  first : o.found.unit.first ≡ first_of o
  first = ap (λ (u : Started). u.first) origin.unit

  as-read : (P : ℕ → Type 0) → P (last_kept has-image.0) → P j.kept
  as-read P = subst P kept-is

  -- it was mended, and a span has begun
  module _ (well : failed ≡ false) (journal : Notes) (agrees : IfSome W.image (Agrees journal)) (rule : Rule) (told : IfSome U.image (λ x. rule ≡ unit_rule x)) (new : Run) (begun : IsSpanBegun rule old new journal) (after : IsCoherent W) (stay : AllStay o (marked v.marks (truths_of o v.log done)) 0 v.log (notes_in v.log done) old.keeper.memory.registration v.cabin (devices U X Y)) where
    next : old.next ≡ v.next
    next = ap (λ (x : Values). x.next) values

    off : RecordUnpowered o done v (carried v r.due r.book r.standing r.brought r.hands r.firsts) d
    off = off-of o done supply v (carried v r.due r.book r.standing r.brought r.hands r.firsts) d may r.held

    -- the unit's rule is that with which the run began
    rule-is : rule ≡ rule_of o
    rule-is =
        let x = has-image.0 in
        at-image (λ (y : List ℕ). rule ≡ unit_rule y) U.image x has-image.1 told
        ∙ issued-rule x o.recording.unit (unit-issued o done supply v d r may whole x (whole.is_left x has-image.1) ∙ ap (λ (u : Started). u.issued) origin.unit)
        ∙ sym origin.rule

    span : CountsSpan new.minutes (span_at (rule_of o) v.next [])
    span = subst (λ (q : Rule). CountsSpan new.minutes (span_at q v.next [])) rule-is (subst (λ (n : ℕ). CountsSpan new.minutes (span_at rule n [])) next begun.minutes)

    back : IsBack o done supply v d r (last_kept has-image.0) new.minutes e
    back = is-back o done supply v d r may U whole (starts U Unchanged) whole wholes works has-image.0 has-image.1 refl first j W failed mends tells cause holds taken_a taken_b well new.minutes span

    abbrev b : Beginning
    b = begun_again o done supply v d r (last_kept has-image.0) back.leg e

    cabin : new.keeper.cabin ≡ old.keeper.cabin
    cabin = ap (λ (k : Keeper). k.cabin) begun.keeper

    image-behind : (y : List ℕ) × (W.image ≡ Some y)
    image-behind = image-of W.image (tells ∙ ap is_some has-image.1)

    odometer : new.keeper.odometer ≡ odometer_after (odometer_at o.recording.unit) b.travel.before
    odometer =
        ap (λ (k : Keeper). k.odometer) begun.keeper
        ∙ sym (at-image (Agrees journal) W.image image-behind.0 image-behind.1 agrees).odometer
        ∙ odometer-found (odometer_at o.recording.unit) (found (last_kept has-image.0) r.book) back.leg r.travel W image-behind.0 back.travels (after.is_left image-behind.0 image-behind.1)

    became : values_of new out ≡ record (values_of old out) { minutes = new.minutes; odometer = new.keeper.odometer }
    became =
        ap (λ (c : Cabin). record (values_of new out) { cabin = c }) cabin
        ∙ ap (λ (n : ℕ). record (values_of new out) { cabin = old.keeper.cabin; unfound = n }) begun.unfound
        ∙ ap (λ (n : ℕ). record (values_of new out) { cabin = old.keeper.cabin; unfound = old.unfound; next = n }) begun.next
        ∙ ap (λ (n : ℕ). record (values_of new out) { cabin = old.keeper.cabin; unfound = old.unfound; next = old.next; begun = n }) begun.begun

    are-begun : values_of new out ≡ counted_from (odometer_found o r.travel.before back.leg) (begun_values (last_kept has-image.0) new.minutes v)
    are-begun =
        became
        ∙ ap (λ (x : Values). record x { minutes = new.minutes; odometer = new.keeper.odometer }) (values ∙ ap (λ (k : ℕ). read_values k v) (sym kept-is))
        ∙ ap (λ (n : ℕ). counted_from n (begun_values (last_kept has-image.0) new.minutes v)) odometer

    kept-cabin : v.cabin ≡ new.keeper.cabin
    kept-cabin = sym (ap (λ (x : Values). x.cabin) values) ∙ sym cabin

    waits : (fresh true (slots_of v done)).entered ≡ waiting_in Driver (card_in new.keeper.cabin.slots.seats.driver) ++ waiting_in CoDriver (card_in new.keeper.cabin.slots.seats.codriver)
    waits =
        entered-are (start_at o) r.book.sure (v.next / 60) v.cabin.slots (slots_of v done) off.tells.driver off.tells.codriver
        ∙ ap (λ (c : Cabin). waiting_in Driver (card_in c.slots.seats.driver) ++ waiting_in CoDriver (card_in c.slots.seats.codriver)) kept-cabin

    wakes : IsWaking o done s b (values_of new out) e (waiting_in Driver (card_in new.keeper.cabin.slots.seats.driver) ++ waiting_in CoDriver (card_in new.keeper.cabin.slots.seats.codriver)) both_slots
    wakes =
        subst (λ (xs : List Visit). IsWaking o done s b (values_of new out) e xs both_slots) waits
        (subst (λ (x : Values). IsWaking o done s b x e (fresh true (slots_of v done)).entered both_slots) (sym are-begun)
        (power-wakes d e o done s supply v r may number given (last_kept has-image.0) new.minutes back))

    -- what was made of the cards: they are not called
    -- nothing is noted yet
    same-log : log_of out ≡ b.run.log
    same-log = ap (λ (x : Values). x.log) values ∙ ap (λ (k : ℕ). found_log v.unfound k v.log) (sym kept-is)

    notes-woken : notes_within b done s (In 0) (log_of out) ≡ notes_in v.log done
    notes-woken =
        ap (λ (l : RunLog). notes_within b done s (In 0) l) same-log
        ∙ notes-wake b done s wakes.starts (λ slot. subst (λ (l : RunLog). found_in l s.number (In 0) slot ≡ []) same-log (wakes.none slot (either-too slot)))
        ∙ notes-found v.log v.unfound (last_kept has-image.0) done

    -- nor has a truth become another
    woken-true : Grow (truths_of o v.log done) (truths_within o b.run.log done s)
    woken-true =
        grow-on (truths_of o v.log done) (truths_of o b.run.log done) (truths_within o b.run.log done s) (truths-same o v.log b.run.log done (went-found v.log v.unfound (last_kept has-image.0) done)) (truths-begin o b.run.log done s)

    -- no card has a session
    none-sits : (c : Card) → is_some (session_of v.cabin.cards c) ≡ true → sits_in v.cabin.slots.seats c ≡ true
    none-sits c some = absurd (let wrong : false ≡ true = sym (ap (λ (q : Option Accepted). is_some q) (off.bare c)) ∙ some in cc)

    stays-behind : AllStay o (marked out.marks.items (truths_within o b.run.log done s)) s.number (log_of out) (notes_within b done s (In 0) (log_of out)) new.keeper.memory.registration new.keeper.cabin e
    stays-behind =
        all-of o (marked out.marks.items (truths_within o b.run.log done s)) s.number (log_of out) (notes_within b done s (In 0) (log_of out)) old.keeper.memory.registration new.keeper.memory.registration new.keeper.cabin e (ap (λ (k : Keeper). k.memory.registration) begun.keeper)
        (subst (λ (c : Cabin). AllStay o (marked out.marks.items (truths_within o b.run.log done s)) s.number (log_of out) (notes_within b done s (In 0) (log_of out)) old.keeper.memory.registration c e) kept-cabin
        (subst (λ (ms : List Mark). AllStay o (marked ms (truths_within o b.run.log done s)) s.number (log_of out) (notes_within b done s (In 0) (log_of out)) old.keeper.memory.registration v.cabin e) (sym (ap (λ (x : Values). x.marks) values))
        (subst (λ (l : RunLog). AllStay o (marked v.marks (truths_within o b.run.log done s)) s.number l (notes_within b done s (In 0) (log_of out)) old.keeper.memory.registration v.cabin e) (sym (ap (λ (x : Values). x.log) values))
        (all-second o (marked v.marks (truths_within o b.run.log done s)) 0 s.number (found_log v.unfound j.kept v.log) (notes_within b done s (In 0) (log_of out)) old.keeper.memory.registration v.cabin e none-sits
        (all-true o (marked v.marks (truths_of o v.log done)) (marked v.marks (truths_within o b.run.log done s)) 0 (found_log v.unfound j.kept v.log) (notes_within b done s (In 0) (log_of out)) old.keeper.memory.registration v.cabin e (λ whose known. marked-still v.marks (truths_of o v.log done) (truths_within o b.run.log done s) woken-true)
        (all-noted o (marked v.marks (truths_of o v.log done)) 0 v.log (found_log v.unfound j.kept v.log) (notes_in v.log done) (notes_within b done s (In 0) (log_of out)) old.keeper.memory.registration v.cabin e (found-on o v.unfound j.kept v.log e)
        (λ whose known c in_. ap (λ (ns : List Note). spells_of c ns) notes-woken)
        (all-unit o (marked v.marks (truths_of o v.log done)) 0 v.log (notes_in v.log done) old.keeper.memory.registration v.cabin U W X Y (leaves-more U W (rings-moments U W (IsMending j) whole mends (λ x c m. behind-same x c m.outside.after))) stay)))))))

    pub awake : (begins : Beginning) × RunWaking o done s begins (waiting_in Driver (card_in new.keeper.cabin.slots.seats.driver) ++ waiting_in CoDriver (card_in new.keeper.cabin.slots.seats.codriver)) both_slots new out (devices W X Y)
    awake = (b, record { origin = origin; vehicle = ap (λ (k : Keeper). k.memory.registration) begun.keeper ∙ vehicle; lit = begun.power; waking = wakes; odometer = odometer; stay = stays-behind })

    -- how it began
    pub awake-is : (awake.0.run ≡ found_again j.kept (progress v supply r.book)) × (awake.0.span ≡ []) × HaveLeftMore o d e
    unfolding awake
    awake-is = (ap (λ (k : ℕ). found_again k (progress v supply r.book)) kept-is, refl, back.goes.left)

    -- the spans that have ended stand, and the one that begins does so with what is stored
    pub awake-stands : journal.kept ≡ j.kept → (spans : List SpanFrom) → map (λ (x : SpanFrom). x.span) spans ≡ spans_of (went v.log done).told → StoresOff o v.log v.unfound spans (devices U X Y) → StandsOn o (log_of out) old.unfound spans new.keeper.odometer
    awake-stands same spans are h =
        let agreed = at-image (Agrees journal) W.image image-behind.0 image-behind.1 agrees in
        let stored : StoresOff o v.log v.unfound spans (devices W X Y) = stays-stored o v.log v.unfound spans (devices U X Y) (devices W X Y) (mend-stays j (devices U X Y) (devices W X Y) whole mends) h in
        let stands = stored-back o done supply v d r may (last_kept has-image.0) back.leg back.shows spans are (devices W X Y) image-behind.0 (after.is_left image-behind.0 image-behind.1) (agreed.kept ∙ same ∙ sym kept-is) stored in
        subst (λ (n : ℕ). StandsOn o (log_of out) old.unfound spans n) (agreed.odometer ∙ sym (ap (λ (k : Keeper). k.odometer) begun.keeper))
        (subst (λ (x : Values). StandsOn o x.log x.unfound spans (odometer_at image-behind.0)) (sym values)
        (as-read (λ (k : ℕ). StandsOn o (found_log v.unfound k v.log) (length (found_from v.unfound k v.log.breaks)) spans (odometer_at image-behind.0)) stands))

  -- its mending failed: what was read is known, and the unit broke down
  pub unmended-read : failed ≡ true → IsReadAgain o done (progress v supply r.book) j.kept d e
  unmended-read fails =
      let read : IsOnlyRead o done supply v d r (last_kept has-image.0) e =
      only-read o done supply v d r may U whole (starts U Unchanged) whole wholes works has-image.0 has-image.1 refl first j W failed mends tells cause holds taken_a taken_b fails in
      record {
        followed = as-read (λ (k : ℕ). BookFollowsRun (rule_of o) (start_at o) o.from (first_of o) done (found_again k (progress v supply r.book)))
            (found-recorded o done (progress v supply r.book) r.travel v.marks (breakdowns_of d) r.brought r.recorded may (last_kept has-image.0) read.leg read.shows).followed;
        left = read.goes.left;
        more = read.goes.breakdowns;
        broke = read.broke;
      }

  -- the spans that have ended stand, by what an image has stored
  pub unmended-stands : failed ≡ true → (spans : List SpanFrom) → map (λ (x : SpanFrom). x.span) spans ≡ spans_of (went v.log done).told → StoresOff o v.log v.unfound spans (devices U X Y) →
      (base : ℕ) × StandsOn o (found_log v.unfound j.kept v.log) (length (found_from v.unfound j.kept v.log.breaks)) spans base
  unmended-stands fails spans are h =
      let read : IsOnlyRead o done supply v d r (last_kept has-image.0) e =
      only-read o done supply v d r may U whole (starts U Unchanged) whole wholes works has-image.0 has-image.1 refl first j W failed mends tells cause holds taken_a taken_b fails in (
        odometer_at has-image.0,
        as-read (λ (k : ℕ). StandsOn o (found_log v.unfound k v.log) (length (found_from v.unfound k v.log.breaks)) spans (odometer_at has-image.0))
            (stored-back o done supply v d r may (last_kept has-image.0) read.leg read.shows spans are (devices U X Y) has-image.0 (whole.is_left has-image.0 has-image.1) refl h),
      )

  pub unmended : failed ≡ true → is_lit old.power ≡ false → GoesOnOrCut true o done s (In 0) [] old out (devices W X Y)
  unmended fails dark =
      let read : IsOnlyRead o done supply v d r (last_kept has-image.0) e =
      only-read o done supply v d r may U whole (starts U Unchanged) whole wholes works has-image.0 has-image.1 refl first j W failed mends tells cause holds taken_a taken_b fails in
      let found_ : ℕ = odometer_found o r.travel.before read.leg in
      let cut : RecordAtFailure o done s (In 0) (fresh true (slots_of v done)).entered None (counted_from found_ (read_values (last_kept has-image.0) v)) e =
      mending-fails d e o done s supply v r may number given (last_kept has-image.0) read in
      record {
        waits = (fresh true (slots_of v done)).entered;
        cabin = old.keeper.cabin;
        same = refl;
        odometer = found_;
        counted = λ lit. absurd (let bad : true ≡ false = sym (ap is_lit lit) ∙ dark in cc);
        vehicle = vehicle;
        within = subst (λ (x : Values). RecordAtFailure o done s (In 0) (fresh true (slots_of v done)).entered None (counted_from found_ x) e) (ap (λ (k : ℕ). read_values k v) kept-is ∙ sym values) cut;
      }

-- ---- A CARD IS JUDGED that waits

-- where it was the last that waited
pub judged-goes : (failed : Bool) (o : Origin) (done : List TraceSecond) (s : TraceSecond) (n : ℕ) (who : List Visit) (old new : Run) (before after : Outcome) (d e : Devices) (x : RunWithin o done s (In n) who [] old before d) →
    JudgedTo failed o done s n who [] old new before after d e x → GoesOnOrCut failed o done s (In n) [] new after e
judged-goes false o done s n who old new before after d e x h = h.goes
judged-goes true o done s n who old new before after d e x h = h

-- as the second began
pub judged-as : (failed : Bool) (o : Origin) (done : List TraceSecond) (s : TraceSecond) (n : ℕ) (who : List Visit) (old new : Run) (before after : Outcome) (d e : Devices) (x : RunWithin o done s (In n) who [] old before d) →
    JudgedTo failed o done s n who [] old new before after d e x → GoesOnOrFails failed o done s (In n) [] new after e x.within.b
judged-as false o done s n who old new before after d e x h = record { goes = h.goes; began = h.began }
judged-as true o done s n who old new before after d e x h = h

the-codriver : (slot : Slot) → Contains (CoDriver ∷ []) slot → CoDriver ≡ slot
the-codriver slot there = ⊎_elim (λ none. absurd (omega (arith, none.1))) (λ (same : CoDriver ≡ slot). same) (Contains-push_cases [] CoDriver slot there)

one-of-both : (slot : Slot) → Contains (CoDriver ∷ []) slot → Contains both_slots slot
one-of-both slot there = subst (λ (sl : Slot). Contains both_slots sl) (the-codriver slot there) codriver-too

-- of the co-driver's card nothing is found behind a find of the driver's
same-finds : (log later : RunLog) (u : ℕ) → later.finds ≡ log.finds → found_in later u (In 0) CoDriver ≡ found_in log u (In 0) CoDriver
unfolding found_in
same-finds log later u same = ap (λ (fs : List Find). found_in (record log { finds = fs }) u (In 0) CoDriver) same

found-still : (ending : Ending) (n : Entering) (log later : RunLog) (u : ℕ) → n.slot ≡ Driver → later.finds ≡ log.finds ++ finds_by ending n → found_in later u (In 0) CoDriver ≡ found_in log u (In 0) CoDriver
found-still (Unfit fid place) n log later u driver is = let f : Find = find_of n (verdict.NotValid fid place) in same-finds (and_find log f) later u is ∙ find-other log f u (In 0) driver
found-still (Ahead stored) n log later u driver is = let f : Find = find_of n (verdict.TimeOverlap stored n.at.second) in same-finds (and_find log f) later u is ∙ find-other log f u (In 0) driver
found-still Fell n log later u driver is = same-finds log later u (is ∙ append-nil log.finds)
found-still Unasked n log later u driver is = same-finds log later u (is ∙ append-nil log.finds)
found-still (Unnoted entered clock) n log later u driver is = let f : Find = find_of n (verdict.Accepted entered.replayed) in same-finds (and_find log f) later u is ∙ find-other log f u (In 0) driver
found-still (Seated entered clock entry) n log later u driver is = let f : Find = find_of n (verdict.Accepted entered.replayed) in same-finds (and_find log f) later u is ∙ find-other log f u (In 0) driver
found-still (Lost entered clock entry) n log later u driver is = let f : Find = find_of n (verdict.Accepted entered.replayed) in same-finds (and_find log f) later u is ∙ find-other log f u (In 0) driver

bare-is : (seat : Option Seat) (card : Card) → card_in seat ≡ Some card → IsBare seat → seat ≡ Some (record { card = card; newest = None })
bare-is None card is bare = absurd (cc)
bare-is (Some seat) card is bare =
    let own : seat.card ≡ card = cc in
    ap (λ (c : Card). Some (record { card = c; newest = seat.newest })) own ∙ ap (λ (n : Option ℕ). Some (record { card = card; newest = n })) bare

module _ (o : Origin) (done : List TraceSecond) (s : TraceSecond) (b : Beginning) (waits : List Visit) (untold : List Slot) (old : Run) (before : Outcome) (d : Devices) (w : RunWaking o done s b waits untold old before d) (new : Run) (after : Outcome) (e : Devices) where
  -- the second goes on at its power-on
  behind-on : (fewer : List Visit) (left : List Slot) → RunBehind o done s 0 waits fewer old new before after d e (within-of o done s b waits untold old before d w) → ((slot : Slot) → Contains left slot → found_in (log_of after) s.number (In 0) slot ≡ []) →
      RunWaking o done s b fewer left new after e
  behind-on fewer left on none =
      let began : on.goes.within.b ≡ b = on.began ∙ w.waking.began in
      record {
        origin = w.origin;
        vehicle = on.goes.vehicle;
        lit = on.goes.lit;
        waking = record { within = on.goes.within; began = began; starts = w.waking.starts; is_now = on.from ∙ w.waking.is_now; none = none };
        odometer = on.goes.odometer ∙ ap (λ (x : Beginning). odometer_after (odometer_at o.recording.unit) x.travel.before) began;
        stay = subst (λ (x : Beginning). AllStay o (marked after.marks.items (truths_within o x.run.log done s)) s.number (log_of after) (notes_within x done s (In 0) (log_of after)) new.keeper.memory.registration new.keeper.cabin e) began on.goes.stay;
      }

-- the driver's is the next
pub driver-next : (o : Origin) (done : List TraceSecond) (s : TraceSecond) (b : Beginning) (card : Card) (rest : List Visit) (old : Run) (before : Outcome) (d : Devices) → RunWaking o done s b (waiting_in Driver (Some card) ++ rest) both_slots old before d →
    AllByRecursion (λ (x : Visit). x.phase ≡ In 0) rest → card_in old.keeper.cabin.slots.seats.driver ≡ Some card → IsBare old.keeper.cabin.slots.seats.driver →
    (next : RunNext o done s 0 (waiting_in Driver (Some card) ++ rest) rest old before d Driver card) × (next.goes.within.b ≡ b)
driver-next o done s b card rest old before d w once is bare =
    let waits : List Visit = waiting_in Driver (Some card) ++ rest in (
      record {
        goes = within-of o done s b waits both_slots old before d w;
        next = next-waking o done s b (values_of old before) d waits both_slots w.waking Driver card rest (bare-is old.keeper.cabin.slots.seats.driver card is bare) (but-first (In 0) Driver card rest) once;
        none = w.waking.none Driver driver-too;
        order = λ is_driver. inr (w.waking.none CoDriver codriver-too);
      },
      w.waking.began,
    )

-- the driver's
pub driver-judged : (o : Origin) (done : List TraceSecond) (s : TraceSecond) (b : Beginning) (card : Option Card) (rest : List Visit) (old : Run) (before : Outcome) (d : Devices) → RunWaking o done s b (waiting_in Driver card ++ rest) both_slots old before d →
    AllByRecursion (λ (x : Visit). x.phase ≡ In 0) rest → card_in old.keeper.cabin.slots.seats.driver ≡ card → IsBare old.keeper.cabin.slots.seats.driver → (at : Moment) → at ≡ moment_in s 0 → (speed : ℕ) (failed : Bool) (new : Run) (after : Outcome) →
    IsAnew card Driver at speed old new before after → (e : Devices) → (card ≡ None → (P : Devices → Type 0) → P d → P e) → HaveTime e →
    JudgesAnew card Driver at failed old new before after d e → (failed ≡ false → RunWaking o done s b rest (CoDriver ∷ []) new after e) × (failed ≡ true → GoesOnOrCut true o done s (In 0) [] new after e)
driver-judged o done s b None rest old before d w once is bare at now speed failed new after anew e still time judges = (
  λ well. still refl (λ (x : Devices). RunWaking o done s b rest (CoDriver ∷ []) new after x)
      (subst (λ (r : Run). RunWaking o done s b rest (CoDriver ∷ []) r after d) (sym anew.0)
      (subst (λ (q : Outcome). RunWaking o done s b rest (CoDriver ∷ []) old q d) (sym anew.1)
      (record {
        origin = w.origin;
        vehicle = w.vehicle;
        lit = w.lit;
        waking = record { within = w.waking.within; began = w.waking.began; starts = w.waking.starts; is_now = w.waking.is_now; none = λ slot there. w.waking.none slot (one-of-both slot there) };
        odometer = w.odometer;
        stay = w.stay;
      }))),
  λ fails. absurd (let bad : true ≡ false = sym fails ∙ judges in cc),
)
driver-judged o done s b (Some card) rest old before d w once is bare at now speed failed new after anew e still time judges =
    let waits : List Visit = waiting_in Driver (Some card) ++ rest in
    let next : RunNext o done s 0 waits rest old before d Driver card = record {
      goes = within-of o done s b waits both_slots old before d w;
      next = next-waking o done s b (values_of old before) d waits both_slots w.waking Driver card rest (bare-is old.keeper.cabin.slots.seats.driver card is bare) (but-first (In 0) Driver card rest) once;
      none = w.waking.none Driver driver-too;
      order = λ is_driver. inr (w.waking.none CoDriver codriver-too);
    } in
    let judged : JudgedTo failed o done s 0 waits rest old new before after d e next.goes = judges o done s 0 waits rest now next time in
    let finds = ap (λ (q : Outcome). q.finds.items) anew.2.left.outcome in
    let none : found_in (log_of after) s.number (In 0) CoDriver ≡ [] =
    found-still (ending_of anew.2.way) anew.0 (log_of before) (log_of after) s.number anew.1.slot_is finds ∙ w.waking.none CoDriver codriver-too in (
      λ well. behind-on o done s b waits both_slots old before d w new after e rest (CoDriver ∷ []) (subst (λ (f : Bool). JudgedTo f o done s 0 waits rest old new before after d e next.goes) well judged)
          (λ slot there. subst (λ (sl : Slot). found_in (log_of after) s.number (In 0) sl ≡ []) (the-codriver slot there) none),
      λ fails. subst (λ (f : Bool). JudgedTo f o done s 0 waits rest old new before after d e next.goes) fails judged,
    )

-- the co-driver's
pub codriver-next : (o : Origin) (done : List TraceSecond) (s : TraceSecond) (b : Beginning) (card : Card) (old : Run) (before : Outcome) (d : Devices) → RunWaking o done s b (waiting_in CoDriver (Some card)) (CoDriver ∷ []) old before d →
    card_in old.keeper.cabin.slots.seats.codriver ≡ Some card → IsBare old.keeper.cabin.slots.seats.codriver → RunNext o done s 0 (waiting_in CoDriver (Some card)) [] old before d CoDriver card
codriver-next o done s b card old before d w is bare = record {
  goes = within-of o done s b (waiting_in CoDriver (Some card)) (CoDriver ∷ []) old before d w;
  next = next-waking o done s b (values_of old before) d (waiting_in CoDriver (Some card)) (CoDriver ∷ []) w.waking CoDriver card [] (bare-is old.keeper.cabin.slots.seats.codriver card is bare) (but-first (In 0) CoDriver card []) tt;
  none = w.waking.none CoDriver (Contains-push [] CoDriver);
  order = λ is_driver. absurd (let bad : CoDriver ≡ Driver = is_driver in cc);
}

-- as the second began
pub codriver-began : (o : Origin) (done : List TraceSecond) (s : TraceSecond) (b : Beginning) (card : Card) (old : Run) (before : Outcome) (d : Devices) (w : RunWaking o done s b (waiting_in CoDriver (Some card)) (CoDriver ∷ []) old before d) →
    (is : card_in old.keeper.cabin.slots.seats.codriver ≡ Some card) (bare : IsBare old.keeper.cabin.slots.seats.codriver) → (codriver-next o done s b card old before d w is bare).goes.within.b ≡ b
unfolding codriver-next
codriver-began o done s b card old before d w is bare = w.waking.began

pub codriver-judged : (o : Origin) (done : List TraceSecond) (s : TraceSecond) (b : Beginning) (card : Option Card) (old : Run) (before : Outcome) (d : Devices) → RunWaking o done s b (waiting_in CoDriver card) (CoDriver ∷ []) old before d →
    card_in old.keeper.cabin.slots.seats.codriver ≡ card → IsBare old.keeper.cabin.slots.seats.codriver → (at : Moment) → at ≡ moment_in s 0 → (speed : ℕ) (failed : Bool) (new : Run) (after : Outcome) →
    IsAnew card CoDriver at speed old new before after → (e : Devices) → (card ≡ None → (P : Devices → Type 0) → P d → P e) → HaveTime e →
    JudgesAnew card CoDriver at failed old new before after d e → GoesOnOrCut failed o done s (In 0) [] new after e
codriver-judged o done s b None old before d w is bare at now speed failed new after anew e still time judges =
    subst (λ (f : Bool). GoesOnOrCut f o done s (In 0) [] new after e) (sym judges)
    (still refl (λ (x : Devices). RunWithin o done s (In 0) [] [] new after x)
    (subst (λ (r : Run). RunWithin o done s (In 0) [] [] r after d) (sym anew.0)
    (subst (λ (q : Outcome). RunWithin o done s (In 0) [] [] old q d) (sym anew.1) (within-of o done s b [] (CoDriver ∷ []) old before d w))))
codriver-judged o done s b (Some card) old before d w is bare at now speed failed new after anew e still time judges =
    let waits : List Visit = waiting_in CoDriver (Some card) in
    let next : RunNext o done s 0 waits [] old before d CoDriver card = codriver-next o done s b card old before d w is bare in
    judged-goes failed o done s 0 waits old new before after d e next.goes (judges o done s 0 waits [] now next time)

-- power comes with the second still
pub comes-waking : (o : Origin) (done : List TraceSecond) (s : TraceSecond) (b : Beginning) (waits : List Visit) (untold : List Slot) (run : Run) (out : Outcome) (d : Devices) → RunWaking o done s b waits untold run out d → ComesPower done out
comes-waking o done s b waits untold run out d w =
    ap (λ (x : Went). x.before.running) (same-course o done s (In 0) waits [] run out d (within-of o done s b waits untold run out d w))
    ∙ subst (λ (x : Beginning). (went x.run.log done).before.running ≡ false) (sym w.waking.began) w.waking.starts

-- behind both nobody waits
pub codriver-on : (o : Origin) (done : List TraceSecond) (s : TraceSecond) (b : Beginning) (card : Option Card) (old : Run) (before : Outcome) (d : Devices) → RunWaking o done s b (waiting_in CoDriver card) (CoDriver ∷ []) old before d →
    card_in old.keeper.cabin.slots.seats.codriver ≡ card → IsBare old.keeper.cabin.slots.seats.codriver → (at : Moment) → at ≡ moment_in s 0 → (speed : ℕ) (failed : Bool) (new : Run) (after : Outcome) →
    IsAnew card CoDriver at speed old new before after → (e : Devices) → (card ≡ None → (P : Devices → Type 0) → P d → P e) → HaveTime e → JudgesAnew card CoDriver at failed old new before after d e → failed ≡ false → RunWaking o done s b [] [] new after e
unfolding codriver-next
codriver-on o done s b None old before d w is bare at now speed failed new after anew e still time judges well =
    still refl (λ (x : Devices). RunWaking o done s b [] [] new after x)
    (subst (λ (r : Run). RunWaking o done s b [] [] r after d) (sym anew.0)
    (subst (λ (q : Outcome). RunWaking o done s b [] [] old q d) (sym anew.1)
    (record {
      origin = w.origin;
      vehicle = w.vehicle;
      lit = w.lit;
      waking = record { within = w.waking.within; began = w.waking.began; starts = w.waking.starts; is_now = w.waking.is_now; none = λ slot there. absurd (omega (arith, there.1)) };
      odometer = w.odometer;
      stay = w.stay;
    })))
codriver-on o done s b (Some card) old before d w is bare at now speed failed new after anew e still time judges well =
    let waits : List Visit = waiting_in CoDriver (Some card) in
    let next : RunNext o done s 0 waits [] old before d CoDriver card = codriver-next o done s b card old before d w is bare in
    behind-on o done s b waits (CoDriver ∷ []) old before d w new after e [] [] (subst (λ (f : Bool). JudgedTo f o done s 0 waits [] old new before after d e next.goes) well (judges o done s 0 waits [] now next time))
    (λ slot there. absurd (omega (arith, there.1)))
