-- Power is back: the cards in the slots are judged anew, and so the rings go on; or the unit failed before.
use Rattle.std.proofs.Common.{◌≡◌, ◌∙◌, inl, inr, ⊎_elim, ℕ, suc, ◌≤◌, Bool, true, false, cond, not, Option, Some, None, option_map, List, [], ◌∷◌, ◌++◌, length, map, refl, ap, sym, subst, arith, append-nil}
use Rattle.std.specs.Prelude.{flat_map, Contains}
use Rattle.std.proofs.lemmas.List.Elements.{Contains-append_left, Contains-push}
use Rattle.std.specs.List.{AllByRecursion, list_any}
use Rattle.activity_codec.specs.declared.values.Slot.{Slot}
use Rattle.activity_codec.specs.declared.values.Slot.TheVariants.{Driver, CoDriver}
use Rattle.trace_model.specs.declared.Card.{Card}
use Rattle.trace_model.specs.declared.Card.TheVariants.{A, B}
use Rattle.trace_model.specs.Trace.{TraceSecond}
use Rattle.tach_media.specs.Medium.{State, IsCoherent, LeavesOnly, Unchanged}
use Rattle.unit_minutes.specs.declared.notes.Notes.{Notes}
use Rattle.unit_minutes.specs.Mends.{IsMending}
use Rattle.minute_rules.specs.minute_model.Span.{travelled_of}
use Rattle.log_model.specs.declared.lines.Verdict.{Verdict}
use Rattle.log_model.specs.Log.{RunLog, Phase, In, cut_in, is_torn_in, found_in, is_accepting}
use Rattle.log_model.specs.Slots.{Slots, Sitting, in_slot, other_slot}
use Rattle.log_model.specs.Course.{Course, fresh, unmoved, with_slot, ToldSecond, Before, Moved, Visit, Went, visits, leaves, slot_told, both_told, has_power, went, second_told}
use Rattle.device_calls.specs.note_model.Odometer.{SpanFrom}
use Rattle.device_calls.specs.note_model.Noted.{Acceptance}
use Rattle.device_calls.specs.card_image.Own.{own_sizes}
use Rattle.device_calls.specs.safety_model.Recording.{card_image}
use Rattle.device_calls.specs.safety_model.Safe.{Devices}
use Rattle.device_calls.specs.unit_rule.Odometer.{odometer_by, odometer_after}
use Rattle.device_calls.specs.run_unit_course.Lines.{cut_at}
use Rattle.run_minutes.specs.card_slots.Calls.{card_in}
use Rattle.run_minutes.proofs.run_devices.Measured.{goes-itself}
use Rattle.run_minutes.specs.run_promise.Between.{devices}
use Rattle.run_acts.specs.run_course.Followed.{Progress, BookFollowsRun, Comes, IsSupplied}
use Rattle.run_acts.specs.run_course.Seconds.{GoesOnBy}
use Rattle.run_acts.proofs.run_course.Steps.{went-same_}
use Rattle.log_model.specs.Spans.{AreInOrder, spans_of}
use Rattle.unit_minutes.specs.unit_model.Image.{odometer_at as odometer_at_start}
use Rattle.run_acts.proofs.run_course.Logs.{all-before, found_log, same-found, went-found}
use Rattle.run_acts.proofs.run_course.Told.{comes-power, lost-comes}
use Rattle.device_calls.specs.run_unit_course.Followed.{UnitPower, MayPower, Lit, Due, Lost as IsLost}
use Rattle.log_model.specs.Same.{SameAt}
use Rattle.run_acts.proofs.run_events.Later.{told-number}
use Rattle.run_acts.proofs.run_course.Reached.{TellsNothing, nothing-told}
use Rattle.run_acts.proofs.run_note_record.Lines.{same-before}
use Rattle.run_acts.specs.run_course.Moments.{and_break}
use Rattle.run_minutes.specs.Keeping.{with_lines}
use Rattle.run_outcome.specs.Lines.{cut_at as cut_line}
use Rattle.run_outcome.specs.declared.outcome.Outcome.{Outcome}
use Rattle.run_minutes.specs.declared.keeper.Moment.{Moment}
use Rattle.run_minutes.specs.Books.{HaveTime}
use Rattle.run_minutes.specs.run_promise.Origin.{Origin, rule_of, start_at, first_of}
use Rattle.run_acts.specs.run_rings.Spans.{with_second}
use Rattle.run_acts.specs.run_rings.Same.{LeavesRings}
use Rattle.run_acts.proofs.run_rings.Same.{behind-same, rings-left, rings-moments}
use Rattle.run_acts.specs.run_note_record.OnCards.{has_call_failed_in, PlacesStay, IsReadingOf, VehiclesGo, SessionsGo, NoOtherComes, CardsGo, CardsStay}
use Rattle.run_acts.specs.run_note_record.Moved.{goes_in, moves_to}
use Rattle.run_acts.specs.run_note_record.Sessions.{OpensIn, Opens}
use Rattle.run_acts.proofs.run_note_record.Moved.{woken-moves}
use Rattle.run_acts.specs.run_note_record.Ringed.{Seating, IsInsertionIn, since_in}
use Rattle.run_acts.specs.run_note_record.RingsSoFar.{RingedBehind, IsSecond, RingedIn, HasMoreBreaks, GoesBehind}
use Rattle.run_acts.specs.run_note_record.Steps.{nobody, spans_cut}
use Rattle.run_acts.specs.run_note_record.Waking.{NoneFound, IsFoundAnew}
use Rattle.run_acts.specs.run_note_record.Stored.{StandsOn, StoresOn, StoresOff}
use Rattle.run_acts.proofs.run_note_record.Bases.{stored-first}
use Rattle.run_acts.proofs.run_note_record.OnCards.{call-failed, stay-itself}
use Rattle.run_acts.proofs.run_note_record.SoFar.{left-itself, go-on-in, cut-ends}
use Rattle.run_acts.proofs.run_note_record.RingsWaking.{behind-alike, still-failed, still-call-failed, power-begins, passed-anew, accepted-anew, cut-anew}
use Rattle.run_acts.specs.run_record.Recorded.{Values, RecordBetweenSeconds}
use Rattle.run_acts.specs.run_record.Within.{Beginning}
use Rattle.run_acts.specs.run_record.Waking.{both_slots}
use Rattle.run_acts.specs.declared.run.Run.{Run}
use Rattle.run_acts.specs.Power.{is_lit, cut_run}
use Rattle.run_acts.specs.declared.run.Power.TheVariants.{Lit as HasPower}
use Rattle.run_acts.specs.Recording.{log_of, values_of, RunWithin, RunFails, GoesOnOrFails}
use Rattle.run_acts.specs.Evented.{CutEvented}
use Rattle.run_acts.specs.RunRinged.{seats_of, IsLastFrom, RingsWithin, RingsCut, WithinRinged, CutRinged, InSecondRingedBy, InSecondRinged, with_cut, RingsGoOn}
use Rattle.run_acts.proofs.Readings.{spans-here, insertion-reads}
use Rattle.run_acts.proofs.StoredRun.{run-cut}
use Rattle.run_acts.proofs.RingedSecond.{cut-is, cut-torn, cut-found, cut-failed, power-here, odometer-here, begins-last, since-begun}
use Rattle.recorder_with_cards.specs.Accepting.{IsBare, IsAnew}
use Rattle.recorder_with_cards.specs.Judged.{moment_in, RunNext, JudgesAnew}
use Rattle.recorder_with_cards.specs.JudgedRings.{AreSeatedWith, JudgedInRings, IsJudgedInRings, IsOdometerOf, RingsJudged, RingsJudgedAnew}
use Rattle.recorder_with_cards.specs.Woken.{EventsWoken, RingsWoken}
use Rattle.recorder_with_cards.proofs.Resumed.{RunWaking, within-of, waiting_in, driver-next, codriver-next, codriver-began}
use Rattle.recorder_with_cards.proofs.JudgedSessions.{cards-fail, cards-open}
use Rattle.recorder_with_cards.proofs.RingsHere.{here-then, here-more, here-cut, goes-behind}

-- ---- calls that write no ring

-- those on the unit alone leave the cards
pub cards-beside : (o : Origin) (spans : List SpanFrom) (U W X Y : State) → CardsStay o spans (devices U X Y) (devices W X Y)
cards-beside o spans U W X Y = record { places = places; vehicles = vehicles; sessions = sessions }
  where
    places : PlacesStay o (devices U X Y) (devices W X Y)
    places A valid y left = (y, left, refl)
    places B valid y left = (y, left, refl)

    vehicles : VehiclesGo o spans NoOtherComes (devices U X Y) (devices W X Y)
    vehicles A valid y left = (y, left, goes-itself (own_sizes (card_image o.recording A)) (IsReadingOf spans (NoOtherComes A)) y)
    vehicles B valid y left = (y, left, goes-itself (own_sizes (card_image o.recording B)) (IsReadingOf spans (NoOtherComes B)) y)

    sessions : SessionsGo o NoOtherComes (devices U X Y) (devices W X Y)
    sessions A valid y left = (y, left, inl refl)
    sessions B valid y left = (y, left, inl refl)

-- images that differ in rows and slots of minutes alone have the same rings
pub mend-leaves : (j : Notes) (U W : State) → IsCoherent U → LeavesOnly U W (IsMending j) → LeavesRings U W
mend-leaves j U W whole moments = rings-moments U W (IsMending j) whole moments (λ x c m. behind-same x c m.outside.after)

pub read-leaves : (U V : State) → IsCoherent U → LeavesOnly U V Unchanged → LeavesRings U V
read-leaves U V whole leaves_ = rings-moments U V Unchanged whole leaves_ (λ x c never. absurd never)

-- ---- who sits in a slot sat there before the lines of a power-on

-- the same card sat there
abbrev pub SatThere : Sitting → Option Sitting → Type 0
SatThere x o = (y : Sitting) × (o ≡ Some y) × (y.card ≡ x.card)

none-sits : {T : Type 0} (x : Sitting) → None ≡ Some x → T
none-sits {T} x is = absurd (cc)

sat-left : (slots : Slots) (at slot : Slot) (x : Sitting) → in_slot (with_slot slots at None) slot ≡ Some x → SatThere x (in_slot slots slot)
sat-left slots Driver Driver x is = none-sits x is
sat-left slots CoDriver CoDriver x is = none-sits x is
sat-left slots Driver CoDriver x is = (x, is, refl)
sat-left slots CoDriver Driver x is = (x, is, refl)

accepted-one : (u : ℕ) (o : Option Sitting) (x : Sitting) → option_map {T = Sitting} {U = Sitting} (λ y. record y { accepted = Some u }) o ≡ Some x → SatThere x o
accepted-one u None x is = none-sits x is
accepted-one u (Some y) x is = (y, refl, (let one : record y { accepted = Some u } ≡ x = cc in ap (λ (z : Sitting). z.card) one))

sat-accepted : (u : ℕ) (slots : Slots) (at slot : Slot) (x : Sitting) → in_slot (with_slot slots at (option_map {T = Sitting} (λ y. record y { accepted = Some u }) (in_slot slots at))) slot ≡ Some x → SatThere x (in_slot slots slot)
sat-accepted u slots Driver Driver x is = accepted-one u slots.driver x is
sat-accepted u slots CoDriver CoDriver x is = accepted-one u slots.codriver x is
sat-accepted u slots Driver CoDriver x is = (x, is, refl)
sat-accepted u slots CoDriver Driver x is = (x, is, refl)

sat-by : (slot : Slot) (x : Sitting) (o : Option Sitting) (torn accepts : Bool) (l a j : Course) → (in_slot l.slots slot ≡ Some x → SatThere x o) → (in_slot a.slots slot ≡ Some x → SatThere x o) → (in_slot j.slots slot ≡ Some x → SatThere x o) →
    in_slot (cond torn l (cond accepts a j)).slots slot ≡ Some x → SatThere x o
sat-by slot x o true accepts l a j left_ accepted same is = left_ is
sat-by slot x o false true l a j left_ accepted same is = accepted is
sat-by slot x o false false l a j left_ accepted same is = same is

abbrev judged : Phase → Slot → Course → List Verdict → Course
judged p slot c verdicts = record c { found = c.found ++ flat_map (λ (visit : Visit). map (λ (v : Verdict). (visit, v)) verdicts) (visits p slot c.slots) }

sat-one : (log : RunLog) (u : ℕ) (p : Phase) (moved : Moved) (at slot : Slot) (c : Course) (x : Sitting) → in_slot (slot_told log u p moved at c).slots slot ≡ Some x → SatThere x (in_slot c.slots slot)
sat-one log u p moved at slot c x is =
    let vs : List Verdict = cond (moved.enters at) (found_in log u p at) [] in
    sat-by slot x (in_slot c.slots slot) (is_torn_in log u p at) (list_any is_accepting vs)
    (record (leaves at (judged p at c vs)) { torn = c.torn ++ (moved.leaving at ++ visits p at c.slots) })
    (record (judged p at c vs) { slots = with_slot c.slots at (option_map {T = Sitting} (λ y. record y { accepted = Some u }) (in_slot c.slots at)) }) (judged p at c vs)
    (sat-left c.slots at slot x) (sat-accepted u c.slots at slot x) (λ same. (x, same, refl)) is

pub sat-both : (log : RunLog) (u : ℕ) (p : Phase) (moved : Moved) (slot : Slot) (c : Course) (x : Sitting) → in_slot (both_told log u p moved c).slots slot ≡ Some x → SatThere x (in_slot c.slots slot)
sat-both log u p moved slot c x is =
    let behind = sat-one log u p moved CoDriver slot (slot_told log u p moved Driver c) x is in
    let first = sat-one log u p moved Driver slot c behind.0 behind.1 in
    (first.0, first.1, first.2 ∙ behind.2)

-- who sits there then was not torn out
torn-empty : (log : RunLog) (u : ℕ) (p : Phase) (moved : Moved) (at : Slot) (c : Course) (x : Sitting) → in_slot (slot_told log u p moved at c).slots at ≡ Some x → is_torn_in log u p at ≡ false
torn-empty log u p moved at c x is = by (is_torn_in log u p at) refl
  where
    none-at : (slots : Slots) (sl : Slot) → in_slot (with_slot slots sl None) sl ≡ Some x → ⊥
    none-at slots Driver left_ = none-sits x left_
    none-at slots CoDriver left_ = none-sits x left_

    by : (b : Bool) → is_torn_in log u p at ≡ b → is_torn_in log u p at ≡ false
    by false whole = whole
    by true torn =
        let vs : List Verdict = cond (moved.enters at) (found_in log u p at) [] in
        let left_ : Course = record (leaves at (judged p at c vs)) { torn = c.torn ++ (moved.leaving at ++ visits p at c.slots) } in
        let taken : Course = record (judged p at c vs) { slots = with_slot c.slots at (option_map {T = Sitting} (λ y. record y { accepted = Some u }) (in_slot c.slots at)) } in
        absurd (none-at c.slots at (subst (λ (b : Bool). in_slot (cond b left_ (cond (list_any is_accepting vs) taken (judged p at c vs))).slots at ≡ Some x) torn is))

pub whole-there : (log : RunLog) (u : ℕ) (p : Phase) (moved : Moved) (slot : Slot) (c : Course) (x : Sitting) → in_slot (both_told log u p moved c).slots slot ≡ Some x → is_torn_in log u p slot ≡ false
whole-there log u p moved Driver c x is =
    let behind = sat-one log u p moved CoDriver Driver (slot_told log u p moved Driver c) x is in
    torn-empty log u p moved Driver c behind.0 behind.1
whole-there log u p moved CoDriver c x is = torn-empty log u p moved CoDriver (slot_told log u p moved Driver c) x is

-- ---- a second with power, as its spans have it
second-is : (log : RunLog) (before : Before) (s : TraceSecond) → has_power before s ≡ true → IsSecond s before (second_told log before s)
second-is log before s power = record {
  number = told-number log before s;
  speed = (let is : (second_told log before s).second.speed ≡ s.speed = rw power refl in is);
  lit = (let is : (second_told log before s).lit ≡ true = rw power refl in is);
  starts = (let is : (second_told log before s).starts ≡ not before.running = rw power refl in is);
}

-- POWER COMES with a second, and is cut at once: it goes on so by the log then
pub record IsCutAtOnce (done : List TraceSecond) (s : TraceSecond) (p : Progress) : Type 0 where
  pub power : has_power (went p.log done).before s ≡ true
  pub none : TellsNothing p.log s.number
  pub goes : GoesOnBy p (with_cut p.log s []) s
  pub behind : GoesBehind p.log (with_cut p.log s []) done

pub cut-at_once : (o : Origin) (done : List TraceSecond) (s : TraceSecond) (p : Progress) → BookFollowsRun (rule_of o) (start_at o) o.from (first_of o) done p → Comes (went p.log done).before p.next → s.number ≡ p.next → s.has_power ≡ true → IsCutAtOnce done s p
cut-at_once o done s p f comes number given =
    let goes : GoesOnBy p (with_cut p.log s []) s = record { number = number; given = given; breaks = (cut_at s.number true 0 ∷ [], refl, (number, tt)); finds = ([], sym (append-nil p.log.finds), tt) } in
    record {
      power = comes-power (went p.log done).before s p.next comes number given;
      none = nothing-told (rule_of o) (start_at o) o.from (first_of o) done p f s.number (omega (arith, number));
      goes = goes;
      behind = record {
        same = same-before o done p f s (with_cut p.log s []) goes;
        went_is = went-same_ (rule_of o) (start_at o) o.from (first_of o) done p f.order f.next f.unfound s (with_cut p.log s []) goes;
      };
    }

-- ---- THE UNIT FAILED before a span began: power comes with a second, and is cut at once
module _ (o : Origin) (done : List TraceSecond) (s : TraceSecond) (p : Progress) (f : BookFollowsRun (rule_of o) (start_at o) o.from (first_of o) done p) (comes : Comes (went p.log done).before p.next) (number : s.number ≡ p.next) (given : s.has_power ≡ true)
    (d : Devices) (spans : List SpanFrom) (seats : Card → Option Seating) (v : RingedBehind o done p.log s.number spans seats d) where
  abbrev cut : RunLog
  cut = with_cut p.log s []

  abbrev t : ToldSecond
  t = second_told p.log (went p.log done).before s

  at_once : IsCutAtOnce done s p
  at_once = cut-at_once o done s p f comes number given

  pub unpowered-ringed : (base : ℕ) → RingedBehind o (done ++ s ∷ []) (with_cut p.log s []) (suc s.number) (spans_cut spans base (with_cut p.log s []) done s) nobody d
  unpowered-ringed base =
      let began : RingedIn o done s p.log [] p.log spans base t nobody d = power-begins d o done s p.log spans base t seats nobody v comes.running (λ slot. at_once.none.found (In 0) slot) (second-is p.log (went p.log done).before s at_once.power) (λ c. inr refl) in
      let told : RingedIn o done s p.log [] (with_cut p.log s []) spans base t nobody d = go-on-in d d o done s p.log [] p.log (with_cut p.log s []) spans base t nobody nobody began (cut_at s.number true 0 ∷ [], refl)
      (record {
        begun = λ k lt. absurd (omega (arith, lt));
        begun_later = λ k lt. absurd (omega (arith, lt));
        torn = λ k slot le. cut-torn p.log s.number 0 at_once.none.cut (In k) slot;
        found = λ k slot le. cut-found p.log s.number 0 at_once.none.cut (In k) slot;
      }) (rings-left d.unit) (left-itself o d) (stay-itself o (with_second spans base t) d) (λ c. inl refl) in
      cut-ends d o done s p.log (with_cut p.log s []) [] s.actions spans base t nobody nobody told at_once.behind at_once.power refl (cut-is p.log s.number 0 at_once.none.cut) (λ c. inl refl)

-- power may come with the next second
pub comes-of : (supply : UnitPower) (before : Before) (next : ℕ) → MayPower supply next → IsSupplied supply before next → Comes before next
comes-of (Lit span) before next may h = absurd may
comes-of Due before next may h = h next
comes-of IsLost before next may h = lost-comes before next h may

-- ---- WHAT WAS KEPT is found, and changes no note of the seconds before
pub learned-ringed : (o : Origin) (done : List TraceSecond) (log : RunLog) (i k next number : ℕ) → AreInOrder o.from done → number ≡ next → (spans : List SpanFrom) (seats : Card → Option Seating) (d : Devices) → RingedBehind o done log next spans seats d →
    RingedBehind o done (found_log i k log) number spans seats d
learned-ringed o done log i k next number order same spans seats d v =
    subst (λ (n : ℕ). RingedBehind o done (found_log i k log) n spans seats d) (sym same)
    (behind-alike d o done log (found_log i k log) next spans seats v
    (record { same = all-before (λ u. SameAt log (found_log i k log) u) o.from done order (λ u lt. same-found log i k u); went_is = went-found log i k o.from done order }) (λ u has. still-failed log i k u has) (λ u has. still-call-failed log i k u has))

-- ---- A SPAN BEGINS, and its cards are judged one after the other

pub in-both : (slot : Slot) → Contains both_slots slot
in-both Driver = Contains-append_left (Driver ∷ []) (CoDriver ∷ []) Driver (Contains-push [] Driver)
in-both CoDriver = Contains-push (Driver ∷ []) CoDriver

pub record WakesRinged (o : Origin) (done : List TraceSecond) (s : TraceSecond) (b : Beginning) (waits : List Visit) (untold : List Slot) (spans : List SpanFrom) (t : ToldSecond) (run : Run) (out : Outcome) (d : Devices) : Type 0 where
  pub waking : RunWaking o done s b waits untold run out d
  pub rings : RingsWithin o done s b.run.log [] run (log_of out) spans t d

-- nothing is noted yet
pub wakes-ringed : (o : Origin) (done : List TraceSecond) (s : TraceSecond) (b : Beginning) (waits : List Visit) (run : Run) (out : Outcome) (d : Devices) → RunWaking o done s b waits both_slots run out d → log_of out ≡ b.run.log →
    (spans : List SpanFrom) (seats : Card → Option Seating) → RingedBehind o done (log_of out) s.number spans seats d → ((c : Card) → seats_of run c ≡ None) → run.noted ≤ length (log_of out).finds →
    WakesRinged o done s b waits both_slots spans (second_told (log_of out) (went (log_of out) done).before s) run out d
wakes-ringed o done s b waits run out d waking log spans seats v bare counted =
    let x = within-of o done s b waits both_slots run out d waking in
    let t : ToldSecond = second_told (log_of out) (went (log_of out) done).before s in
    let same : (went x.within.b.run.log done).before ≡ (went (log_of out) done).before = ap (λ (y : Beginning). (went y.run.log done).before) waking.waking.began ∙ ap (λ (l : RunLog). (went l done).before) (sym log) in
    let power : has_power (went (log_of out) done).before s ≡ true = ap (λ (q : Before). has_power q s) (sym same) ∙ power-here o done s (In 0) waits None [] (values_of run out) d x.within in
    let off : (went (log_of out) done).before.running ≡ false = ap (λ (l : RunLog). (went l done).before.running) log ∙ waking.waking.starts in
    let second : IsSecond s (went (log_of out) done).before t = second-is (log_of out) (went (log_of out) done).before s power in
    let starts : t.starts ≡ true = second.starts ∙ ap not off in
    record {
      waking = waking;
      rings = record {
        base = begins-last run.keeper.odometer spans t second.lit starts;
        counted = counted;
        ringed = subst (λ (l : RunLog). RingedIn o done s l [] (log_of out) spans run.keeper.odometer t (seats_of run) d) log
            (power-begins d o done s (log_of out) spans run.keeper.odometer t seats (seats_of run) v off (λ slot. waking.waking.none slot (in-both slot)) second (λ c. inr (bare c)));
      };
    }

-- ---- THE CARD OF A SLOT IS JUDGED

module _ (o : Origin) (done : List TraceSecond) (s : TraceSecond) (waits fewer : List Visit) (slot : Slot) (card : Card) (old new : Run) (before after : Outcome) (d e : Devices) (next : RunNext o done s 0 waits fewer old before d slot card)
    (off : (went next.goes.within.b.run.log done).before.running ≡ false) (first : slot ≡ Driver → found_in (log_of before) s.number (In 0) CoDriver ≡ []) (spans : List SpanFrom) (t : ToldSecond) (rings : RingsWithin o done s next.goes.within.b.run.log [] old (log_of before) spans t d)
    (failed : Bool) (j : IsJudgedInRings failed (since_in o next.goes.within.b.run.log done s) s 0 slot card (with_second spans old.keeper.odometer t) old new before after d e) where
  abbrev began : RunLog
  began = next.goes.within.b.run.log

  uncut : cut_in (log_of after) s.number ≡ None
  uncut = j.cut ∙ next.goes.within.moment.up_to.uncut

  starts : t.starts ≡ true
  starts = rings.ringed.second.starts ∙ ap not off

  sat : SatThere (record { card = card; accepted = None }) (in_slot (went next.goes.within.b.run.log done).before.slots slot)
  sat = sat-both (log_of before) s.number (In 0) (unmoved (not (went next.goes.within.b.run.log done).before.running)) slot (fresh (not (went next.goes.within.b.run.log done).before.running) (went next.goes.within.b.run.log done).before.slots) (record { card = card; accepted = None }) next.next.sits_

  -- of the slots before it, and of this one
  anew-by : (log later : RunLog) (sl : Slot) (vs : List Verdict) → (sl ≡ Driver → found_in log s.number (In 0) CoDriver ≡ []) → found_in log s.number (In 0) sl ≡ [] → found_in later s.number (In 0) (other_slot sl) ≡ found_in log s.number (In 0) (other_slot sl) → found_in later s.number (In 0) sl ≡ vs →
      IsFoundAnew log later s.number sl vs
  anew-by log later Driver vs none own others found = (both, found, others ∙ none refl)
    where
      both : NoneFound log s.number
      both Driver = own
      both CoDriver = none refl
  anew-by log later CoDriver vs none own others found = (others, own, found)

  cut-more : HasMoreBreaks (log_of before) (with_cut (log_of after) s [])
  cut-more = here-more (log_of before) (with_cut (log_of after) s []) s.number (here-then (log_of before) (log_of after) (with_cut (log_of after) s []) s.number j.here (here-cut (log_of after) s []))

  cut-found_ : (sl : Slot) → found_in (with_cut (log_of after) s []) s.number (In 0) sl ≡ found_in (log_of after) s.number (In 0) sl
  cut-found_ sl = cut-found (log_of after) s.number 0 uncut (In 0) sl

  behind-cut : GoesBehind next.goes.within.b.run.log (with_cut (log_of after) s []) done
  behind-cut = goes-behind o done s (In 0) waits None [] (values_of old before) d next.goes.within (with_cut (log_of after) s []) (here-then (log_of before) (log_of after) (with_cut (log_of after) s []) s.number j.here (here-cut (log_of after) s []))

  power-then : has_power (went next.goes.within.b.run.log done).before s ≡ true
  power-then = power-here o done s (In 0) waits None [] (values_of old before) d next.goes.within

  -- its insertion tells of who sits there
  of-sitter : (log : RunLog) (head : List ℕ) → IsInsertionIn (since_in o next.goes.within.b.run.log done s) log (with_second spans old.keeper.odometer t) e (record { accepted = record { second = s.number; slot = slot; card = card }; withdrawn = None }) head →
      IsInsertionIn (since_in o next.goes.within.b.run.log done s) log (with_second spans old.keeper.odometer t) e (record { accepted = record { second = s.number; slot = slot; card = sat.0.card }; withdrawn = None }) head
  of-sitter log head is = subst (λ (c : Card). IsInsertionIn (since_in o next.goes.within.b.run.log done s) log (with_second spans old.keeper.odometer t) e (record { accepted = record { second = s.number; slot = slot; card = c }; withdrawn = None }) head) (sym sat.2) is

  -- which session the card may tell, by the log behind it, or by one with a cut more
  abbrev acceptance : Acceptance
  acceptance = record { second = s.number; slot = slot; card = card }

  abbrev verdicts : List Verdict
  verdicts = found_in (log_of after) s.number (In 0) slot

  after-more : HasMoreBreaks (log_of after) (with_cut (log_of after) s [])
  after-more = (cut_at s.number true 0 ∷ [], refl)

  none-more : HasMoreBreaks (log_of after) (log_of after)
  none-more = ([], sym (append-nil (log_of after).breaks))

  -- as power begins it is put in anew
  put-anew : (log : RunLog) → Contains (moves_to log (went next.goes.within.b.run.log done).before s []) (goes_in s.number card)
  put-anew log =
      subst (λ (c : Card). Contains (moves_to log (went next.goes.within.b.run.log done).before s []) (goes_in s.number c)) sat.2
      (woken-moves log (went next.goes.within.b.run.log done).before s off slot sat.0 sat.1)

  -- of who sits there
  sitter-opens : (log : RunLog) → CardsGo o (with_second spans old.keeper.odometer t) (OpensIn log (record { second = s.number; slot = slot; card = card })) d e → CardsGo o (with_second spans old.keeper.odometer t) (OpensIn log (record { second = s.number; slot = slot; card = sat.0.card })) d e
  sitter-opens log cards = subst (λ (c : Card). CardsGo o (with_second spans old.keeper.odometer t) (OpensIn log (record { second = s.number; slot = slot; card = c })) d e) (sym sat.2) cards

  sitter-told : (log : RunLog) → Opens o log (record { second = s.number; slot = slot; card = card }) e → Opens o log (record { second = s.number; slot = slot; card = sat.0.card }) e
  sitter-told log opens = subst (λ (c : Card). Opens o log (record { second = s.number; slot = slot; card = c }) e) (sym sat.2) opens

  -- the unit did not fail, or did as the cut tells
  not-failed : failed ≡ false → failed ≡ true → has_call_failed_in (log_of after) s.number ≡ true
  not-failed well is = absurd (let wrong : false ≡ true = sym well ∙ is in cc)

  cut-fails : failed ≡ true → has_call_failed_in (with_cut (log_of after) s []) s.number ≡ true
  cut-fails is = call-failed (with_cut (log_of after) s []) s.number (cut-failed (log_of after) s.number 0 uncut)

  by : (b : Bool) → failed ≡ b → JudgedInRings b (since_in o next.goes.within.b.run.log done s) (record { second = s.number; slot = slot; card = card }) (found_in (log_of after) s.number (In 0) slot) (with_second spans old.keeper.odometer t) (seats_of old) (seats_of new) d e →
      RingsGoOn b o done s next.goes.within.b [] new (log_of after) spans t e
  by false well h = record {
    base = subst (λ (n : ℕ). IsLastFrom n (with_second spans n t)) (sym j.odometer) rings.base;
    counted = j.counted;
    ringed = subst (λ (n : ℕ). RingedIn o done s next.goes.within.b.run.log [] (log_of after) spans n t (seats_of new) e) (sym j.odometer) (⊎_elim
        (λ p. passed-anew d e o done s next.goes.within.b.run.log (log_of before) (log_of after) spans old.keeper.odometer t (seats_of old) (seats_of new) rings.ringed off (here-more (log_of before) (log_of after) s.number j.here) slot (found_in (log_of after) s.number (In 0) slot)
        (anew-by (log_of before) (log_of after) slot (found_in (log_of after) s.number (In 0) slot) first next.none j.others refl) (inr p.none) p.stays j.left (cards-fail o (with_second spans old.keeper.odometer t) d e failed (log_of after) (log_of after) none-more acceptance verdicts j.places (not-failed well) (moves_to (log_of after) (went next.goes.within.b.run.log done).before s []) (put-anew (log_of after)) p.none) p.fewer_sit)
        (λ i. accepted-anew d e o done s next.goes.within.b.run.log (log_of before) (log_of after) spans old.keeper.odometer t (seats_of old) i.now (seats_of new) rings.ringed off (here-more (log_of before) (log_of after) s.number j.here) slot sat.0 sat.1 i.verdict
        (anew-by (log_of before) (log_of after) slot (i.verdict ∷ []) first next.none j.others i.found) i.accepting i.head i.index i.writes i.inserts.long (of-sitter (log_of after) i.head (i.inserts.is (log_of after)))
        (subst (λ (c : Card). AreSeatedWith c i.index (seats_of old) i.now) (sym sat.2) i.seated) j.left (sitter-opens (log_of after) (cards-open o (with_second spans old.keeper.odometer t) d e failed (log_of after) (log_of after) none-more acceptance verdicts j.places (not-failed well))) (sitter-told (log_of after) (j.opens well i.verdict i.found i.accepting)) i.fewer_sit)
        h);
  }
  by true ill h =
      let cut : RunLog = with_cut (log_of after) s [] in
      record {
        counted = j.counted;
        lines = since-begun o done s (In 0) waits None [] (values_of old before) d next.goes.within (log_of after) (here-more (log_of before) (log_of after) s.number j.here);
        behind = behind-cut;
        odometer = j.odometer ∙ next.goes.odometer;
        ringed = subst (λ (n : ℕ). RingedBehind o (done ++ s ∷ []) cut (suc s.number) (spans_cut spans n cut done s) nobody e) (sym j.odometer) (⊎_elim
            (λ p.
            let passed : RingedIn o done s next.goes.within.b.run.log [] cut spans old.keeper.odometer t nobody e =
            passed-anew d e o done s next.goes.within.b.run.log (log_of before) cut spans old.keeper.odometer t (seats_of old) nobody rings.ringed off cut-more slot (found_in (log_of after) s.number (In 0) slot)
            (anew-by (log_of before) cut slot (found_in (log_of after) s.number (In 0) slot) first next.none (cut-found_ (other_slot slot) ∙ j.others) (cut-found_ slot)) (inr p.0) p.1 j.left (cards-fail o (with_second spans old.keeper.odometer t) d e failed (log_of after) cut after-more acceptance verdicts j.places cut-fails (moves_to cut (went next.goes.within.b.run.log done).before s []) (put-anew cut) p.0) (λ c. inr refl) in
            cut-ends e o done s next.goes.within.b.run.log cut [] s.actions spans old.keeper.odometer t nobody nobody passed behind-cut power-then refl (cut-is (log_of after) s.number 0 uncut) (λ c. inl refl))
            (λ i. cut-anew d e o done s next.goes.within.b.run.log (log_of before) cut spans old.keeper.odometer t (seats_of old) rings.ringed off cut-more slot sat.0 sat.1 i.verdict
            (anew-by (log_of before) cut slot (i.verdict ∷ []) first next.none (cut-found_ (other_slot slot) ∙ j.others) (cut-found_ slot ∙ i.found)) i.accepting behind-cut power-then (cut-is (log_of after) s.number 0 uncut) (cut-failed (log_of after) s.number 0 uncut)
            i.head i.writes i.inserts.long (of-sitter cut i.head (i.inserts.is cut)) j.left (sitter-opens cut (cards-open o (with_second spans old.keeper.odometer t) d e failed (log_of after) cut after-more acceptance verdicts j.places cut-fails)))
            h);
      }

  slot-ringed : RingsGoOn failed o done s next.goes.within.b [] new (log_of after) spans t e
  slot-ringed = by failed refl j.rings

-- by the call
card-ringed : (o : Origin) (done : List TraceSecond) (s : TraceSecond) (b : Beginning) (waits fewer : List Visit) (slot : Slot) (card : Card) (old new : Run) (before after : Outcome) (d e : Devices) (next : RunNext o done s 0 waits fewer old before d slot card) → next.goes.within.b ≡ b → (went b.run.log done).before.running ≡ false →
    (slot ≡ Driver → found_in (log_of before) s.number (In 0) CoDriver ≡ []) → (spans : List SpanFrom) (t : ToldSecond) → RingsWithin o done s b.run.log [] old (log_of before) spans t d → (at : Moment) → at ≡ moment_in s 0 → (failed : Bool) → RingsJudged slot card at failed old new before after d e → HaveTime e →
    RingsGoOn failed o done s b [] new (log_of after) spans t e
card-ringed o done s b waits fewer slot card old new before after d e next is off first spans t rings at at_is failed judges time =
    let here : RingsWithin o done s next.goes.within.b.run.log [] old (log_of before) spans t d = subst (λ (y : Beginning). RingsWithin o done s y.run.log [] old (log_of before) spans t d) (sym is) rings in
    let off_here : (went next.goes.within.b.run.log done).before.running ≡ false = subst (λ (y : Beginning). (went y.run.log done).before.running ≡ false) (sym is) off in
    let odometer : IsOdometerOf (with_second spans old.keeper.odometer t) s.number (odometer_by old.keeper.odometer (travelled_of next.goes.within.sp)) = record {
      at = sym (odometer-here o done s (In 0) waits [] (values_of old before) d next.goes.within [] (log_of before) spans old.keeper.odometer t (seats_of old) here.ringed here.base);
      reads = insertion-reads o done s (In 0) waits [] (values_of old before) d next.goes.within spans old.keeper.odometer t (spans-here o done s next.goes.within.b.run.log [] old (log_of before) spans t d here) (odometer_by old.keeper.odometer (travelled_of next.goes.within.sp)) refl;
    } in
    let j = judges o done s 0 waits fewer at_is next (with_second spans old.keeper.odometer t) odometer rings.counted time in
    subst (λ (y : Beginning). RingsGoOn failed o done s y [] new (log_of after) spans t e) is
    (slot-ringed o done s waits fewer slot card old new before after d e next off_here first spans t here failed j)

-- nobody sits there
bare-ringed : (o : Origin) (done : List TraceSecond) (s : TraceSecond) (b : Beginning) (old new : Run) (before after : Outcome) (d e : Devices) (spans : List SpanFrom) (t : ToldSecond) (failed : Bool) → failed ≡ false → new ≡ old → after ≡ before → ((P : Devices → Type 0) → P d → P e) →
    RingsWithin o done s b.run.log [] old (log_of before) spans t d → RingsGoOn failed o done s b [] new (log_of after) spans t e
bare-ringed o done s b old new before after d e spans t failed well same lines still rings =
    subst (λ (f : Bool). RingsGoOn f o done s b [] new (log_of after) spans t e) (sym well)
    (still (λ (x : Devices). RingsWithin o done s b.run.log [] new (log_of after) spans t x)
    (subst (λ (r : Run). RingsWithin o done s b.run.log [] r (log_of after) spans t d) (sym same) (subst (λ (q : Outcome). RingsWithin o done s b.run.log [] old (log_of q) spans t d) (sym lines) rings)))

pub driver-first : CoDriver ≡ Driver → {T : Type 0} → T
driver-first is {T} = absurd (cc)

-- THE DRIVER SLOT'S CARD
pub driver-ringed : (o : Origin) (done : List TraceSecond) (s : TraceSecond) (b : Beginning) (card : Option Card) (rest : List Visit) (old : Run) (before : Outcome) (d : Devices) (spans : List SpanFrom) (t : ToldSecond) → WakesRinged o done s b (waiting_in Driver card ++ rest) both_slots spans t old before d →
    (none : found_in (log_of before) s.number (In 0) CoDriver ≡ []) → AllByRecursion (λ (x : Visit). x.phase ≡ In 0) rest → card_in old.keeper.cabin.slots.seats.driver ≡ card → IsBare old.keeper.cabin.slots.seats.driver → (at : Moment) → at ≡ moment_in s 0 → (speed : ℕ) (failed : Bool) (new : Run) (after : Outcome) →
    IsAnew card Driver at speed old new before after → (e : Devices) → (card ≡ None → (P : Devices → Type 0) → P d → P e) → HaveTime e → JudgesAnew card Driver at failed old new before after d e → RingsJudgedAnew card Driver at failed old new before after d e →
    RingsGoOn failed o done s b [] new (log_of after) spans t e
driver-ringed o done s b None rest old before d spans t w none once is bare at at_is speed failed new after anew e still time judges rings = bare-ringed o done s b old new before after d e spans t failed judges anew.0 anew.1 (still refl) w.rings
driver-ringed o done s b (Some card) rest old before d spans t w none once is bare at at_is speed failed new after anew e still time judges rings =
    let next = driver-next o done s b card rest old before d w.waking once is bare in
    card-ringed o done s b (waiting_in Driver (Some card) ++ rest) rest Driver card old new before after d e next.0 next.1 w.waking.waking.starts (λ is_driver. none) spans t w.rings at at_is failed rings time

-- THE CO-DRIVER SLOT'S CARD
pub codriver-ringed : (o : Origin) (done : List TraceSecond) (s : TraceSecond) (b : Beginning) (card : Option Card) (old : Run) (before : Outcome) (d : Devices) (spans : List SpanFrom) (t : ToldSecond) → WakesRinged o done s b (waiting_in CoDriver card) (CoDriver ∷ []) spans t old before d →
    card_in old.keeper.cabin.slots.seats.codriver ≡ card → IsBare old.keeper.cabin.slots.seats.codriver → (at : Moment) → at ≡ moment_in s 0 → (speed : ℕ) (failed : Bool) (new : Run) (after : Outcome) →
    IsAnew card CoDriver at speed old new before after → (e : Devices) → (card ≡ None → (P : Devices → Type 0) → P d → P e) → HaveTime e → JudgesAnew card CoDriver at failed old new before after d e → RingsJudgedAnew card CoDriver at failed old new before after d e →
    RingsGoOn failed o done s b [] new (log_of after) spans t e
codriver-ringed o done s b None old before d spans t w is bare at at_is speed failed new after anew e still time judges rings = bare-ringed o done s b old new before after d e spans t failed judges anew.0 anew.1 (still refl) w.rings
codriver-ringed o done s b (Some card) old before d spans t w is bare at at_is speed failed new after anew e still time judges rings =
    card-ringed o done s b (waiting_in CoDriver (Some card)) [] CoDriver card old new before after d e (codriver-next o done s b card old before d w.waking is bare) (codriver-began o done s b card old before d w.waking is bare) w.waking.waking.starts
    (λ is_driver. driver-first is_driver) spans t w.rings at at_is failed rings time

-- ---- WHAT IS STORED of odometers stands through them

-- the seconds before, by the log as it was before what was kept was found
pub spans-before : (o : Origin) (done : List TraceSecond) (supply : UnitPower) (v : Values) (d : Devices) → RecordBetweenSeconds o done supply v d → (k : ℕ) (log : RunLog) → log ≡ found_log v.unfound k v.log → (spans : List SpanFrom) → map (λ (x : SpanFrom). x.span) spans ≡ spans_of (went log done).told →
    map (λ (x : SpanFrom). x.span) spans ≡ spans_of (went v.log done).told
spans-before o done supply v d r k log is spans are =
    are ∙ ap (λ (l : RunLog). spans_of (went l done).told) is ∙ ap (λ (g : Went). spans_of g.told) (went-found v.log v.unfound k o.from done r.recorded.followed.order)

-- a call in the second leaves the odometer
pub goes-odometer : (failed : Bool) (o : Origin) (done : List TraceSecond) (s : TraceSecond) (at : Phase) (waits : List Visit) (run : Run) (out : Outcome) (d : Devices) (b : Beginning) → GoesOnOrFails failed o done s at waits run out d b → failed ≡ false →
    run.keeper.odometer ≡ odometer_after (odometer_at_start o.recording.unit) b.travel.before
goes-odometer false o done s at waits run out d b h well = h.goes.odometer ∙ ap (λ (x : Beginning). odometer_after (odometer_at_start o.recording.unit) x.travel.before) h.began
goes-odometer true o done s at waits run out d b h well = absurd (cc)

module _ (o : Origin) (done : List TraceSecond) (s : TraceSecond) (b : Beginning) (waits : List Visit) (untold : List Slot) (spans : List SpanFrom) (t : ToldSecond) (mid : Run) (out : Outcome) (d : Devices) (w : WakesRinged o done s b waits untold spans t mid out d)
    (log : RunLog) (began-so : b.run.log ≡ log) (stands : StandsOn o log mid.unfound spans mid.keeper.odometer) where
  stored : StoresOn o log mid.unfound mid.keeper.odometer (with_second spans mid.keeper.odometer t)
  stored = stored-first o log mid.unfound mid.keeper.odometer spans t w.rings.ringed.second.lit (w.rings.ringed.second.starts ∙ ap not w.waking.waking.starts) stands

  abbrev here_ : RunWithin o done s (In 0) waits [] mid out d
  here_ = within-of o done s b waits untold mid out d w.waking

  is-begun : b ≡ here_.within.b
  is-begun = sym w.waking.waking.began

  first-rings : RingsWithin o done s here_.within.b.run.log [] mid (log_of out) spans t d
  first-rings = subst (λ (y : Beginning). RingsWithin o done s y.run.log [] mid (log_of out) spans t d) is-begun w.rings

  stored-here : StoresOn o here_.within.b.run.log here_.within.b.run.unfound mid.keeper.odometer (with_second spans mid.keeper.odometer t)
  stored-here =
      subst (λ (n : ℕ). StoresOn o here_.within.b.run.log n mid.keeper.odometer (with_second spans mid.keeper.odometer t)) here_.within.unfound
      (subst (λ (l : RunLog). StoresOn o l mid.unfound mid.keeper.odometer (with_second spans mid.keeper.odometer t)) (sym began-so ∙ ap (λ (y : Beginning). y.run.log) is-begun) stored)

  goes-rings : (run : Run) (after : Outcome) (e : Devices) → RingsWithin o done s b.run.log [] run (log_of after) spans t e → run.unfound ≡ mid.unfound → run.keeper.odometer ≡ mid.keeper.odometer → RingsWoken false log o done s spans run (log_of after) e
  goes-rings run after e h unfound same = (
    t,
    subst (λ (l : RunLog). RingsWithin o done s l [] run (log_of after) spans t e) began-so h,
    subst (λ (k : ℕ). StoresOn o log run.unfound k (with_second spans k t)) (sym same) (subst (λ (n : ℕ). StoresOn o log n mid.keeper.odometer (with_second spans mid.keeper.odometer t)) (sym unfound) stored),
  )

  fails-rings : (run : Run) (after : Outcome) (e : Devices) → RingsCut o done s b [] run (log_of after) spans t e → RunFails o done s (In 0) run after e → run.power ≡ HasPower → run.unfound ≡ mid.unfound → RingsWoken true log o done s spans run (log_of after) e
  fails-rings run after e h fails lit unfound =
      let cut : RingsCut o done s here_.within.b [] run (log_of after) spans t e = subst (λ (y : Beginning). RingsCut o done s y [] run (log_of after) spans t e) is-begun h in
      let same : run.keeper.odometer ≡ mid.keeper.odometer = cut.odometer ∙ sym here_.odometer in (
        spans_cut spans run.keeper.odometer (with_cut (log_of after) s []) done s,
        cut.counted,
        cut.ringed,
        subst (λ (k : ℕ). StoresOff o (with_cut (log_of after) s []) run.unfound (spans_cut spans k (with_cut (log_of after) s []) done s) e) (sym same)
            (run-cut o done s (In 0) waits [] mid out d here_ (In 0) run after e fails lit s.actions ([], refl, refl) unfound mid.keeper.odometer same cut.lines cut.behind.went_is spans first-rings.ringed.spans_are t first-rings.ringed.second.lit first-rings.ringed.second.starts stored-here),
      )

  -- behind all of that
  pub woken-rings : (failed : Bool) (run : Run) (after : Outcome) (e : Devices) → RingsGoOn failed o done s b [] run (log_of after) spans t e → (failed ≡ true → RunFails o done s (In 0) run after e) → run.power ≡ HasPower → run.unfound ≡ mid.unfound →
      (failed ≡ false → run.keeper.odometer ≡ mid.keeper.odometer) → RingsWoken failed log o done s spans run (log_of after) e
  woken-rings false run after e h fails lit unfound same = goes-rings run after e h unfound (same refl)
  woken-rings true run after e h fails lit unfound same = fails-rings run after e h (fails refl) lit unfound

-- ---- THE POWER-ON AS A WHOLE

-- the unit failed in it, and the cut is told
pub cut-ringed : (o : Origin) (done : List TraceSecond) (s : TraceSecond) (mid new : Run) (out after : Outcome) (d : Devices) (began : RunLog) (spans : List SpanFrom) → RingsWoken true began o done s spans mid (log_of out) d → CutEvented o done s new after d → new ≡ cut_run mid.next mid →
    after ≡ record out { breaks = with_lines (cut_line mid.next true 0 ∷ []) out.breaks } → s.number ≡ mid.next → (n : ℕ) → InSecondRinged o done s n new after d
cut-ringed o done s mid new out after d _ spans fails cut is told number n =
    let log : and_break (log_of out) (cut_at s.number true 0) ≡ log_of after = ap (λ (u : ℕ). and_break (log_of out) (cut_at u true 0)) number ∙ sym (ap log_of told) in
    let next : suc s.number ≡ suc new.next = ap suc (number ∙ sym (ap (λ (r : Run). r.next) is)) in
    let all : CutRinged o done s new after d = record {
      evented = cut;
      spans = fails.0;
      counted = subst (λ (q : Outcome). new.noted ≤ length q.finds.items) (sym told) (subst (λ (r : Run). r.noted ≤ length out.finds.items) (sym is) fails.1);
      ringed = subst (λ (m : ℕ). RingedBehind o (done ++ s ∷ []) (log_of after) m fails.0 nobody d) next
          (subst (λ (l : RunLog). RingedBehind o (done ++ s ∷ []) l (suc s.number) fails.0 nobody d) log fails.2);
      stored = subst (λ (l : RunLog). StoresOff o l new.unfound fails.0 d) log (subst (λ (n : ℕ). StoresOff o (with_cut (log_of out) s []) n fails.0 d) (sym (ap (λ (r : Run). r.unfound) is)) fails.3);
    } in
    subst (λ (b : Bool). InSecondRingedBy b o done s n new after d) (sym (ap is_lit cut.cut.lost)) all

-- or the second goes on
pub lit-woken : (o : Origin) (done : List TraceSecond) (s : TraceSecond) (run : Run) (out : Outcome) (d : Devices) (began : RunLog) (spans : List SpanFrom) → EventsWoken false began o done s run out d → RingsWoken false began o done s spans run (log_of out) d → InSecondRinged o done s 0 run out d
lit-woken o done s run out d _ spans woken rungs =
    let all : WithinRinged o done s 0 run out d = record {
      evented = woken.0;
      front = [];
      rest = s.actions;
      are = refl;
      number = refl;
      spans = spans;
      told = rungs.0;
      rings = subst (λ (l : RunLog). RingsWithin o done s l [] run (log_of out) spans rungs.0 d) (sym woken.1) rungs.1;
      stored = subst (λ (n : ℕ). StoresOn o woken.0.within.within.b.run.log n run.keeper.odometer (with_second spans run.keeper.odometer rungs.0)) woken.0.within.within.unfound
          (subst (λ (l : RunLog). StoresOn o l run.unfound run.keeper.odometer (with_second spans run.keeper.odometer rungs.0)) (sym woken.1) rungs.2);
    } in
    subst (λ (b : Bool). InSecondRingedBy b o done s 0 run out d) (sym (ap is_lit woken.0.within.lit)) all
