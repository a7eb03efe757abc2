-- Power is back: the unit was read. It was mended, and the second begins; or that failed.
use Rattle.std.proofs.Common.{◌≡◌, inl, inr, ⊎_elim, ℕ, ◌+◌, ◌-◌, ◌/◌, ◌<◌, max, true, false, is_some, None, List, [], ◌++◌, Contains, refl, ap, sym, subst, ◌∙◌, arith}
use Rattle.minute_rules.specs.activity_codec.declared.values.Slot.{Slot}
use Rattle.minute_rules.specs.activity_codec.declared.values.Slot.TheVariants.{Driver, CoDriver}
use Rattle.run_devices.specs.trace_model.declared.Card.{Card}
use Rattle.run_devices.specs.trace_model.Trace.{TraceSecond}
use Rattle.run_devices.specs.run_model.declared.Device.{Device}
use Rattle.minute_rules.specs.minute_model.declared.Rule.{Rule}
use Rattle.minute_rules.specs.minute_model.Minute.{minutes_ahead}
use Rattle.minute_rules.specs.minute_model.Span.{ungiven_of}
use Rattle.run_devices.specs.log_model.declared.lines.Verdict.{Verdict}
use Rattle.run_devices.specs.log_model.Log.{In, Keeping}
use Rattle.run_devices.specs.log_model.Slots.{Slots, in_slot, is_accepted}
use Rattle.run_devices.specs.log_model.Course.{Went, Course, Visit, fresh, went}
use Rattle.run_devices.specs.history_model.Book.{found}
use Rattle.run_devices.specs.history_model.Minutes.{HistoryMinute, up_to}
use Rattle.run_devices.proofs.history_model.Books.{up_to-all}
use Rattle.std.specs.Prelude.{option_to_list}
use Rattle.run_devices.specs.device_rule.Rules.{Standing, Out}
use Rattle.run_devices.specs.run_unit_course.Followed.{UnitPower, Lit, Due, Lost, MayPower}
use Rattle.run_devices.specs.run_unit_course.Legs.{resumed}
use Rattle.run_devices.specs.run_unit_course.Travelled.{MayShow}
use Rattle.run_devices.specs.run_unit_course.Turn.{span_at}
use Rattle.run_devices.specs.safety_model.Safe.{Devices, breakdowns_of, entered_by}
use Rattle.run_devices.specs.run_crew.Cards.{session_of}
use Rattle.run_devices.specs.run_promise.Between.{RunLedger}
use Rattle.run_devices.specs.run_course.Followed.{Progress}
use Rattle.run_devices.specs.run_course.Presence.{SlotsTell}
use Rattle.run_devices.proofs.run_course.Logs.{went-found}
use Rattle.run_devices.proofs.run_course.Presence.{time-passes, found-kept}
use Rattle.run_devices.specs.run_course.Moment.{Moment}
use Rattle.run_devices.specs.run_course.Kept.{HasDecided}
use Rattle.run_devices.proofs.run_course.Moment.{moment-begins}
use Rattle.run_devices.proofs.run_course.Reached.{nothing-told}
use Rattle.run_devices.proofs.run_course.Kept.{nothing-decided, nothing-marked}
use Rattle.run_devices.specs.run_promise.Origin.{Origin, rule_of, start_at, first_of, HistoryIsRecorded}
use Rattle.run_devices.specs.run_promise.Seconds.{found_again}
use Rattle.run_devices.specs.run_promise.Ends.{recording_by, AreVerdicts}
use Rattle.run_devices.proofs.run_promise.Seconds.{found-recorded, more-recorded}
use Rattle.run_devices.specs.run_promise.Beside.{AreFewFound}
use Rattle.run_devices.proofs.run_promise.Beside.{found-tells, few-on, written-on, idle-verdicts, kept-later, kept-found}
use Rattle.run_devices.specs.Presence.{PresentStand, sits}
use Rattle.run_devices.proofs.Presence.{none-to_keep}
use Rattle.run_record.specs.Recorded.{Values, progress, carried, IsWritten, RecordUnpowered, IsHeldBy, RecordBetweenSeconds}
use Rattle.run_record.specs.Within.{Beginning, course_in, IsFoundSo, IsSparedSo, RecordAtFailure}
use Rattle.run_record.specs.Waking.{IsWaking, both_slots, PowerWakes}
use Rattle.run_record.specs.Powering.{WasRead, read_values, begun_values, odometer_found, counted_from, begun_again, GoOn, PowerIsBack, AMendingFails}
use Rattle.run_record.proofs.Parts.{entered-told}
use Rattle.run_record.proofs.Stays.{since-later}
use Rattle.run_record.proofs.Written.{written-begins}
use Rattle.run_record.proofs.Asked.{asked-known}
use Rattle.run_record.proofs.HandedSteps.{all-go, none-less, handed-begins, handed-gone, handed-more}
use Rattle.run_record.specs.Handed.{AreHandedBehind, AreHandedIn}
use Rattle.run_devices.specs.safety_model.Hands.{sessions_in}
use Rattle.run_devices.specs.log_model.ByHand.{asked_of}

-- WITHOUT POWER, where power may come
pub off-of : (o : Origin) (done : List TraceSecond) (supply : UnitPower) (v : Values) (w : RunLedger) (d : Devices) → MayPower supply v.next → IsHeldBy o done supply v w d → RecordUnpowered o done v w d
off-of o done (Lit span) v w d may held = absurd may
off-of o done Due v w d may held = held
off-of o done Lost v w d may held = held

-- a span that begins has decided no minute before its first second's
pub begins-here : (rule : Rule) (n : ℕ) → ungiven_of (span_at rule n []) ≡ n / 60
begins-here rule n = by (minutes_ahead rule)
  where
    by : (a : ℕ) → max (n / 60) (max ((n + 0) / 60 - a) (0 / 60)) ≡ n / 60
    by a = omega arith

-- no accepted card sits
no-seat : (slots : Slots) → is_accepted slots.driver ≡ false → is_accepted slots.codriver ≡ false → (slot : Slot) (card : Card) (u : ℕ) → in_slot slots slot ≡ sits card u → ⊥
no-seat slots driver codriver Driver card u is = let e : true ≡ false = sym (ap is_accepted is) ∙ driver in cc
no-seat slots driver codriver CoDriver card u is = let e : true ≡ false = sym (ap is_accepted is) ∙ codriver in cc

-- ALL THAT A POWER-ON leaves of what was recorded, once the unit was read
module _ (o : Origin) (done : List TraceSecond) (s : TraceSecond) (supply : UnitPower) (v : Values) (d e : Devices) (r : RecordBetweenSeconds o done supply v d) (may : MayPower supply v.next) (number : s.number ≡ v.next) (given : s.has_power ≡ true)
    (k leg : ℕ) (shows : MayShow (first_of o) r.book r.travel k leg) (goes : GoOn o d e) where
  abbrev p : Progress
  p = progress v supply r.book

  abbrev run : Progress
  run = found_again k p

  abbrev now : Went
  now = went run.log done

  abbrev was : Went
  was = went v.log done

  abbrev from : ℕ
  from = ungiven_of (span_at (rule_of o) v.next [])

  off : RecordUnpowered o done v (carried v r.due r.book r.standing r.brought r.hands r.firsts) d
  off = off-of o done supply v (carried v r.due r.book r.standing r.brought r.hands r.firsts) d may r.held

  from-is : from ≡ s.number / 60
  from-is = begins-here (rule_of o) v.next ∙ ap (λ (n : ℕ). n / 60) (sym number)

  same : now ≡ was
  same = went-found v.log v.unfound k o.from done r.recorded.followed.order

  recorded : HistoryIsRecorded o done run (resumed leg r.travel) v.marks (breakdowns_of d) r.brought
  recorded = found-recorded o done p r.travel v.marks (breakdowns_of d) r.brought r.recorded may k leg shows

  recorded-later : HistoryIsRecorded o done run (resumed leg r.travel) v.marks (breakdowns_of e) r.brought
  recorded-later = more-recorded o done run (resumed leg r.travel) v.marks v.marks (breakdowns_of d) (breakdowns_of e) r.brought recorded (λ device m marked. marked) goes.breakdowns

  -- the moment of the power-on, by how often each device had broken down
  begins : (mid : Device → ℕ) → Moment run now.before s (In 0) run.log (fresh true now.before.slots).entered mid mid
  begins mid = (moment-begins (rule_of o) (start_at o) o.from (first_of o) done run recorded.followed [] refl s number given mid).0

  abbrev before : (broken : Device → ℕ) → Beginning
  before broken = record { run = run; span = []; travel = resumed leg r.travel; marks = v.marks; broken = broken; brought = r.brought }

  module _ (mid : Device → ℕ) where
    abbrev c : Course
    c = course_in (before mid) done s (In 0) run.log

    pub course-is : c ≡ fresh true now.before.slots
    course-is = (moment-begins (rule_of o) (start_at o) o.from (first_of o) done run recorded.followed [] refl s number given mid).1

    as-begun : (P : Course → Type 0) → P (fresh true now.before.slots) → P c
    as-begun P = subst P (sym course-is)

    pub decided : HasDecided (rule_of o) (start_at o) now.told run [] c None (span_at (rule_of o) v.next []) [] [] []
    decided = nothing-decided (rule_of o) (start_at o) now.told run [] c (ap (λ (x : Course). x.picks) course-is) (ap (λ (x : Course). x.settled) course-is)

    pub tells : SlotsTell (start_at o) now.told ((found k r.book).sure ++ []) c.left s.number from c.slots v.cabin.slots
    tells = as-begun (λ (x : Course). SlotsTell (start_at o) now.told ((found k r.book).sure ++ []) x.left s.number from x.slots v.cabin.slots)
        (subst (λ (w : Went). SlotsTell (start_at o) w.told ((found k r.book).sure ++ []) [] s.number from w.before.slots v.cabin.slots) (sym same)
        (found-kept (start_at o) was.told r.book.sure ((found k r.book).sure ++ []) [] s.number (v.next / 60) from was.before.slots v.cabin.slots
        (time-passes (start_at o) was.told r.book.sure (v.next - 1) s.number (v.next / 60) (v.next / 60) was.before.slots v.cabin.slots off.tells (omega (arith, number)) (omega arith) (omega (arith, number)))
        off.driver off.codriver (omega (arith, from-is))))

    pub present : (standing : Card → Standing) → PresentStand o.found standing now.told c s.number from v.cabin
    present standing = as-begun (λ (x : Course). PresentStand o.found standing now.told x s.number from v.cabin)
        (subst (λ (n : ℕ). PresentStand o.found standing now.told (fresh true now.before.slots) s.number n v.cabin) (sym from-is)
        (none-to_keep o.found standing now.told (fresh true now.before.slots) s.number v.cabin off.tells.newest (let early = off.tells.minute in omega (arith, early, number))
        (λ slot card u is. absurd (no-seat now.before.slots (ap (λ (w : Went). is_accepted w.before.slots.driver) same ∙ off.driver) (ap (λ (w : Went). is_accepted w.before.slots.codriver) same ∙ off.codriver) slot card u is))))

    none-yet : (x : Visit) (verdict : Verdict) → Contains c.found (x, verdict) → ⊥
    none-yet x verdict at = let h = subst (λ (y : Course). Contains y.found (x, verdict)) course-is at in omega (arith, h.1)

    pub finds : IsFoundSo o (before mid) done c s.number from [] v.marks r.brought e
    finds = record {
      may = λ x verdict at. absurd (none-yet x verdict at);
      taken = λ x verdict at. absurd (none-yet x verdict at);
      late = λ x verdict at. absurd (none-yet x verdict at);
    }

    pub spared : (card : Card) → IsSparedSo o (before mid) done c (fresh true now.before.slots).entered s.number v.cabin.slots e card
    spared card = ⊎_elim
        (λ whole. inl (goes.untouched card whole))
        (λ (h : IsWritten o done v card).
        let may = written-on o done done v.log run.log [] v.next (found-tells o done p r.recorded.followed k) tt card h.may in
        let then : 0 < entered_by (recording_by o done run.log) card h.time =
        (let same_count = entered-told o done done v.log run.log card h.time (ap (λ (w : Went). w.told) same) in let was_then = h.entered_then in omega (arith, same_count, was_then)) in
        inr (written-begins o (before mid) done c (fresh true now.before.slots).entered s.number v.cabin.slots card (ap (λ (x : Course). x.found) course-is) (ap (λ (x : Course). x.entered) course-is) may.0 may.1 h.time
        (since-later o (v.next - 1) s.number v.cabin.slots card h.time (omega (arith, number)) h.since) then))
        (r.written card)

  -- the entries by hand so far
  handed-behind : AreHandedBehind (start_at o) (found k r.book).sure o.found run.log done v.stops v.marks r.hands r.firsts (session_of v.cabin.cards)
  handed-behind =
      subst (λ (past : List HistoryMinute). AreHandedBehind (start_at o) past o.found run.log done v.stops v.marks r.hands r.firsts (session_of v.cabin.cards)) (sym (up_to-all r.book k shows.low))
      (handed-more (start_at o) r.book.sure (up_to k (option_to_list r.book.maybe)) o.found (λ x. sessions_in x now.told) (asked_of run.log done) v.stops v.marks r.hands r.firsts (session_of v.cabin.cards)
      (all-go o.found (λ x. sessions_in x was.told) (λ x. sessions_in x now.told) (asked_of v.log done) (asked_of run.log done) v.stops v.marks r.hands r.firsts (session_of v.cabin.cards) (session_of v.cabin.cards)
      (λ x. ap (λ (w : Went). sessions_in x w.told) same) (asked-known v.log v.unfound k o.from done r.recorded.followed.order) (none-less (session_of v.cabin.cards)) r.handed))

  handed : (mid : Device → ℕ) → AreHandedIn (start_at o) (found k r.book).sure o.found run.log done s (In 0) run.log (c mid) v.stops v.marks r.hands r.firsts (session_of v.cabin.cards)
  handed mid = handed-begins o.found run.log done s (c mid) v.stops v.marks r.hands r.firsts (session_of v.cabin.cards) (ap (λ (x : Course). x.found) (course-is mid)) handed-behind

  few : AreFewFound (recording_by o done run.log)
  few = few-on o done done v.log run.log [] v.next r.few (found-tells o done p r.recorded.followed k) tt

  -- nobody has a session
  nobody : (card : Card) → is_some (session_of v.cabin.cards card) ≡ true → ⊥
  nobody card some = let none : is_some (session_of v.cabin.cards card) ≡ false = ap is_some (off.bare card) in let clash : true ≡ false = sym some ∙ none in cc

  verdicts : WasRead o k e → AreVerdicts o done run.log run.unfound v.marks e
  verdicts read = idle-verdicts o done done v.log run.log v.unfound run.unfound v.marks d e [] v.next r.beside.verdicts goes.left (found-tells o done p r.recorded.followed k) tt
      (kept-found (e.unit.left_since o.found.unit.began) k read v.unfound v.log.breaks (kept-later (d.unit.left_since o.found.unit.began) (e.unit.left_since o.found.unit.began) goes.left.unit v.unfound v.log.breaks r.beside.verdicts.kept))

pub power-wakes : (d e : Devices) → PowerWakes d e
power-wakes d e o done s supply v r may number given k minutes back =
    subst (λ (w : Went). IsWaking o done s (begun_again o done supply v d r k back.leg e) (counted_from (odometer_found o r.travel.before back.leg) (begun_values k minutes v)) e (fresh true w.before.slots).entered both_slots) (same o done s supply v d e r may number given k back.leg back.shows back.goes)
    (record {
      began = refl;
      starts = (recorded o done s supply v d e r may number given k back.leg back.shows back.goes).followed.power.running;
      is_now = from-is o done s supply v d e r may number given k back.leg back.shows back.goes;
      none = λ slot there. (nothing-told (rule_of o) (start_at o) o.from (first_of o) done (found_again k (progress v supply r.book)) (recorded o done s supply v d e r may number given k back.leg back.shows back.goes).followed s.number (omega (arith, number))).found (In 0) slot;
      within = record {
        b = before o done s supply v d e r may number given k back.leg back.shows back.goes (breakdowns_of e);
        lit = refl;
        began = recorded-later o done s supply v d e r may number given k back.leg back.shows back.goes;
        unfound = refl;
        next = refl;
        odometer = refl;
        moment = begins o done s supply v d e r may number given k back.leg back.shows back.goes (breakdowns_of e);
        sp = span_at (rule_of o) v.next [];
        minutes = back.stands;
        ds = [];
        new = [];
        decided = decided o done s supply v d e r may number given k back.leg back.shows back.goes (breakdowns_of e);
        from = ungiven_of (span_at (rule_of o) v.next []);
        kept_to = omega arith;
        until = omega arith;
        stay = λ mark h. h;
        marked = nothing-marked v.marks (went (found_again k (progress v supply r.book)).log done).told (c o done s supply v d e r may number given k back.leg back.shows back.goes (breakdowns_of e)) s.number;
        due = r.due;
        standing = λ card. Out;
        brought = r.brought;
        hands = r.hands;
        firsts = r.firsts;
        handed = handed o done s supply v d e r may number given k back.leg back.shows back.goes (breakdowns_of e);
        powered = back.powered;
        found = r.found;
        early = r.early;
        late = let low = (off o done s supply v d e r may number given k back.leg back.shows back.goes).due in let here = begins-here (rule_of o) v.next in omega (arith, low, here);
        more = λ card n h. h;
        tells = tells o done s supply v d e r may number given k back.leg back.shows back.goes (breakdowns_of e);
        present = present o done s supply v d e r may number given k back.leg back.shows back.goes (breakdowns_of e) (λ card. Out);
        back = λ card some. absurd (nobody o done s supply v d e r may number given k back.leg back.shows back.goes card some);
        verdicts = verdicts o done s supply v d e r may number given k back.leg back.shows back.goes back.read;
        finds = finds o done s supply v d e r may number given k back.leg back.shows back.goes (breakdowns_of e);
        there = back.goes.there r.there;
        few = few o done s supply v d e r may number given k back.leg back.shows back.goes;
        spared = spared o done s supply v d e r may number given k back.leg back.shows back.goes (breakdowns_of e);
        written = λ card some. absurd (nobody o done s supply v d e r may number given k back.leg back.shows back.goes card some);
        travels = back.travels;
      };
    })

pub power-back : (d e : Devices) → PowerIsBack d e
power-back d e o done s supply v r may number given k minutes back =
    let w = power-wakes d e o done s supply v r may number given k minutes back in
    record { within = w.within; began = w.began; from = w.is_now }

pub mending-fails : (d e : Devices) → AMendingFails d e
mending-fails d e o done s supply v r may number given k read =
    subst (λ (w : Went). RecordAtFailure o done s (In 0) (fresh true w.before.slots).entered None (counted_from (odometer_found o r.travel.before read.leg) (read_values k v)) e) (same o done s supply v d e r may number given k read.leg read.shows read.goes)
    (record {
      b = before o done s supply v d e r may number given k read.leg read.shows read.goes (breakdowns_of d);
      lit = refl;
      began = recorded o done s supply v d e r may number given k read.leg read.shows read.goes;
      unfound = refl;
      next = refl;
      odometer = refl;
      counted = breakdowns_of d;
      moment = begins o done s supply v d e r may number given k read.leg read.shows read.goes (breakdowns_of d);
      rise = read.goes.breakdowns;
      broke = read.broke;
      sp = span_at (rule_of o) v.next [];
      ds = [];
      lost = None;
      rest = [];
      new = [];
      decided = decided o done s supply v d e r may number given k read.leg read.shows read.goes (breakdowns_of d);
      fed = λ other. refl;
      kept = λ keeping. let clash : In 0 ≡ Keeping = keeping in absurd (cc);
      from = ungiven_of (span_at (rule_of o) v.next []);
      kept_to = omega arith;
      stay = λ mark h. h;
      due = r.due;
      standing = r.standing;
      brought = r.brought;
      hands = r.hands;
      firsts = r.firsts;
      handed = handed-gone o.found (found_again k (progress v supply r.book)).log done s (In 0) (found_again k (progress v supply r.book)).log (c o done s supply v d e r may number given k read.leg read.shows read.goes (breakdowns_of d)) v.stops v.marks r.hands r.firsts
          (session_of v.cabin.cards) (handed o done s supply v d e r may number given k read.leg read.shows read.goes (breakdowns_of d));
      powerless = read.powerless;
      found = r.found;
      early = r.early;
      late = let low = (off o done s supply v d e r may number given k read.leg read.shows read.goes).due in omega (arith, low, number);
      low = let here = from-is o done s supply v d e r may number given k read.leg read.shows read.goes in omega (arith, here);
      more = λ card n h. h;
      tells = tells o done s supply v d e r may number given k read.leg read.shows read.goes (breakdowns_of d);
      verdicts = verdicts o done s supply v d e r may number given k read.leg read.shows read.goes read.read;
      finds = finds o done s supply v d e r may number given k read.leg read.shows read.goes (breakdowns_of d);
      there = read.goes.there r.there;
      few = few o done s supply v d e r may number given k read.leg read.shows read.goes;
      spared = spared o done s supply v d e r may number given k read.leg read.shows read.goes (breakdowns_of d);
      travels = read.travels;
    })
