-- A second begins behind one with power: nothing of it is told, decided or kept yet.
use Rattle.std.proofs.Common.{◌≡◌, inl, inr, ⊎_elim, ℕ, ◌+◌, ◌-◌, ◌*◌, ◌/◌, ◌≤◌, true, false, Option, None, List, [], ◌∷◌, ◌++◌, Contains, length, refl, ap, sym, subst, ◌∙◌, arith, append-nil, length-append}
use Rattle.run_devices.specs.trace_model.declared.Card.{Card}
use Rattle.run_devices.specs.trace_model.Trace.{TraceSecond}
use Rattle.run_devices.specs.log_model.declared.lines.Verdict.{Verdict}
use Rattle.run_devices.specs.log_model.Log.{RunLog, In}
use Rattle.run_devices.specs.log_model.Slots.{Slots}
use Rattle.run_devices.specs.log_model.Spans.{AreInOrder}
use Rattle.run_devices.specs.log_model.Course.{ToldSecond, Went, Course, Visit, second_told, before_next, fresh, went}
use Rattle.run_devices.proofs.log_model.Growth.{went-more}
use Rattle.run_devices.proofs.log_model.Spanning.{IsNext, next-told, order-parts}
use Rattle.run_devices.specs.history_model.Minutes.{HistoryMinute}
use Rattle.run_devices.specs.history_model.Book.{Book}
use Rattle.run_devices.specs.device_rule.Rules.{Standing, In as IsInAt}
use Rattle.run_devices.specs.card_slots.Kept.{Kept as SlotsKept, minute_ended}
use Rattle.run_devices.specs.run_unit_course.Followed.{Lit}
use Rattle.run_devices.specs.run_unit_course.Turn.{span_at}
use Rattle.run_devices.specs.safety_model.Safe.{Devices, card_of, breakdowns_of}
use Rattle.run_devices.specs.run_crew.declared.cards.Accepted.{Accepted}
use Rattle.run_devices.specs.run_crew.declared.cabin.Cabin.{Cabin}
use Rattle.run_devices.specs.run_crew.Cards.{session_of}
use Rattle.run_devices.specs.run_promise.Found.{Found, found_of}
use Rattle.run_devices.specs.run_course.Followed.{BookFollowsRun, HadActions}
use Rattle.run_devices.specs.run_course.Presence.{SlotsTell, EndsWith}
use Rattle.run_devices.proofs.run_course.Presence.{goes-on, minute-ends as told-ends}
use Rattle.run_devices.specs.run_course.Moment.{Moment}
use Rattle.run_devices.specs.run_course.Kept.{BrokenSince}
use Rattle.run_devices.proofs.run_course.Moment.{moment-begins}
use Rattle.run_devices.proofs.run_course.Kept.{nothing-decided, nothing-marked}
use Rattle.run_devices.specs.Told.{GoesWith, GoesOwing, DevicesPowered}
use Rattle.run_devices.specs.run_promise.Origin.{Origin, rule_of, start_at, first_of}
use Rattle.run_devices.specs.Presence.{PresentStand, SessionsStand}
use Rattle.run_devices.proofs.Presence.{minute-ends}
use Rattle.run_record.specs.Recorded.{Values, progress, carried, slots_of, AreBack, IsWrittenSince, IsWritten, RecordPowered, RecordBetweenSeconds}
use Rattle.run_record.specs.Within.{Beginning, course_in, MayBeWrittenSo, SecondGoesOn, undecided_from, ASecondBegins, AMinuteIsOver}
use Rattle.run_record.proofs.Written.{written-begins}
use Rattle.run_record.proofs.HandedSteps.{handed-begins}
use Rattle.run_devices.specs.hand_model.Written.{Hands}
use Rattle.run_devices.specs.run_promise.Cards.{FirstKeep}

-- who was present stands so later in the second
broken-later : (told : List ToldSecond) (c : Course) (card : Card) (from number later : ℕ) → number ≤ later → BrokenSince told c card from number → BrokenSince told c card from later
broken-later told c card from number later le (inl h) = inl (h.0, h.1, h.2, (let low = h.3 in omega (arith, low, le)), h.4)
broken-later told c card from number later le (inr h) = inr ((let low = h.0 in omega (arith, low, le)), h.1)

pub present-later : (f : Found) (standing : Card → Standing) (told : List ToldSecond) (c : Course) (number later from : ℕ) (cabin : Cabin) → number ≤ later → PresentStand f standing told c number from cabin → PresentStand f standing told c later from cabin
present-later f standing told c number later from cabin le h = record {
  seated = h.seated;
  ended = λ m present card low is in_.
      let was = h.ended m present card low is in_ in
      record { valid = was.valid; present = was.present; session = ⊎_elim (λ s. inl s) (λ b. inr (broken-later told c card (60 * (m + 1)) number later le b)) was.session };
}

-- the last of the seconds before
pub ends-with : (log : RunLog) (from : ℕ) (done : List TraceSecond) (begun next : ℕ) → HadActions done begun → AreInOrder from done → next ≡ from + length done →
    EndsWith (went log done).told (next - 1) (went log done).before.slots
ends-with log from done begun next had order is = record {
  front = (went log had.before).told;
  last = t;
  are = ap (λ (x : Went). x.told) same;
  number_is = IsNext.number (next-told log (went log had.before).before last_one) ∙ number;
  slots_are = sym (ap (λ (x : Went). x.before.slots) same);
}
  where
    last_one : TraceSecond
    last_one = record { number = had.number; has_power = true; speed = had.speed; actions = had.actions }

    t : ToldSecond
    t = second_told log (went log had.before).before last_one

    same : went log done ≡ record { told = (went log had.before).told ++ t ∷ []; before = before_next (went log had.before).before t }
    same = ap (went log) had.are ∙ went-more log had.before last_one

    number : had.number ≡ next - 1
    number =
        let count = ap (λ (ss : List TraceSecond). length ss) had.are in
        let more = length-append had.before (last_one ∷ []) in
        let place = (order-parts from had.before last_one (subst (AreInOrder from) had.are order)).1 in
        omega (arith, is, count, more, place)

-- who goes with a session stands so
sessions-stand : (o : Origin) (v : Values) (due : ℕ) (book : Book) (standing : Card → Standing) (brought : Card → List ℕ) (hands : Card → Hands) (firsts : Card → List FirstKeep) (d : Devices) →
    DevicesPowered o.found (carried v due book standing brought hands firsts) v.cabin.cards d → SessionsStand o.found standing v.cabin.cards
sessions-stand o v due book standing brought hands firsts d h card a valid is = by (h.go.goes card valid)
  where
    by : GoesOwing (found_of o.found card) (hands card) card book [] (standing card) (session_of v.cabin.cards card) (card_of d card) → (t : ℕ) × (standing card ≡ IsInAt t a.session.minute)
    by g =
        let on = subst (λ (x : Option Accepted). GoesWith (found_of o.found card) (hands card) g.has (standing card) x (card_of d card)) is g.goes in
        (on.0.time, on.0.stands)

-- ALL OF IT, where slots and presence are told so
module _ (o : Origin) (done : List TraceSecond) (s : TraceSecond) (t : ToldSecond) (span : List ToldSecond) (v : Values) (d : Devices) (r : RecordBetweenSeconds o done (Lit (t ∷ span)) v d) (number : s.number ≡ v.next) (given : s.has_power ≡ true) where
  abbrev told0 : List ToldSecond
  told0 = (went v.log done).told

  abbrev slots0 : Slots
  slots0 = slots_of v done

  abbrev from : ℕ
  from = undecided_from o (t ∷ span) v

  abbrev b : Beginning
  b = record { run = progress v (Lit (t ∷ span)) r.book; span = t ∷ span; travel = r.travel; marks = v.marks; broken = breakdowns_of d; brought = r.brought }

  abbrev c : Course
  c = course_in b done s (In 0) v.log

  abbrev on : RecordPowered o done (t ∷ span) v (carried v r.due r.book r.standing r.brought r.hands r.firsts) d
  on = r.held

  begins : Moment b.run (went v.log done).before s (In 0) v.log [] (breakdowns_of d) (breakdowns_of d) × (c ≡ fresh false slots0)
  begins = moment-begins (rule_of o) (start_at o) o.from (first_of o) done b.run r.recorded.followed (t ∷ span) refl s number given (breakdowns_of d)

  same : (P : Course → Type 0) → P (fresh false slots0) → P c
  same P = subst P (sym begins.1)

  begun : (k : SlotsKept) → SlotsTell (start_at o) told0 r.book.sure [] s.number from slots0 k → PresentStand o.found r.standing told0 (fresh false slots0) s.number from (record v.cabin { slots = k }) →
      AreBack from (record v.cabin { slots = k }) → ((card : Card) (time : ℕ) → IsWrittenSince o v.cabin.slots (v.next - 1) card time → IsWrittenSince o k s.number card time) → SecondGoesOn o done s (In 0) [] None [] (record v { cabin = record v.cabin { slots = k } }) d b from
  begun k tells present back since = record {
    began = refl;
    from = refl;
    within = record {
      b = b;
      lit = refl;
      began = r.recorded;
      unfound = refl;
      next = refl;
      odometer = r.odometer;
      moment = begins.0;
      sp = span_at (rule_of o) v.next (t ∷ span);
      minutes = on.minutes;
      ds = [];
      new = [];
      decided = nothing-decided (rule_of o) (start_at o) told0 b.run (t ∷ span) c (ap (λ (x : Course). x.picks) begins.1) (ap (λ (x : Course). x.settled) begins.1);
      from = from;
      kept_to = omega arith;
      until = omega arith;
      stay = λ mark h. h;
      marked = nothing-marked v.marks told0 c s.number;
      due = r.due;
      standing = r.standing;
      brought = r.brought;
      hands = r.hands;
      firsts = r.firsts;
      handed = handed-begins o.found v.log done s c v.stops v.marks r.hands r.firsts (session_of v.cabin.cards) (ap (λ (x : Course). x.found) begins.1) r.handed;
      powered = on.powered;
      found = r.found;
      early = r.early;
      late = on.due;
      more = λ card n h. h;
      tells = same (λ (x : Course). SlotsTell (start_at o) told0 (r.book.sure ++ []) x.left s.number from x.slots k)
          (subst (λ (is : List HistoryMinute). SlotsTell (start_at o) told0 is [] s.number from slots0 k) (sym (append-nil r.book.sure)) tells);
      present = same (λ (x : Course). PresentStand o.found r.standing told0 x s.number from (record v.cabin { slots = k })) present;
      back = λ card some. inl (back card some);
      verdicts = r.beside.verdicts;
      finds = record {
        may = λ e verdict at. absurd (none e verdict at);
        taken = λ e verdict at. absurd (none e verdict at);
        late = λ e verdict at. absurd (none e verdict at);
      };
      there = r.there;
      few = r.few;
      spared = λ card. ⊎_elim (λ whole. inl whole) (λ may. inr (writes card may)) (r.written card);
      written = λ card some. writes card (on.written card some);
      travels = r.beside.travels;
    };
  }
    where
      writes : (card : Card) → IsWritten o done v card → MayBeWrittenSo o b done c [] s.number k card
      writes card h =
          written-begins o b done c [] s.number k card (ap (λ (x : Course). x.found) begins.1) (ap (λ (x : Course). x.entered) begins.1) h.may.0 h.may.1 h.time (since card h.time h.since) h.entered_then

      none : (e : Visit) (verdict : Verdict) → Contains c.found (e, verdict) → ⊥
      none e verdict at = let h = subst (λ (x : Course). Contains x.found (e, verdict)) begins.1 at in omega (arith, h.1)

pub second-begins : (d : Devices) → ASecondBegins d
second-begins d o done s t span v r number given minute =
    begun o done s t span v d r number given v.cabin.slots
    (goes-on (start_at o) (went v.log done).told r.book.sure [] (v.next - 1) s.number (undecided_from o (t ∷ span) v) (slots_of v done) v.cabin.slots on.tells (omega (arith, number)) (omega (arith, number, minute)))
    (present-later o.found r.standing (went v.log done).told (fresh false (slots_of v done)) (v.next - 1) s.number (undecided_from o (t ∷ span) v) v.cabin (omega (arith, number)) on.present)
    on.back
    (λ card time h. record { stored = h.stored; past = (let past = h.past in omega (arith, past, number)); stays = h.stays })
  where
    on : RecordPowered o done (t ∷ span) v (carried v r.due r.book r.standing r.brought r.hands r.firsts) d
    on = r.held

pub minute-over : (d : Devices) → AMinuteIsOver d
minute-over d o done s t span v r number given starts minute low high stands =
    begun o done s t span v d r number given (minute_ended ((v.next - 1) / 60) v.cabin.slots)
    (told-ends (start_at o) (went v.log done).told r.book.sure (v.next - 1) s.number from (slots_of v done) v.cabin.slots on.tells
    (ends-with v.log o.from done v.begun v.next f.last f.order f.next) (omega (arith, number, minute)) low high)
    (minute-ends o.found (start_at o) starts r.standing (went v.log done).told (fresh false (slots_of v done)) r.book.sure [] (v.next - 1) s.number from v.cabin on.present on.tells stands
    (sessions-stand o v r.due r.book r.standing r.brought r.hands r.firsts d on.powered) low (omega (arith, number)))
    on.back
    (λ card time h. record { stored = h.stored; past = (let past = h.past in omega (arith, past, number)); stays = h.stays })
  where
    from : ℕ
    from = undecided_from o (t ∷ span) v

    f : BookFollowsRun (rule_of o) (start_at o) o.from (first_of o) done (progress v (Lit (t ∷ span)) r.book)
    f = r.recorded.followed

    on : RecordPowered o done (t ∷ span) v (carried v r.due r.book r.standing r.brought r.hands r.firsts) d
    on = r.held
