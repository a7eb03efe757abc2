-- Decided minutes are kept at a point of a second, and cards may be torn out: the record within the second behind them.
use Rattle.std.proofs.Common.{◌≡◌, inl, inr, ⊎_elim, ℕ, ◌+◌, ◌/◌, ◌≤◌, List, ◌++◌, Contains, length, map, refl, ap, sym, subst, ◌∙◌, arith}
use Rattle.activity_codec.specs.declared.values.Slot.{Slot}
use Rattle.trace_model.specs.declared.Card.{Card}
use Rattle.trace_model.specs.Trace.{TraceSecond}
use Rattle.unit_model.specs.minute_model.declared.Minute.{Minute}
use Rattle.log_model.specs.declared.lines.Mark.{Mark}
use Rattle.log_model.specs.declared.lines.Verdict.{Verdict}
use Rattle.log_model.specs.Log.{RunLog, Phase}
use Rattle.log_model.specs.Course.{Course, Visit, Before, went}
use Rattle.device_calls.specs.history_model.Minutes.{HistoryMinute}
use Rattle.device_calls.specs.history_model.Book.{Book}
use Rattle.device_calls.specs.run_unit_course.Legs.{Travel, all_travelled}
use Rattle.unit_model.specs.Image.{odometer_at}
use Rattle.device_calls.specs.unit_rule.Odometer.{HasTravelled}
use Rattle.device_calls.specs.safety_model.Safe.{Devices, card_of, breakdowns_of}
use Rattle.run_crew.specs.card_slots.Kept.{Kept as Slate_, left_of}
use Rattle.run_crew.specs.declared.cabin.Cabin.{Cabin}
use Rattle.run_minutes.specs.run_promise.Found.{found_of}
use Rattle.run_minutes.specs.run_promise.Between.{RunLedger}
use Rattle.run_events.specs.run_course.Seconds.{kept_all}
use Rattle.run_minutes.specs.run_promise.Going.{IsTakenAt}
use Rattle.run_events.specs.run_course.Lines.{times_of}
use Rattle.run_events.proofs.run_course.Telling.{breakdowns-only}
use Rattle.run_minutes.specs.run_devices.Told.{DevicesPowered}
use Rattle.run_minutes.specs.run_promise.Origin.{Origin, first_of}
use Rattle.run_minutes.specs.run_promise.Ends.{AreVerdicts}
use Rattle.run_minutes.proofs.run_promise.Beside.{kept-later}
use Rattle.run_minutes.specs.Minutes.{KeepingState, Done, AreRounds, told_by}
use Rattle.run_minutes.specs.Books.{AreBooked}
use Rattle.run_minutes.specs.Decided.{carried_by}
use Rattle.run_record.specs.Recorded.{Values, carried, GoesOnIn}
use Rattle.run_record.specs.Within.{course_in, IsFoundSo, MayBeWrittenSo, IsSparedSo, IsLeaving}
use Rattle.run_record.proofs.Back.{low-too}
use Rattle.run_record.proofs.Left.{verdict-left, seen-left}
use Rattle.run_record.proofs.Written.{written-on, spared-called}
use Rattle.run_acts.specs.Rounds.{Point, told_values, moment_of, HaveBroken, OnlyTears, SoFar}
use Rattle.run_acts.specs.RoundLaws.{InRounds, GoOn, carried_at, KeepsSo, travelled_at, LeaveStill}
use Rattle.run_minutes.specs.Later.{RestBy}
use Rattle.run_acts.proofs.Rising.{fell-more}
use Rattle.run_acts.proofs.RoundReached.{Through, all-on}
use Rattle.run_acts.proofs.RoundBegun.{outset, begun-so}
use Rattle.run_record.proofs.Opened.{sessions-since, seconds-before}
use Rattle.run_acts.proofs.RoundHanded.{HandedAt, HandedBy, all-handed}
use Rattle.log_model.specs.Causes.{device_of}
use Rattle.device_calls.specs.safety_model.Unit.{marks_of, Increase}

-- a card that leaves leaves so where fewer minutes are to be kept, up to the same one
pub leaving-later : (log : RunLog) (before : Before) (s : TraceSecond) (at : Phase) (low high next end : ℕ) (cabin : Cabin) (slot : Slot) (card : Card) → low ≤ next → end ≡ high →
    IsLeaving log before s at low high cabin slot card → IsLeaving log before s at next end cabin slot card
leaving-later log before s at low high next end cabin slot card le same h = record {
  leaves = h.leaves;
  empty = h.empty;
  nowhere = h.nowhere;
  untorn = h.untorn;
  to = same ∙ h.to;
  driver = λ m p from there. h.driver m p (omega (arith, le, from)) there;
  codriver = λ m p from there. h.codriver m p (omega (arith, le, from)) there;
}

module _ (o : Origin) (done : List TraceSecond) (s : TraceSecond) (q : Point) (all : List Minute) (t : KeepingState) (v : Values) (d e : Devices) (w : InRounds o done s q all t v d) (k : KeepsSo o done s q all t v d e w) where
  abbrev c : Course
  c = course_in w.b done s q.at (told_values t v).log

  -- what was found, and which cards may be written, stays so where the course has only tears more
  pub verdicts-so : AreVerdicts o done w.b.run.log w.b.run.unfound w.b.marks e
  verdicts-so = record {
    kept = kept-later (d.unit.left_since o.found.unit.began) (e.unit.left_since o.found.unit.began) k.goes.left.unit w.b.run.unfound w.b.run.log.breaks w.verdicts.kept;
    each = λ x f verdict among seen.
        seen-left o done w.b.run.log w.b.marks (d.unit.left_since o.found.unit.began) ((card_of d f.card).left_since (found_of o.found f.card).began) (e.unit.left_since o.found.unit.began) ((card_of e f.card).left_since (found_of o.found f.card).began)
        k.goes.left.unit (k.goes.left.card f.card) f.card x.second.number verdict (w.verdicts.each x f verdict among seen);
  }

  pub finds-so : (g : Course) (from : ℕ) (new : List HistoryMinute) (marks : List Mark) (brought : Card → List ℕ) → OnlyTears c g → ((mark : Mark) → Contains t.marks.items mark → Contains marks mark) → brought ≡ w.brought →
      (s.number / 60 ≤ w.from → (new ≡ w.new) × (w.from ≤ from)) → IsFoundSo o w.b done g s.number from new marks brought e
  finds-so g from new marks brought same stay more none = record {
    may = λ x verdict at.
        let was = w.finds.may x verdict (subst (λ (fs : List (Visit × Verdict)). Contains fs (x, verdict)) same.found at) in (
          was.0,
          let le = was.1 in let times = ap (times_of x.card) same.entered in omega (arith, le, times),
          verdict-left o w.b done was.0 t.marks.items marks (d.unit.left_since o.found.unit.began) ((card_of d x.card).left_since (found_of o.found x.card).began) (e.unit.left_since o.found.unit.began) ((card_of e x.card).left_since (found_of o.found x.card).began)
              stay k.goes.left.unit (k.goes.left.card x.card) x.card s.number verdict was.2,
        );
    taken = λ x verdict at accepts.
        let there = subst (λ (fs : List (Visit × Verdict)). Contains fs (x, verdict)) same.found at in
        let n = none (w.finds.late x verdict there accepts) in
        subst (λ (is : List HistoryMinute). (m : ℕ) × Contains (brought x.card) m × IsTakenAt (first_of o) w.b.run.book (kept_all is w.b.run.book) is m) (sym n.0)
        (subst (λ (br : Card → List ℕ). (m : ℕ) × Contains (br x.card) m × IsTakenAt (first_of o) w.b.run.book (kept_all w.new w.b.run.book) w.new m) (sym more) (w.finds.taken x verdict there accepts));
    late = λ x verdict at accepts.
        let late = w.finds.late x verdict (subst (λ (fs : List (Visit × Verdict)). Contains fs (x, verdict)) same.found at) accepts in
        let n = none late in
        let le = n.1 in
        omega (arith, late, le);
  }

  abbrev written_in : Course → Slate_ → Card → Type 0
  written_in g kept card = MayBeWrittenSo o w.b done g q.waits s.number kept card

  -- a card that may be written may be so still
  pub may-still : (g : Course) (kept : Slate_) → OnlyTears c g → ((x : Card) → GoesOnIn s.number t.keeper.cabin.slots kept x) → (card : Card) → written_in c t.keeper.cabin.slots card → written_in g kept card
  may-still g kept same goes card h = written-on o w.b done c g q.waits s.number t.keeper.cabin.slots kept card same.found same.entered (goes card) h

  pub spared-so : (g : Course) (kept : Slate_) → OnlyTears c g → ((x : Card) → GoesOnIn s.number t.keeper.cabin.slots kept x) → (card : Card) → IsSparedSo o w.b done g q.waits s.number kept e card
  spared-so g kept same goes card = ⊎_elim
      (λ whole. inl whole)
      (λ may. inr (may-still g kept same goes card may))
      (spared-called o w.b done c q.waits s.number t.keeper.cabin.slots t.keeper.cabin.cards d e w.written k.goes.untouched card (w.spared card))

  module _ (xs : List Done) (rest : List Minute) (split : all ≡ map (λ (x : Done). x.minute) xs ++ rest) (rounds : AreRounds t.keeper (moment_of s q) xs t) (broken : HaveBroken t.keeper xs (breakdowns_of d) (breakdowns_of e)) where
    abbrev Carried_ : RunLedger
    Carried_ = carried_by t.keeper xs (carried_at o done s q all t v d w)

    abbrev u : KeepingState
    u = told_by t.keeper (moment_of s q) xs t

    pub through : Through o done s q w.b (outset o done s q all t v d w) (breakdowns_of d) (breakdowns_of e) t.keeper w.sp v t.marks.items c w.brought k.few k.two xs rest t (carried_at o done s q all t v d w) w.ds w.new w.from
    through = all-on o done s q w.b (outset o done s q all t v d w) (breakdowns_of d) (breakdowns_of e) t.keeper w.sp v t.marks.items c w.brought k.few k.two xs rest t (carried_at o done s q all t v d w) w.ds w.new w.from
        (subst (λ (ms : List Minute). SoFar o done s q w.b (outset o done s q all t v d w) (breakdowns_of d) (breakdowns_of e) t.keeper w.sp v t.marks.items c w.brought t (carried_at o done s q all t v d w) w.ds ms w.new w.from) split (begun-so o done s q all t v d w e k))
        w.marked rounds broken

    -- the entries by hand of them
    pub handed_so : ((y : Card) → Increase (marks_of (device_of y) u.marks.items)) → HandedAt o done s q w.b v u Carried_
    handed_so rise = all-handed o done s q w.b (outset o done s q all t v d w) (breakdowns_of d) (breakdowns_of e) t.keeper w.sp v t.marks.items c w.brought k.few k.two
        (sessions-since o done s q.at q.waits q.speed all (told_values t v) d w) (seconds-before o done s q.at q.waits q.speed all (told_values t v) d w) xs rest t (carried_at o done s q all t v d w) w.ds w.new w.from
        (subst (λ (ms : List Minute). SoFar o done s q w.b (outset o done s q all t v d w) (breakdowns_of d) (breakdowns_of e) t.keeper w.sp v t.marks.items c w.brought t (carried_at o done s q all t v d w) w.ds ms w.new w.from) split (begun-so o done s q all t v d w e k))
        rounds broken rise w.handed

    pub minutes-kept_so : RestBy t.keeper.cabin.cards u.keeper.cabin.cards d e → AreBooked o.found Carried_ u.keeper.cabin.cards u.marks.items e → HasTravelled (odometer_at o.recording.unit) Carried_.book (travelled_at o done s q all t v d w xs) e.unit → GoOn o done s q rest u v e w.b (w.from + length xs)
    minutes-kept_so rests booked travels =
        let th = through in
        let so = th.so in
        record {
          began = refl;
          from = th.count;
          within = record {
            b = w.b;
            lit = w.lit;
            began = w.began;
            unfound = w.unfound;
            next = w.next;
            odometer = w.odometer;
            moment = breakdowns-only w.b.run (went w.b.run.log done).before s q.at (told_values u v).log q.waits w.b.broken so.slate.now (breakdowns_of e) so.slate.moment (fell-more t.keeper.cabin.cards u.keeper.cabin.cards d e so.slate.now so.slate.rise so.slate.fell rests);
            sp = w.sp;
            minutes = w.minutes;
            ds = th.ds_now;
            new = th.new_now;
            decided = so.decided;
            from = th.from_now;
            kept_to = so.to;
            until = so.until;
            stay = λ mark at. so.stay mark (w.stay mark at);
            marked = th.marked;
            due = Carried_.due;
            standing = Carried_.standing;
            brought = Carried_.brought;
            hands = Carried_.hands;
            firsts = Carried_.firsts;
            handed = subst (λ (bk : Book). HandedBy o done s q w.b v u Carried_ bk) so.book (handed_so (λ y. subst (λ (ms : List Mark). Increase (marks_of (device_of y) ms)) booked.told (booked.powered.lit.marks y).rise));
            powered = subst (λ (bk : Book). DevicesPowered o.found (carried (told_values u v) Carried_.due bk Carried_.standing Carried_.brought Carried_.hands Carried_.firsts) u.keeper.cabin.cards e) so.book
                (subst (λ (ms : List Mark). DevicesPowered o.found (record Carried_ { marks = ms }) u.keeper.cabin.cards e) booked.told booked.powered);
            found = booked.found;
            early = booked.early;
            late = so.due;
            more = λ card n at. subst (λ (br : Card → List ℕ). Contains (br card) n) (sym so.brought_is) (w.more card n at);
            tells = so.slate.tells;
            present = so.slate.present;
            back = λ card some. ⊎_elim
                (λ early. inl (low-too w.from th.from_now (left_of u.keeper.cabin.slots.left card) so.high early))
                (λ l. inr (l.0, leaving-later (told_values u v).log (went w.b.run.log done).before s q.at w.from (w.from + length all) th.from_now (th.from_now + length rest) u.keeper.cabin l.0 card so.high so.ends l.1))
                (so.slate.back card some);
            verdicts = verdicts-so;
            few = w.few;
            finds = finds-so (course_in w.b done s q.at (told_values u v).log) th.from_now th.new_now (told_values u v).marks Carried_.brought so.same so.stay so.brought_is (λ late. let n = th.none late in let is = n.1 in (n.0, omega (arith, is)));
            there = k.goes.there w.there;
            spared = spared-so (course_in w.b done s q.at (told_values u v).log) u.keeper.cabin.slots so.same so.slate.stays;
            written = λ card some. may-still (course_in w.b done s q.at (told_values u v).log) u.keeper.cabin.slots so.same so.slate.stays card (w.written card (so.slate.had card some));
            travels = subst (λ (bk : Book). HasTravelled (odometer_at o.recording.unit) bk (all_travelled th.ds_now w.b.travel) e.unit) so.book
                (subst (λ (g : Travel). HasTravelled (odometer_at o.recording.unit) Carried_.book g e.unit) (sym th.travel) travels);
          };
        }

    -- who leaves a slot leaves it still
    pub leave-still : LeaveStill o done s q all t u v d w
    leave-still = through.so.slate.leave
