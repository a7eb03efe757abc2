-- A call on the devices of which nothing is told: it went well, or the unit failed in it.
use Rattle.std.proofs.Common.{ℕ, List, refl, subst, arith}
use Rattle.run_devices.specs.trace_model.declared.Card.{Card}
use Rattle.run_devices.specs.trace_model.Trace.{TraceSecond}
use Rattle.minute_rules.specs.minute_model.declared.Minute.{Minute}
use Rattle.run_devices.specs.log_model.declared.lines.Mark.{Mark}
use Rattle.run_devices.specs.log_model.Course.{Course, went}
use Rattle.run_devices.specs.history_model.Minutes.{HistoryMinute}
use Rattle.run_devices.specs.safety_model.Safe.{Devices, card_of, breakdowns_of}
use Rattle.run_devices.specs.run_promise.Found.{found_of}
use Rattle.run_devices.specs.run_course.Kept.{HasDecided}
use Rattle.run_devices.proofs.run_course.Telling.{breakdowns-only}
use Rattle.run_devices.specs.run_promise.Origin.{Origin, rule_of, start_at}
use Rattle.run_devices.specs.run_promise.Ends.{AreVerdicts}
use Rattle.run_devices.specs.run_promise.Beside.{HaveLeftMore}
use Rattle.run_devices.proofs.run_promise.Beside.{kept-later}
use Rattle.run_record.specs.Within.{Beginning, told_before, course_in, IsFoundSo, ACallIsRecorded, AFailureIsRecorded}
use Rattle.run_record.proofs.Left.{verdict-left, seen-left}
use Rattle.run_record.proofs.Written.{spared-called}
use Rattle.run_record.proofs.HandedSteps.{handed-gone}
use Rattle.run_devices.specs.run_crew.Cards.{session_of}

verdicts-left : (o : Origin) (done : List TraceSecond) (b : Beginning) (d e : Devices) → HaveLeftMore o d e → AreVerdicts o done b.run.log b.run.unfound b.marks d → AreVerdicts o done b.run.log b.run.unfound b.marks e
verdicts-left o done b d e left h = record {
  kept = kept-later (d.unit.left_since o.found.unit.began) (e.unit.left_since o.found.unit.began) left.unit b.run.unfound b.run.log.breaks h.kept;
  each = λ t x verdict among seen.
      seen-left o done b.run.log b.marks (d.unit.left_since o.found.unit.began) ((card_of d x.card).left_since (found_of o.found x.card).began) (e.unit.left_since o.found.unit.began) ((card_of e x.card).left_since (found_of o.found x.card).began)
      left.unit (left.card x.card) x.card t.second.number verdict (h.each t x verdict among seen);
}

finds-left : (o : Origin) (b : Beginning) (done : List TraceSecond) (c : Course) (u from : ℕ) (new : List HistoryMinute) (marks : List Mark) (brought : Card → List ℕ) (d e : Devices) → HaveLeftMore o d e →
    IsFoundSo o b done c u from new marks brought d → IsFoundSo o b done c u from new marks brought e
finds-left o b done c u from new marks brought d e left h = record {
  may = λ x verdict at.
      let was = h.may x verdict at in (
        was.0,
        was.1,
        verdict-left o b done was.0 marks marks (d.unit.left_since o.found.unit.began) ((card_of d x.card).left_since (found_of o.found x.card).began) (e.unit.left_since o.found.unit.began) ((card_of e x.card).left_since (found_of o.found x.card).began)
            (λ mark among. among) left.unit (left.card x.card) x.card u verdict was.2,
      );
  taken = h.taken;
  late = h.late;
}

pub call-recorded : (d e : Devices) → ACallIsRecorded d e
call-recorded d e o done s at waits speed rest v w k = record {
  began = refl;
  from = refl;
  within = record {
    b = w.b;
    lit = w.lit;
    began = w.began;
    unfound = w.unfound;
    next = w.next;
    odometer = w.odometer;
    moment = breakdowns-only w.b.run (went w.b.run.log done).before s at v.log waits w.b.broken (breakdowns_of d) (breakdowns_of e) w.moment k.breakdowns;
    sp = w.sp;
    minutes = w.minutes;
    ds = w.ds;
    new = w.new;
    decided = w.decided;
    from = w.from;
    kept_to = w.kept_to;
    until = w.until;
    stay = w.stay;
    marked = w.marked;
    due = w.due;
    standing = w.standing;
    brought = w.brought;
    hands = w.hands;
    firsts = w.firsts;
    handed = w.handed;
    powered = k.powered;
    found = w.found;
    early = w.early;
    late = w.late;
    more = w.more;
    tells = w.tells;
    present = w.present;
    back = w.back;
    verdicts = verdicts-left o done w.b d e k.goes.left w.verdicts;
    finds = finds-left o w.b done (course_in w.b done s at v.log) s.number w.from w.new v.marks w.brought d e k.goes.left w.finds;
    there = k.goes.there w.there;
    few = w.few;
    spared = λ card. spared-called o w.b done (course_in w.b done s at v.log) waits s.number v.cabin.slots v.cabin.cards d e w.written k.goes.untouched card (w.spared card);
    written = w.written;
    travels = k.travels;
  };
}

pub failure-recorded : (d e : Devices) → AFailureIsRecorded d e
failure-recorded d e o done s at waits speed rest v w k = record {
  b = w.b;
  lit = w.lit;
  began = w.began;
  unfound = w.unfound;
  next = w.next;
  odometer = w.odometer;
  counted = breakdowns_of d;
  moment = w.moment;
  rise = k.breakdowns;
  broke = k.broke;
  sp = w.sp;
  ds = w.ds;
  lost = k.lost;
  rest = k.others;
  new = w.new;
  decided = subst (λ (xs : List Minute). HasDecided (rule_of o) (start_at o) (told_before w.b done) w.b.run w.b.span (course_in w.b done s at v.log) speed w.sp w.ds xs w.new) k.parts w.decided;
  fed = k.unfed;
  kept = k.feeds;
  from = w.from;
  kept_to = w.kept_to;
  stay = w.stay;
  due = k.due;
  standing = k.standing;
  brought = w.brought;
  hands = w.hands;
  firsts = w.firsts;
  handed = handed-gone o.found w.b.run.log done s at v.log (course_in w.b done s at v.log) v.stops v.marks w.hands w.firsts (session_of v.cabin.cards) w.handed;
  powerless = k.powerless;
  found = w.found;
  early = λ card n at_. let lt = w.early card n at_ in let later = k.due_later in omega (arith, lt, later);
  late = k.due_late;
  low = k.low;
  more = w.more;
  tells = w.tells;
  verdicts = verdicts-left o done w.b d e k.goes.left w.verdicts;
  finds = finds-left o w.b done (course_in w.b done s at v.log) s.number w.from w.new v.marks w.brought d e k.goes.left w.finds;
  there = k.goes.there w.there;
  few = w.few;
  spared = λ card. spared-called o w.b done (course_in w.b done s at v.log) waits s.number v.cabin.slots v.cabin.cards d e w.written k.goes.untouched card (w.spared card);
  travels = k.travels;
}
