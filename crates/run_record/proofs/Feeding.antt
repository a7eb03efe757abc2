-- A second is fed behind all of its actions: its keeping comes, and these minutes are to be kept.
use Rattle.std.proofs.Common.{◌≡◌, inl, ℕ, zero, suc, ◌+◌, ◌-◌, ◌/◌, ◌≤◌, Some, None, List, [], ◌++◌, length, refl, ap, sym, subst, ◌∙◌, arith, length-append}
use Rattle.std.proofs.lemmas.List.{length-map, take_all}
use Rattle.run_devices.specs.trace_model.Trace.{TraceSecond}
use Rattle.run_devices.specs.trace_model.declared.Action.{Action}
use Rattle.minute_rules.specs.minute_model.declared.Minute.{Minute}
use Rattle.minute_rules.proofs.minute_model.Counted.{judged, decided-counted}
use Rattle.minute_rules.specs.minute_model.Span.{Span, fed, count_from, decided_in, ungiven_of}
use Rattle.minute_rules.specs.Kept.{Kept, CountsSpan}
use Rattle.run_devices.specs.log_model.Log.{In, Keeping}
use Rattle.run_devices.specs.log_model.Course.{ToldSecond, Course, went}
use Rattle.run_devices.specs.safety_model.Safe.{Devices, breakdowns_of}
use Rattle.run_devices.specs.run_course.Followed.{Progress}
use Rattle.run_devices.specs.run_course.Presence.{SlotsTell}
use Rattle.run_devices.specs.run_course.Moment.{Moment}
use Rattle.run_devices.specs.run_course.Kept.{HasDecided, AreMarkedSoFar}
use Rattle.run_devices.proofs.run_course.Telling.{keeping-comes}
use Rattle.run_devices.proofs.run_course.Kept.{second-fed}
use Rattle.run_devices.specs.run_promise.Origin.{Origin, rule_of, start_at}
use Rattle.run_devices.specs.Presence.{PresentStand}
use Rattle.run_record.specs.Recorded.{Values}
use Rattle.run_record.specs.Within.{told_before, course_in, IsFoundSo, MayBeWrittenSo, IsSparedSo, RecordInSecond, SecondGoesOn}
use Rattle.run_record.proofs.Back.{back-plain}
use Rattle.run_record.proofs.HandedSteps.{handed-on}
use Rattle.run_record.specs.Handed.{asked_so_far}
use Rattle.run_devices.specs.run_crew.Cards.{session_of}

many : (a n : ℕ) → length (count_from a n) ≡ n
many a zero = refl
many a (suc n) = ap suc (many (a + 1) n)

-- how many minutes a span has decided
pub decided-many : (span : Span) (minutes : Kept) → CountsSpan minutes span → length (decided_in span) ≡ ungiven_of span - span.first / 60
decided-many span minutes h =
    ap (λ (ds : List Minute). length ds) (decided-counted span h.numbered h.settled)
    ∙ length-map (count_from (span.first / 60) (ungiven_of span - span.first / 60)) (judged span.rule span.settlings span.seconds)
    ∙ many (span.first / 60) (ungiven_of span - span.first / 60)

module _ (o : Origin) (done : List TraceSecond) (s : TraceSecond) (v : Values) (d : Devices) (w : RecordInSecond o done s (In (length s.actions)) [] None [] v d) (minutes : Kept) (stands : CountsSpan minutes (fed w.sp s.speed)) (rest : List Minute)
    (decides : decided_in (fed w.sp s.speed) ≡ decided_in w.sp ++ rest) where
  abbrev p : Progress
  p = w.b.run

  abbrev told0 : List ToldSecond
  told0 = told_before w.b done

  abbrev c : Course
  c = course_in w.b done s (In (length s.actions)) v.log

  abbrev e : Course
  e = course_in w.b done s Keeping v.log

  comes : Moment p (went p.log done).before s Keeping v.log [] w.b.broken (breakdowns_of d) × (e ≡ c)
  comes = keeping-comes p (went p.log done).before s v.log w.b.broken (breakdowns_of d) w.moment

  same : (P : Course → Type 0) → P c → P e
  same P = subst P (sym comes.1)

  up_to : w.from + length rest ≡ ungiven_of (fed w.sp s.speed)
  up_to =
      let before = decided-many w.sp v.minutes w.minutes in
      let behind = decided-many (fed w.sp s.speed) minutes stands in
      let count = ap (λ (ds : List Minute). length ds) decides in
      let parts = length-append (decided_in w.sp) rest in
      let here = w.until in
      let low : w.sp.first / 60 ≤ ungiven_of w.sp = omega arith in
      let high : w.sp.first / 60 ≤ ungiven_of (fed w.sp s.speed) = omega arith in
      omega (arith, before, behind, count, parts, here, low, high)

  pub second-is_fed : SecondGoesOn o done s Keeping [] (Some s.speed) rest (record v { minutes = minutes }) d w.b w.from
  second-is_fed = record {
    began = refl;
    from = refl;
    within = record {
      b = w.b;
      lit = w.lit;
      began = w.began;
      unfound = w.unfound;
      next = w.next;
      odometer = w.odometer;
      moment = comes.0;
      sp = fed w.sp s.speed;
      minutes = stands;
      ds = w.ds;
      new = w.new;
      decided = same (λ (x : Course). HasDecided (rule_of o) (start_at o) told0 p w.b.span x (Some s.speed) (fed w.sp s.speed) w.ds rest w.new)
          (second-fed (rule_of o) (start_at o) told0 p w.b.span c w.sp s.speed w.ds rest w.new w.decided decides);
      from = w.from;
      kept_to = w.kept_to;
      until = up_to;
      stay = w.stay;
      marked = same (λ (x : Course). AreMarkedSoFar v.marks told0 x s.number w.new) w.marked;
      due = w.due;
      standing = w.standing;
      brought = w.brought;
      hands = w.hands;
      firsts = w.firsts;
      handed = handed-on o.found p.log done s (In (length s.actions)) Keeping v.log v.log c e v.stops v.marks w.hands w.firsts (session_of v.cabin.cards) (ap (λ (x : Course). x.found) comes.1)
          (ap (λ (l : List Action). asked_so_far p.log done v.log s l) (sym (take_all (length s.actions) s.actions (omega arith)))) w.handed;
      powered = w.powered;
      found = w.found;
      early = w.early;
      late = w.late;
      more = w.more;
      tells = same (λ (x : Course). SlotsTell (start_at o) told0 (p.book.sure ++ w.new) x.left s.number w.from x.slots v.cabin.slots) w.tells;
      present = same (λ (x : Course). PresentStand o.found w.standing told0 x s.number w.from v.cabin) w.present;
      back = λ card some. inl (back-plain o done s (In (length s.actions)) [] None v d w card some);
      verdicts = w.verdicts;
      finds = same (λ (x : Course). IsFoundSo o w.b done x s.number w.from w.new v.marks w.brought d) w.finds;
      there = w.there;
      few = w.few;
      spared = λ card. same (λ (x : Course). IsSparedSo o w.b done x [] s.number v.cabin.slots d card) (w.spared card);
      written = λ card some. same (λ (x : Course). MayBeWrittenSo o w.b done x [] s.number v.cabin.slots card) (w.written card some);
      travels = w.travels;
    };
  }
