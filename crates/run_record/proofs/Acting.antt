-- An action that changes no slot: it is refused, or selects an activity.
use Rattle.std.proofs.Common.{◌≡◌, ℕ, inl, suc, None, List, [], ◌∷◌, ◌++◌, length, refl, sym, ◌∙◌, subst, arith, Option, ap}
use Rattle.minute_rules.specs.activity_codec.declared.values.Slot.{Slot}
use Rattle.minute_rules.specs.activity_codec.declared.values.Pick.{Pick}
use Rattle.run_devices.specs.trace_model.declared.Action.TheVariants.{Select, Place}
use Rattle.run_devices.specs.trace_model.Trace.{TraceSecond}
use Rattle.minute_rules.specs.minute_model.Span.{Span, picked, ungiven_of}
use Rattle.minute_rules.specs.Kept.{Kept, CountsSpan}
use Rattle.run_devices.specs.log_model.declared.lines.SlotFault.{SlotFault}
use Rattle.run_devices.specs.log_model.Log.{RunLog, Phase, In}
use Rattle.run_devices.specs.log_model.Course.{ToldSecond, Course, went}
use Rattle.run_devices.specs.safety_model.Safe.{Devices, breakdowns_of}
use Rattle.run_devices.specs.run_course.Followed.{Progress}
use Rattle.run_devices.specs.run_course.Moments.{and_refused}
use Rattle.run_devices.specs.run_course.Presence.{SlotsTell}
use Rattle.run_devices.specs.run_course.Moment.{Moment}
use Rattle.run_devices.specs.run_course.Kept.{HasDecided, AreMarkedSoFar}
use Rattle.run_devices.proofs.run_course.Moment.{action-refused, action-done}
use Rattle.run_devices.proofs.run_course.Kept.{selection-heard, nothing-else}
use Rattle.run_devices.specs.run_promise.Origin.{Origin, rule_of, start_at}
use Rattle.run_devices.specs.Presence.{PresentStand}
use Rattle.run_record.specs.Recorded.{Values}
use Rattle.run_record.specs.Within.{told_before, course_in, IsFoundSo, MayBeWrittenSo, IsSparedSo, RecordInSecond, SecondGoesOn, ARefusalIsRecorded, ASelectionIsRecorded, APlaceIsRecorded}
use Rattle.run_record.proofs.Back.{back-plain}
use Rattle.run_record.proofs.Stays.{goes-still}
use Rattle.run_record.proofs.Written.{written-on, spared-on}
use Rattle.run_devices.specs.log_model.ByHand.{asks}
use Rattle.run_devices.specs.run_crew.Cards.{session_of}
use Rattle.run_devices.specs.run_course.Seconds.{kept_all}
use Rattle.run_record.specs.Handed.{actions_to, asked_so_far, AreHandedIn}
use Rattle.run_record.proofs.Asked.{asked-refusal, asked-quiet}
use Rattle.run_record.proofs.HandedSteps.{handed-on}

module _ (o : Origin) (done : List TraceSecond) (s : TraceSecond) (at : Phase) (v : Values) (d : Devices) (w : RecordInSecond o done s at [] None [] v d) where
  abbrev p : Progress
  p = w.b.run

  abbrev told0 : List ToldSecond
  told0 = told_before w.b done

  abbrev c : Course
  c = course_in w.b done s at v.log

  -- the same course, but for what was selected and refused
  abbrev but : List (Slot × Pick) → List (ℕ × SlotFault) → Course
  but picks refused = record c { picks = picks; refused = refused }

  acted : (log : RunLog) (next : Phase) (picks : List (Slot × Pick)) (refused : List (ℕ × SlotFault)) (minutes : Kept) (sp : Span) → Moment p (went p.log done).before s next log [] w.b.broken (breakdowns_of d) →
      course_in w.b done s next log ≡ but picks refused → CountsSpan minutes sp → ungiven_of sp ≡ ungiven_of w.sp →
      HasDecided (rule_of o) (start_at o) told0 p w.b.span (but picks refused) None sp w.ds [] w.new
      → asked_so_far p.log done log s (actions_to next s.actions) ≡ asked_so_far p.log done v.log s (actions_to at s.actions) → SecondGoesOn o done s next [] None [] (record v { log = log; minutes = minutes }) d w.b w.from
  acted log next picks refused minutes sp m is stands still decided asked = record {
    began = refl;
    from = refl;
    within = record {
      b = w.b;
      lit = w.lit;
      began = w.began;
      unfound = w.unfound;
      next = w.next;
      odometer = w.odometer;
      moment = m;
      sp = sp;
      minutes = stands;
      ds = w.ds;
      new = w.new;
      decided = same (λ (x : Course). HasDecided (rule_of o) (start_at o) told0 p w.b.span x None sp w.ds [] w.new) decided;
      from = w.from;
      kept_to = w.kept_to;
      until = let to = w.until in omega (arith, to, still);
      stay = w.stay;
      marked = same (λ (x : Course). AreMarkedSoFar v.marks told0 x s.number w.new) (record { unit = w.marked.unit; card = w.marked.card });
      due = w.due;
      standing = w.standing;
      brought = w.brought;
      hands = w.hands;
      firsts = w.firsts;
      handed = same (λ (x : Course). AreHandedIn (start_at o) (kept_all w.new w.b.run.book).sure o.found p.log done s next log x v.stops v.marks w.hands w.firsts (session_of v.cabin.cards))
          (handed-on o.found p.log done s at next v.log log c (but picks refused) v.stops v.marks w.hands w.firsts (session_of v.cabin.cards) refl asked w.handed);
      powered = w.powered;
      found = w.found;
      early = w.early;
      late = w.late;
      more = w.more;
      tells = same (λ (x : Course). SlotsTell (start_at o) told0 (p.book.sure ++ w.new) x.left s.number w.from x.slots v.cabin.slots) w.tells;
      present = same (λ (x : Course). PresentStand o.found w.standing told0 x s.number w.from v.cabin)
          (record { seated = w.present.seated; ended = λ m present card low is in_. let h = w.present.ended m present card low is in_ in record { valid = h.valid; present = h.present; session = h.session } });
      back = λ card some. inl (back-plain o done s at [] None v d w card some);
      verdicts = w.verdicts;
      finds = same (λ (x : Course). IsFoundSo o w.b done x s.number w.from w.new v.marks w.brought d) (record { may = w.finds.may; taken = w.finds.taken; late = w.finds.late });
      there = w.there;
      few = w.few;
      spared = λ card. same (λ (x : Course). IsSparedSo o w.b done x [] s.number v.cabin.slots d card)
          (spared-on o w.b done c (but picks refused) [] s.number v.cabin.slots v.cabin.slots d card refl refl (goes-still s.number v.cabin.slots v.cabin.slots card refl) (w.spared card));
      written = λ card some. same (λ (x : Course). MayBeWrittenSo o w.b done x [] s.number v.cabin.slots card)
          (written-on o w.b done c (but picks refused) [] s.number v.cabin.slots v.cabin.slots card refl refl (goes-still s.number v.cabin.slots v.cabin.slots card refl) (w.written card some));
      travels = w.travels;
    };
  }
    where
      same : (P : Course → Type 0) → P (but picks refused) → P (course_in w.b done s next log)
      same P = subst P (sym is)

pub refusal-recorded : (d : Devices) → ARefusalIsRecorded d
refusal-recorded d o done s v front a rest are w fault is =
    let p : Progress = w.b.run in
    let c : Course = course_in w.b done s (In (length front)) v.log in
    let done_ = action-refused p (went p.log done).before s v.log w.b.broken (breakdowns_of d) front a rest are w.moment fault is in
    acted o done s (In (length front)) v d w (and_refused v.log (record { second = s.number; fault = fault; begun = suc (length front) })) (In (suc (length front))) c.picks (c.refused ++ (suc (length front), fault) ∷ []) v.minutes w.sp done_.0 done_.1 w.minutes refl
    (nothing-else (rule_of o) (start_at o) (told_before w.b done) p w.b.span c (record c { refused = c.refused ++ (suc (length front), fault) ∷ [] }) None w.sp w.ds [] w.new w.decided refl refl)
    (asked-refusal p.log done v.log s (record { second = s.number; fault = fault; begun = suc (length front) }) (actions_to (In (suc (length front))) s.actions)
    ∙ asked-quiet p.log done v.log s w.moment.up_to.uncut front a rest are (ap (λ (r : Option SlotFault). asks s.number (length front) r a c.slots) is))

pub selection-recorded : (d : Devices) → ASelectionIsRecorded d
selection-recorded d o done s v front slot pick rest are w is minutes stands =
    let p : Progress = w.b.run in
    let c : Course = course_in w.b done s (In (length front)) v.log in
    let done_ = action-done p (went p.log done).before s v.log w.b.broken (breakdowns_of d) front (Select slot pick) rest are w.moment refl is in
    acted o done s (In (length front)) v d w v.log (In (suc (length front))) (c.picks ++ (slot, pick) ∷ []) c.refused minutes (picked w.sp slot pick) done_.0 done_.1 stands refl
    (selection-heard (rule_of o) (start_at o) (told_before w.b done) p w.b.span c (record c { picks = c.picks ++ (slot, pick) ∷ [] }) w.sp w.ds [] w.new w.decided slot pick refl refl)
    (asked-quiet p.log done v.log s w.moment.up_to.uncut front (Select slot pick) rest are (ap (λ (r : Option SlotFault). asks s.number (length front) r (Select slot pick) c.slots) is))

pub place-recorded : (d : Devices) → APlaceIsRecorded d
place-recorded d o done s v front slot ending country region rest are w is =
    let p : Progress = w.b.run in
    let c : Course = course_in w.b done s (In (length front)) v.log in
    let done_ = action-done p (went p.log done).before s v.log w.b.broken (breakdowns_of d) front (Place slot ending country region) rest are w.moment refl is in
    acted o done s (In (length front)) v d w v.log (In (suc (length front))) c.picks c.refused v.minutes w.sp done_.0 done_.1 w.minutes refl w.decided
    (asked-quiet p.log done v.log s w.moment.up_to.uncut front (Place slot ending country region) rest are (ap (λ (r : Option SlotFault). asks s.number (length front) r (Place slot ending country region) c.slots) is))
