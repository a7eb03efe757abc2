-- A card is put into a slot: it waits there, and once the minutes before are kept it may be judged.
use Rattle.std.proofs.Common.{◌≡◌, inl, ⊎_elim, ℕ, suc, ◌+◌, ◌≤◌, true, Option, Some, None, List, [], ◌∷◌, ◌++◌, Contains, length, refl, ap, sym, subst, ◌∙◌, arith}
use Rattle.minute_rules.specs.activity_codec.declared.values.Slot.{Slot}
use Rattle.minute_rules.specs.activity_codec.declared.values.Slot.TheVariants.{Driver, CoDriver}
use Rattle.minute_rules.specs.activity_codec.Activity.{same_slot}
use Rattle.run_devices.specs.trace_model.declared.Card.{Card}
use Rattle.run_devices.specs.trace_model.declared.Action.{Action}
use Rattle.run_devices.specs.trace_model.declared.Action.TheVariants.{Insert}
use Rattle.run_devices.specs.trace_model.Trace.{TraceSecond}
use Rattle.minute_rules.specs.minute_model.declared.Minute.{Minute}
use Rattle.minute_rules.specs.minute_model.Span.{settled, decided_in}
use Rattle.minute_rules.specs.Kept.{Kept, CountsSpan}
use Rattle.run_devices.specs.log_model.declared.lines.SlotFault.{SlotFault}
use Rattle.run_devices.specs.log_model.Log.{Phase, In}
use Rattle.run_devices.specs.log_model.Slots.{in_slot, refusal}
use Rattle.run_devices.specs.log_model.Course.{ToldSecond, Course, Visit, Before, Moved, moved_by, carried_out, went}
use Rattle.run_devices.specs.safety_model.Safe.{Devices, breakdowns_of}
use Rattle.run_devices.specs.card_slots.Kept.{IsFree}
use Rattle.run_devices.specs.run_course.Followed.{Progress}
use Rattle.run_devices.specs.run_course.Presence.{SlotsTell}
use Rattle.run_devices.proofs.run_course.Presence.{put-in}
use Rattle.run_devices.specs.run_course.Reached.{moved_at}
use Rattle.run_devices.specs.run_course.Lines.{times_of}
use Rattle.run_devices.specs.run_course.Moment.{Moment, entering_by}
use Rattle.run_devices.specs.run_course.Kept.{HasDecided}
use Rattle.run_devices.proofs.run_course.Reached.{action-reached}
use Rattle.run_devices.proofs.run_course.Moment.{reaches-of, action-done}
use Rattle.run_devices.proofs.run_course.Kept.{settling-decides}
use Rattle.run_devices.proofs.run_course.Lines.{times-append}
use Rattle.run_devices.specs.run_promise.Origin.{Origin, rule_of, start_at}
use Rattle.run_devices.specs.Presence.{sits}
use Rattle.run_devices.proofs.Presence.{step-leaves}
use Rattle.run_record.specs.Recorded.{Values}
use Rattle.run_record.specs.Within.{Beginning, told_before, course_in, GoesOnSo, RecordInSecond, SecondGoesOn}
use Rattle.run_record.specs.Taking.{put_values, entered_alone, IsPutIntoSlot, ACardIsPutIn, AnEnteredCardIsNext}
use Rattle.run_record.proofs.Back.{back-at, back-plain}
use Rattle.run_record.proofs.Known.{waits-there}
use Rattle.run_record.proofs.Sitting.{sits-with}
use Rattle.run_record.proofs.Waking.{but-first}
use Rattle.run_record.proofs.Stays.{goes-put_in}
use Rattle.run_record.proofs.Seats.{free-for, never-bare}
use Rattle.run_record.proofs.Until.{settles-to, settles-here}
use Rattle.run_record.proofs.Moved.{tears-begun, tears-found}
use Rattle.run_record.proofs.Onward.{IsStep, steps-on}
use Rattle.run_record.proofs.Asked.{asked-quiet}
use Rattle.run_devices.specs.log_model.ByHand.{asks}

-- no device is called
pub still-goes : (o : Origin) (v : Values) (d : Devices) → GoesOnSo o v.cabin.cards d d
still-goes o v d = record {
  left = record { unit = λ x h. h; card = λ c x h. h };
  there = λ h. h;
  untouched = λ card h. inl h;
}

pub slot-itself : (slot : Slot) → same_slot slot slot ≡ true
slot-itself Driver = refl
slot-itself CoDriver = refl

module _ (o : Origin) (done : List TraceSecond) (s : TraceSecond) (v : Values) (d : Devices) (front : List Action) (slot : Slot) (card : Card) (rest : List Action) (are : s.actions ≡ front ++ Insert slot card ∷ rest)
    (w : RecordInSecond o done s (In (length front)) [] None [] v d) (is : refusal (course_in w.b done s (In (length front)) v.log).slots s.speed (Insert slot card) ≡ None)
    (minutes : Kept) (stands : CountsSpan minutes (settled w.sp)) (decided : List Minute) (decides : decided_in (settled w.sp) ≡ decided_in w.sp ++ decided) where
  abbrev n : ℕ
  n = length front

  abbrev p : Progress
  p = w.b.run

  abbrev was : Before
  was = (went p.log done).before

  abbrev told0 : List ToldSecond
  told0 = told_before w.b done

  abbrev c : Course
  c = course_in w.b done s (In n) v.log

  abbrev now : Course
  now = course_in w.b done s (In (suc n)) v.log

  abbrev then_ : Course
  then_ = carried_out n (Insert slot card) c

  abbrev waits : List Visit
  waits = entering_by n (Insert slot card)

  abbrev later : Values
  later = put_values slot card minutes v

  done_ : Moment p was s (In (suc n)) v.log waits w.b.broken (breakdowns_of d) × (now ≡ then_)
  done_ = action-done p was s v.log w.b.broken (breakdowns_of d) front (Insert slot card) rest are w.moment refl is

  same : (P : Course → Type 0) → P then_ → P now
  same P = subst P (sym done_.1)

  entered-more : (x : Card) → times_of x waits + times_of x c.entered ≤ times_of x then_.entered
  entered-more x =
      let e = times-append x c.entered (record { phase = In (n + 1); slot = slot; card = card } ∷ []) in
      let one : times_of x (record { phase = In (n + 1); slot = slot; card = card } ∷ []) ≡ times_of x waits = refl in
      omega (arith, e, one)

  -- who sits accepted sat there before
  who : (sl : Slot) (x : Card) (u : ℕ) → in_slot now.slots sl ≡ sits x u → in_slot c.slots sl ≡ sits x u
  who sl x u here = ⊎_elim
      (λ (one : Some (record { card = card; accepted = None }) ≡ sits x u). never-bare card x u one)
      (λ there. there)
      (sits-with c.slots slot (Some (record { card = card; accepted = None })) sl x u (ap (λ (k : Course). in_slot k.slots sl) (sym done_.1) ∙ here))

  free : IsFree v.cabin.slots.seats slot card
  free = free-for (start_at o) told0 (p.book.sure ++ w.new) c.left s.number w.from c.slots v.cabin.slots w.tells slot card s.speed is

  step : IsStep o done s (In n) (In (suc n)) [] waits decided v later d d w (settled w.sp)
  step = record {
    unfound_same = refl;
    next_same = refl;
    odometer_same = refl;
    marks_same = refl;
    moment = done_.0;
    out = record { torn = λ x there. same (λ (k : Course). Contains k.torn x) there; pulled = λ x there. same (λ (k : Course). Contains k.pulled x) there };
    found_same = ap (λ (k : Course). k.found) done_.1;
    asked_same = asked-quiet p.log done v.log s w.moment.up_to.uncut front (Insert slot card) rest are (ap (λ (r : Option SlotFault). asks s.number n r (Insert slot card) c.slots) is);
    stops_same = refl;
    sessions = λ x. inl refl;
    enter = λ x. same (λ (k : Course). times_of x c.entered ≤ times_of x k.entered) (let more = entered-more x in omega (arith, more));
    wait = λ x. same (λ (k : Course). times_of x waits + times_of x c.entered ≤ times_of x [] + times_of x k.entered) (let more = entered-more x in omega (arith, more));
    decided = same (λ (k : Course). HasDecided (rule_of o) (start_at o) told0 p w.b.span k None (settled w.sp) w.ds decided w.new)
        (settling-decides (rule_of o) (start_at o) told0 p w.b.span c then_ w.sp w.ds decided w.new w.decided refl refl decides);
    found = w.found;
    tells = same (λ (k : Course). SlotsTell (start_at o) told0 (p.book.sure ++ w.new) k.left s.number w.from k.slots later.cabin.slots)
        (put-in (start_at o) told0 (p.book.sure ++ w.new) c.left s.number w.from c.slots v.cabin.slots w.tells slot card None None free tt);
    stays = λ x. goes-put_in s.number slot card None v.cabin.slots x free;
    goes = still-goes o v d;
    travels = w.travels;
  }

  pub put-goes : SecondGoesOn o done s (In (suc n)) waits None decided later d w.b w.from
  put-goes = steps-on o done s (In n) (In (suc n)) [] waits decided v later d d w (settled w.sp) step (record {
    minutes = stands;
    until = settles-to o done s (In n) [] [] v d w minutes stands decided decides refl;
    standing = w.standing;
    powered = w.powered;
    present = step-leaves o.found w.standing w.standing told0 c now s.number w.from w.from v.cabin later.cabin w.present w.tells.newest w.tells.minute (omega arith) refl step.out
        (λ x. inl (refl, λ some. some)) (λ sl x u here. (who sl x u here, inl (refl, λ some. some)));
    back = back-at v.log was s (In (suc n)) w.from (w.from + length decided) later.cabin (back-plain o done s (In n) [] None v d w);
    old = λ x some. some;
  })

  moved-so : moved_at v.log was s (In (suc n)) ≡ entered_alone slot
  moved-so =
      (action-reached p was s v.log front (Insert slot card) rest are (reaches-of p was s (In n) v.log [] w.b.broken (breakdowns_of d) w.moment)).2
      ∙ ap (λ (r : Option SlotFault). moved_by n r (Insert slot card) c.slots) is

  pub is-put : IsPutIntoSlot o done s v d front slot card minutes decided w
  is-put = record {
    goes = put-goes;
    moved = subst (λ (b : Beginning). moved_at v.log (went b.run.log done).before s (In (suc n)) ≡ entered_alone slot) (sym put-goes.began) moved-so;
    none = λ x. w.moment.up_to.found (In (suc n)) x (omega arith);
    settles = subst (λ (b : Beginning). (course_in b done s (In (suc n)) v.log).settled ≡ true) (sym put-goes.began) (ap (λ (k : Course). k.settled) done_.1);
    to_here = ap (λ (from : ℕ). from + length decided) put-goes.from ∙ settles-here o done s (In n) [] [] v d w minutes stands decided decides refl;
  }

pub card-put : (d : Devices) → ACardIsPutIn d
card-put d o done s v front slot card rest are w is minutes stands decided decides = is-put o done s v d front slot card rest are w is minutes stands decided decides

-- BEHIND THE KEEPING
pub entered-next : (d e : Devices) → AnEnteredCardIsNext d e
entered-next d e o done s v front slot card minutes decided w put later x began from more log tears seat =
    let at : Phase = In (suc (length front)) in
    let waits : List Visit = entering_by (length front) (Insert slot card) in
    let told = tears-begun (went put.goes.within.b.run.log done).before s at more v.log later.log log put.goes.within.moment.up_to tears in
    let moved : moved_at later.log (went x.b.run.log done).before s at ≡ entered_alone slot =
    ap (λ (b : Beginning). moved_at later.log (went b.run.log done).before s at) began ∙ told.1 ∙ put.moved in
    record {
      next = record {
        sits_ = waits-there (start_at o) (told_before x.b done) (x.b.run.book.sure ++ x.new) (course_in x.b done s at later.log).left s.number x.from (course_in x.b done s at later.log).slots later.cabin.slots x.tells slot card seat;
        enters = ap (λ (m : Moved). m.enters slot) moved ∙ slot-itself slot;
        stays_in = ap (λ (m : Moved). m.leaving slot) moved;
        but = but-first at slot card [];
        behind = tt;
        is_now = from;
      };
      none = λ other. tears-found s.number at other more v.log later.log log ∙ put.none other;
    }
