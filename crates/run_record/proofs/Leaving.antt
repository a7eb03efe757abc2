-- The card of a slot leaves it: its session is not closed yet.
use Rattle.std.proofs.Common.{◌≡◌, ◌⊎◌, inl, inr, ⊎_elim, ℕ, suc, ◌+◌, ◌/◌, ◌≤◌, Bool, true, Option, Some, None, IfSome, is_some, List, [], ◌∷◌, ◌++◌, Contains, length, map, refl, ap, sym, subst, ◌∙◌, arith}
use Rattle.std.specs.Prelude.{if◌then◌else◌}
use Rattle.minute_rules.specs.activity_codec.declared.values.Slot.{Slot}
use Rattle.minute_rules.specs.activity_codec.declared.values.Slot.TheVariants.{Driver, CoDriver}
use Rattle.run_devices.specs.trace_model.declared.Card.{Card}
use Rattle.run_devices.specs.trace_model.declared.Action.{Action}
use Rattle.run_devices.specs.trace_model.declared.Action.TheVariants.{Withdraw}
use Rattle.run_devices.specs.trace_model.Trace.{TraceSecond}
use Rattle.minute_rules.specs.minute_model.declared.Minute.{Minute}
use Rattle.minute_rules.specs.minute_model.Span.{settled, decided_in}
use Rattle.minute_rules.specs.Kept.{Kept, CountsSpan}
use Rattle.run_devices.specs.log_model.declared.lines.SlotFault.{SlotFault}
use Rattle.run_devices.specs.log_model.Log.{In}
use Rattle.run_devices.specs.log_model.Slots.{Sitting, in_slot, refusal}
use Rattle.run_devices.specs.log_model.Course.{ToldSecond, Course, Visit, Before, Moved, visits, card_in as card_of_sitting, moved_by, carried_out, went}
use Rattle.run_devices.specs.safety_model.Safe.{Devices, breakdowns_of}
use Rattle.run_devices.specs.card_slots.declared.seats.Seat.{Seat}
use Rattle.run_devices.specs.card_slots.declared.seats.Present.{Present}
use Rattle.run_devices.specs.card_slots.Calls.{seat_in, card_in, is_card, present_in}
use Rattle.run_devices.specs.card_slots.Kept.{SitsSince, SitStill, left_of}
use Rattle.run_devices.proofs.card_slots.Newest.{found_sits}
use Rattle.run_devices.specs.run_crew.Cards.{session_of}
use Rattle.run_devices.proofs.run_crew.Sessions.{same_self, same_is}
use Rattle.run_devices.specs.run_course.Followed.{Progress}
use Rattle.run_devices.specs.run_course.Presence.{SlotsTell}
use Rattle.run_devices.proofs.run_course.Presence.{taken-out}
use Rattle.run_devices.specs.run_course.Reached.{moved_at}
use Rattle.run_devices.specs.run_course.Lines.{times_of}
use Rattle.run_devices.specs.run_course.Moment.{Moment}
use Rattle.run_devices.specs.run_course.Kept.{HasDecided}
use Rattle.run_devices.proofs.run_course.Reached.{action-reached}
use Rattle.run_devices.proofs.run_course.Moment.{reaches-of, action-done}
use Rattle.run_devices.proofs.run_course.Kept.{settling-decides}
use Rattle.run_devices.specs.run_promise.Origin.{Origin, rule_of, start_at}
use Rattle.run_devices.specs.Presence.{sits}
use Rattle.run_devices.proofs.Presence.{step-leaves}
use Rattle.run_record.specs.Recorded.{Values}
use Rattle.run_record.specs.Within.{Beginning, told_before, course_in, IsLeaving, AreBackAt, RecordInSecond, SecondGoesOn}
use Rattle.run_record.specs.Taking.{left_values, IsLeft, ACardLeaves}
use Rattle.run_record.proofs.Back.{back-plain, low-too}
use Rattle.run_record.proofs.Sitting.{sits-with}
use Rattle.run_record.proofs.Stays.{goes-taken}
use Rattle.run_record.proofs.Seats.{never-none, this-or, card-seated, seated-there, seat-tells, one-slot, nowhere-then, none-there, seat-left}
use Rattle.run_record.proofs.Until.{settles-to, settles-here}
use Rattle.run_record.proofs.Onward.{IsStep, steps-on}
use Rattle.run_record.proofs.Putting.{still-goes, slot-itself}
use Rattle.run_record.proofs.Asked.{asked-quiet}
use Rattle.run_devices.specs.log_model.ByHand.{asks}

module _ (o : Origin) (done : List TraceSecond) (s : TraceSecond) (v : Values) (d : Devices) (front : List Action) (slot : Slot) (card : Card) (rest : List Action) (are : s.actions ≡ front ++ Withdraw slot ∷ rest)
    (w : RecordInSecond o done s (In (length front)) [] None [] v d) (is : refusal (course_in w.b done s (In (length front)) v.log).slots s.speed (Withdraw slot) ≡ None) (seated : card_in (seat_in v.cabin.slots.seats slot) ≡ Some card)
    (minutes : Kept) (stands : CountsSpan minutes (settled w.sp)) (decided : List Minute) (decides : decided_in (settled w.sp) ≡ decided_in w.sp ++ decided) where
  abbrev n : ℕ
  n = length front

  abbrev p : Progress
  p = w.b.run

  abbrev was : Before
  was = (went p.log done).before

  abbrev told0 : List ToldSecond
  told0 = told_before w.b done

  abbrev c : Course
  c = course_in w.b done s (In n) v.log

  abbrev now : Course
  now = course_in w.b done s (In (suc n)) v.log

  abbrev then_ : Course
  then_ = carried_out n (Withdraw slot) c

  abbrev later : Values
  later = left_values slot s.number minutes v

  done_ : Moment p was s (In (suc n)) v.log [] w.b.broken (breakdowns_of d) × (now ≡ then_)
  done_ = action-done p was s v.log w.b.broken (breakdowns_of d) front (Withdraw slot) rest are w.moment refl is

  same : (P : Course → Type 0) → P then_ → P now
  same P = subst P (sym done_.1)

  here : is_card (seat_in v.cabin.slots.seats slot) card ≡ true
  here = card-seated card (seat_in v.cabin.slots.seats slot) seated

  sitting : (x : Sitting) × (in_slot c.slots slot ≡ Some x) × (x.card ≡ card)
  sitting = seated-there (start_at o) (p.book.sure ++ w.new) w.from v.cabin.slots card (seat_in v.cabin.slots.seats slot) (in_slot c.slots slot)
      (seat-tells (start_at o) told0 (p.book.sure ++ w.new) c.left s.number w.from c.slots v.cabin.slots w.tells slot) seated

  -- who sits accepted sat there before
  who : (sl : Slot) (x : Card) (u : ℕ) → in_slot now.slots sl ≡ sits x u → in_slot c.slots sl ≡ sits x u
  who sl x u there = ⊎_elim
      (λ (none : None ≡ sits x u). never-none x u none)
      (λ before. before)
      (sits-with c.slots slot None sl x u (ap (λ (k : Course). in_slot k.slots sl) (sym done_.1) ∙ there))

  step : IsStep o done s (In n) (In (suc n)) [] [] decided v later d d w (settled w.sp)
  step = record {
    unfound_same = refl;
    next_same = refl;
    odometer_same = refl;
    marks_same = refl;
    moment = done_.0;
    out = record { torn = λ x there. same (λ (k : Course). Contains k.torn x) there; pulled = λ x there. same (λ (k : Course). Contains k.pulled x) there };
    found_same = ap (λ (k : Course). k.found) done_.1;
    asked_same = asked-quiet p.log done v.log s w.moment.up_to.uncut front (Withdraw slot) rest are (ap (λ (r : Option SlotFault). asks s.number n r (Withdraw slot) c.slots) is);
    stops_same = refl;
    sessions = λ x. inl refl;
    enter = λ x. same (λ (k : Course). times_of x c.entered ≤ times_of x k.entered) (omega arith);
    wait = λ x. same (λ (k : Course). times_of x [] + times_of x c.entered ≤ times_of x [] + times_of x k.entered) (omega arith);
    decided = same (λ (k : Course). HasDecided (rule_of o) (start_at o) told0 p w.b.span k None (settled w.sp) w.ds decided w.new)
        (settling-decides (rule_of o) (start_at o) told0 p w.b.span c then_ w.sp w.ds decided w.new w.decided refl refl decides);
    found = w.found;
    tells = same (λ (k : Course). SlotsTell (start_at o) told0 (p.book.sure ++ w.new) k.left s.number w.from k.slots later.cabin.slots)
        (taken-out (start_at o) told0 (p.book.sure ++ w.new) c.left s.number w.from c.slots v.cabin.slots w.tells slot);
    stays = λ x. goes-taken s.number slot v.cabin.slots x;
    goes = still-goes o v d;
    travels = w.travels;
  }

  plain : (x : Card) → is_some (session_of v.cabin.cards x) ≡ true → IfSome (left_of v.cabin.slots.left x) (λ left. left ≤ w.from)
  plain = back-plain o done s (In n) [] None v d w

  moved-so : moved_at v.log was s (In (suc n)) ≡ moved_by n None (Withdraw slot) c.slots
  moved-so =
      (action-reached p was s v.log front (Withdraw slot) rest are (reaches-of p was s (In n) v.log [] w.b.broken (breakdowns_of d) w.moment)).2
      ∙ ap (λ (r : Option SlotFault). moved_by n r (Withdraw slot) c.slots) is

  more : n + 1 ≡ suc n
  more = omega arith

  leaves-so : (moved_at v.log was s (In (suc n))).leaving slot ≡ record { phase = In (suc n); slot = slot; card = card } ∷ []
  leaves-so =
      ap (λ (m : Moved). m.leaving slot) moved-so
      ∙ ap (λ (b : Bool). if b then visits (In (n + 1)) slot c.slots else []) (slot-itself slot)
      ∙ ap (λ (q : Option Sitting). map {B = Visit} (λ (k : Card). record { phase = In (n + 1); slot = slot; card = k }) (card_of_sitting q)) sitting.1
      ∙ ap (λ (k : Card). record { phase = In (n + 1); slot = slot; card = k } ∷ []) sitting.2
      ∙ ap (λ (k : ℕ). record { phase = In k; slot = slot; card = card } ∷ []) more

  -- where it was present, it was in this slot
  was-there : is_some (session_of v.cabin.cards card) ≡ true → (at : Slot) (m : ℕ) → w.from ≤ m → SitsSince v.cabin.slots at m (Some card) → slot ≡ at
  was-there some at m low since =
      let seat = since (low-too w.from m (left_of v.cabin.slots.left card) low (plain card some)) in
      one-slot (start_at o) told0 (p.book.sure ++ w.new) c.left s.number w.from c.slots v.cabin.slots w.tells slot at card here (ap (λ (q : Option Seat). is_card q card) seat.1 ∙ same_self card)

  still : (m : ℕ) (present : Present) → present_in v.cabin.slots.past m ≡ Some present → SitStill v.cabin.slots m present
  still m present there = found_sits v.cabin.slots m present v.cabin.slots.past w.tells.newest.sit (sym there)

  leaving-so : is_some (session_of v.cabin.cards card) ≡ true → (high : ℕ) → high ≡ s.number / 60 → IsLeaving v.log was s (In (suc n)) w.from high later.cabin slot card
  leaving-so some high to = record {
    leaves = leaves-so;
    empty = none-there v.cabin.slots.seats slot;
    nowhere = nowhere-then (start_at o) told0 (p.book.sure ++ w.new) c.left s.number w.from c.slots v.cabin.slots w.tells slot card here;
    untorn = w.moment.up_to.torn (In (suc n)) slot (omega arith);
    to = to;
    driver = λ m present low there first. was-there some Driver m low (subst (SitsSince v.cabin.slots Driver m) first (still m present there).driver);
    codriver = λ m present low there first. was-there some CoDriver m low (subst (SitsSince v.cabin.slots CoDriver m) first (still m present there).codriver);
  }

  to-here : w.from + length decided ≡ s.number / 60
  to-here = settles-here o done s (In n) [] [] v d w minutes stands decided decides refl

  back-so : AreBackAt v.log was s (In (suc n)) w.from (w.from + length decided) later.cabin
  back-so x some = ⊎_elim
      (λ own. subst (λ (k : Card). is_some (session_of v.cabin.cards k) ≡ true → IfSome (left_of later.cabin.slots.left k) (λ left. left ≤ w.from) ⊎ ((sl : Slot) × IsLeaving v.log was s (In (suc n)) w.from (w.from + length decided) later.cabin sl k))
      (same_is card x own) (λ mine. inr (slot, leaving-so mine (w.from + length decided) to-here)) some)
      (λ other. inl (subst (λ (q : Option ℕ). IfSome q (λ left. left ≤ w.from)) (sym (seat-left card x (seat_in v.cabin.slots.seats slot) (s.number / 60) v.cabin.slots.left seated other)) (plain x some)))
      (this-or card x)

  pub left-goes : SecondGoesOn o done s (In (suc n)) [] None decided later d w.b w.from
  left-goes = steps-on o done s (In n) (In (suc n)) [] [] decided v later d d w (settled w.sp) step (record {
    minutes = stands;
    until = settles-to o done s (In n) [] [] v d w minutes stands decided decides refl;
    standing = w.standing;
    powered = w.powered;
    present = step-leaves o.found w.standing w.standing told0 c now s.number w.from w.from v.cabin later.cabin w.present w.tells.newest w.tells.minute (omega arith) refl step.out
        (λ x. inl (refl, λ some. some)) (λ sl x u there. (who sl x u there, inl (refl, λ some. some)));
    back = back-so;
    old = λ x some. some;
  })

  pub is-left : IsLeft o done s v d front slot card minutes decided w
  is-left = record {
    goes = left-goes;
    leaving = λ some.
        subst (λ (from : ℕ). IsLeaving v.log (went left-goes.within.b.run.log done).before s (In (suc n)) from (from + length decided) later.cabin slot card) (sym left-goes.from)
        (subst (λ (b : Beginning). IsLeaving v.log (went b.run.log done).before s (In (suc n)) w.from (w.from + length decided) later.cabin slot card) (sym left-goes.began)
        (leaving-so some (w.from + length decided) to-here));
    settles = subst (λ (b : Beginning). (course_in b done s (In (suc n)) v.log).settled ≡ true) (sym left-goes.began) (ap (λ (k : Course). k.settled) done_.1);
    to_here = ap (λ (from : ℕ). from + length decided) left-goes.from ∙ to-here;
  }

pub card-leaves : (d : Devices) → ACardLeaves d
card-leaves d o done s v front slot card rest are w is seated minutes stands decided decides = is-left o done s v d front slot card rest are w is seated minutes stands decided decides
