-- A card is pulled out of its slot, and no device is called.
use Rattle.std.proofs.Common.{◌≡◌, inr, ℕ, suc, ◌+◌, ◌/◌, ◌≤◌, true, Option, Some, None, is_some, List, [], ◌∷◌, ◌++◌, Contains, length, map, refl, ap, sym, subst, ◌∙◌, arith, false}
use Rattle.std.proofs.lemmas.List.Elements.{Contains-append_left, Contains-push}
use Rattle.minute_rules.specs.activity_codec.declared.entries.Entry.{Entry}
use Rattle.minute_rules.specs.activity_codec.declared.values.Slot.{Slot}
use Rattle.run_devices.specs.trace_model.declared.Card.{Card}
use Rattle.run_devices.specs.trace_model.declared.Action.{Action}
use Rattle.run_devices.specs.trace_model.declared.Action.TheVariants.{Tear as Pull}
use Rattle.run_devices.specs.trace_model.Trace.{TraceSecond}
use Rattle.tach_media.specs.Medium.{State}
use Rattle.run_devices.specs.log_model.Log.{Phase, In}
use Rattle.run_devices.specs.log_model.Slots.{Sitting, in_slot, refusal}
use Rattle.run_devices.specs.log_model.Course.{ToldSecond, Course, Visit, Before, visits, card_in as card_of_sitting, with_slot, carried_out, went}
use Rattle.run_devices.specs.device_rule.Rules.{Standing, In as IsIn, Torn}
use Rattle.run_devices.specs.safety_model.Safe.{Devices, card_of, breakdowns_of}
use Rattle.run_devices.specs.card_slots.Calls.{seat_in, card_in}
use Rattle.run_devices.specs.card_slots.Kept.{Kept, taken}
use Rattle.run_devices.specs.run_crew.declared.cards.Accepted.{Accepted}
use Rattle.run_devices.specs.run_crew.declared.cards.Cards.{Cards}
use Rattle.run_devices.specs.run_crew.Cards.{session_of}
use Rattle.run_devices.specs.run_crew.Cabin.{CabinIsSound, slot_with, torn_out}
use Rattle.run_devices.specs.run_promise.Found.{CardFound, found_of}
use Rattle.run_devices.specs.run_course.Followed.{Progress}
use Rattle.run_devices.specs.run_course.Presence.{SlotsTell}
use Rattle.run_devices.specs.run_course.Seconds.{kept_all}
use Rattle.run_devices.proofs.run_course.Presence.{taken-out}
use Rattle.run_devices.specs.run_course.Lines.{times_of}
use Rattle.run_devices.specs.run_course.Moment.{Moment}
use Rattle.run_devices.specs.run_course.Kept.{StaysOut}
use Rattle.run_devices.proofs.run_course.Moment.{card-pulled}
use Rattle.run_devices.proofs.run_course.Kept.{nothing-else}
use Rattle.run_devices.specs.Told.{DevicesPowered, GoesWith, for_card}
use Rattle.run_devices.specs.run_promise.Origin.{Origin, rule_of, start_at}
use Rattle.run_devices.specs.Presence.{PresentStand, IsSeated, sits}
use Rattle.run_record.specs.Recorded.{Values, carried}
use Rattle.run_record.specs.Within.{told_before, course_in, AreBackAt, RecordInSecond, SecondGoesOn}
use Rattle.run_record.specs.Judging.{torn_values}
use Rattle.run_record.specs.Taking.{pulled_line, ACardIsPulledOut}
use Rattle.run_record.proofs.Back.{back-at, back-plain}
use Rattle.run_record.proofs.Stays.{goes-left_from}
use Rattle.run_record.proofs.Seats.{bare-same, old-less, found-less, seated-there, seat-tells, sits-there, answers-in, accepted-seat}
use Rattle.run_record.proofs.Until.{few-left}
use Rattle.run_record.proofs.Onward.{IsStep, steps-on}
use Rattle.run_record.proofs.Putting.{still-goes}
use Rattle.run_record.proofs.Torn.{slots-taken, back-torn, torn-present, bare-present, pull-powered}
use Rattle.run_devices.specs.hand_model.Written.{Hands}
use Rattle.run_record.proofs.Asked.{asked-torn, asked-quiet, asks-pull}
use Rattle.run_record.proofs.HandedSteps.{less-stay}

-- a card that stands with its session's newest minute
stands-of : (f : CardFound) (hd : Hands) (has : List Entry) (z : Standing) (a : Accepted) (card : State) → GoesWith f hd has z (Some a) card → (t : ℕ) × (z ≡ IsIn t a.session.minute)
stands-of f hd has z a card h = (h.0.time, h.0.stands)

-- a card that sits accepted stands so, with the second of its acceptance
module _ (o : Origin) (done : List TraceSecond) (s : TraceSecond) (at : Phase) (v : Values) (d : Devices) (w : RecordInSecond o done s at [] None [] v d) (slot : Slot) (card : Card) (seated : card_in (seat_in v.cabin.slots.seats slot) ≡ Some card) (low : ℕ) (stands : CabinIsSound low None v.cabin)
    (some : is_some (session_of v.cabin.cards card) ≡ true) where
  abbrev told_ : List ToldSecond
  told_ = told_before w.b done

  abbrev course : Course
  course = course_in w.b done s at v.log

  seat : (n : ℕ) × (seat_in v.cabin.slots.seats slot ≡ Some (record { card = card; newest = Some n }))
  seat = accepted-seat low v.cabin.cards card (seat_in v.cabin.slots.seats slot) (answers-in low v.cabin stands slot) seated some

  pub sitting-now : (u : ℕ) × (in_slot course.slots slot ≡ sits card u)
  sitting-now = sits-there (start_at o) (w.b.run.book.sure ++ w.new) w.from v.cabin.slots card seat.0 (seat_in v.cabin.slots.seats slot) (in_slot course.slots slot)
      (seat-tells (start_at o) told_ (w.b.run.book.sure ++ w.new) course.left s.number w.from course.slots v.cabin.slots w.tells slot) seat.1

  pub standing-now : IsSeated o.found w.standing card sitting-now.0
  standing-now = w.present.seated slot card sitting-now.0 sitting-now.1

  pub stands-with : (a : Accepted) → session_of v.cabin.cards card ≡ Some a → w.standing card ≡ IsIn sitting-now.0 a.session.minute
  stands-with a is =
      let valid = standing-now.0 in
      let g = w.powered.go.goes card valid in
      let mine = stands-of (found_of o.found card) (w.hands card) g.has (w.standing card) a (card_of d card) (subst (λ (q : Option Accepted). GoesWith (found_of o.found card) (w.hands card) g.has (w.standing card) q (card_of d card)) is g.goes) in
      let both : IsIn sitting-now.0 standing-now.1.0 ≡ IsIn mine.0 a.session.minute = sym standing-now.1.1 ∙ mine.1 in
      let minute : standing-now.1.0 ≡ a.session.minute = cc in
      standing-now.1.1 ∙ ap (λ (m : ℕ). IsIn sitting-now.0 m) minute

module _ (o : Origin) (done : List TraceSecond) (s : TraceSecond) (v : Values) (d : Devices) (front : List Action) (slot : Slot) (card : Card) (rest : List Action) (are : s.actions ≡ front ++ Pull slot ∷ rest)
    (w : RecordInSecond o done s (In (length front)) [] None [] v d) (seated : card_in (seat_in v.cabin.slots.seats slot) ≡ Some card) where
  abbrev n : ℕ
  n = length front

  abbrev p : Progress
  p = w.b.run

  abbrev was : Before
  was = (went p.log done).before

  abbrev told0 : List ToldSecond
  told0 = told_before w.b done

  abbrev c : Course
  c = course_in w.b done s (In n) v.log

  abbrev later : Values
  later = torn_values (pulled_line s.number (suc n) slot) (torn_out card s.number v.cabin) v

  abbrev now : Course
  now = course_in w.b done s (In (suc n)) later.log

  abbrev then_ : Course
  then_ = carried_out n (Pull slot) c

  abbrev visit : Visit
  visit = record { phase = In (n + 1); slot = slot; card = card }

  sitting : (x : Sitting) × (in_slot c.slots slot ≡ Some x) × (x.card ≡ card)
  sitting = seated-there (start_at o) (p.book.sure ++ w.new) w.from v.cabin.slots card (seat_in v.cabin.slots.seats slot) (in_slot c.slots slot)
      (seat-tells (start_at o) told0 (p.book.sure ++ w.new) c.left s.number w.from c.slots v.cabin.slots w.tells slot) seated

  done_ : Moment p was s (In (suc n)) later.log [] w.b.broken (breakdowns_of d) × (now ≡ then_)
  done_ = card-pulled p was s v.log w.b.broken (breakdowns_of d) front slot rest are w.moment sitting.0 sitting.1

  same : (P : Course → Type 0) → P then_ → P now
  same P = subst P (sym done_.1)

  visits-are : visits (In (n + 1)) slot c.slots ≡ visit ∷ []
  visits-are =
      ap (λ (q : Option Sitting). map {B = Visit} (λ (k : Card). record { phase = In (n + 1); slot = slot; card = k }) (card_of_sitting q)) sitting.1
      ∙ ap (λ (k : Card). record { phase = In (n + 1); slot = slot; card = k } ∷ []) sitting.2

  pulled-now : Contains now.pulled visit
  pulled-now = same (λ (k : Course). Contains k.pulled visit) (subst (λ (vs : List Visit). Contains (c.pulled ++ vs) visit) (sym visits-are) (Contains-push c.pulled visit))

  out-now : StaysOut c now
  out-now = record {
    torn = λ x there. same (λ (k : Course). Contains k.torn x) there;
    pulled = λ x there. same (λ (k : Course). Contains k.pulled x) (Contains-append_left c.pulled (visits (In (n + 1)) slot c.slots) x there);
  }

  taken-are : later.cabin.slots ≡ taken slot s.number v.cabin.slots
  taken-are = slots-taken (start_at o) told0 (p.book.sure ++ w.new) c.left s.number w.from c.slots v.cabin w.tells slot card seated

  step : IsStep o done s (In n) (In (suc n)) [] [] [] v later d d w w.sp
  step = record {
    unfound_same = refl;
    next_same = refl;
    odometer_same = refl;
    marks_same = refl;
    moment = done_.0;
    out = out-now;
    found_same = ap (λ (k : Course). k.found) done_.1;
    asked_same = asked-torn p.log done v.log s (In (suc n)) slot false (pulled_line s.number (suc n) slot) (suc n, false, refl, refl, done_.0.is, λ late. absurd (cc))
        ∙ asked-quiet p.log done v.log s w.moment.up_to.uncut front (Pull slot) rest are (asks-pull s.number n (refusal c.slots s.speed (Pull slot)) slot c.slots);
    stops_same = refl;
    sessions = less-stay card v.cabin.cards;
    enter = λ x. same (λ (k : Course). times_of x c.entered ≤ times_of x k.entered) (omega arith);
    wait = λ x. same (λ (k : Course). times_of x [] + times_of x c.entered ≤ times_of x [] + times_of x k.entered) (omega arith);
    decided = nothing-else (rule_of o) (start_at o) told0 p w.b.span c now None w.sp w.ds [] w.new w.decided (ap (λ (k : Course). k.picks) done_.1) (ap (λ (k : Course). k.settled) done_.1);
    found = found-less o.found card v.cabin.cards w.found;
    tells = subst (λ (q : Kept). SlotsTell (start_at o) told0 (p.book.sure ++ w.new) now.left s.number w.from now.slots q) (sym taken-are)
        (same (λ (k : Course). SlotsTell (start_at o) told0 (p.book.sure ++ w.new) k.left s.number w.from k.slots (taken slot s.number v.cabin.slots))
        (taken-out (start_at o) told0 (p.book.sure ++ w.new) c.left s.number w.from c.slots v.cabin.slots w.tells slot));
    stays = λ x. goes-left_from s.number (slot_with v.cabin.slots.seats card) v.cabin.slots x;
    goes = still-goes o v d;
    travels = w.travels;
  }

  few : s.number / 60 ≤ w.from + 4
  few = let left = few-left o done s (In n) [] [] v d w in omega (arith, left)

  back-so : AreBackAt later.log was s (In (suc n)) w.from (w.from + 0) later.cabin
  back-so = back-at later.log was s (In (suc n)) w.from (w.from + 0) later.cabin
      (back-torn (start_at o) told0 (p.book.sure ++ w.new) c.left s.number w.from c.slots v.cabin w.tells slot card seated w.from (back-plain o done s (In n) [] None v d w))

  goes-so : (standing : Card → Standing) → DevicesPowered o.found (carried later w.due (kept_all w.new w.b.run.book) standing w.brought w.hands w.firsts) later.cabin.cards d → PresentStand o.found standing told0 now s.number w.from later.cabin →
      SecondGoesOn o done s (In (suc n)) [] None [] later d w.b w.from
  goes-so standing powered present = steps-on o done s (In n) (In (suc n)) [] [] [] v later d d w w.sp step (record {
    minutes = w.minutes;
    until = w.until;
    standing = standing;
    powered = powered;
    present = present;
    back = back-so;
    old = λ x some. old-less card x v.cabin.cards some;
  })

  slots-now : now.slots ≡ with_slot c.slots slot None
  slots-now = ap (λ (k : Course). k.slots) done_.1

  pub pulled-goes : (low : ℕ) → CabinIsSound low None v.cabin → SecondGoesOn o done s (In (suc n)) [] None [] later d w.b w.from
  pulled-goes low stands = by (session_of v.cabin.cards card) refl
    where
      by : (a : Option Accepted) → session_of v.cabin.cards card ≡ a → SecondGoesOn o done s (In (suc n)) [] None [] later d w.b w.from
      by None is = goes-so w.standing
          (subst (λ (cards : Cards). DevicesPowered o.found (carried later w.due (kept_all w.new w.b.run.book) w.standing w.brought w.hands w.firsts) cards d) (sym (bare-same card v.cabin.cards is)) w.powered)
          (bare-present (start_at o) told0 (p.book.sure ++ w.new) c.left s.number w.from c.slots v.cabin w.tells slot card seated o.found w.standing c now w.present refl slots-now out-now is)
      by (Some a) is =
          let some : is_some (session_of v.cabin.cards card) ≡ true = ap (λ (q : Option Accepted). is_some q) is in
          let time : ℕ = (sitting-now o done s (In n) v d w slot card seated low stands some).0 in
          let with_ = stands-with o done s (In n) v d w slot card seated low stands some a is in
          goes-so (for_card card (Torn time a.session.minute w.from) w.standing)
          (pull-powered o.found (carried later w.due (kept_all w.new w.b.run.book) w.standing w.brought w.hands w.firsts) v.cabin.cards d card w.powered w.found a is time w.from (λ valid. with_))
          (torn-present (start_at o) told0 (p.book.sure ++ w.new) c.left s.number w.from c.slots v.cabin w.tells slot card seated o.found w.standing c now w.present refl slots-now out-now time a.session.minute with_ few visit refl (inr pulled-now))

pub pulled-out : (d : Devices) → ACardIsPulledOut d
pulled-out d o done s v front slot card rest are w seated low stands = pulled-goes o done s v d front slot card rest are w seated low stands
