-- The session of a card that is leaving is closed, or the card fails in that.
use Rattle.std.proofs.Common.{◌≡◌, ⊎_elim, ℕ, ◌+◌, true, false, Option, Some, None, List, [], ◌∷◌, ◌++◌, Contains, map, refl, ap, sym, subst, ◌∙◌, arith}
use Rattle.minute_rules.specs.activity_codec.declared.values.Slot.{Slot}
use Rattle.run_devices.specs.trace_model.declared.Card.{Card}
use Rattle.run_devices.specs.trace_model.Trace.{TraceSecond}
use Rattle.run_devices.specs.log_model.declared.lines.Break.{Break}
use Rattle.run_devices.specs.log_model.Log.{Phase}
use Rattle.run_devices.specs.log_model.Slots.{Slots, Sitting, same_card, in_slot}
use Rattle.run_devices.specs.log_model.Course.{ToldSecond, Course, Visit, Before, visits, card_in as card_of_sitting, went}
use Rattle.run_devices.specs.device_rule.Rules.{Out}
use Rattle.run_devices.specs.safety_model.Safe.{Devices, breakdowns_of}
use Rattle.run_devices.specs.card_slots.Calls.{seat_in, is_card}
use Rattle.run_devices.specs.card_slots.Kept.{Kept}
use Rattle.run_devices.specs.run_crew.Cards.{with_session, session_of}
use Rattle.run_devices.specs.run_crew.Cabin.{left_from}
use Rattle.run_devices.proofs.run_crew.Sessions.{same_is}
use Rattle.run_devices.specs.run_course.Followed.{Progress}
use Rattle.run_devices.specs.run_course.Presence.{SlotsTell}
use Rattle.run_devices.specs.run_course.Seconds.{kept_all}
use Rattle.run_devices.specs.run_course.Reached.{moved_at, IsTearAt}
use Rattle.run_devices.specs.run_course.Lines.{times_of, IsTornAt}
use Rattle.run_devices.specs.run_course.Moment.{Moment}
use Rattle.run_devices.specs.run_course.Telling.{IsMore, IsOneOut, BrokeDown}
use Rattle.run_devices.specs.run_course.Kept.{StaysOut}
use Rattle.run_devices.proofs.run_course.Reached.{leaves-first}
use Rattle.run_devices.proofs.run_course.Telling.{card-torn, breakdowns-only}
use Rattle.run_devices.proofs.run_course.Kept.{nothing-else}
use Rattle.run_devices.specs.Told.{DevicesPowered, for_card}
use Rattle.run_devices.specs.run_promise.Origin.{Origin, rule_of, start_at}
use Rattle.run_devices.specs.Presence.{PresentStand, IsSeated, sits}
use Rattle.run_devices.proofs.Presence.{none-to_keep}
use Rattle.run_record.specs.Recorded.{Values, carried, AreBack}
use Rattle.run_record.specs.Within.{told_before, course_in, AreOld, RecordInSecond, SecondGoesOn}
use Rattle.run_record.specs.Taking.{IsCalledLeaving, closed_values, fallen_values, ASessionIsClosed, AClosingFails, ALeavingCardIsTorn, ALeavingTearFails}
use Rattle.run_record.proofs.Back.{back-at, back-plain}
use Rattle.run_record.proofs.Sitting.{seated-still}
use Rattle.run_record.proofs.Stays.{goes-still}
use Rattle.run_record.proofs.Seats.{no-both, this-or, for-other, old-less, found-less, none-sits, sits-back, seat-tells, nowhere-none, nowhere-not, emptied, tells-still}
use Rattle.run_record.proofs.Onward.{IsStep, steps-on, step-fails}
use Rattle.run_record.proofs.Asked.{asked-torn}
use Rattle.run_record.proofs.HandedSteps.{less-stay, stay-both}

module _ (o : Origin) (done : List TraceSecond) (s : TraceSecond) (at : Phase) (v : Values) (d e : Devices) (w : RecordInSecond o done s at [] None [] v d) (slot : Slot) (card : Card) (k : IsCalledLeaving o done s at v d e w slot card) where
  abbrev p : Progress
  p = w.b.run

  abbrev was : Before
  was = (went p.log done).before

  abbrev told0 : List ToldSecond
  told0 = told_before w.b done

  abbrev c : Course
  c = course_in w.b done s at v.log

  -- nobody of this card sits accepted
  not-there : (sl : Slot) (x : Card) (u : ℕ) → in_slot c.slots sl ≡ sits x u → same_card card x ≡ false
  not-there sl x u here = ⊎_elim
      (λ own. no-both (is_card (seat_in v.cabin.slots.seats sl) x)
      (sits-back (start_at o) (p.book.sure ++ w.new) w.from v.cabin.slots x u (seat_in v.cabin.slots.seats sl) (in_slot c.slots sl) (seat-tells (start_at o) told0 (p.book.sure ++ w.new) c.left s.number w.from c.slots v.cabin.slots w.tells sl) here)
      (subst (λ (y : Card). is_card (seat_in v.cabin.slots.seats sl) y ≡ false) (same_is card x own) (nowhere-not v.cabin.slots.seats card k.leaving.nowhere sl)))
      (λ other. other)
      (this-or card x)

  seated-so : (sl : Slot) (x : Card) (u : ℕ) → in_slot c.slots sl ≡ sits x u → IsSeated o.found (for_card card Out w.standing) x u
  seated-so sl x u here = seated-still o.found w.standing (for_card card Out w.standing) x u (for-other card x Out w.standing (not-there sl x u here)) (w.present.seated sl x u here)

  plain : AreBack w.from v.cabin
  plain = back-plain o done s at [] None v d w

  -- ITS SESSION IS CLOSED
  abbrev closed : Values
  closed = closed_values card v

  step-closed : IsMore (breakdowns_of d) (breakdowns_of e) → IsStep o done s at at [] [] [] v closed d e w w.sp
  step-closed rise = record {
    unfound_same = refl;
    next_same = refl;
    odometer_same = refl;
    marks_same = refl;
    moment = breakdowns-only p was s at v.log [] w.b.broken (breakdowns_of d) (breakdowns_of e) w.moment rise;
    out = record { torn = λ x there. there; pulled = λ x there. there };
    found_same = refl;
    asked_same = refl;
    stops_same = refl;
    sessions = less-stay card v.cabin.cards;
    enter = λ x. omega arith;
    wait = λ x. omega arith;
    decided = w.decided;
    found = found-less o.found card v.cabin.cards w.found;
    tells = w.tells;
    stays = λ x. goes-still s.number v.cabin.slots v.cabin.slots x refl;
    goes = k.goes;
    travels = k.travels;
  }

  pub closed-goes : IsMore (breakdowns_of d) (breakdowns_of e) → DevicesPowered o.found (carried v w.due (kept_all w.new w.b.run.book) (for_card card Out w.standing) w.brought w.hands w.firsts) closed.cabin.cards e → SecondGoesOn o done s at [] None [] closed e w.b w.from
  closed-goes rise powered = steps-on o done s at at [] [] [] v closed d e w w.sp (step-closed rise) (record {
    minutes = w.minutes;
    until = w.until;
    standing = for_card card Out w.standing;
    powered = powered;
    present = subst (λ (n : ℕ). PresentStand o.found (for_card card Out w.standing) told0 c s.number n closed.cabin) (sym k.is_now)
        (none-to_keep o.found (for_card card Out w.standing) told0 c s.number closed.cabin w.tells.newest w.tells.minute seated-so);
    back = back-at v.log was s at w.from (w.from + 0) closed.cabin (λ x some. plain x (old-less card x v.cabin.cards some));
    old = λ x some. old-less card x v.cabin.cards some;
  })

  -- THE CARD FAILED IN THAT
  module _ (b : Break) (here : IsTearAt s at slot true b) (broke : BrokeDown card (breakdowns_of d) (breakdowns_of e)) where
    abbrev later : Values
    later = fallen_values b card s.number v

    abbrev now : Course
    now = course_in w.b done s at later.log

    empty : in_slot c.slots slot ≡ None
    empty = none-sits (start_at o) (p.book.sure ++ w.new) w.from v.cabin.slots (seat_in v.cabin.slots.seats slot) (in_slot c.slots slot)
        (seat-tells (start_at o) told0 (p.book.sure ++ w.new) c.left s.number w.from c.slots v.cabin.slots w.tells slot) k.leaving.empty

    abbrev visit : Visit
    visit = record { phase = at; slot = slot; card = card }

    out : IsOneOut at slot card ((moved_at v.log was s at).leaving slot ++ visits at slot c.slots)
    out = ap (λ (vs : List Visit). vs ++ visits at slot c.slots) k.leaving.leaves
        ∙ ap (λ (q : Option Sitting). visit ∷ map {B = Visit} (λ (y : Card). record { phase = at; slot = slot; card = y }) (card_of_sitting q)) empty

    torn : Moment p was s at later.log [] w.b.broken (breakdowns_of e) × IsTornAt s.number slot (visit ∷ []) c now
    torn = card-torn p was s at v.log [] w.b.broken (breakdowns_of d) (breakdowns_of e) w.moment slot b here (leaves-first v.log was s at slot visit [] k.leaving.leaves) k.leaving.untorn card out broke

    is : IsTornAt s.number slot (visit ∷ []) c now
    is = torn.1

    slots-same : later.cabin.slots ≡ v.cabin.slots
    slots-same = ap (λ (q : Option Slot). left_from q s.number v.cabin.slots) (nowhere-none v.cabin.slots.seats card k.leaving.nowhere)

    out-now : StaysOut c now
    out-now = record { torn = is.stays; pulled = λ x there. subst (λ (vs : List Visit). Contains vs x) (sym is.is.pulled) there }

    tells-now : SlotsTell (start_at o) told0 (p.book.sure ++ w.new) now.left s.number w.from now.slots later.cabin.slots
    tells-now = subst (λ (q : Kept). SlotsTell (start_at o) told0 (p.book.sure ++ w.new) now.left s.number w.from now.slots q) (sym slots-same)
        (tells-still (start_at o) told0 (p.book.sure ++ w.new) s.number w.from slot c now v.cabin.slots w.tells is.is empty)

    step-torn : IsStep o done s at at [] [] [] v later d e w w.sp
    step-torn = record {
      unfound_same = refl;
      next_same = refl;
      odometer_same = refl;
      marks_same = refl;
      moment = torn.0;
      out = out-now;
      found_same = is.is.found;
      asked_same = asked-torn p.log done v.log s at slot true b here;
      stops_same = refl;
      sessions = stay-both (session_of v.cabin.cards) (session_of (with_session card None v.cabin.cards)) (session_of later.cabin.cards) (less-stay card v.cabin.cards) (less-stay card (with_session card None v.cabin.cards));
      enter = λ x. let same = ap (λ (vs : List Visit). times_of x vs) is.is.entered in omega (arith, same);
      wait = λ x. let same = ap (λ (vs : List Visit). times_of x vs) is.is.entered in omega (arith, same);
      decided = nothing-else (rule_of o) (start_at o) told0 p w.b.span c now None w.sp w.ds [] w.new w.decided is.is.picks is.is.settled;
      found = found-less o.found card (with_session card None v.cabin.cards) (found-less o.found card v.cabin.cards w.found);
      tells = tells-now;
      stays = λ x. goes-still s.number v.cabin.slots later.cabin.slots x slots-same;
      goes = k.goes;
      travels = k.travels;
    }

    -- who sits accepted now sat there before
    who : (sl : Slot) (x : Card) (u : ℕ) → in_slot now.slots sl ≡ sits x u → in_slot c.slots sl ≡ sits x u
    who sl x u there = (emptied c.slots slot sl (record { card = x; accepted = Some u }) (ap (λ (q : Slots). in_slot q sl) (sym is.is.slots) ∙ there)).0

    old-now : AreOld v.cabin.cards later.cabin.cards
    old-now x some = old-less card x v.cabin.cards (old-less card x (with_session card None v.cabin.cards) some)

    pub torn-goes : DevicesPowered o.found (carried v w.due (kept_all w.new w.b.run.book) (for_card card Out w.standing) w.brought w.hands w.firsts) later.cabin.cards e → SecondGoesOn o done s at [] None [] later e w.b w.from
    torn-goes powered = steps-on o done s at at [] [] [] v later d e w w.sp step-torn (record {
      minutes = w.minutes;
      until = w.until;
      standing = for_card card Out w.standing;
      powered = powered;
      present = subst (λ (n : ℕ). PresentStand o.found (for_card card Out w.standing) told0 now s.number n later.cabin) (sym k.is_now)
          (none-to_keep o.found (for_card card Out w.standing) told0 now s.number later.cabin tells-now.newest tells-now.minute (λ sl x u there. seated-so sl x u (who sl x u there)));
      back = back-at later.log was s at w.from (w.from + 0) later.cabin
          (subst (λ (q : Kept). AreBack w.from (record { slots = q; cards = later.cabin.cards })) (sym slots-same) (λ x some. plain x (old-now x some)));
      old = old-now;
    })

pub session-closed : (d e : Devices) → ASessionIsClosed d e
session-closed d e o done s at v w slot card k rise powered = closed-goes o done s at v d e w slot card k rise powered

pub closing-fails : (d e : Devices) → AClosingFails d e
closing-fails d e o done s at v w slot card k rise powerless broke no_keeping =
    step-fails o done s at at [] [] [] v (closed_values card v) d e w w.sp (step-closed o done s at v d e w slot card k rise) (for_card card Out w.standing) powerless broke no_keeping refl

pub leaving-torn : (d e : Devices) → ALeavingCardIsTorn d e
leaving-torn d e o done s at v w slot card k b here broke powered = torn-goes o done s at v d e w slot card k b here broke powered

pub leaving-tear_fails : (d e : Devices) → ALeavingTearFails d e
leaving-tear_fails d e o done s at v w slot card k b here broke powerless unit no_keeping =
    step-fails o done s at at [] [] [] v (fallen_values b card s.number v) d e w w.sp (step-torn o done s at v d e w slot card k b here broke) (for_card card Out w.standing) powerless unit no_keeping refl
