-- An accepted card failed in its slot, as something was to be noted on it: it is torn out.
use Rattle.std.proofs.Common.{◌≡◌, inl, ℕ, ◌+◌, ◌/◌, ◌≤◌, false, Option, Some, None, List, [], ◌∷◌, ◌++◌, Contains, map, refl, ap, sym, subst, ◌∙◌, arith, true}
use Rattle.std.proofs.lemmas.List.Elements.{Contains-push}
use Rattle.minute_rules.specs.activity_codec.declared.values.Slot.{Slot}
use Rattle.run_devices.specs.trace_model.declared.Card.{Card}
use Rattle.run_devices.specs.trace_model.Trace.{TraceSecond}
use Rattle.run_devices.specs.log_model.declared.lines.Break.{Break}
use Rattle.run_devices.specs.log_model.Log.{Phase, is_torn_in}
use Rattle.run_devices.specs.log_model.Slots.{Sitting, in_slot}
use Rattle.run_devices.specs.log_model.Course.{ToldSecond, Course, Visit, Before, visits, card_in as card_of_sitting, went}
use Rattle.run_devices.specs.device_rule.Rules.{Standing, In as IsIn, Torn}
use Rattle.run_devices.specs.safety_model.Safe.{Devices, breakdowns_of}
use Rattle.run_devices.specs.card_slots.Kept.{Kept, taken}
use Rattle.run_devices.specs.run_crew.Cabin.{slot_with, torn_out}
use Rattle.run_devices.specs.run_course.Followed.{Progress}
use Rattle.run_devices.specs.run_course.Presence.{SlotsTell}
use Rattle.run_devices.specs.run_course.Seconds.{kept_all}
use Rattle.run_devices.proofs.run_course.Within.{tear-tells}
use Rattle.run_devices.specs.run_course.Reached.{moved_at}
use Rattle.run_devices.specs.run_course.Lines.{times_of, IsTornAt}
use Rattle.run_devices.specs.run_course.Moment.{Moment}
use Rattle.run_devices.specs.run_course.Telling.{IsOneOut}
use Rattle.run_devices.specs.run_course.Kept.{StaysOut}
use Rattle.run_devices.proofs.run_course.Lines.{who-sits}
use Rattle.run_devices.proofs.run_course.Telling.{card-torn}
use Rattle.run_devices.proofs.run_course.Kept.{nothing-else}
use Rattle.run_devices.specs.Told.{DevicesPowered, for_card}
use Rattle.run_devices.specs.run_promise.Origin.{Origin, rule_of, start_at}
use Rattle.run_devices.specs.Presence.{PresentStand, sits}
use Rattle.run_record.specs.Recorded.{Values, carried}
use Rattle.run_record.specs.Within.{told_before, course_in, RecordInSecond, SecondGoesOn}
use Rattle.run_record.specs.Judging.{torn_values}
use Rattle.run_record.specs.Taking.{fallen, IsCalledSeated, ASeatedCardIsTorn, ASeatedTearFails}
use Rattle.run_record.proofs.Back.{back-at, back-plain}
use Rattle.run_record.proofs.Stays.{goes-left_from}
use Rattle.run_record.proofs.Seats.{old-less, found-less}
use Rattle.run_record.proofs.Until.{few-left}
use Rattle.run_record.proofs.Moved.{not-leaving}
use Rattle.run_record.proofs.Onward.{IsStep, steps-on, step-fails}
use Rattle.run_record.proofs.Torn.{slots-taken, back-torn, torn-present}
use Rattle.run_record.proofs.Pulling.{sitting-now, standing-now}
use Rattle.run_record.proofs.Asked.{asked-torn}
use Rattle.run_record.proofs.HandedSteps.{less-stay}

module _ (o : Origin) (done : List TraceSecond) (s : TraceSecond) (at : Phase) (v : Values) (d e : Devices) (w : RecordInSecond o done s at [] None [] v d) (slot : Slot) (card : Card) (b : Break) (k : IsCalledSeated o done s at v d e w slot card b) where
  abbrev p : Progress
  p = w.b.run

  abbrev was : Before
  was = (went p.log done).before

  abbrev told0 : List ToldSecond
  told0 = told_before w.b done

  abbrev c : Course
  c = course_in w.b done s at v.log

  abbrev later : Values
  later = torn_values b (torn_out card s.number v.cabin) v

  abbrev now : Course
  now = course_in w.b done s at later.log

  abbrev visit : Visit
  visit = record { phase = at; slot = slot; card = card }

  abbrev sitting : (u : ℕ) × (in_slot c.slots slot ≡ sits card u)
  sitting = sitting-now o done s at v d w slot card k.sits_ k.low k.stands k.session

  untorn : is_torn_in v.log s.number at slot ≡ false
  untorn = who-sits v.log was s at slot (record { card = card; accepted = Some sitting.0 }) sitting.1

  out : IsOneOut at slot card ((moved_at v.log was s at).leaving slot ++ visits at slot c.slots)
  out = ap (λ (vs : List Visit). vs ++ visits at slot c.slots) (not-leaving v.log was s at slot (record { card = card; accepted = Some sitting.0 }) sitting.1)
      ∙ ap (λ (q : Option Sitting). map {B = Visit} (λ (y : Card). record { phase = at; slot = slot; card = y }) (card_of_sitting q)) sitting.1

  torn : Moment p was s at later.log [] w.b.broken (breakdowns_of e) × IsTornAt s.number slot (visit ∷ []) c now
  torn = card-torn p was s at v.log [] w.b.broken (breakdowns_of d) (breakdowns_of e) w.moment slot b k.here k.power untorn card out k.broke

  is : IsTornAt s.number slot (visit ∷ []) c now
  is = torn.1

  out-now : StaysOut c now
  out-now = record { torn = is.stays; pulled = λ x there. subst (λ (vs : List Visit). Contains vs x) (sym is.is.pulled) there }

  taken-are : later.cabin.slots ≡ taken slot s.number v.cabin.slots
  taken-are = slots-taken (start_at o) told0 (p.book.sure ++ w.new) c.left s.number w.from c.slots v.cabin w.tells slot card k.sits_

  step : IsStep o done s at at [] [] [] v later d e w w.sp
  step = record {
    unfound_same = refl;
    next_same = refl;
    odometer_same = refl;
    marks_same = refl;
    moment = torn.0;
    out = out-now;
    found_same = is.is.found;
    asked_same = asked-torn p.log done v.log s at slot true b k.here;
    stops_same = refl;
    sessions = less-stay card v.cabin.cards;
    enter = λ x. let same = ap (λ (vs : List Visit). times_of x vs) is.is.entered in omega (arith, same);
    wait = λ x. let same = ap (λ (vs : List Visit). times_of x vs) is.is.entered in omega (arith, same);
    decided = nothing-else (rule_of o) (start_at o) told0 p w.b.span c now None w.sp w.ds [] w.new w.decided is.is.picks is.is.settled;
    found = found-less o.found card v.cabin.cards w.found;
    tells = subst (λ (q : Kept). SlotsTell (start_at o) told0 (p.book.sure ++ w.new) now.left s.number w.from now.slots q) (sym taken-are)
        (tear-tells (start_at o) told0 (p.book.sure ++ w.new) s.number w.from slot c now v.cabin.slots w.tells is.is);
    stays = λ x. goes-left_from s.number (slot_with v.cabin.slots.seats card) v.cabin.slots x;
    goes = k.goes;
    travels = k.travels;
  }

  -- it stood with the second of its acceptance
  stood : (n : ℕ) × (w.standing card ≡ IsIn sitting.0 n)
  stood = (standing-now o done s at v d w slot card k.sits_ k.low k.stands k.session).1

  abbrev fell : Card → Standing
  fell = for_card card (fallen w.from (w.standing card)) w.standing

  fell-so : fell ≡ for_card card (Torn sitting.0 stood.0 w.from) w.standing
  fell-so = ap (λ (z : Standing). for_card card (fallen w.from z) w.standing) stood.1

  few : s.number / 60 ≤ w.from + 4
  few = let left = few-left o done s at [] [] v d w in omega (arith, left)

  pub torn-goes : DevicesPowered o.found (carried v w.due (kept_all w.new w.b.run.book) fell w.brought w.hands w.firsts) later.cabin.cards e → SecondGoesOn o done s at [] None [] later e w.b w.from
  torn-goes powered = steps-on o done s at at [] [] [] v later d e w w.sp step (record {
    minutes = w.minutes;
    until = w.until;
    standing = fell;
    powered = powered;
    present = subst (λ (z : Card → Standing). PresentStand o.found z told0 now s.number w.from later.cabin) (sym fell-so)
        (torn-present (start_at o) told0 (p.book.sure ++ w.new) c.left s.number w.from c.slots v.cabin w.tells slot card k.sits_ o.found w.standing c now w.present refl is.is.slots out-now sitting.0 stood.0 stood.1 few visit refl
        (inl (is.new_ones visit (Contains-push [] visit))));
    back = back-at later.log was s at w.from (w.from + 0) later.cabin
        (back-torn (start_at o) told0 (p.book.sure ++ w.new) c.left s.number w.from c.slots v.cabin w.tells slot card k.sits_ w.from (back-plain o done s at [] None v d w));
    old = λ x some. old-less card x v.cabin.cards some;
  })

pub seated-torn : (d e : Devices) → ASeatedCardIsTorn d e
seated-torn d e o done s at v w slot card b k powered = torn-goes o done s at v d e w slot card b k powered

pub seated-tear_fails : (d e : Devices) → ASeatedTearFails d e
seated-tear_fails d e o done s at v w slot card b k powerless unit no_keeping =
    step-fails o done s at at [] [] [] v (torn_values b (torn_out card s.number v.cabin) v) d e w w.sp (step o done s at v d e w slot card b k) (for_card card (fallen w.from (w.standing card)) w.standing) powerless unit no_keeping refl
