-- A card that waits is torn out before it is judged.
use Rattle.std.proofs.Common.{◌≡◌, inl, inr, ⊎_elim, ℕ, ◌≤◌, ◌/◌, Bool, true, false, ◌&&◌, ◌||◌, nat_eq, is_some, Option, Some, None, List, [], ◌∷◌, ◌++◌, Contains, map, refl, ap, sym, subst, ◌∙◌, arith}
use Rattle.minute_rules.specs.activity_codec.declared.values.Slot.{Slot}
use Rattle.minute_rules.specs.activity_codec.declared.values.Slot.TheVariants.{Driver, CoDriver}
use Rattle.minute_rules.specs.activity_codec.Activity.{same_slot}
use Rattle.run_devices.specs.trace_model.declared.Card.{Card}
use Rattle.run_devices.specs.trace_model.Trace.{TraceSecond}
use Rattle.run_devices.specs.log_model.declared.lines.Break.{Break}
use Rattle.run_devices.specs.log_model.declared.lines.Verdict.{Verdict}
use Rattle.run_devices.specs.log_model.Log.{RunLog, Phase, In, Keeping, same_phase, phase_of, tears_here, is_torn_in}
use Rattle.run_devices.specs.log_model.Slots.{Slots, Sitting, in_slot}
use Rattle.run_devices.specs.log_model.Course.{ToldSecond, Course, Visit, visits, card_in, went}
use Rattle.run_devices.specs.device_rule.Rules.{Standing}
use Rattle.run_devices.specs.safety_model.Safe.{Devices, card_of, breakdowns_of}
use Rattle.run_devices.specs.card_slots.Kept.{Kept, left_of}
use Rattle.run_devices.specs.run_crew.declared.cabin.Cabin.{Cabin}
use Rattle.run_devices.specs.run_crew.Cards.{session_of}
use Rattle.run_devices.specs.run_promise.Found.{found_of}
use Rattle.run_devices.specs.run_course.Moments.{and_break}
use Rattle.run_devices.specs.run_course.Followed.{Progress}
use Rattle.run_devices.specs.run_course.Presence.{SlotsTell}
use Rattle.run_devices.proofs.run_course.Logs.{same-number}
use Rattle.run_devices.proofs.run_course.Lookups.{break-more}
use Rattle.run_devices.proofs.run_course.Within.{tear-tells}
use Rattle.run_devices.specs.run_course.Reached.{moved_at, IsTearAt}
use Rattle.run_devices.specs.run_course.Lines.{IsTornAt}
use Rattle.run_devices.specs.run_course.Moment.{Moment}
use Rattle.run_devices.specs.run_course.Telling.{IsOneOut}
use Rattle.run_devices.specs.run_course.Kept.{HasDecided, AreMarkedSoFar}
use Rattle.run_devices.proofs.run_course.Reached.{enters-first}
use Rattle.run_devices.proofs.run_course.Lines.{who-sits}
use Rattle.run_devices.proofs.run_course.Telling.{card-torn, waits-no_more}
use Rattle.run_devices.proofs.run_course.Kept.{nothing-else, marks-stay}
use Rattle.run_devices.specs.Presence.{PresentStand, IsSeated, sits}
use Rattle.run_devices.proofs.Presence.{none-to_keep}
use Rattle.run_devices.specs.run_promise.Origin.{Origin, rule_of, start_at}
use Rattle.run_record.specs.Recorded.{Values, AreBack, GoesOnIn}
use Rattle.run_record.specs.Within.{told_before, course_in, often, IsFoundSo, MayBeWrittenSo, IsSparedSo, RecordInSecond}
use Rattle.run_record.proofs.Left.{verdict-left}
use Rattle.run_record.proofs.Back.{back-by_now}
use Rattle.run_record.proofs.Stays.{goes-taken, left-taken}
use Rattle.run_record.proofs.Written.{written-fewer, torn-written}
use Rattle.run_record.specs.Judging.{MayBeWrittenBy, IsTornNext, AWaitingCardIsTorn, ATearingFails}
use Rattle.run_record.proofs.Sitting.{another, seat-there, sits-with, seated-still, verdicts-later}
use Rattle.run_record.proofs.Asked.{asked-torn}
use Rattle.run_record.proofs.HandedSteps.{handed-fewer}
use Rattle.run_devices.specs.run_course.Seconds.{kept_all}
use Rattle.run_record.specs.Handed.{StayOrEnd, AreHandedIn}
use Rattle.run_devices.specs.run_crew.declared.cards.Accepted.{Accepted}

-- a tear that is told is one that the log tells of
itself : (slot : Slot) → same_slot slot slot ≡ true
itself Driver = refl
itself CoDriver = refl

same-moment : (p : Phase) → same_phase p p ≡ true
same-moment (In n) = same-number n
same-moment Keeping = refl

all-three : (x y z : Bool) → x ≡ true → y ≡ true → z ≡ true → (x && y && z) ≡ true
all-three true true true a b c = refl
all-three false y z a b c = absurd (cc)
all-three true false z a b c = absurd (cc)
all-three true true false a b c = absurd (cc)

or-so : (b : Bool) → (b || true) ≡ true
or-so true = refl
or-so false = refl

now-torn : (log : RunLog) (s : TraceSecond) (at : Phase) (slot : Slot) (b : Break) → IsTearAt s at slot true b → is_torn_in (and_break log b) s.number at slot ≡ true
now-torn log s at slot b is =
    (break-more log b s.number).torn at slot
    ∙ ap (λ (t : Bool). is_torn_in log s.number at slot || t)
    (ap (tears_here s.number at slot) is.2
    ∙ all-three (nat_eq s.number s.number) (same_phase (phase_of is.0 is.1) at) (same_slot slot slot) (same-number s.number) (ap (λ (q : Phase). same_phase q at) is.3 ∙ same-moment at) (itself slot))
    ∙ or-so (is_torn_in log s.number at slot)

module _ (o : Origin) (done : List TraceSecond) (s : TraceSecond) (at : Phase) (waits fewer : List Visit) (v : Values) (d e : Devices) (w : RecordInSecond o done s at waits None [] v d) (slot : Slot) (card : Card) (b : Break) (cabin : Cabin)
    (j : IsTornNext o done s at waits fewer v d e w slot card b cabin) where
  abbrev p : Progress
  p = w.b.run

  abbrev told0 : List ToldSecond
  told0 = told_before w.b done

  abbrev c : Course
  c = course_in w.b done s at v.log

  abbrev now : Course
  now = course_in w.b done s at (and_break v.log b)

  abbrev waiting : Sitting
  waiting = record { card = card; accepted = None }

  untorn : is_torn_in v.log s.number at slot ≡ false
  untorn = who-sits v.log (went p.log done).before s at slot waiting j.next.sits_

  out : IsOneOut at slot card ((moved_at v.log (went p.log done).before s at).leaving slot ++ visits at slot c.slots)
  out = ap (λ (vs : List Visit). vs ++ visits at slot c.slots) j.next.stays_in ∙ ap (λ (x : Option Sitting). map (λ (k : Card). record { phase = at; slot = slot; card = k }) (card_in x)) j.next.sits_

  moments : Moment p (went p.log done).before s at (and_break v.log b) waits w.b.broken (breakdowns_of e) × IsTornAt s.number slot (record { phase = at; slot = slot; card = card } ∷ []) c now
  moments = card-torn p (went p.log done).before s at v.log waits w.b.broken (breakdowns_of d) (breakdowns_of e) w.moment slot b j.here (enters-first v.log (went p.log done).before s at slot j.next.enters) untorn card out j.broke

  is : IsTornAt s.number slot (record { phase = at; slot = slot; card = card } ∷ []) c now
  is = moments.1

  pub moment : Moment p (went p.log done).before s at (and_break v.log b) fewer w.b.broken (breakdowns_of e)
  moment = waits-no_more p (went p.log done).before s at (and_break v.log b) waits fewer w.b.broken (breakdowns_of e) moments.0 slot card (now-torn v.log s at slot b j.here) j.next.but j.next.behind

  pub decided : HasDecided (rule_of o) (start_at o) told0 p w.b.span now None w.sp w.ds [] w.new
  decided = nothing-else (rule_of o) (start_at o) told0 p w.b.span c now None w.sp w.ds [] w.new w.decided is.is.picks is.is.settled

  pub marked : AreMarkedSoFar v.marks told0 now s.number w.new
  marked = marks-stay v.marks v.marks told0 c now s.number w.new w.marked (λ mark among. among)
      (record { torn = is.stays; pulled = λ x among. subst (λ (vs : List Visit). Contains vs x) (sym is.is.pulled) among })

  pub tells : SlotsTell (start_at o) told0 (p.book.sure ++ w.new) now.left s.number w.from now.slots cabin.slots
  tells = subst (λ (k : Kept). SlotsTell (start_at o) told0 (p.book.sure ++ w.new) now.left s.number w.from now.slots k) (sym j.slots_are)
      (tear-tells (start_at o) told0 (p.book.sure ++ w.new) s.number w.from slot c now v.cabin.slots w.tells is.is)

  pub seated : (standing : Card → Standing) → ((x : Card) → (x ≡ card → ⊥) → standing x ≡ w.standing x) → (y : Slot) (x : Card) (u : ℕ) → in_slot now.slots y ≡ sits x u → IsSeated o.found standing x u
  seated standing others y x u here = ⊎_elim
      (λ (none : None ≡ sits x u). absurd (cc))
      (λ there.
      seated-still o.found w.standing standing x u
      (others x (λ same. another (start_at o) told0 (p.book.sure ++ w.new) c.left s.number w.from c.slots v.cabin.slots w.tells slot y card x u j.next.sits_ there same))
      (w.present.seated y x u there))
      (sits-with c.slots slot None y x u (ap (λ (sl : Slots). in_slot sl y) (sym is.is.slots) ∙ here))

  same-found : (x : Visit) (verdict : Verdict) → Contains now.found (x, verdict) → Contains c.found (x, verdict)
  same-found x verdict there = subst (λ (fs : List (Visit × Verdict)). Contains fs (x, verdict)) is.is.found there

  pub finds : IsFoundSo o w.b done now s.number w.from w.new v.marks w.brought e
  finds = record {
    may = λ x verdict there.
        let was = w.finds.may x verdict (same-found x verdict there) in (
          was.0,
          subst (λ (vs : List Visit). was.0 ≤ often o w.b done (record c { entered = vs }) s.number x.card) (sym is.is.entered) was.1,
          verdict-left o w.b done was.0 v.marks v.marks (d.unit.left_since o.found.unit.began) ((card_of d x.card).left_since (found_of o.found x.card).began) (e.unit.left_since o.found.unit.began) ((card_of e x.card).left_since (found_of o.found x.card).began)
              (λ mark among. among) j.left.unit (j.left.card x.card) x.card s.number verdict was.2,
        );
    taken = λ x verdict there accepts. w.finds.taken x verdict (same-found x verdict there) accepts;
    late = λ x verdict there accepts. w.finds.late x verdict (same-found x verdict there) accepts;
  }

  -- the entries by hand so far, with these sessions
  pub handed : (after : Card → Option Accepted) → StayOrEnd (session_of v.cabin.cards) after → AreHandedIn (start_at o) (kept_all w.new w.b.run.book).sure o.found p.log done s at (and_break v.log b) now v.stops v.marks w.hands w.firsts after
  handed after stay_or_end =
      handed-fewer o.found p.log done s at at v.log (and_break v.log b) c now v.stops v.marks w.hands w.firsts (session_of v.cabin.cards) after is.is.found (asked-torn p.log done v.log s at slot true b j.here) stay_or_end w.handed

  -- which cards may be written
  goes : (x : Card) → GoesOnIn s.number v.cabin.slots cabin.slots x
  goes x = subst (λ (k : Kept). GoesOnIn s.number v.cabin.slots k x) (sym j.slots_are) (goes-taken s.number slot v.cabin.slots x)

  gone : left_of cabin.slots.left card ≡ Some (s.number / 60)
  gone =
      let seat = seat-there (start_at o) told0 (p.book.sure ++ w.new) c.left s.number w.from c.slots v.cabin.slots w.tells slot waiting j.next.sits_ in
      subst (λ (k : Kept). left_of k.left card ≡ Some (s.number / 60)) (sym j.slots_are) (left-taken s.number slot v.cabin.slots card seat.0 seat.1 seat.2)

  still-may : (x : Card) → MayBeWrittenSo o w.b done c waits s.number v.cabin.slots x → MayBeWrittenSo o w.b done now fewer s.number cabin.slots x
  still-may x may = written-fewer o w.b done c now at slot card waits fewer s.number v.cabin.slots cabin.slots j.next.but is.is.found is.is.entered x (goes x) may

  torn-may : (x : Card) → MayBeWrittenBy o s.number card x → MayBeWrittenSo o w.b done now fewer s.number cabin.slots x
  torn-may x valid = subst (λ (y : Card). MayBeWrittenSo o w.b done now fewer s.number cabin.slots y) (sym valid.0)
      (torn-written o w.b done c now at slot card waits fewer s.number cabin.slots j.next.but is.is.found is.is.entered w.few (w.moment.counted card) valid.1 valid.2 gone)

  pub spared : (x : Card) → IsSparedSo o w.b done now fewer s.number cabin.slots e x
  spared x = ⊎_elim
      (λ whole. ⊎_elim (λ still. inl still) (λ wrote. inr (⊎_elim (λ some. still-may x (w.written x some)) (λ valid. torn-may x valid) wrote)) (j.untouched x whole))
      (λ may. inr (still-may x may))
      (w.spared x)

  pub written : (x : Card) → is_some (session_of cabin.cards x) ≡ true → MayBeWrittenSo o w.b done now fewer s.number cabin.slots x
  written x some = still-may x (w.written x (j.sessions x some))

pub torn-next : (d e : Devices) → AWaitingCardIsTorn d e
torn-next d e o done s at waits fewer v w slot card b cabin standing j st = record {
  began = refl;
  from = refl;
  within = record {
    b = w.b;
    lit = w.lit;
    began = w.began;
    unfound = w.unfound;
    next = w.next;
    odometer = w.odometer;
    moment = moment o done s at waits fewer v d e w slot card b cabin j;
    sp = w.sp;
    minutes = w.minutes;
    ds = w.ds;
    new = w.new;
    decided = decided o done s at waits fewer v d e w slot card b cabin j;
    from = w.from;
    kept_to = w.kept_to;
    until = w.until;
    stay = w.stay;
    marked = marked o done s at waits fewer v d e w slot card b cabin j;
    due = w.due;
    standing = standing;
    brought = w.brought;
    hands = w.hands;
    firsts = w.firsts;
    powered = st.powered;
    handed = handed o done s at waits fewer v d e w slot card b cabin j (session_of cabin.cards) j.lasts;
    found = j.found;
    early = w.early;
    late = w.late;
    more = w.more;
    tells = tells o done s at waits fewer v d e w slot card b cabin j;
    present = subst (λ (n : ℕ). PresentStand o.found standing (told_before w.b done) (course_in w.b done s at (and_break v.log b)) s.number n cabin) (sym j.next.is_now)
        (none-to_keep o.found standing (told_before w.b done) (course_in w.b done s at (and_break v.log b)) s.number cabin (tells o done s at waits fewer v d e w slot card b cabin j).newest
        (tells o done s at waits fewer v d e w slot card b cabin j).minute (seated o done s at waits fewer v d e w slot card b cabin j standing st.others));
    back = λ x some. inl (subst (λ (n : ℕ). AreBack n cabin) (sym j.next.is_now)
        (back-by_now (start_at o) (told_before w.b done) (w.b.run.book.sure ++ w.new) (course_in w.b done s at (and_break v.log b)).left s.number w.from (course_in w.b done s at (and_break v.log b)).slots cabin
        (tells o done s at waits fewer v d e w slot card b cabin j)) x some);
    verdicts = verdicts-later o done w.b d e j.left w.verdicts;
    finds = finds o done s at waits fewer v d e w slot card b cabin j;
    there = j.there w.there;
    few = w.few;
    spared = spared o done s at waits fewer v d e w slot card b cabin j;
    written = written o done s at waits fewer v d e w slot card b cabin j;
    travels = j.travels;
  };
}

pub tearing-fails : (d e : Devices) → ATearingFails d e
tearing-fails d e o done s at waits fewer v w slot card b cabin j k = record {
  b = w.b;
  lit = w.lit;
  began = w.began;
  unfound = w.unfound;
  next = w.next;
  odometer = w.odometer;
  counted = breakdowns_of e;
  moment = moment o done s at waits fewer v d e w slot card b cabin j;
  rise = record { unit = omega arith; cards = λ card. refl };
  broke = k.broke;
  sp = w.sp;
  ds = w.ds;
  lost = None;
  rest = [];
  new = w.new;
  decided = decided o done s at waits fewer v d e w slot card b cabin j;
  fed = λ other. refl;
  kept = λ keeping. absurd (k.no_keeping keeping);
  from = w.from;
  kept_to = w.kept_to;
  stay = w.stay;
  due = w.due;
  standing = k.standing;
  brought = w.brought;
  hands = w.hands;
  firsts = w.firsts;
  powerless = k.powerless;
  handed = handed o done s at waits fewer v d e w slot card b cabin j (λ x. None) (λ x. inr refl);
  found = j.found;
  early = w.early;
  late = let late = w.late in let here = j.next.is_now in omega (arith, late, here);
  low = let here = j.next.is_now in omega (arith, here);
  more = w.more;
  tells = tells o done s at waits fewer v d e w slot card b cabin j;
  verdicts = verdicts-later o done w.b d e j.left w.verdicts;
  finds = finds o done s at waits fewer v d e w slot card b cabin j;
  there = j.there w.there;
  few = w.few;
  spared = spared o done s at waits fewer v d e w slot card b cabin j;
  travels = j.travels;
}
