-- A card that waits is accepted and torn out in one call.
use Rattle.std.proofs.Common.{◌≡◌, inl, ⊎_elim, ℕ, zero, suc, ◌≤◌, Bool, true, false, cond, is_some, Option, Some, None, List, [], ◌∷◌, ◌++◌, Contains, map, refl, ap, sym, subst, ◌∙◌, arith, inr}
use Rattle.std.specs.Prelude.{option_map, slice_get}
use Rattle.minute_rules.specs.activity_codec.declared.values.Slot.{Slot}
use Rattle.minute_rules.specs.activity_codec.declared.values.Slot.TheVariants.{Driver, CoDriver}
use Rattle.run_devices.specs.trace_model.declared.Card.{Card}
use Rattle.run_devices.specs.trace_model.declared.Action.{Action}
use Rattle.run_devices.specs.trace_model.declared.Action.TheVariants.{Select, Insert, Withdraw, Tear as Pull, Place, Manual}
use Rattle.run_devices.specs.trace_model.Trace.{TraceSecond}
use Rattle.run_devices.specs.log_model.declared.lines.Break.{Break}
use Rattle.run_devices.specs.log_model.declared.lines.Find.{Find}
use Rattle.run_devices.specs.log_model.declared.lines.Mark.{Mark}
use Rattle.run_devices.specs.log_model.declared.lines.SlotFault.{SlotFault}
use Rattle.run_devices.specs.log_model.declared.lines.Verdict.{Verdict}
use Rattle.run_devices.specs.log_model.Log.{RunLog, Phase, In, Keeping, is_torn_in}
use Rattle.run_devices.specs.log_model.Slots.{Slots, Sitting, in_slot, refusal}
use Rattle.run_devices.specs.log_model.Course.{ToldSecond, Course, Before, Visit, visits, card_in, with_slot, moved_by, went}
use Rattle.run_devices.specs.event_model.Events.{course_by}
use Rattle.run_devices.specs.device_rule.Rules.{Standing}
use Rattle.run_devices.specs.safety_model.Safe.{Devices, breakdowns_of, card_of}
use Rattle.run_devices.specs.card_slots.Kept.{Kept}
use Rattle.run_devices.specs.run_crew.declared.cabin.Cabin.{Cabin}
use Rattle.run_devices.specs.run_crew.Cards.{session_of}
use Rattle.run_devices.specs.run_course.Moments.{and_break, and_find}
use Rattle.run_devices.specs.run_course.Followed.{Progress}
use Rattle.run_devices.specs.run_course.Presence.{SlotsTell}
use Rattle.run_devices.proofs.run_course.Within.{tear-tells}
use Rattle.run_devices.specs.run_course.Reached.{moved_with, moved_at}
use Rattle.run_devices.specs.run_course.Lines.{IsTornAt}
use Rattle.run_devices.specs.run_course.Moment.{Moment}
use Rattle.run_devices.specs.run_course.Telling.{IsOneOut}
use Rattle.run_devices.specs.run_course.Kept.{HasDecided, AreMarkedSoFar}
use Rattle.run_devices.proofs.run_course.Reached.{enters-first}
use Rattle.run_devices.proofs.run_course.Lines.{who-sits}
use Rattle.run_devices.proofs.run_course.Telling.{card-torn}
use Rattle.run_devices.proofs.run_course.Kept.{nothing-else, marks-stay}
use Rattle.run_devices.specs.Presence.{PresentStand, IsSeated, sits}
use Rattle.run_devices.proofs.Presence.{none-to_keep}
use Rattle.run_devices.specs.run_promise.Origin.{Origin, rule_of, start_at}
use Rattle.run_record.specs.Recorded.{Values, AreBack, GoesOnIn}
use Rattle.run_record.specs.Within.{told_before, course_in, often, IsFoundSo, MayBeWrittenSo, IsSparedSo, RecordInSecond}
use Rattle.run_record.specs.Judging.{IsJudged}
use Rattle.run_record.specs.Losing.{IsLostSo, ACardIsLost, ALosingFails}
use Rattle.run_record.proofs.Back.{back-by_now}
use Rattle.run_record.proofs.Stays.{goes-taken}
use Rattle.run_record.proofs.Written.{written-on, spared-on}
use Rattle.run_record.proofs.Sitting.{another, sits-with, seated-still, verdicts-later}
use Rattle.run_record.proofs.Judging as judged
use Rattle.run_record.proofs.Asked.{asked-torn}
use Rattle.run_record.proofs.HandedSteps.{handed-fewer}
use Rattle.run_record.specs.Handed.{StayOrEnd, AreHandedIn}
use Rattle.run_devices.specs.run_promise.Cards.{CardMarksHold}
use Rattle.run_devices.specs.run_crew.declared.cards.Accepted.{Accepted}
use Rattle.run_devices.specs.run_course.Seconds.{kept_all}
use Rattle.run_devices.specs.run_promise.Found.{found_of}

-- where a card enters none is taken out, whatever else is told
stays-in : (n : ℕ) (o later : Option SlotFault) (a : Action) (slots now : Slots) (x y : Slot) → (moved_by n o a slots).enters x ≡ true → (moved_by n later a now).leaving y ≡ []
stays-in n o (Some r) a slots now x y is = refl
stays-in n (Some r) None a slots now x y is = absurd (cc)
stays-in n None None (Select sl pick) slots now x y is = absurd (cc)
stays-in n None None (Insert sl card) slots now x y is = refl
stays-in n None None (Withdraw sl) slots now x y is = absurd (cc)
stays-in n None None (Pull sl) slots now x y is = absurd (cc)
stays-in n None None (Place sl ending country region) slots now x y is = absurd (cc)
stays-in n None None (Manual sl pick minute) slots now x y is = absurd (cc)

moved-in : (log later : RunLog) (before : Before) (s : TraceSecond) (at : Phase) (x y : Slot) → (moved_at log before s at).enters x ≡ true → (moved_at later before s at).leaving y ≡ []
moved-in log later before s (In zero) x y is = refl
moved-in log later before s (In (suc n)) x y is = by (slice_get s.actions n) is
  where
    by : (q : Option Action) → (moved_with n q s.speed (course_by log before s n)).enters x ≡ true → (moved_with n q s.speed (course_by later before s n)).leaving y ≡ []
    by None h = refl
    by (Some a) h = stays-in n (refusal (course_by log before s n).slots s.speed a) (refusal (course_by later before s n).slots s.speed a) a (course_by log before s n).slots (course_by later before s n).slots x y h
moved-in log later before s Keeping x y is = refl

with-own : (slots : Slots) (slot : Slot) (z : Option Sitting) → in_slot (with_slot slots slot z) slot ≡ z
with-own slots Driver z = refl
with-own slots CoDriver z = refl

with-twice : (slots : Slots) (slot : Slot) (y z : Option Sitting) → with_slot (with_slot slots slot y) slot z ≡ with_slot slots slot z
with-twice slots Driver y z = refl
with-twice slots CoDriver y z = refl

module _ (o : Origin) (done : List TraceSecond) (s : TraceSecond) (at : Phase) (waits fewer : List Visit) (v : Values) (d e : Devices) (w : RecordInSecond o done s at waits None [] v d) (card : Card) (f : Find) (marks : List Mark) (cabin after : Cabin) (brought : Card → List ℕ) (b : Break)
    (j : IsJudged o done s at waits fewer v d e w card f marks cabin brought) (l : IsLostSo o done s at waits fewer v d e w card f cabin after b) where
  abbrev p : Progress
  p = w.b.run

  abbrev told0 : List ToldSecond
  told0 = told_before w.b done

  abbrev c : Course
  c = course_in w.b done s at v.log

  abbrev log1 : RunLog
  log1 = and_find v.log f

  abbrev mid : Course
  mid = course_in w.b done s at log1

  abbrev now : Course
  now = course_in w.b done s at (and_break log1 b)

  moments1 : Moment p (went p.log done).before s at log1 fewer w.b.broken (breakdowns_of d)
  moments1 = (judged.moments o done s at waits fewer v d e w card f marks cabin brought j).0

  mid-slots : mid.slots ≡ with_slot c.slots f.slot (sits card s.number)
  mid-slots =
      (judged.moments o done s at waits fewer v d e w card f marks cabin brought j).1.slots
      ∙ ap (λ (t : Bool). cond t (with_slot c.slots f.slot (option_map {T = Sitting} (λ x. record x { accepted = Some s.number }) (in_slot c.slots f.slot))) c.slots) l.accepts
      ∙ ap (λ (x : Option Sitting). with_slot c.slots f.slot (option_map {T = Sitting} (λ x. record x { accepted = Some s.number }) x)) j.next.sits_

  sits-mid : in_slot mid.slots f.slot ≡ sits card s.number
  sits-mid = ap (λ (sl : Slots). in_slot sl f.slot) mid-slots ∙ with-own c.slots f.slot (sits card s.number)

  untorn : is_torn_in log1 s.number at f.slot ≡ false
  untorn = who-sits log1 (went p.log done).before s at f.slot (record { card = card; accepted = Some s.number }) sits-mid

  out : IsOneOut at f.slot card ((moved_at log1 (went p.log done).before s at).leaving f.slot ++ visits at f.slot mid.slots)
  out = ap (λ (vs : List Visit). vs ++ visits at f.slot mid.slots) (moved-in v.log log1 (went p.log done).before s at f.slot f.slot j.next.enters)
      ∙ ap (λ (x : Option Sitting). map (λ (k : Card). record { phase = at; slot = f.slot; card = k }) (card_in x)) sits-mid

  moments : Moment p (went p.log done).before s at (and_break log1 b) fewer w.b.broken (breakdowns_of e) × IsTornAt s.number f.slot (record { phase = at; slot = f.slot; card = card } ∷ []) mid now
  moments = card-torn p (went p.log done).before s at log1 fewer w.b.broken (breakdowns_of d) (breakdowns_of e) moments1 f.slot b l.torn_here (enters-first v.log (went p.log done).before s at f.slot j.next.enters) untorn card out l.broke

  is : IsTornAt s.number f.slot (record { phase = at; slot = f.slot; card = card } ∷ []) mid now
  is = moments.1

  decided : HasDecided (rule_of o) (start_at o) told0 p w.b.span now None w.sp w.ds [] w.new
  decided = nothing-else (rule_of o) (start_at o) told0 p w.b.span mid now None w.sp w.ds [] w.new (judged.decided o done s at waits fewer v d e w card f marks cabin brought j) is.is.picks is.is.settled

  marked : AreMarkedSoFar marks told0 now s.number w.new
  marked = marks-stay marks marks told0 mid now s.number w.new (judged.marked o done s at waits fewer v d e w card f marks cabin brought j) (λ mark among. among)
      (record { torn = is.stays; pulled = λ x among. subst (λ (vs : List Visit). Contains vs x) (sym is.is.pulled) among })

  tells : SlotsTell (start_at o) told0 (p.book.sure ++ w.new) now.left s.number w.from now.slots after.slots
  tells = subst (λ (k : Kept). SlotsTell (start_at o) told0 (p.book.sure ++ w.new) now.left s.number w.from now.slots k) (sym l.slots_are)
      (tear-tells (start_at o) told0 (p.book.sure ++ w.new) s.number w.from f.slot mid now cabin.slots (judged.tells o done s at waits fewer v d e w card f marks cabin brought j) is.is)

  now-slots : now.slots ≡ with_slot c.slots f.slot None
  now-slots = is.is.slots ∙ ap (λ (sl : Slots). with_slot sl f.slot None) mid-slots ∙ with-twice c.slots f.slot (sits card s.number) None

  seated : (standing : Card → Standing) → ((x : Card) → (x ≡ card → ⊥) → standing x ≡ w.standing x) → (y : Slot) (x : Card) (u : ℕ) → in_slot now.slots y ≡ sits x u → IsSeated o.found standing x u
  seated standing others y x u here = ⊎_elim
      (λ (none : None ≡ sits x u). absurd (cc))
      (λ there.
      seated-still o.found w.standing standing x u
      (others x (λ same. another (start_at o) told0 (p.book.sure ++ w.new) c.left s.number w.from c.slots v.cabin.slots w.tells f.slot y card x u j.next.sits_ there same))
      (w.present.seated y x u there))
      (sits-with c.slots f.slot None y x u (ap (λ (sl : Slots). in_slot sl y) (sym now-slots) ∙ here))

  same-found : (x : Visit) (verdict : Verdict) → Contains now.found (x, verdict) → Contains mid.found (x, verdict)
  same-found x verdict there = subst (λ (fs : List (Visit × Verdict)). Contains fs (x, verdict)) is.is.found there

  finds : IsFoundSo o w.b done now s.number w.from w.new marks brought e
  finds =
      let h = judged.finds o done s at waits fewer v d e w card f marks cabin brought j in
      record {
        may = λ x verdict there.
            let was = h.may x verdict (same-found x verdict there) in
            (was.0, subst (λ (vs : List Visit). was.0 ≤ often o w.b done (record mid { entered = vs }) s.number x.card) (sym is.is.entered) was.1, was.2);
        taken = λ x verdict there accepts. h.taken x verdict (same-found x verdict there) accepts;
        late = λ x verdict there accepts. h.late x verdict (same-found x verdict there) accepts;
      }

  -- the entries by hand so far, with these sessions
  handed : CardMarksHold (found_of o.found card) card (kept_all w.new w.b.run.book) marks (card_of e card) → (sessions : Card → Option Accepted) → StayOrEnd (session_of cabin.cards) sessions → AreHandedIn (start_at o) (kept_all w.new w.b.run.book).sure o.found p.log done s at (and_break log1 b) now v.stops marks w.hands w.firsts sessions
  handed hold sessions fewer_ =
      handed-fewer o.found p.log done s at at log1 (and_break log1 b) mid now v.stops marks w.hands w.firsts (session_of cabin.cards) sessions is.is.found (asked-torn p.log done log1 s at f.slot true b l.torn_here) fewer_
      (judged.handed-so o done s at waits fewer v d e w card f marks cabin brought j hold)

  goes : (x : Card) → GoesOnIn s.number cabin.slots after.slots x
  goes x = subst (λ (k : Kept). GoesOnIn s.number cabin.slots k x) (sym l.slots_are) (goes-taken s.number f.slot cabin.slots x)

  spared : (x : Card) → IsSparedSo o w.b done now fewer s.number after.slots e x
  spared x = spared-on o w.b done mid now fewer s.number cabin.slots after.slots e x is.is.found is.is.entered (goes x) (judged.spared o done s at waits fewer v d e w card f marks cabin brought j x)

  written : (x : Card) → is_some (session_of after.cards x) ≡ true → MayBeWrittenSo o w.b done now fewer s.number after.slots x
  written x some = written-on o w.b done mid now fewer s.number cabin.slots after.slots x is.is.found is.is.entered (goes x)
      (judged.still-may o done s at waits fewer v d e w card f marks cabin brought j x (w.written x (l.sessions x some)))

pub card-lost : (d e : Devices) → ACardIsLost d e
card-lost d e o done s at waits fewer v w card f marks cabin after brought b standing j l st = record {
  began = refl;
  from = refl;
  within = record {
    b = w.b;
    lit = w.lit;
    began = w.began;
    unfound = w.unfound;
    next = w.next;
    odometer = w.odometer;
    moment = (moments o done s at waits fewer v d e w card f marks cabin after brought b j l).0;
    sp = w.sp;
    minutes = w.minutes;
    ds = w.ds;
    new = w.new;
    decided = decided o done s at waits fewer v d e w card f marks cabin after brought b j l;
    from = w.from;
    kept_to = w.kept_to;
    until = w.until;
    stay = λ mark at_. j.stay mark (w.stay mark at_);
    marked = marked o done s at waits fewer v d e w card f marks cabin after brought b j l;
    due = w.due;
    standing = standing;
    brought = brought;
    hands = w.hands;
    firsts = w.firsts;
    powered = st.powered;
    handed = handed o done s at waits fewer v d e w card f marks cabin after brought b j l (st.powered.lit.marks card) (session_of after.cards) l.lasts;
    found = l.found;
    early = j.early;
    late = w.late;
    more = λ x k at_. j.more x k (w.more x k at_);
    tells = tells o done s at waits fewer v d e w card f marks cabin after brought b j l;
    present = subst (λ (n : ℕ). PresentStand o.found standing (told_before w.b done) (course_in w.b done s at (and_break (and_find v.log f) b)) s.number n after) (sym j.next.is_now)
        (none-to_keep o.found standing (told_before w.b done) (course_in w.b done s at (and_break (and_find v.log f) b)) s.number after (tells o done s at waits fewer v d e w card f marks cabin after brought b j l).newest
        (tells o done s at waits fewer v d e w card f marks cabin after brought b j l).minute (seated o done s at waits fewer v d e w card f marks cabin after brought b j l standing st.others));
    back = λ x some. inl (subst (λ (n : ℕ). AreBack n after) (sym j.next.is_now)
        (back-by_now (start_at o) (told_before w.b done) (w.b.run.book.sure ++ w.new) (course_in w.b done s at (and_break (and_find v.log f) b)).left s.number w.from (course_in w.b done s at (and_break (and_find v.log f) b)).slots after
        (tells o done s at waits fewer v d e w card f marks cabin after brought b j l)) x some);
    verdicts = verdicts-later o done w.b d e j.left w.verdicts;
    finds = finds o done s at waits fewer v d e w card f marks cabin after brought b j l;
    there = j.there w.there;
    few = w.few;
    spared = spared o done s at waits fewer v d e w card f marks cabin after brought b j l;
    written = written o done s at waits fewer v d e w card f marks cabin after brought b j l;
    travels = j.travels;
  };
}

pub losing-fails : (d e : Devices) → ALosingFails d e
losing-fails d e o done s at waits fewer v w card f marks cabin after brought b j l k = record {
  b = w.b;
  lit = w.lit;
  began = w.began;
  unfound = w.unfound;
  next = w.next;
  odometer = w.odometer;
  counted = breakdowns_of e;
  moment = (moments o done s at waits fewer v d e w card f marks cabin after brought b j l).0;
  rise = record { unit = omega arith; cards = λ card. refl };
  broke = k.broke;
  sp = w.sp;
  ds = w.ds;
  lost = None;
  rest = [];
  new = w.new;
  decided = decided o done s at waits fewer v d e w card f marks cabin after brought b j l;
  fed = λ other. refl;
  kept = λ keeping. absurd (k.no_keeping keeping);
  from = w.from;
  kept_to = w.kept_to;
  stay = λ mark at_. j.stay mark (w.stay mark at_);
  due = w.due;
  standing = k.standing;
  brought = brought;
  hands = w.hands;
  firsts = w.firsts;
  powerless = k.powerless;
  handed = handed o done s at waits fewer v d e w card f marks cabin after brought b j l (k.powerless.carried.marks card) (λ x. None) (λ x. inr refl);
  found = l.found;
  early = j.early;
  late = let late = w.late in let here = j.next.is_now in omega (arith, late, here);
  low = let here = j.next.is_now in omega (arith, here);
  more = λ x n at_. j.more x n (w.more x n at_);
  tells = tells o done s at waits fewer v d e w card f marks cabin after brought b j l;
  verdicts = verdicts-later o done w.b d e j.left w.verdicts;
  finds = finds o done s at waits fewer v d e w card f marks cabin after brought b j l;
  there = j.there w.there;
  few = w.few;
  spared = spared o done s at waits fewer v d e w card f marks cabin after brought b j l;
  travels = j.travels;
}
