-- A card that waits is judged: that is told, and it is accepted or not.
use Rattle.std.proofs.Common.{◌≡◌, ◌⊎◌, inl, inr, ⊎_elim, ℕ, ◌≤◌, Bool, true, false, cond, is_some, Option, Some, None, List, [], ◌∷◌, ◌++◌, Contains, map, refl, ap, sym, subst, ◌∙◌, arith}
use Rattle.std.specs.Prelude.{option_map}
use Rattle.std.proofs.lemmas.List.Elements.{Contains-push_cases}
use Rattle.minute_rules.specs.activity_codec.declared.values.Slot.{Slot}
use Rattle.run_devices.specs.trace_model.declared.Card.{Card}
use Rattle.run_devices.specs.trace_model.Trace.{TraceSecond}
use Rattle.run_devices.specs.log_model.declared.lines.Find.{Find}
use Rattle.run_devices.specs.log_model.declared.lines.Mark.{Mark}
use Rattle.run_devices.specs.log_model.declared.lines.Verdict.{Verdict}
use Rattle.run_devices.specs.log_model.Log.{Phase, is_accepting}
use Rattle.run_devices.specs.log_model.Slots.{Slots, Sitting, in_slot, same_card}
use Rattle.run_devices.specs.log_model.Course.{ToldSecond, Course, Visit, card_in, with_slot, went}
use Rattle.run_devices.specs.device_rule.Rules.{Standing}
use Rattle.run_devices.specs.safety_model.Safe.{Devices, card_of, breakdowns_of}
use Rattle.run_devices.specs.card_slots.Kept.{Kept}
use Rattle.run_devices.specs.run_crew.declared.cabin.Cabin.{Cabin}
use Rattle.run_devices.specs.run_crew.Cards.{session_of}
use Rattle.run_devices.specs.run_promise.Found.{found_of}
use Rattle.run_devices.specs.run_course.Moments.{and_find}
use Rattle.run_devices.specs.run_course.Followed.{Progress}
use Rattle.run_devices.specs.run_course.Presence.{SlotsTell}
use Rattle.run_devices.specs.run_course.Within.{IsFoundOf}
use Rattle.run_devices.proofs.run_course.Within.{acceptance-tells}
use Rattle.run_devices.specs.run_course.Moment.{Moment}
use Rattle.run_devices.specs.run_course.Kept.{HasDecided, AreMarkedSoFar}
use Rattle.run_devices.specs.run_course.Telling.{IsMore}
use Rattle.run_devices.proofs.run_course.Telling.{breakdowns-only, card-judged}
use Rattle.run_devices.proofs.run_course.Kept.{nothing-else, marks-stay}
use Rattle.run_devices.specs.Presence.{PresentStand, IsSeated, sits}
use Rattle.run_devices.proofs.Presence.{none-to_keep}
use Rattle.run_devices.specs.run_promise.Origin.{Origin, rule_of, start_at}
use Rattle.run_record.specs.Recorded.{Values, AreBack, SitsAccepted, GoesOnIn}
use Rattle.run_record.specs.Within.{told_before, course_in, VerdictBy, often, IsFoundSo, MayBeWrittenSo, IsSparedSo, RecordInSecond}
use Rattle.run_record.specs.Judging.{IsAcceptedSo, IsSeatedBy, IsAccepted, IsJudged, ACardIsJudged, AJudgingFails}
use Rattle.run_record.proofs.Left.{verdict-left}
use Rattle.run_record.proofs.Back.{back-by_now}
use Rattle.run_record.proofs.Stays.{goes-still, goes-put_in, sits-put_in}
use Rattle.run_record.proofs.Written.{written-judged, accepted-written, accepted-valid}
use Rattle.run_record.proofs.Sitting.{another, sits-with, seated-still, verdicts-later}
use Rattle.run_record.proofs.Opened.{MayBe, as-opened, none-opened, judged-handed}
use Rattle.run_record.specs.Handed.{AreHandedIn}
use Rattle.run_devices.specs.run_promise.Cards.{CardMarksHold}
use Rattle.run_devices.specs.run_crew.declared.cards.Accepted.{Accepted}
use Rattle.run_devices.specs.run_course.Seconds.{kept_all}

-- one find is another
abbrev IsSame : Visit × Verdict → Visit × Verdict → Type 0
IsSame a b = a ≡ b

module _ (o : Origin) (done : List TraceSecond) (s : TraceSecond) (at : Phase) (waits fewer : List Visit) (v : Values) (d e : Devices) (w : RecordInSecond o done s at waits None [] v d) (card : Card) (f : Find) (marks : List Mark) (cabin : Cabin) (brought : Card → List ℕ)
    (j : IsJudged o done s at waits fewer v d e w card f marks cabin brought) where
  abbrev p : Progress
  p = w.b.run

  abbrev told0 : List ToldSecond
  told0 = told_before w.b done

  abbrev c : Course
  c = course_in w.b done s at v.log

  abbrev now : Course
  now = course_in w.b done s at (and_find v.log f)

  abbrev visit : Visit
  visit = record { phase = at; slot = f.slot; card = card }

  abbrev waiting : Sitting
  waiting = record { card = card; accepted = None }

  pub moments : Moment p (went p.log done).before s at (and_find v.log f) fewer w.b.broken (breakdowns_of d) × IsFoundOf s.number at f.slot f.verdict c now
  moments = card-judged p (went p.log done).before s at v.log waits fewer w.b.broken (breakdowns_of d) w.moment f j.here waiting j.next.sits_ j.none j.next.enters j.order j.next.but j.next.behind

  is : IsFoundOf s.number at f.slot f.verdict c now
  is = moments.1

  pub moment : IsMore (breakdowns_of d) (breakdowns_of e) → Moment p (went p.log done).before s at (and_find v.log f) fewer w.b.broken (breakdowns_of e)
  moment more = breakdowns-only p (went p.log done).before s at (and_find v.log f) fewer w.b.broken (breakdowns_of d) (breakdowns_of e) moments.0 more

  found-is : now.found ≡ c.found ++ (visit, f.verdict) ∷ []
  found-is =
      is.found
      ∙ ap (λ (x : Option Sitting). c.found ++ map (λ (y : Visit). (y, f.verdict)) (map (λ (k : Card). record { phase = at; slot = f.slot; card = k }) (card_in x))) j.next.sits_

  pub decided : HasDecided (rule_of o) (start_at o) told0 p w.b.span now None w.sp w.ds [] w.new
  decided = nothing-else (rule_of o) (start_at o) told0 p w.b.span c now None w.sp w.ds [] w.new w.decided is.picks is.settled

  pub marked : AreMarkedSoFar marks told0 now s.number w.new
  marked = marks-stay v.marks marks told0 c now s.number w.new w.marked j.stay
      (record { torn = λ x among. subst (λ (vs : List Visit). Contains vs x) (sym is.torn) among; pulled = λ x among. subst (λ (vs : List Visit). Contains vs x) (sym is.pulled) among })

  -- the slots
  pub tells : SlotsTell (start_at o) told0 (p.book.sure ++ w.new) now.left s.number w.from now.slots cabin.slots
  tells = by (is_accepting f.verdict) refl j.seats
    where
      by : (b : Bool) → is_accepting f.verdict ≡ b → IsSeatedBy b o done s at waits v d w f.slot card cabin brought → SlotsTell (start_at o) told0 (p.book.sure ++ w.new) now.left s.number w.from now.slots cabin.slots
      by true accepts a =
          let here = j.next.is_now in
          subst (λ (k : Kept). SlotsTell (start_at o) told0 (p.book.sure ++ w.new) now.left s.number w.from now.slots k) (sym a.slots_are)
          (acceptance-tells (start_at o) told0 (p.book.sure ++ w.new) s.number w.from at f.slot f.verdict card a.newest c now v.cabin.slots w.tells is accepts j.next.sits_ a.free (omega (arith, here), a.answered))
      by false not a =
          subst (λ (k : Kept). SlotsTell (start_at o) told0 (p.book.sure ++ w.new) now.left s.number w.from now.slots k) (sym a)
          (subst (λ (sl : Slots). SlotsTell (start_at o) told0 (p.book.sure ++ w.new) now.left s.number w.from sl v.cabin.slots)
          (sym (is.slots ∙ ap (λ (b : Bool). cond b (with_slot c.slots f.slot (option_map {T = Sitting} (λ x. record x { accepted = Some s.number }) (in_slot c.slots f.slot))) c.slots) not))
          (subst (λ (left : List Card). SlotsTell (start_at o) told0 (p.book.sure ++ w.new) left s.number w.from c.slots v.cabin.slots) (sym is.left) w.tells))

  -- who sits accepted
  pub seated : (standing : Card → Standing) → ((x : Card) → (x ≡ card → ⊥) → standing x ≡ w.standing x) → (is_accepting f.verdict ≡ true → IsSeated o.found standing card s.number) →
      (slot : Slot) (x : Card) (u : ℕ) → in_slot now.slots slot ≡ sits x u → IsSeated o.found standing x u
  seated standing others stands slot x u here = by (is_accepting f.verdict) refl
    where
      still : in_slot c.slots slot ≡ sits x u → IsSeated o.found standing x u
      still there =
          seated-still o.found w.standing standing x u
          (others x (λ same. another (start_at o) told0 (p.book.sure ++ w.new) c.left s.number w.from c.slots v.cabin.slots w.tells f.slot slot card x u j.next.sits_ there same))
          (w.present.seated slot x u there)

      by : (b : Bool) → is_accepting f.verdict ≡ b → IsSeated o.found standing x u
      by true accepts =
          let slots : now.slots ≡ with_slot c.slots f.slot (sits card s.number) =
          is.slots ∙ ap (λ (b : Bool). cond b (with_slot c.slots f.slot (option_map {T = Sitting} (λ x. record x { accepted = Some s.number }) (in_slot c.slots f.slot))) c.slots) accepts
          ∙ ap (λ (x : Option Sitting). with_slot c.slots f.slot (option_map {T = Sitting} (λ x. record x { accepted = Some s.number }) x)) j.next.sits_ in
          ⊎_elim
          (λ (one : sits card s.number ≡ sits x u).
          let m : Sitting = record { card = card; accepted = Some s.number } in
          let n : Sitting = record { card = x; accepted = Some u } in
          let same : m ≡ n = cc in
          let number : s.number ≡ u = (let e : Some s.number ≡ Some u = ap (λ (z : Sitting). z.accepted) same in cc) in
          subst (λ (k : ℕ). IsSeated o.found standing x k) number (subst (λ (k : Card). IsSeated o.found standing k s.number) (ap (λ (z : Sitting). z.card) same) (stands accepts)))
          still
          (sits-with c.slots f.slot (sits card s.number) slot x u (ap (λ (sl : Slots). in_slot sl slot) (sym slots) ∙ here))
      by false not =
          still (ap (λ (sl : Slots). in_slot sl slot) (sym (is.slots ∙ ap (λ (b : Bool). cond b (with_slot c.slots f.slot (option_map {T = Sitting} (λ x. record x { accepted = Some s.number }) (in_slot c.slots f.slot))) c.slots) not)) ∙ here)

  -- what was found
  accepted-by : is_accepting f.verdict ≡ true → IsAcceptedSo o done s at waits v d w f.slot card cabin brought
  accepted-by accepts = subst (λ (b : Bool). IsSeatedBy b o done s at waits v d w f.slot card cabin brought) accepts j.seats

  among : (x : Visit) (verdict : Verdict) → Contains now.found (x, verdict) → Contains c.found (x, verdict) ⊎ IsSame (visit, f.verdict) (x, verdict)
  among x verdict there = Contains-push_cases c.found (visit, f.verdict) (x, verdict) (subst (λ (fs : List (Visit × Verdict)). Contains fs (x, verdict)) found-is there)

  often-same : (n : ℕ) (x : Card) → n ≤ often o w.b done c s.number x → n ≤ often o w.b done now s.number x
  often-same n x le = subst (λ (vs : List Visit). n ≤ often o w.b done (record c { entered = vs }) s.number x) (sym is.entered) le

  pub finds : IsFoundSo o w.b done now s.number w.from w.new marks brought e
  finds = record {
    may = λ x verdict there. ⊎_elim
        (λ before.
        let was = w.finds.may x verdict before in (
          was.0,
          often-same was.0 x.card was.1,
          verdict-left o w.b done was.0 v.marks marks (d.unit.left_since o.found.unit.began) ((card_of d x.card).left_since (found_of o.found x.card).began) (e.unit.left_since o.found.unit.began) ((card_of e x.card).left_since (found_of o.found x.card).began)
              j.stay j.left.unit (j.left.card x.card) x.card s.number verdict was.2,
        ))
        (λ (one : IsSame (visit, f.verdict) (x, verdict)).
        let P : Visit × Verdict → Type 0 = λ q. (n : ℕ) × (n ≤ often o w.b done now s.number q.0.card)
        × VerdictBy o w.b done n marks (e.unit.left_since o.found.unit.began) ((card_of e q.0.card).left_since (found_of o.found q.0.card).began) q.0.card s.number q.1 in
        subst P one (j.may.0, often-same j.may.0 card j.may.1, j.may.2))
        (among x verdict there);
    taken = λ x verdict there accepts. ⊎_elim
        (λ before. let was = w.finds.taken x verdict before accepts in (was.0, j.more x.card was.0 was.1, was.2))
        (λ (one : IsSame (visit, f.verdict) (x, verdict)).
        let a = accepted-by (ap (λ (q : Visit × Verdict). is_accepting q.1) one ∙ accepts) in
        let own : card ≡ x.card = ap (λ (q : Visit × Verdict). q.0.card) one in
        (a.kept, subst (λ (k : Card). Contains (brought k) a.kept) own a.brings, a.taken_at))
        (among x verdict there);
    late = λ x verdict there accepts. let here = j.next.is_now in omega (arith, here);
  }

  -- the entries by hand so far, with these sessions
  pub handed-with : CardMarksHold (found_of o.found card) card (kept_all w.new w.b.run.book) marks (card_of e card) → (after : Card → Option Accepted) → ((x : Card) → same_card card x ≡ false → (after x ≡ session_of v.cabin.cards x) ⊎ (after x ≡ None))
      → MayBe o done s at waits fewer v d e w card f marks cabin brought j (is_accepting f.verdict) (after card) → AreHandedIn (start_at o) (kept_all w.new w.b.run.book).sure o.found p.log done s at (and_find v.log f) now v.stops marks w.hands w.firsts after
  handed-with hold after others own = judged-handed o done s at waits fewer v d e w card f marks cabin brought j found-is hold after others own

  pub handed-so : CardMarksHold (found_of o.found card) card (kept_all w.new w.b.run.book) marks (card_of e card) → AreHandedIn (start_at o) (kept_all w.new w.b.run.book).sure o.found p.log done s at (and_find v.log f) now v.stops marks w.hands w.firsts (session_of cabin.cards)
  handed-so hold = handed-with hold (session_of cabin.cards) (λ x apart. inl (j.others x apart)) (as-opened o done s at waits fewer v d e w card f marks cabin brought j)

  pub handed-none : CardMarksHold (found_of o.found card) card (kept_all w.new w.b.run.book) marks (card_of e card) → AreHandedIn (start_at o) (kept_all w.new w.b.run.book).sure o.found p.log done s at (and_find v.log f) now v.stops marks w.hands w.firsts (λ x. None)
  handed-none hold = handed-with hold (λ x. None) (λ x apart. inr refl) (none-opened o done s at waits fewer v d e w card f marks cabin brought j)

  -- which cards may be written
  goes : (x : Card) → GoesOnIn s.number v.cabin.slots cabin.slots x
  goes x = by (is_accepting f.verdict) j.seats
    where
      by : (b : Bool) → IsSeatedBy b o done s at waits v d w f.slot card cabin brought → GoesOnIn s.number v.cabin.slots cabin.slots x
      by true a = subst (λ (k : Kept). GoesOnIn s.number v.cabin.slots k x) (sym a.slots_are) (goes-put_in s.number f.slot card (Some a.newest) v.cabin.slots x a.free)
      by false a = goes-still s.number v.cabin.slots cabin.slots x a

  accepted-may : (x : Card) → IsAccepted card (is_accepting f.verdict) x → MayBeWrittenSo o w.b done now fewer s.number cabin.slots x
  accepted-may x is_ =
      let a = accepted-by is_.1 in
      let valid = accepted-valid o w.b done j.may.0 marks (e.unit.left_since o.found.unit.began) ((card_of e card).left_since (found_of o.found card).began) card s.number f.verdict is_.1 j.may.2 in
      subst (λ (y : Card). MayBeWrittenSo o w.b done now fewer s.number cabin.slots y) (sym is_.0)
      (accepted-written o w.b done c now at f.slot card waits fewer f.verdict s.number cabin.slots j.next.but found-is is.entered w.few (w.moment.counted card) valid.0 valid.1
      (subst (λ (k : Kept). SitsAccepted k card) (sym a.slots_are) (sits-put_in f.slot card a.newest v.cabin.slots)) is_.1)

  pub still-may : (x : Card) → MayBeWrittenSo o w.b done c waits s.number v.cabin.slots x → MayBeWrittenSo o w.b done now fewer s.number cabin.slots x
  still-may x may = written-judged o w.b done c now at f.slot card waits fewer f.verdict s.number v.cabin.slots cabin.slots j.next.but found-is is.entered x (goes x) may

  pub spared : (x : Card) → IsSparedSo o w.b done now fewer s.number cabin.slots e x
  spared x = ⊎_elim
      (λ whole. ⊎_elim (λ still. inl still) (λ wrote. inr (⊎_elim (λ some. still-may x (w.written x some)) (λ is_. accepted-may x is_) wrote)) (j.untouched x whole))
      (λ may. inr (still-may x may))
      (w.spared x)

  pub written : (x : Card) → is_some (session_of cabin.cards x) ≡ true → MayBeWrittenSo o w.b done now fewer s.number cabin.slots x
  written x some = ⊎_elim (λ had. still-may x (w.written x had)) (λ is_. accepted-may x is_) (j.sessions x some)

pub judged-so : (d e : Devices) → ACardIsJudged d e
judged-so d e o done s at waits fewer v w card f marks cabin brought standing j rise st = record {
  began = refl;
  from = refl;
  within = record {
    b = w.b;
    lit = w.lit;
    began = w.began;
    unfound = w.unfound;
    next = w.next;
    odometer = w.odometer;
    moment = moment o done s at waits fewer v d e w card f marks cabin brought j rise;
    sp = w.sp;
    minutes = w.minutes;
    ds = w.ds;
    new = w.new;
    decided = decided o done s at waits fewer v d e w card f marks cabin brought j;
    from = w.from;
    kept_to = w.kept_to;
    until = w.until;
    stay = λ mark at_. j.stay mark (w.stay mark at_);
    marked = marked o done s at waits fewer v d e w card f marks cabin brought j;
    due = w.due;
    standing = standing;
    brought = brought;
    hands = w.hands;
    firsts = w.firsts;
    powered = st.powered;
    handed = handed-so o done s at waits fewer v d e w card f marks cabin brought j (st.powered.lit.marks card);
    found = j.found;
    early = j.early;
    late = w.late;
    more = λ x k at_. j.more x k (w.more x k at_);
    tells = tells o done s at waits fewer v d e w card f marks cabin brought j;
    present = subst (λ (n : ℕ). PresentStand o.found standing (told_before w.b done) (course_in w.b done s at (and_find v.log f)) s.number n cabin) (sym j.next.is_now)
        (none-to_keep o.found standing (told_before w.b done) (course_in w.b done s at (and_find v.log f)) s.number cabin (tells o done s at waits fewer v d e w card f marks cabin brought j).newest
        (tells o done s at waits fewer v d e w card f marks cabin brought j).minute (seated o done s at waits fewer v d e w card f marks cabin brought j standing st.others st.stands));
    back = λ x some. inl (subst (λ (n : ℕ). AreBack n cabin) (sym j.next.is_now)
        (back-by_now (start_at o) (told_before w.b done) (w.b.run.book.sure ++ w.new) (course_in w.b done s at (and_find v.log f)).left s.number w.from (course_in w.b done s at (and_find v.log f)).slots cabin
        (tells o done s at waits fewer v d e w card f marks cabin brought j)) x some);
    verdicts = verdicts-later o done w.b d e j.left w.verdicts;
    finds = finds o done s at waits fewer v d e w card f marks cabin brought j;
    there = j.there w.there;
    few = w.few;
    spared = spared o done s at waits fewer v d e w card f marks cabin brought j;
    written = written o done s at waits fewer v d e w card f marks cabin brought j;
    travels = j.travels;
  };
}

pub judging-fails : (d e : Devices) → AJudgingFails d e
judging-fails d e o done s at waits fewer v w card f marks cabin brought j rise k = record {
  b = w.b;
  lit = w.lit;
  began = w.began;
  unfound = w.unfound;
  next = w.next;
  odometer = w.odometer;
  counted = breakdowns_of e;
  moment = moment o done s at waits fewer v d e w card f marks cabin brought j rise;
  rise = record { unit = omega arith; cards = λ card. refl };
  broke = k.broke;
  sp = w.sp;
  ds = w.ds;
  lost = None;
  rest = [];
  new = w.new;
  decided = decided o done s at waits fewer v d e w card f marks cabin brought j;
  fed = λ other. refl;
  kept = λ keeping. absurd (k.no_keeping keeping);
  from = w.from;
  kept_to = w.kept_to;
  stay = λ mark at_. j.stay mark (w.stay mark at_);
  due = w.due;
  standing = k.standing;
  brought = brought;
  hands = w.hands;
  firsts = w.firsts;
  powerless = k.powerless;
  handed = handed-none o done s at waits fewer v d e w card f marks cabin brought j (k.powerless.carried.marks card);
  found = j.found;
  early = j.early;
  late = let late = w.late in let here = j.next.is_now in omega (arith, late, here);
  low = let here = j.next.is_now in omega (arith, here);
  more = λ x n at_. j.more x n (w.more x n at_);
  tells = tells o done s at waits fewer v d e w card f marks cabin brought j;
  verdicts = verdicts-later o done w.b d e j.left w.verdicts;
  finds = finds o done s at waits fewer v d e w card f marks cabin brought j;
  there = j.there w.there;
  few = w.few;
  spared = spared o done s at waits fewer v d e w card f marks cabin brought j;
  travels = j.travels;
}
