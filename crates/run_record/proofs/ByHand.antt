-- An entry by hand that slots and speed let pass: a session holds it, or stops it, which a line tells.
use Rattle.std.proofs.Common.{◌≡◌, ◌⊎◌, inl, inr, ⊎_elim, ℕ, suc, ◌+◌, ◌<◌, ◌≤◌, Bool, true, false, cond, not, ◌||◌, Option, Some, None, is_some, List, [], ◌∷◌, ◌++◌, All, Contains, length, map, filter, refl, ap, sym, subst, ◌∙◌, arith, append-nil}
use Rattle.std.specs.Prelude.{◌&&◌, nat_eq, nat_lt, nat_le, option_map}
use Rattle.std.specs.List.{AllByRecursion}
use Rattle.std.proofs.lemmas.Bool.Decides.{nat_tests}
use Rattle.std.proofs.lemmas.List.{length-take, map-append}
use Rattle.std.proofs.lemmas.List.Elements.{All-nil, All-cons, All-filter, All-head, All-map, All-tail, All-weaker, All-contains, All-contains_itself, All-push, filter-append, Contains-append_cases, Contains-push}
use Rattle.std.proofs.lemmas.List.Folds.{list_any-append, list_any_none}
use Rattle.minute_rules.specs.activity_codec.declared.entries.Manual.{Manual as Entry}
use Rattle.minute_rules.specs.activity_codec.declared.values.Pick.{Pick}
use Rattle.minute_rules.specs.activity_codec.declared.values.Slot.{Slot}
use Rattle.minute_rules.specs.activity_codec.Activity.{activity_of}
use Rattle.run_devices.specs.trace_model.declared.Action.{Action}
use Rattle.run_devices.specs.trace_model.declared.Action.TheVariants.{Manual}
use Rattle.run_devices.specs.trace_model.declared.Card.{Card}
use Rattle.run_devices.specs.trace_model.Trace.{TraceSecond}
use Rattle.run_devices.specs.log_model.declared.lines.Mark.{Mark}
use Rattle.run_devices.specs.log_model.declared.lines.Refused.{Refused}
use Rattle.run_devices.specs.log_model.declared.lines.SlotFault.{SlotFault}
use Rattle.run_devices.specs.log_model.declared.lines.SlotFault.TheVariants.{Moving, NoCard}
use Rattle.run_devices.specs.log_model.declared.lines.Verdict.{Verdict}
use Rattle.run_devices.specs.log_model.Log.{Phase, In, Keeping, is_accepting}
use Rattle.run_devices.specs.log_model.Slots.{Slots, Sitting, in_slot, same_card, is_accepted, refusal}
use Rattle.run_devices.specs.log_model.Causes.{device_of}
use Rattle.run_devices.specs.log_model.Course.{ToldSecond, Visit, Before, Course, went}
use Rattle.run_devices.specs.log_model.ByHand.{Asked, asks, sitting_in, minute_on, is_stop, is_stopped, stops as stops_of}
use Rattle.run_devices.proofs.history_model.Filters.{filter-alike}
use Rattle.run_devices.specs.run_course.Followed.{Progress}
use Rattle.run_devices.specs.run_course.Kept.{HasDecided, AreMarkedSoFar}
use Rattle.run_devices.specs.run_course.Moment.{Moment}
use Rattle.run_devices.specs.run_course.Presence.{SlotsTell}
use Rattle.run_devices.specs.run_course.Reached.{IsBehind}
use Rattle.run_devices.proofs.run_course.Logs.{all-before}
use Rattle.run_devices.proofs.run_course.Moment.{action-done}
use Rattle.run_devices.specs.card_image.Own.{IsOwnValid}
use Rattle.run_devices.specs.card_slots.Calls.{seat_in, card_in}
use Rattle.run_devices.specs.card_slots.Kept.{Kept as SlotsKept}
use Rattle.run_devices.specs.safety_model.Safe.{Devices, breakdowns_of, card_of}
use Rattle.run_devices.specs.safety_model.Unit.{marks_of}
use Rattle.run_devices.specs.safety_model.Stops.{CoursePlace, told_at, asked_at}
use Rattle.run_devices.specs.safety_model.Hands.{Session, begun_at, brought_by, sessions_found, sessions_in, is_behind, is_asked_before}
use Rattle.run_devices.specs.device_calls.Minute.{IsNotIn}
use Rattle.run_devices.specs.run_promise.Found.{found_of}
use Rattle.run_devices.specs.run_promise.Origin.{Origin, rule_of, start_at}
use Rattle.run_devices.proofs.run_promise.Beside.{found-tells}
use Rattle.run_devices.specs.run_crew.declared.cards.Accepted.{Accepted}
use Rattle.run_devices.specs.run_crew.declared.cards.Cards.{Cards}
use Rattle.run_devices.specs.run_crew.Cards.{session_of}
use Rattle.run_devices.proofs.run_crew.Sessions.{same_is}
use Rattle.run_devices.specs.Told.{GoesWith}
use Rattle.run_devices.specs.Presence.{PresentStand, IsSeated, sits}
use Rattle.run_record.specs.Recorded.{Values}
use Rattle.run_record.specs.Within.{AreAlike, AnswersSo, IsAnswered, stop_of, with_entry, told_before, course_in, IsFoundSo, MayBeWrittenSo, IsSparedSo, RecordInSecond, SecondGoesOn, AnEntryByHandIsRecorded, stop_told}
use Rattle.run_record.specs.HeldHands.{HandsGo, IsKnown, WasKnown, WasKnownLast}
use Rattle.run_record.specs.Handed.{actions_to, asked_so_far, done_for, sessions_so_far, AreToldOf, AreHandedIn, asked_for}
use Rattle.run_devices.specs.history_model.Minutes.{HistoryMinute}
use Rattle.minute_rules.specs.minute_model.Activity.{last}
use Rattle.minute_rules.proofs.minute_model.Ranges.{last-push}
use Rattle.run_devices.specs.run_course.Seconds.{kept_all}
use Rattle.run_record.proofs.Alike.{had, powered, found, present}
use Rattle.run_record.proofs.Asked.{IsAskedBy, asked-next, asked-by_now, done-by_now}
use Rattle.run_record.proofs.Back.{back-plain}
use Rattle.run_record.proofs.Doing.{is_at, filter-drops, filter-one, done-one, done-other, done-stopped, done-beside}
use Rattle.run_record.proofs.HandedSteps.{go-as, known-as}
use Rattle.run_record.proofs.HandsFold.{hands-entered, last-in}
use Rattle.run_record.proofs.Opened.{told-early, found-here}
use Rattle.run_record.proofs.Sitting.{seat-there}
use Rattle.run_devices.specs.trace_model.declared.Card.TheVariants.{A, B}
use Rattle.std.proofs.lemmas.Bool.{leb-true, leb-false}
use Rattle.run_devices.specs.hand_model.Holding.{stopped_by, last_minute}
use Rattle.run_devices.specs.hand_model.declared.held.EnterFault.{EnterFault}
use Rattle.run_devices.specs.hand_model.declared.held.EnterFault.TheVariants as enter
use Rattle.run_record.proofs.Stopped.{stopped-as, stopped-told, stopped-done, stopped-now, before-not, before-so}
use Rattle.run_devices.specs.safety_model.ByHand.{IsStoppedBy, IsTold}

-- ---- what slots and speed let pass

-- an accepted card sits in its slot
record IsLetPass (slots : Slots) (slot : Slot) : Type 0 where
  sitting : Sitting
  since : ℕ
  there : in_slot slots slot ≡ Some sitting
  accepted : sitting.accepted ≡ Some since

let-pass : (slots : Slots) (speed : ℕ) (slot : Slot) (pick : Pick) (minute : ℕ) → refusal slots speed (Manual slot pick minute) ≡ None → IsLetPass slots slot
let-pass slots speed slot pick minute is = by (in_slot slots slot) refl
  where
    with_ : (x : Sitting) (q : Option ℕ) → x.accepted ≡ q → in_slot slots slot ≡ Some x → cond (not (is_some q)) (Some (NoCard slot)) (cond (nat_lt 0 speed) (Some (Moving speed)) None) ≡ None → IsLetPass slots slot
    with_ x None own there none = absurd (cc)
    with_ x (Some u) own there none = record { sitting = x; since = u; there = there; accepted = own }

    by : (q : Option Sitting) → in_slot slots slot ≡ q → IsLetPass slots slot
    by None there =
        let clash : Some (NoCard slot) ≡ None = sym (ap (λ (q : Option Sitting). cond (not (is_accepted q)) (Some (NoCard slot)) (cond (nat_lt 0 speed) (Some (Moving speed)) None)) there) ∙ is in
        absurd (cc)
    by (Some x) there = with_ x x.accepted refl there (sym (ap (λ (q : Option Sitting). cond (not (is_accepted q)) (Some (NoCard slot)) (cond (nat_lt 0 speed) (Some (Moving speed)) None)) there) ∙ is)

-- ---- why it is stopped

-- a session that does not stop it has kept no minute
not-begun : (a : Accepted) (minute : ℕ) → stop_of a minute ≡ None → a.held.begun ≡ None
not-begun a minute none = by a.held.begun refl none
  where
    by : (b : Option ℕ) → a.held.begun ≡ b → option_map stop_told (stopped_by (record a.held { begun = b }) a.session.minute minute) ≡ None → a.held.begun ≡ None
    by None is h = is
    by (Some first) is h = absurd (cc)

-- and holds less than eight
room : (a : Accepted) (minute : ℕ) → stop_of a minute ≡ None → length a.held.entries < 8
room a minute none = by a.held.begun refl none
  where
    fitting : (c full : Bool) → nat_le 8 (length a.held.entries) ≡ full
        → option_map stop_told (cond c (cond full (Some (enter.Full 8)) None) (Some (enter.NotFree (last_minute a.session.minute a.held.entries) a.held.inserted))) ≡ None → length a.held.entries < 8
    fitting true true is h = absurd (cc)
    fitting true false is h = leb-false 8 (length a.held.entries) is
    fitting false full is h = absurd (cc)

    by : (b : Option ℕ) → a.held.begun ≡ b → option_map stop_told (stopped_by (record a.held { begun = b }) a.session.minute minute) ≡ None → length a.held.entries < 8
    by None is h = fitting (nat_lt (last_minute a.session.minute a.held.entries) minute && nat_lt minute a.held.inserted) (nat_le 8 (length a.held.entries)) refl h
    by (Some first) is h = absurd (cc)

-- and one that does is no slot
told-stop : (f : EnterFault) → is_stop (stop_told f) ≡ true
told-stop (enter.Begun first) = refl
told-stop (enter.NotFree newest inserted) = refl
told-stop (enter.Full held) = refl

stops-so : (f : Option EnterFault) (fault : SlotFault) → option_map stop_told f ≡ Some fault → is_stop fault ≡ true
stops-so None fault is = absurd (cc)
stops-so (Some f) fault is = ap is_stop (let e : fault ≡ stop_told f = cc in e) ∙ told-stop f

-- two cards are apart either way
other-way : (x y : Card) → same_card x y ≡ false → same_card y x ≡ false
other-way A A is = is
other-way A B is = refl
other-way B A is = refl
other-way B B is = is

-- ---- lines

-- of places that lines tell
each-of : (P : CoursePlace → Type 0) (ls : List Refused) → All P (map told_at ls) → All (λ (l : Refused). P (told_at l)) ls
each-of P [] all_ = All-nil (λ (l : Refused). P (told_at l))
each-of P (l ∷ ls) all_ = All-cons (λ (k : Refused). P (told_at k)) l ls (All-head P (told_at l) (map told_at ls) all_) (each-of P ls (All-tail P (told_at l) (map told_at ls) all_))

abbrev IsPlaceBy : (second begun : ℕ) → CoursePlace → Type 0
IsPlaceBy u n p = (p.second < u) ⊎ ((p.second ≡ u) × (p.begun ≤ n))

-- a place is not one behind it
not-there : (u n second begun : ℕ) → (second < u) ⊎ ((second ≡ u) × (begun ≤ n)) → (k : ℕ) → n < k → (nat_eq second u && nat_eq begun k) ≡ false
not-there u n second begun (inl lt) k more = ap (λ (b : Bool). b && nat_eq begun k) (apart second u lt)
  where
    apart : (x y : ℕ) → x < y → nat_eq x y ≡ false
    apart x y lt = grind (arith, nat_tests)
not-there u n second begun (inr here) k more = let le = here.1 in and-none (nat_eq second u) (nat_eq begun k) (apart begun k (omega (arith, le, more)))
  where
    apart : (x y : ℕ) → x < y → nat_eq x y ≡ false
    apart x y lt = grind (arith, nat_tests)

    and-none : (a b : Bool) → b ≡ false → (a && b) ≡ false
    and-none true false is = refl
    and-none false b is = refl
    and-none true true is = absurd (cc)

same-place : (u k m : ℕ) → k ≡ m → (nat_eq u u && nat_eq k m) ≡ true
same-place u k m same = both (nat_eq u u) (nat_eq k m) (own u u refl) (own k m same)
  where
    own : (x y : ℕ) → x ≡ y → nat_eq x y ≡ true
    own x y eq = grind (arith, nat_tests)

    both : (a b : Bool) → a ≡ true → b ≡ true → (a && b) ≡ true
    both true true x y = refl
    both false b x y = absurd (cc)
    both true false x y = absurd (cc)

turned-place : (a b : ℕ) → nat_eq a b ≡ nat_eq b a
turned-place a b = grind (arith, nat_tests)

at-most-or-over : (a b : ℕ) → (a ≤ b) ⊎ (b < a)
at-most-or-over a b = by (nat_le a b) refl
  where
    by : (t : Bool) → nat_le a b ≡ t → (a ≤ b) ⊎ (b < a)
    by true is = inl (leb-true a b is)
    by false is = inr (leb-false a b is)

-- how many actions had begun at the sessions of a second
found-begun : (c : Card) (u n : ℕ) (fs : List (Visit × Verdict)) → AllByRecursion (λ (f : Visit × Verdict). IsBehind (In n) f.0.phase → ⊥) fs → All (λ (l : Session). l.begun ≤ n) (sessions_found c u fs)
found-begun c u n fs each =
    All-map (λ (l : Session). l.begun ≤ n) (λ (f : Visit × Verdict). record { second = u; begun = begun_at f.0.phase; brought = brought_by f.1 }) (filter (λ (f : Visit × Verdict). same_card c f.0.card && is_accepting f.1) fs)
    (All-filter (λ (f : Visit × Verdict). same_card c f.0.card && is_accepting f.1) (λ (f : Visit × Verdict). begun_at f.0.phase ≤ n) fs (by fs each))
  where
    one : (p : Phase) → (IsBehind (In n) p → ⊥) → begun_at p ≤ n
    one (In m) not_ = ⊎_elim (λ le. le) (λ lt. absurd (not_ lt)) (at-most-or-over m n)
    one Keeping not_ = absurd (not_ tt)

    by : (gs : List (Visit × Verdict)) → AllByRecursion (λ (f : Visit × Verdict). IsBehind (In n) f.0.phase → ⊥) gs → All (λ (f : Visit × Verdict). begun_at f.0.phase ≤ n) gs
    by [] each_ = All-nil (λ (f : Visit × Verdict). begun_at f.0.phase ≤ n)
    by (g ∷ gs) each_ = All-cons (λ (f : Visit × Verdict). begun_at f.0.phase ≤ n) g gs (one g.0.phase each_.0) (by gs each_.1)

-- one of an earlier second, or of an earlier moment of it, is before
is-after : (l : Session) (b : Asked) (u n : ℕ) → b.second ≡ u → n < b.begun → (l.second < u) ⊎ ((l.second ≡ u) × (l.begun ≤ n)) → is_behind l b ≡ true
is-after l b u n here more (inl lt) = let under = below l.second b.second (omega (arith, here, lt)) in ap (λ (t : Bool). t || (nat_eq l.second b.second && nat_lt l.begun b.begun)) under
  where
    below : (x y : ℕ) → x < y → nat_lt x y ≡ true
    below x y lt = grind (arith, nat_tests)
is-after l b u n here more (inr now) =
    let at = now.0 in
    let le = now.1 in
    or-both (nat_lt l.second b.second) (nat_eq l.second b.second) (nat_lt l.begun b.begun) (equal l.second b.second (omega (arith, at, here))) (below l.begun b.begun (omega (arith, le, more)))
  where
    below : (x y : ℕ) → x < y → nat_lt x y ≡ true
    below x y lt = grind (arith, nat_tests)

    equal : (x y : ℕ) → x ≡ y → nat_eq x y ≡ true
    equal x y is = grind (arith, nat_tests)

    or-both : (x y z : Bool) → y ≡ true → z ≡ true → (x || (y && z)) ≡ true
    or-both true y z a b = refl
    or-both false true true a b = refl
    or-both false false z a b = absurd (cc)
    or-both false true false a b = absurd (cc)

-- ---- IT IS ANSWERED

module _ (o : Origin) (done : List TraceSecond) (s : TraceSecond) (v : Values) (d : Devices) (front : List Action) (slot : Slot) (pick : Pick) (minute : ℕ) (rest : List Action) (are : s.actions ≡ front ++ Manual slot pick minute ∷ rest)
    (w : RecordInSecond o done s (In (length front)) [] None [] v d) (is : refusal (course_in w.b done s (In (length front)) v.log).slots s.speed (Manual slot pick minute) ≡ None) (cards : Cards) (alike : AreAlike v.cabin.cards cards) (stops : List Refused)
    (answers : (card : Card) → card_in (seat_in v.cabin.slots.seats slot) ≡ Some card → IsAnswered s.number (suc (length front)) (record { minute = minute_on s.number minute; slot = slot; act = activity_of pick }) card v.cabin.cards cards v.stops stops) where
  abbrev n : ℕ
  n = length front

  abbrev p : Progress
  p = w.b.run

  abbrev was : Before
  was = (went p.log done).before

  abbrev told0 : List ToldSecond
  told0 = told_before w.b done

  abbrev c : Course
  c = course_in w.b done s (In n) v.log

  abbrev now : Course
  now = course_in w.b done s (In (suc n)) v.log

  abbrev asked : List Asked
  asked = asked_so_far p.log done v.log s (actions_to (In n) s.actions)

  abbrev then_ : List Asked
  then_ = asked_so_far p.log done v.log s (actions_to (In (suc n)) s.actions)

  done_ : Moment p was s (In (suc n)) v.log [] w.b.broken (breakdowns_of d) × (now ≡ c)
  done_ = action-done p was s v.log w.b.broken (breakdowns_of d) front (Manual slot pick minute) rest are w.moment refl is

  same : (P : Course → Type 0) → P c → P now
  same P = subst P (sym done_.1)

  passes : IsLetPass c.slots slot
  passes = let-pass c.slots s.speed slot pick minute is

  -- it is asked of this card
  abbrev card : Card
  card = passes.sitting.card

  abbrev this : Asked
  this = record { second = s.number; begun = n + 1; slot = slot; sitting = passes.sitting; pick = pick; minute = minute_on s.number minute }

  abbrev line : SlotFault → Refused
  line fault = record { second = s.number; fault = fault; begun = suc n }

  one-more : suc n ≡ n + 1
  one-more = omega arith

  then-is : then_ ≡ asked ++ this ∷ []
  then-is =
      asked-next p.log done v.log s w.moment.up_to.uncut front (Manual slot pick minute) rest are
      ∙ ap (λ (r : Option SlotFault). asked ++ asks s.number n r (Manual slot pick minute) c.slots) is
      ∙ ap (λ (q : Option Sitting). asked ++ map (λ (x : Sitting). record { second = s.number; begun = n + 1; slot = slot; sitting = x; pick = pick; minute = minute_on s.number minute }) (sitting_in q)) passes.there

  -- which has a session
  sits-there : in_slot c.slots slot ≡ sits card passes.since
  sits-there = passes.there ∙ ap (λ (q : Option ℕ). Some (record { card = card; accepted = q })) passes.accepted

  seated : IsSeated o.found w.standing card passes.since
  seated = w.present.seated slot card passes.since sits-there

  session : (a : Accepted) × (session_of v.cabin.cards card ≡ Some a)
  session = by (session_of v.cabin.cards card) refl
    where
      by : (q : Option Accepted) → session_of v.cabin.cards card ≡ q → (a : Accepted) × (session_of v.cabin.cards card ≡ Some a)
      by (Some a) has = (a, has)
      by None none =
          let g = w.powered.go.goes card seated.0 in
          let out : IsNotIn (w.standing card) = subst (λ (q : Option Accepted). GoesWith (found_of o.found card) (w.hands card) g.has (w.standing card) q (card_of d card)) none g.goes in
          absurd (subst IsNotIn seated.1.1 out)

  abbrev entry : Entry
  entry = record { minute = minute_on s.number minute; slot = slot; act = activity_of pick }

  answer : AnswersSo (stop_of session.0 (minute_on s.number minute)) s.number (suc n) entry card v.cabin.cards cards v.stops stops
  answer =
      let seat = seat-there (start_at o) told0 (p.book.sure ++ w.new) c.left s.number w.from c.slots v.cabin.slots w.tells slot passes.sitting passes.there in
      subst (λ (k : Card). IsAnswered s.number (suc n) entry k v.cabin.cards cards v.stops stops) seat.2 (answers seat.0.card (ap card_in seat.1)) session.0 session.1

  -- ---- what was asked by now

  numbers : All (λ (x : TraceSecond). x.number < s.number) done
  numbers = all-before (λ (u : ℕ). u < s.number) o.from done w.began.followed.order (λ u lt. let next = w.began.followed.next in let here = w.moment.number in omega (arith, lt, next, here))

  by-now : All (IsAskedBy s.number n) asked
  by-now = All-weaker (IsAskedBy s.number (length (actions_to (In n) s.actions))) (IsAskedBy s.number n)
      (λ x h. ⊎_elim (λ lt. inl lt) (λ here. inr (here.0, (let le = here.1 in let few = length-take n s.actions in omega (arith, le, few)))) h) asked
      (asked-by_now p.log done v.log s (actions_to (In n) s.actions) numbers)

  -- no line is told of it yet
  lines-by_now : All (λ (l : Refused). IsPlaceBy s.number n (told_at l)) v.stops
  lines-by_now = each-of (IsPlaceBy s.number n) v.stops
      (subst (All (IsPlaceBy s.number n)) (sym w.handed.told.each)
      (All-map (IsPlaceBy s.number n) asked_at (filter (is_stopped v.stops) asked) (All-filter (is_stopped v.stops) (λ (x : Asked). IsPlaceBy s.number n (asked_at x)) asked by-now)))

  free-lines : (ls : List Refused) → All (λ (l : Refused). IsPlaceBy s.number n (told_at l)) ls → is_stopped ls this ≡ false
  free-lines ls all_ = list_any_none (λ (l : Refused). nat_eq l.second s.number && nat_eq l.begun (n + 1)) ls
      (All-weaker (λ (l : Refused). IsPlaceBy s.number n (told_at l)) (λ (l : Refused). (nat_eq l.second s.number && nat_eq l.begun (n + 1)) ≡ false) (λ l at. not-there s.number n l.second l.begun at (n + 1) (omega arith)) ls all_)

  free : is_stopped v.stops this ≡ false
  free = free-lines v.stops lines-by_now

  free-stops : is_stopped (stops_of v.stops) this ≡ false
  free-stops = free-lines (stops_of v.stops) (All-filter (λ (l : Refused). is_stop l.fault) (λ (l : Refused). IsPlaceBy s.number n (told_at l)) v.stops lines-by_now)

  -- nor was another one at its place
  line-here : (fault : SlotFault) → is_at (line fault) this ≡ true
  line-here fault = same-place s.number (suc n) (n + 1) one-more

  line-apart : (fault : SlotFault) → All (λ (b : Asked). is_at (line fault) b ≡ false) asked
  line-apart fault = All-weaker (IsAskedBy s.number n) (λ (b : Asked). is_at (line fault) b ≡ false)
      (λ b at.
      ap (λ (t : Bool). t && nat_eq (suc n) b.begun) (turned-place s.number b.second) ∙ ap (λ (t : Bool). nat_eq b.second s.number && t) (turned-place (suc n) b.begun)
      ∙ not-there s.number n b.second b.begun at (suc n) (omega arith))
      asked by-now

  -- ---- what is told

  told-same : stops ≡ v.stops → AreToldOf stops then_
  told-same still = subst (λ (l : List Refused). AreToldOf l then_) (sym still) (subst (AreToldOf v.stops) (sym then-is) (record {
    all = w.handed.told.all;
    each = w.handed.told.each
        ∙ sym (ap (map asked_at) (filter-append (is_stopped v.stops) asked (this ∷ []) ∙ ap (λ (l : List Asked). filter (is_stopped v.stops) asked ++ l) (filter-drops (is_stopped v.stops) this free) ∙ append-nil (filter (is_stopped v.stops) asked)));
  }))

  more-lines : (fault : SlotFault) (b : Asked) → is_stopped (v.stops ++ line fault ∷ []) b ≡ (is_stopped v.stops b || (is_at (line fault) b || false))
  more-lines fault b = list_any-append (λ (l : Refused). nat_eq l.second b.second && nat_eq l.begun b.begun) v.stops (line fault ∷ [])

  told-more : (fault : SlotFault) → is_stop fault ≡ true → stops ≡ v.stops ++ line fault ∷ [] → AreToldOf stops then_
  told-more fault stop more = subst (λ (l : List Refused). AreToldOf l then_) (sym more) (subst (AreToldOf (v.stops ++ line fault ∷ [])) (sym then-is) (record {
    all = All-push (λ (l : Refused). is_stop l.fault ≡ true) v.stops (line fault) w.handed.told.all stop;
    each = map-append told_at v.stops (line fault ∷ [])
        ∙ ap (λ (l : List CoursePlace). l ++ told_at (line fault) ∷ []) w.handed.told.each
        ∙ ap (λ (k : ℕ). map asked_at (filter (is_stopped v.stops) asked) ++ record { second = s.number; begun = k } ∷ []) one-more
        ∙ sym (map-append asked_at (filter (is_stopped v.stops) asked) (this ∷ []))
        ∙ ap (map asked_at) (sym (filter-append (is_stopped (v.stops ++ line fault ∷ [])) asked (this ∷ []) ∙ ap (λ (l : List Asked). l ++ filter (is_stopped (v.stops ++ line fault ∷ [])) (this ∷ [])) still-stopped
        ∙ ap (λ (l : List Asked). filter (is_stopped v.stops) asked ++ l) (filter-one (is_stopped (v.stops ++ line fault ∷ [])) this now-stopped)));
  }))
    where
      or-so : (b : Bool) → (b || (true || false)) ≡ true
      or-so true = refl
      or-so false = refl

      or-not : (b : Bool) → (b || (false || false)) ≡ b
      or-not true = refl
      or-not false = refl

      now-stopped : is_stopped (v.stops ++ line fault ∷ []) this ≡ true
      now-stopped = more-lines fault this ∙ ap (λ (t : Bool). is_stopped v.stops this || (t || false)) (line-here fault) ∙ or-so (is_stopped v.stops this)

      still-stopped : filter (is_stopped (v.stops ++ line fault ∷ [])) asked ≡ filter (is_stopped v.stops) asked
      still-stopped = filter-alike (is_stopped (v.stops ++ line fault ∷ [])) (is_stopped v.stops) asked
          (All-weaker (λ (b : Asked). is_at (line fault) b ≡ false) (λ (b : Asked). is_stopped (v.stops ++ line fault ∷ []) b ≡ is_stopped v.stops b)
          (λ b apart. more-lines fault b ∙ ap (λ (t : Bool). is_stopped v.stops b || (t || false)) apart ∙ or-not (is_stopped v.stops b)) asked (line-apart fault))

  -- ---- each card

  abbrev marks : Card → List Mark
  marks x = marks_of (device_of x) v.marks

  abbrev past : List HistoryMinute
  past = (kept_all w.new w.b.run.book).sure

  abbrev sessions : Card → List Session
  sessions x = sessions_so_far x told0 s.number c

  abbrev IsSo : Card → Type 0
  IsSo x = HandsGo (sessions_so_far x told0 s.number now) (done_for x stops then_) (marks_of (device_of x) v.marks) (w.hands x) (w.firsts x) (session_of cards x)

  sessions-same : (x : Card) → sessions_so_far x told0 s.number c ≡ sessions_so_far x told0 s.number now
  sessions-same x = ap (λ (k : Course). sessions_so_far x told0 s.number k) (sym done_.1)

  -- where nothing was done for it, and its session is the same
  quiet : (x : Card) → IsOwnValid (found_of o.found x).image → done_for x stops then_ ≡ done_for x v.stops asked → session_of cards x ≡ session_of v.cabin.cards x → IsSo x
  quiet x valid did still =
      go-as (sessions x) (sessions_so_far x told0 s.number now) (done_for x v.stops asked) (done_for x stops then_) (marks x) (marks x) (w.hands x) (w.firsts x) (session_of v.cabin.cards x) (session_of cards x)
      (sessions-same x) (sym did) refl (sym still) (w.handed.each x valid)

  -- every session so far is before it
  told-all : All (λ (t : ToldSecond). t.second.number < s.number) told0
  told-all = All-weaker (Contains told0) (λ (t : ToldSecond). t.second.number < s.number) (λ t there. let lt = (found-tells o done p w.began.followed 0).before t there in let here = w.moment.number in omega (arith, lt, here)) told0 (All-contains_itself told0)

  after : (x : Card) (l : Session) → Contains (sessions x) l → is_behind l this ≡ true
  after x l there = is-after l this s.number n refl (omega arith) (⊎_elim
      (λ told. inl (All-contains (λ (k : Session). k.second < s.number) (sessions_in x told0) l (told-early x told0 s.number told-all) told))
      (λ found_.
      inr
      (All-contains (λ (k : Session). k.second ≡ s.number) (sessions_found x s.number c.found) l (found-here x s.number c.found) found_, All-contains (λ (k : Session). k.begun ≤ n) (sessions_found x s.number c.found) l (found-begun x s.number n c.found w.moment.found_now) found_))
      (Contains-append_cases (sessions_in x told0) (sessions_found x s.number c.found) l there))

  -- IT IS HELD
  entered : (x : Card) → same_card x card ≡ true → IsOwnValid (found_of o.found x).image → stops ≡ v.stops → stop_of session.0 (minute_on s.number minute) ≡ None → session_of cards card ≡ Some (with_entry entry session.0) → IsSo x
  entered x own valid still none held =
      let is_card : x ≡ card = same_is x card own in
      let has : session_of v.cabin.cards x ≡ Some session.0 = ap (session_of v.cabin.cards) is_card ∙ session.1 in
      let did : done_for x stops then_ ≡ done_for x v.stops asked ++ this ∷ [] = ap (λ (l : List Refused). done_for x l then_) still ∙ ap (done_for x v.stops) then-is ∙ done-one x v.stops asked this own free-stops in
      go-as (sessions x) (sessions_so_far x told0 s.number now) (done_for x v.stops asked ++ this ∷ []) (done_for x stops then_) (marks x) (marks x) (w.hands x) (w.firsts x) (Some (with_entry entry session.0)) (session_of cards x)
      (sessions-same x) (sym did) refl (sym (ap (session_of cards) is_card ∙ held))
      (hands-entered (sessions x) (done_for x v.stops asked) (marks x) (w.hands x) (w.firsts x) session.0 (subst (HandsGo (sessions x) (done_for x v.stops asked) (marks x) (w.hands x) (w.firsts x)) has (w.handed.each x valid)) this
      (not-begun session.0 (minute_on s.number minute) none) (after x) (with_entry entry session.0) refl refl (room session.0 (minute_on s.number minute) none))

  -- or a line stops it: nothing was done for its card, nor for the other one
  not-done : (x : Card) (fault : SlotFault) → is_stop fault ≡ true → (b : Bool) → same_card x card ≡ b → done_for x (v.stops ++ line fault ∷ []) (asked ++ this ∷ []) ≡ done_for x v.stops asked
  not-done x fault stop true own = done-stopped x v.stops asked this (line fault) stop (line-here fault) (line-apart fault) own
  not-done x fault stop false apart = done-other x (v.stops ++ line fault ∷ []) asked this apart ∙ done-beside x v.stops asked this (line fault) stop (line-here fault) (line-apart fault)

  either : (x : Card) → IsOwnValid (found_of o.found x).image → stop_of session.0 (minute_on s.number minute) ≡ None → AnswersSo None s.number (suc n) entry card v.cabin.cards cards v.stops stops → (b : Bool) → same_card x card ≡ b → IsSo x
  either x valid none h true own = entered x own valid h.0 none (h.2 session.0 session.1)
  either x valid none h false apart =
      quiet x valid (ap (λ (l : List Refused). done_for x l then_) h.0 ∙ ap (done_for x v.stops) then-is ∙ done-other x v.stops asked this apart) (h.1 x (other-way x card apart))

  -- ---- why those were stopped that were asked

  abbrev IsStopped : Card → Type 0
  IsStopped x = All (IsStoppedBy (IsKnown (start_at o) past x) (sessions_so_far x told0 s.number now) (done_for x stops then_) (marks x) stops) (asked_for x then_)

  asks-own : (x : Card) → same_card x card ≡ true → asked_for x then_ ≡ asked_for x asked ++ this ∷ []
  asks-own x own =
      ap (asked_for x) then-is
      ∙ filter-append (λ (b : Asked). same_card x b.sitting.card) asked (this ∷ [])
      ∙ ap (λ (l : List Asked). asked_for x asked ++ l) (filter-one (λ (b : Asked). same_card x b.sitting.card) this own)

  asks-other : (x : Card) → same_card x card ≡ false → asked_for x then_ ≡ asked_for x asked
  asks-other x apart =
      ap (asked_for x) then-is
      ∙ filter-append (λ (b : Asked). same_card x b.sitting.card) asked (this ∷ [])
      ∙ ap (λ (l : List Asked). asked_for x asked ++ l) (filter-drops (λ (b : Asked). same_card x b.sitting.card) this apart)
      ∙ append-nil (asked_for x asked)

  asks-now : (x : Card) → All (IsAskedBy s.number n) (asked_for x asked)
  asks-now x = All-filter (λ (b : Asked). same_card x b.sitting.card) (IsAskedBy s.number n) asked by-now

  -- no line is told at the place of one that was asked, but its own
  asks-apart : (x : Card) (fault : SlotFault) → All (λ (b : Asked). s.number ≡ b.second → suc n ≡ b.begun → ⊥) (asked_for x asked)
  asks-apart x fault = All-weaker (IsAskedBy s.number n) (λ (b : Asked). s.number ≡ b.second → suc n ≡ b.begun → ⊥)
      (λ b by_now second begun. ⊎_elim (λ lt. omega (arith, lt, second)) (λ here. let le = here.1 in omega (arith, le, begun)) by_now) (asked_for x asked) (asks-now x)

  asks-behind : (x : Card) → All (λ (b : Asked). is_asked_before this b ≡ false) (asked_for x asked)
  asks-behind x = All-weaker (IsAskedBy s.number n) (λ (b : Asked). is_asked_before this b ≡ false)
      (λ b by_now. before-not this b (⊎_elim (λ lt. inl lt) (λ here. inr (here.0, let le = here.1 in omega (arith, le))) by_now)) (asked_for x asked) (asks-now x)

  done-behind : (x : Card) → All (λ (b : Asked). is_asked_before b this ≡ true) (done_for x v.stops asked)
  done-behind x = All-weaker (IsAskedBy s.number n) (λ (b : Asked). is_asked_before b this ≡ true)
      (λ b by_now. before-so b this (⊎_elim (λ lt. inl lt) (λ here. inr (here.0, let le = here.1 in omega (arith, le))) by_now)) (done_for x v.stops asked)
      (done-by_now x v.stops asked s.number n by-now)

  -- its own session, as it was
  go-own : (x : Card) → same_card x card ≡ true → IsOwnValid (found_of o.found x).image → HandsGo (sessions x) (done_for x v.stops asked) (marks x) (w.hands x) (w.firsts x) (Some session.0)
  go-own x own valid = subst (HandsGo (sessions x) (done_for x v.stops asked) (marks x) (w.hands x) (w.firsts x)) (ap (session_of v.cabin.cards) (same_is x card own) ∙ session.1) (w.handed.each x valid)

  -- with which newest minute it was accepted
  known-own : (x : Card) → same_card x card ≡ true → IsOwnValid (found_of o.found x).image → WasKnownLast (start_at o) past x (marks x) (sessions x) (Some session.0)
  known-own x own valid = subst (WasKnownLast (start_at o) past x (marks x) (sessions x)) (ap (session_of v.cabin.cards) (same_is x card own) ∙ session.1) (w.handed.known x valid)

  known-quiet : (x : Card) → IsOwnValid (found_of o.found x).image → session_of cards x ≡ session_of v.cabin.cards x → WasKnownLast (start_at o) past x (marks x) (sessions_so_far x told0 s.number now) (session_of cards x)
  known-quiet x valid still = known-as (start_at o) past x (marks x) (marks x) (sessions x) (sessions_so_far x told0 s.number now) (session_of v.cabin.cards x) (session_of cards x) refl (sessions-same x) (sym still) (w.handed.known x valid)

  known-entered : (x : Card) → same_card x card ≡ true → IsOwnValid (found_of o.found x).image → session_of cards card ≡ Some (with_entry entry session.0) → WasKnownLast (start_at o) past x (marks x) (sessions_so_far x told0 s.number now) (session_of cards x)
  known-entered x own valid held = known-as (start_at o) past x (marks x) (marks x) (sessions x) (sessions_so_far x told0 s.number now) (Some (with_entry entry session.0)) (session_of cards x) refl (sessions-same x)
      (sym (ap (session_of cards) (same_is x card own) ∙ held))
      (λ l last_.
      let h : WasKnown (start_at o) past x (marks x) l session.0 = known-own x own valid l last_ in
      record { newest = h.newest; most = h.most; above = h.above; same = h.same })

  known-either : (x : Card) → IsOwnValid (found_of o.found x).image → AnswersSo None s.number (suc n) entry card v.cabin.cards cards v.stops stops → (b : Bool) → same_card x card ≡ b → WasKnownLast (start_at o) past x (marks x) (sessions_so_far x told0 s.number now) (session_of cards x)
  known-either x valid h true own = known-entered x own valid (h.2 session.0 session.1)
  known-either x valid h false apart = known-quiet x valid (h.1 x (other-way x card apart))

  new-one : (x : Card) (own : same_card x card ≡ true) (valid : IsOwnValid (found_of o.found x).image) (lines : List Refused) (why : Option SlotFault) → stop_of session.0 (minute_on s.number minute) ≡ why → IsTold lines this why → IsStoppedBy (IsKnown (start_at o) past x) (sessions x) (done_for x v.stops asked) (marks x) lines this
  new-one x own valid lines why is_ told =
      let go = go-own x own valid in
      stopped-now (start_at o) past x (sessions x) (done_for x v.stops asked) (marks x) (w.hands x) (w.firsts x) session.0 go this (after x go.holds.0 (last-in (sessions x) go.holds.1.earlier go.holds.0 go.holds.1.are)) (done-behind x)
      (known-own x own valid go.holds.0 (ap (λ (l : List Session). last l) go.holds.1.are ∙ last-push go.holds.1.earlier go.holds.0)) lines why is_ told

  by-fault : (x : Card) → IsOwnValid (found_of o.found x).image → (fault : SlotFault) → is_stop fault ≡ true → stops ≡ v.stops ++ line fault ∷ [] → stop_of session.0 (minute_on s.number minute) ≡ Some fault → (b : Bool) → same_card x card ≡ b → IsStopped x
  by-fault x valid fault stop said why b is_ =
      let old = stopped-told (start_at o) past x (sessions x) (marks x) (done_for x v.stops asked) v.stops (line fault) (asked_for x asked) (asks-apart x fault) (w.handed.stopped x valid) in
      let did : done_for x v.stops asked ≡ done_for x stops then_ = sym (ap (λ (l : List Refused). done_for x l then_) said ∙ ap (done_for x (v.stops ++ line fault ∷ [])) then-is ∙ not-done x fault stop b is_) in
      by b is_ old did
    where
      by : (t : Bool) → same_card x card ≡ t → All (IsStoppedBy (IsKnown (start_at o) past x) (sessions x) (done_for x v.stops asked) (marks x) (v.stops ++ line fault ∷ [])) (asked_for x asked) → done_for x v.stops asked ≡ done_for x stops then_ → IsStopped x
      by true own old did = stopped-as (start_at o) past x (sessions x) (sessions_so_far x told0 s.number now) (done_for x v.stops asked) (done_for x stops then_) (marks x) (marks x) (v.stops ++ line fault ∷ []) stops (asked_for x asked ++ this ∷ []) (asked_for x then_) (sessions-same x) did refl (sym said) (sym (asks-own x own))
          (All-push (IsStoppedBy (IsKnown (start_at o) past x) (sessions x) (done_for x v.stops asked) (marks x) (v.stops ++ line fault ∷ [])) (asked_for x asked) this old
          (new-one x own valid (v.stops ++ line fault ∷ []) (Some fault) why (subst (λ (k : ℕ). Contains (v.stops ++ line fault ∷ []) (record { second = s.number; fault = fault; begun = k })) one-more (Contains-push v.stops (line fault)))))
      by false apart old did = stopped-as (start_at o) past x (sessions x) (sessions_so_far x told0 s.number now) (done_for x v.stops asked) (done_for x stops then_) (marks x) (marks x) (v.stops ++ line fault ∷ []) stops (asked_for x asked) (asked_for x then_) (sessions-same x) did refl (sym said) (sym (asks-other x apart)) old

  -- no line is told of this one
  none-told : IsTold v.stops this None
  none-told = λ l at second begun. ⊎_elim (λ lt. omega (arith, lt, second)) (λ here. let le = here.1 in omega (arith, le, begun)) (All-contains (λ (k : Refused). IsPlaceBy s.number n (told_at k)) v.stops l lines-by_now at)

  by-none : (x : Card) → IsOwnValid (found_of o.found x).image → stops ≡ v.stops → stop_of session.0 (minute_on s.number minute) ≡ None → (b : Bool) → same_card x card ≡ b → IsStopped x
  by-none x valid still none true own =
      let did : done_for x stops then_ ≡ done_for x v.stops asked ++ this ∷ [] = ap (λ (l : List Refused). done_for x l then_) still ∙ ap (done_for x v.stops) then-is ∙ done-one x v.stops asked this own free-stops in
      stopped-as (start_at o) past x (sessions x) (sessions_so_far x told0 s.number now) (done_for x v.stops asked ++ this ∷ []) (done_for x stops then_) (marks x) (marks x) v.stops stops (asked_for x asked ++ this ∷ []) (asked_for x then_) (sessions-same x) (sym did) refl (sym still) (sym (asks-own x own))
      (stopped-done (start_at o) past x (sessions x) (marks x) (done_for x v.stops asked) this v.stops (asked_for x asked ++ this ∷ [])
      (All-push (λ (b : Asked). is_asked_before this b ≡ false) (asked_for x asked) this (asks-behind x) (before-not this this (inr (refl, omega arith))))
      (All-push (IsStoppedBy (IsKnown (start_at o) past x) (sessions x) (done_for x v.stops asked) (marks x) v.stops) (asked_for x asked) this (w.handed.stopped x valid) (new-one x own valid v.stops None none none-told)))
  by-none x valid still none false apart =
      let did : done_for x stops then_ ≡ done_for x v.stops asked = ap (λ (l : List Refused). done_for x l then_) still ∙ ap (done_for x v.stops) then-is ∙ done-other x v.stops asked this apart in
      stopped-as (start_at o) past x (sessions x) (sessions_so_far x told0 s.number now) (done_for x v.stops asked) (done_for x stops then_) (marks x) (marks x) v.stops stops (asked_for x asked) (asked_for x then_) (sessions-same x) (sym did) refl (sym still) (sym (asks-other x apart)) (w.handed.stopped x valid)

  handed : AreHandedIn (start_at o) (kept_all w.new w.b.run.book).sure o.found p.log done s (In (suc n)) v.log now stops v.marks w.hands w.firsts (session_of cards)
  handed = by (stop_of session.0 (minute_on s.number minute)) refl answer
    where
      by : (why : Option SlotFault) → stop_of session.0 (minute_on s.number minute) ≡ why → AnswersSo why s.number (suc n) entry card v.cabin.cards cards v.stops stops → AreHandedIn (start_at o) (kept_all w.new w.b.run.book).sure o.found p.log done s (In (suc n)) v.log now stops v.marks w.hands w.firsts (session_of cards)
      by (Some fault) why h =
          let stop = stops-so (stopped_by session.0.held session.0.session.minute (minute_on s.number minute)) fault why in
          record {
            each = λ x valid.
                quiet x valid
                (ap (λ (l : List Refused). done_for x l then_) h.0 ∙ ap (done_for x (v.stops ++ line fault ∷ [])) then-is
                ∙ not-done x fault stop (same_card x card) refl)
                (h.1 x);
            known = λ x valid. known-quiet x valid (h.1 x);
            stopped = λ x valid. by-fault x valid fault stop h.0 why (same_card x card) refl;
            told = told-more fault stop h.0;
          }
      by None none h = record { each = λ x valid. either x valid none h (same_card x card) refl; known = λ x valid. known-either x valid h (same_card x card) refl; stopped = λ x valid. by-none x valid h.0 none (same_card x card) refl; told = told-same h.0 }

  -- SO IT GOES ON
  hand-goes : SecondGoesOn o done s (In (suc n)) [] None [] (record v { cabin = record { slots = v.cabin.slots; cards = cards }; stops = stops }) d w.b w.from
  hand-goes = record {
    began = refl;
    from = refl;
    within = record {
      b = w.b;
      lit = w.lit;
      began = w.began;
      unfound = w.unfound;
      next = w.next;
      odometer = w.odometer;
      moment = done_.0;
      sp = w.sp;
      minutes = w.minutes;
      ds = w.ds;
      new = w.new;
      decided = same (λ (x : Course). HasDecided (rule_of o) (start_at o) told0 p w.b.span x None w.sp w.ds [] w.new) w.decided;
      from = w.from;
      kept_to = w.kept_to;
      until = w.until;
      stay = w.stay;
      marked = same (λ (x : Course). AreMarkedSoFar v.marks told0 x s.number w.new) w.marked;
      due = w.due;
      standing = w.standing;
      brought = w.brought;
      hands = w.hands;
      firsts = w.firsts;
      powered = powered o done s (In n) [] None [] v d w cards alike;
      handed = handed;
      found = found o done s (In n) [] None [] v d w cards alike;
      early = w.early;
      late = w.late;
      more = w.more;
      tells = same (λ (x : Course). SlotsTell (start_at o) told0 (p.book.sure ++ w.new) x.left s.number w.from x.slots v.cabin.slots) w.tells;
      present = same (λ (x : Course). PresentStand o.found w.standing told0 x s.number w.from (record { slots = v.cabin.slots; cards = cards })) (present o done s (In n) [] None [] v d w cards alike);
      back = λ x some. inl (back-plain o done s (In n) [] None v d w x (had o done s (In n) [] None [] v d w cards alike x some));
      verdicts = w.verdicts;
      finds = same (λ (x : Course). IsFoundSo o w.b done x s.number w.from w.new v.marks w.brought d) w.finds;
      there = w.there;
      few = w.few;
      spared = λ x. same (λ (k : Course). IsSparedSo o w.b done k [] s.number v.cabin.slots d x) (w.spared x);
      written = λ x some. same (λ (k : Course). MayBeWrittenSo o w.b done k [] s.number v.cabin.slots x) (w.written x (had o done s (In n) [] None [] v d w cards alike x some));
      travels = w.travels;
    };
  }

pub hand-recorded : (d : Devices) → AnEntryByHandIsRecorded d
hand-recorded d o done s v front slot pick minute rest are w is cabin same alike stops answers =
    subst (λ (slots : SlotsKept). SecondGoesOn o done s (In (suc (length front))) [] None [] (record v { cabin = record { slots = slots; cards = cabin.cards }; stops = stops }) d w.b w.from) (sym same)
    (hand-goes o done s v d front slot pick minute rest are w is cabin.cards alike stops answers)
