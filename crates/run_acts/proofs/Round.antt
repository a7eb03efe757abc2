-- A decided minute is kept in the keeping of a second, and cards may be torn out: log, slots, standings and marks behind it.
use Rattle.std.proofs.Common.{◌≡◌, ◌⊎◌, inl, inr, ⊎_elim, ℕ, suc, ◌+◌, ◌*◌, ◌/◌, ◌≤◌, ◌<◌, Bool, true, false, cond, Option, Some, None, is_some, List, [], ◌∷◌, ◌++◌, Contains, filter, map, refl, ap, sym, subst, ◌∙◌, arith, append-nil}
use Rattle.std.specs.Prelude.{if◌then◌else◌, option_to_list}
use Rattle.std.proofs.lemmas.List.Elements.{All-nil, All-push, Contains-push, Contains-append_left, Contains-append_cases}
use Rattle.activity_codec.specs.declared.entries.Entry.{Entry}
use Rattle.activity_codec.specs.declared.values.Slot.{Slot}
use Rattle.activity_codec.specs.declared.values.Slot.TheVariants.{Driver, CoDriver}
use Rattle.trace_model.specs.declared.Card.{Card}
use Rattle.trace_model.specs.declared.Card.TheVariants.{A, B}
use Rattle.trace_model.specs.Trace.{TraceSecond}
use Rattle.log_model.specs.run_model.declared.Device.{Device}
use Rattle.unit_model.specs.minute_model.declared.Minute.{Minute}
use Rattle.log_model.specs.declared.lines.Mark.{Mark}
use Rattle.log_model.specs.Log.{RunLog}
use Rattle.log_model.specs.Slots.{same_card}
use Rattle.log_model.specs.Causes.{device_of}
use Rattle.log_model.specs.Course.{ToldSecond as Seconds, Course, Visit}
use Rattle.device_calls.specs.history_model.Minutes.{HistoryMinute, Seat as HistorySeat, is_crew, entry_in, on_card}
use Rattle.device_calls.specs.history_model.History.{seated}
use Rattle.device_calls.specs.history_model.Completeness.{IsMarked}
use Rattle.device_calls.specs.device_rule.Rules.{Standing}
use Rattle.run_crew.specs.card_slots.declared.seats.Present.{Present}
use Rattle.run_crew.specs.card_slots.declared.seats.Ended.{Ended}
use Rattle.run_crew.specs.card_slots.Calls.{present_in}
use Rattle.run_crew.specs.declared.cards.Accepted.{Accepted}
use Rattle.run_crew.specs.declared.cabin.Cabin.{Cabin}
use Rattle.run_crew.specs.Cards.{session_of}
use Rattle.run_crew.specs.Cabin.{AreTwo}
use Rattle.run_crew.proofs.Sessions.{same_is, session_apart}
use Rattle.run_events.specs.run_course.Presence.{present_at as present_by}
use Rattle.run_events.proofs.run_course.Presence.{minutes-kept}
use Rattle.run_events.specs.run_course.Kept.{BrokenSince, StaysOut, AreMarkedSoFar}
use Rattle.run_events.proofs.run_course.Kept.{one-marked, marks-stay}
use Rattle.run_minutes.specs.run_devices.Presence.{StandsIn, IsIn}
use Rattle.run_minutes.proofs.run_devices.Presence.{step-leaves}
use Rattle.run_minutes.specs.run_promise.Origin.{Origin, start_at}
use Rattle.run_minutes.specs.declared.keeper.Keeper.{Keeper}
use Rattle.run_minutes.specs.Keeping.{Fate, Still, Has, Fell, is_this, cabin_by, breaks_by, marks_by, session_at, kept_in, IsFateOf}
use Rattle.run_minutes.specs.Minutes.{Round, IsRound, KeepingState, cabin_after, unit_mark, or_nobody, present_at, minute_of}
use Rattle.run_minutes.specs.Books.{standing_by, fate_of}
use Rattle.run_minutes.specs.Decided.{decided_minute}
use Rattle.run_minutes.proofs.Counts.{past-by}
use Rattle.run_record.specs.Within.{Beginning, told_before, course_in}
use Rattle.run_acts.specs.Rounds.{Point, Outset, moment_of, standing_card, and_breaks, Slate, OnlyTears, HasBrokenDown}
use Rattle.run_record.proofs.Seats.{no-both}
use Rattle.run_acts.proofs.RoundFates.{fate-behind, Behind}

ext : (f g : Card → Standing) → ((c : Card) → f c ≡ g c) → f ≡ g
ext f g same = λ i c. same c i

-- ---- two cards

-- a card that was present in one slot was not in the other
pub apart-both : (driver codriver : Option Card) → AreTwo driver codriver → (c : Card) → is_this driver c ≡ true → is_this codriver c ≡ false
apart-both None codriver two c is = no-both true refl (sym is)
apart-both (Some k) None two c is = refl
apart-both (Some A) (Some B) two A is = refl
apart-both (Some A) (Some B) two B is = no-both true refl (sym is)
apart-both (Some B) (Some A) two A is = no-both true refl (sym is)
apart-both (Some B) (Some A) two B is = refl
apart-both (Some A) (Some A) two c is = no-both true refl two
apart-both (Some B) (Some B) two c is = no-both true refl two

stands-by : (a b : Bool) (e d : Fate) (m : ℕ) (z : Standing) → (a ≡ true → b ≡ false) → (if b then standing_by d m (if a then standing_by e m z else z) else (if a then standing_by e m z else z)) ≡ standing_by (if a then e else (if b then d else Still)) m z
stands-by true true e d m z two = no-both true refl (two refl)
stands-by true false e d m z two = refl
stands-by false true e d m z two = refl
stands-by false false e d m z two = refl

pub this-one : (o : Option Card) (c : Card) → is_this o c ≡ true → o ≡ Some c
this-one None c is = no-both true refl (sym is)
this-one (Some k) c is = ap (λ (x : Card). Some x) (same_is k c is)

this-or_not : (o : Option Card) (c : Card) → (is_this o c ≡ true) ⊎ (is_this o c ≡ false)
this-or_not o c = by (is_this o c) refl
  where
    by : (b : Bool) → is_this o c ≡ b → (is_this o c ≡ true) ⊎ (is_this o c ≡ false)
    by true is = inl is
    by false is = inr is

turned : (c d : Card) → same_card c d ≡ same_card d c
turned A A = refl
turned B B = refl
turned A B = refl
turned B A = refl

-- the session of the other card
pub other-session : (fate : Fate) (present : Option Card) (second : ℕ) (cabin : Cabin) (c : Card) → is_this present c ≡ false → session_of (cabin_by fate present second cabin).cards c ≡ session_of cabin.cards c
other-session Still None second cabin c ne = refl
other-session (Has a n) None second cabin c ne = refl
other-session Fell None second cabin c ne = refl
other-session Still (Some k) second cabin c ne = refl
other-session (Has a n) (Some k) second cabin c ne = session_apart k c (Some a) cabin.cards (turned c k ∙ ne)
other-session Fell (Some k) second cabin c ne = session_apart k c None cabin.cards (turned c k ∙ ne)

-- a minute says nothing on a card that was not present
nothing-on : (card : Card) (slot : Slot) (i : HistoryMinute) (seat : HistorySeat) → is_this seat.card card ≡ false → entry_in card slot i seat ≡ []
nothing-on card slot i seat ne = by seat.card refl
  where
    by : (o : Option Card) → seat.card ≡ o → entry_in card slot i seat ≡ []
    by None is = ap (λ (o : Option Card). map {B = Entry} (λ (c : Card). record { minute = i.minute; slot = slot; crew = is_crew i; act = seat.act }) (filter (same_card card) (option_to_list o))) is
    by (Some k) is =
        let other : same_card card k ≡ false = turned card k ∙ ap (λ (o : Option Card). is_this o card) (sym is) ∙ ne in
        ap (λ (o : Option Card). map {B = Entry} (λ (c : Card). record { minute = i.minute; slot = slot; crew = is_crew i; act = seat.act }) (filter (same_card card) (option_to_list o))) is
        ∙ ap (λ (b : Bool). map {B = Entry} (λ (c : Card). record { minute = i.minute; slot = slot; crew = is_crew i; act = seat.act }) (cond b (k ∷ []) [])) other

-- ---- what goes on

broken-on : (told : List Seconds) (c d : Course) (card : Card) (from number : ℕ) → StaysOut c d → BrokenSince told c card from number → BrokenSince told d card from number
broken-on told c d card from number out (inl before) = inl before
broken-on told c d card from number out (inr now) = inr (now.0, (now.1.0, now.1.1, ⊎_elim (λ torn. inl (out.torn now.1.0 torn)) (λ pulled. inr (out.pulled now.1.0 pulled)) now.1.2))

pub tears-on : (a b c : Course) → OnlyTears a b → OnlyTears b c → OnlyTears a c
tears-on a b c x y = record {
  picks = y.picks ∙ x.picks;
  settled = y.settled ∙ x.settled;
  found = y.found ∙ x.found;
  entered = y.entered ∙ x.entered;
  out = record { torn = λ v at. y.out.torn v (x.out.torn v at); pulled = λ v at. y.out.pulled v (x.out.pulled v at) };
}

-- the mark of a card that has the minute
mark-there : (fate : Fate) (present : Option Card) (card : Card) (a : Accepted) (n minute : ℕ) (marks : List Mark) → fate ≡ Has a n → present ≡ Some card → Contains (marks ++ marks_by fate present minute) (record { device = device_of card; minute = minute; clock = n })
mark-there fate present card a n minute marks has is =
    subst (λ (f : Fate). Contains (marks ++ marks_by f present minute) (record { device = device_of card; minute = minute; clock = n })) (sym has)
    (subst (λ (o : Option Card). Contains (marks ++ marks_by (Has a n) o minute) (record { device = device_of card; minute = minute; clock = n })) (sym is)
    (Contains-push marks (record { device = device_of card; minute = minute; clock = n })))

module _ (o : Origin) (done : List TraceSecond) (s : TraceSecond) (q : Point) (b : Beginning) (os : Outset) (first last : Device → ℕ) (k : Keeper) (m : Minute) (t : KeepingState) (log : RunLog) (z : Card → Standing) (new : List HistoryMinute)
    (h : Slate o done s q b os m.minute (b.run.book.sure ++ new) log z t.keeper.cabin first last) (same_past : t.keeper.cabin.slots.past ≡ k.cabin.slots.past) (over : m.minute < s.number / 60) where
  abbrev past : List HistoryMinute
  past = b.run.book.sure ++ new

  abbrev told0 : List Seconds
  told0 = told_before b done

  abbrev c : Course
  c = course_in b done s q.at log

  abbrev p : Present
  p = present_at k.cabin m.minute

  abbrev cabin : Cabin
  cabin = t.keeper.cabin

  abbrev i : HistoryMinute
  i = seated (start_at o) told0 past m

  -- who was present by the history is who was by the slots
  by-history : present_in cabin.slots.past m.minute ≡ Some (present_by (start_at o) told0 past m.minute)
  by-history = h.tells.ended m.minute (omega arith) over [] (All-nil (λ (j : HistoryMinute). m.minute ≤ j.minute)) ∙ ap (λ (is : List HistoryMinute). Some (present_by (start_at o) told0 is m.minute)) (append-nil past)

  present-is : p ≡ present_by (start_at o) told0 past m.minute
  present-is = ap (λ (es : List Ended). or_nobody (present_in es m.minute)) (sym same_past) ∙ ap or_nobody by-history

  pub there : present_in cabin.slots.past m.minute ≡ Some p
  there = by-history ∙ ap (λ (q : Present). Some q) (sym present-is)

  pub minute-is : i ≡ decided_minute k m
  minute-is = ap (λ (q : Present). record { minute = m.minute; driver = record { act = m.driver; card = q.driver }; codriver = record { act = m.codriver; card = q.codriver } }) (sym present-is)

  -- the unit has it
  pub unit-slate : Slate o done s q b os (suc m.minute) (past ++ i ∷ []) log z cabin first last
  unit-slate = record {
    point = h.point;
    now = h.now;
    moment = h.moment;
    rise = h.rise;
    fell = h.fell;
    rests = h.rests;
    tells = minutes-kept (start_at o) told0 past c.left s.number m.minute (suc m.minute) c.slots cabin.slots h.tells (i ∷ []) (All-push (λ (j : HistoryMinute). m.minute ≤ j.minute) [] i (omega arith) (omega arith)) (omega arith);
    present = step-leaves o.found z z told0 c c s.number m.minute (suc m.minute) cabin cabin h.present h.tells.newest h.tells.minute (omega arith) refl (record { torn = λ v at. at; pulled = λ v at. at })
        (λ card. inl (refl, λ x. x)) (λ slot card u at. (at, inl (refl, λ x. x)));
    sessions = h.sessions;
    back = h.back;
    leave = h.leave;
    had = h.had;
    stays = h.stays;
  }

  pub stands : (card : Card) → IsIn p card → StandsIn o.found z cabin.cards told0 c s.number m.minute card
  stands card in_ = h.present.ended m.minute p card (omega arith) there in_

  module _ (round : Round) (failed : Bool) (le : os.low ≤ m.minute) (few : s.number / 60 ≤ m.minute + 4)
      (is : IsRound (present_at k.cabin m.minute) (minute_of m k) (moment_of s q) failed t.keeper round) (two : AreTwo (present_at k.cabin m.minute).driver (present_at k.cabin m.minute).codriver)
      (driver_broken : HasBrokenDown round.driver (present_at k.cabin m.minute).driver first last) (codriver_broken : HasBrokenDown round.codriver (present_at k.cabin m.minute).codriver first last) where
    -- the driver's card, and the co-driver's
    pub first-fate : Behind o done s q b os m.minute (suc m.minute) (past ++ i ∷ []) first last Driver log z cabin unit-slate refl le few round.driver p.driver
    first-fate = fate-behind o done s q b os m.minute (suc m.minute) (past ++ i ∷ []) first last Driver log z cabin unit-slate refl le few round.driver p.driver (kept_in (minute_of m k) Driver) (inr is.driver) refl p there refl
        (λ card e. (stands card (inl e)).valid) driver_broken

    abbrev log1 : RunLog
    log1 = and_breaks log (breaks_by round.driver Driver (moment_of s q))

    abbrev z1 : Card → Standing
    z1 = standing_card round.driver p.driver m.minute z

    abbrev cabin1 : Cabin
    cabin1 = cabin_by round.driver p.driver s.number cabin

    pub second-is : (round.codriver ≡ Still) ⊎ IsFateOf (session_at cabin1.cards p.codriver) (kept_in (minute_of m k) CoDriver) round.codriver
    second-is = ⊎_elim (λ off. inl off.not_asked) (λ f. inr f) is.codriver

    pub there1 : present_in cabin1.slots.past m.minute ≡ Some p
    there1 = ap (λ (es : List Ended). present_in es m.minute) (past-by round.driver p.driver s.number cabin) ∙ there

    second-fate : Behind o done s q b os m.minute (suc m.minute) (past ++ i ∷ []) first last CoDriver log1 z1 cabin1 first-fate.slate refl le few round.codriver p.codriver
    second-fate = fate-behind o done s q b os m.minute (suc m.minute) (past ++ i ∷ []) first last CoDriver log1 z1 cabin1 first-fate.slate refl le few round.codriver p.codriver (kept_in (minute_of m k) CoDriver) second-is refl p there1 refl
        (λ card e. (stands card (inr e)).valid) codriver_broken

    abbrev log2 : RunLog
    log2 = and_breaks log1 (breaks_by round.codriver CoDriver (moment_of s q))

    abbrev c2 : Course
    c2 = course_in b done s q.at log2

    abbrev z2 : Card → Standing
    z2 = λ card. standing_by (fate_of p round card) m.minute (z card)

    standings-are : standing_card round.codriver p.codriver m.minute z1 ≡ z2
    standings-are = ext (standing_card round.codriver p.codriver m.minute z1) z2 (λ card. stands-by (is_this p.driver card) (is_this p.codriver card) round.driver round.codriver m.minute (z card) (apart-both p.driver p.codriver two card))

    pub round-slate : Slate o done s q b os (suc m.minute) (past ++ i ∷ []) log2 z2 (cabin_after p s.number round cabin) first last
    round-slate = subst (λ (y : Card → Standing). Slate o done s q b os (suc m.minute) (past ++ i ∷ []) log2 y (cabin_after p s.number round cabin) first last) standings-are second-fate.slate

    pub round-same : OnlyTears c c2
    round-same = tears-on c (course_in b done s q.at log1) c2 first-fate.same second-fate.same

    pub round-past : (cabin_after p s.number round cabin).slots.past ≡ k.cabin.slots.past
    round-past = past-by round.codriver p.codriver s.number cabin1 ∙ past-by round.driver p.driver s.number cabin ∙ same_past

    -- ---- what is acknowledged
    abbrev marks1 : List Mark
    marks1 = (t.marks.items ++ unit_mark m.minute round.clock ∷ []) ++ marks_by round.driver p.driver m.minute

    abbrev marks2 : List Mark
    marks2 = marks1 ++ marks_by round.codriver p.codriver m.minute

    unit-there : Contains marks2 (unit_mark m.minute round.clock)
    unit-there = Contains-append_left marks1 (marks_by round.codriver p.codriver m.minute) (unit_mark m.minute round.clock)
        (Contains-append_left (t.marks.items ++ unit_mark m.minute round.clock ∷ []) (marks_by round.driver p.driver m.minute) (unit_mark m.minute round.clock) (Contains-push t.marks.items (unit_mark m.minute round.clock)))

    pub marks-on : (mark : Mark) → Contains t.marks.items mark → Contains marks2 mark
    marks-on mark at = Contains-append_left marks1 (marks_by round.codriver p.codriver m.minute) mark
        (Contains-append_left (t.marks.items ++ unit_mark m.minute round.clock ∷ []) (marks_by round.driver p.driver m.minute) mark (Contains-append_left t.marks.items (unit_mark m.minute round.clock ∷ []) mark at))

    abbrev Answered : Card → Type 0
    Answered card = IsMarked marks2 (device_of card) m.minute ⊎ BrokenSince told0 c2 card (60 * (m.minute + 1)) s.number

    late-enough : 60 * (m.minute + 1) ≤ s.number
    late-enough = omega (arith, over)

    -- a card without a session was torn out or pulled out since
    sessionless : (card : Card) → IsIn p card → session_of cabin.cards card ≡ None → Answered card
    sessionless card in_ none = ⊎_elim
        (λ some. no-both (is_some (session_of cabin.cards card)) some (ap (λ (q : Option Accepted). is_some q) none))
        (λ broken. inr (broken-on told0 c c2 card (60 * (m.minute + 1)) s.number round-same.out broken))
        (stands card in_).session

    fell-here : (card : Card) → (v : Visit) × (v.card ≡ card) × Contains c2.torn v → Answered card
    fell-here card v = inr (inr (late-enough, (v.0, v.1, inl v.2)))

    driver-answered : (card : Card) → p.driver ≡ Some card → Answered card
    driver-answered card at = by round.driver refl
      where
        still-none : (q : Option Accepted) → IsFateOf q (kept_in (minute_of m k) Driver) Still → q ≡ None
        still-none None f = refl
        still-none (Some a) f = absurd f

        asked : IsFateOf (session_of cabin.cards card) (kept_in (minute_of m k) Driver) round.driver
        asked = subst (λ (q : Option Card). IsFateOf (session_at cabin.cards q) (kept_in (minute_of m k) Driver) round.driver) at is.driver

        by : (fate : Fate) → round.driver ≡ fate → Answered card
        by Still f = sessionless card (inl at) (still-none (session_of cabin.cards card) (subst (IsFateOf (session_of cabin.cards card) (kept_in (minute_of m k) Driver)) f asked))
        by (Has a n) f = inl (
          record { device = device_of card; minute = m.minute; clock = n },
          Contains-append_left marks1 (marks_by round.codriver p.codriver m.minute) (record { device = device_of card; minute = m.minute; clock = n })
              (mark-there round.driver p.driver card a n m.minute (t.marks.items ++ unit_mark m.minute round.clock ∷ []) f at),
          refl,
          refl,
        )
        by Fell f = let v = first-fate.torn card f at in fell-here card (v.0, v.1, second-fate.same.out.torn v.0 v.2)

    codriver-answered : IsFateOf (session_at cabin1.cards p.codriver) (kept_in (minute_of m k) CoDriver) round.codriver → (card : Card) → p.codriver ≡ Some card → is_this p.driver card ≡ false → Answered card
    codriver-answered is_ card at ne = by round.codriver refl
      where
        still-none : (q : Option Accepted) → IsFateOf q (kept_in (minute_of m k) CoDriver) Still → q ≡ None
        still-none None f = refl
        still-none (Some a) f = absurd f

        asked : IsFateOf (session_of cabin.cards card) (kept_in (minute_of m k) CoDriver) round.codriver
        asked = subst (λ (q : Option Accepted). IsFateOf q (kept_in (minute_of m k) CoDriver) round.codriver) (other-session round.driver p.driver s.number cabin card ne)
            (subst (λ (q : Option Card). IsFateOf (session_at cabin1.cards q) (kept_in (minute_of m k) CoDriver) round.codriver) at is_)

        by : (fate : Fate) → round.codriver ≡ fate → Answered card
        by Still f = sessionless card (inr at) (still-none (session_of cabin.cards card) (subst (IsFateOf (session_of cabin.cards card) (kept_in (minute_of m k) CoDriver)) f asked))
        by (Has a n) f = inl (record { device = device_of card; minute = m.minute; clock = n }, mark-there round.codriver p.codriver card a n m.minute marks1 f at, refl, refl)
        by Fell f = fell-here card (second-fate.torn card f at)

    answered : IsFateOf (session_at cabin1.cards p.codriver) (kept_in (minute_of m k) CoDriver) round.codriver → (card : Card) (e : Entry) → Contains (on_card card i) e → Answered card
    answered is_ card e at = ⊎_elim
        (λ first_. driver-answered card (this-one p.driver card first_))
        (λ not_first. ⊎_elim
        (λ second_. codriver-answered is_ card (this-one p.codriver card second_) not_first)
        (λ not_second.
        let driver_ : i.driver.card ≡ p.driver = ap (λ (q : Present). q.driver) (sym present-is) in
        let codriver_ : i.codriver.card ≡ p.codriver = ap (λ (q : Present). q.codriver) (sym present-is) in
        absurd (⊎_elim
        (λ a. nowhere (entry_in card Driver i i.driver) e (nothing-on card Driver i i.driver (ap (λ (q : Option Card). is_this q card) driver_ ∙ not_first)) a)
        (λ a. nowhere (entry_in card CoDriver i i.codriver) e (nothing-on card CoDriver i i.codriver (ap (λ (q : Option Card). is_this q card) codriver_ ∙ not_second)) a)
        (Contains-append_cases (entry_in card Driver i i.driver) (entry_in card CoDriver i i.codriver) e at)))
        (this-or_not p.codriver card))
        (this-or_not p.driver card)
      where
        none-in : (e : Entry) → Contains [] e → ⊥
        none-in e none = omega (arith, none.1)

        nowhere : (es : List Entry) (e : Entry) → es ≡ [] → Contains es e → ⊥
        nowhere es e is at = none-in e (subst (λ (xs : List Entry). Contains xs e) is at)

    pub round-marked : IsFateOf (session_at cabin1.cards p.codriver) (kept_in (minute_of m k) CoDriver) round.codriver → AreMarkedSoFar t.marks.items told0 c s.number new → AreMarkedSoFar marks2 told0 c2 s.number (new ++ i ∷ [])
    round-marked is_ old = one-marked marks2 told0 c2 s.number new i (marks-stay t.marks.items marks2 told0 c c2 s.number new old marks-on round-same.out) (unit_mark m.minute round.clock, unit-there, refl, refl) (answered is_)
