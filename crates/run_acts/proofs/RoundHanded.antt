-- The entries by hand of a run as minutes are kept in a keeping: what each keep is given, and which mark is its own.
use Rattle.std.proofs.Common.{◌≡◌, ℕ, ◌/◌, ◌≤◌, Bool, true, false, cond, Option, Some, None, List, [], ◌∷◌, ◌++◌, Contains, map, refl, ap, sym, subst, ◌∙◌, arith, append-nil, ⊎_elim, suc, ◌+◌, All, length, ◌<◌}
use Rattle.std.specs.Prelude.{if◌then◌else◌}
use Rattle.std.proofs.lemmas.List.Elements.{filter-append, Contains-push, All-filter, All-weaker, Contains-push_cases, Contains-append_cases, Contains-append_right}
use Rattle.activity_codec.specs.declared.values.Slot.{Slot}
use Rattle.activity_codec.specs.declared.values.Slot.TheVariants.{Driver, CoDriver}
use Rattle.trace_model.specs.declared.Card.{Card}
use Rattle.trace_model.specs.declared.Card.TheVariants.{A, B}
use Rattle.trace_model.specs.Trace.{TraceSecond}
use Rattle.log_model.specs.run_model.declared.Device.{Device}
use Rattle.unit_model.specs.minute_model.declared.Minute.{Minute}
use Rattle.unit_model.specs.minute_model.Span.{Span}
use Rattle.log_model.specs.declared.lines.Break.{Break}
use Rattle.log_model.specs.declared.lines.Mark.{Mark}
use Rattle.log_model.specs.Log.{RunLog}
use Rattle.log_model.specs.Causes.{device_of}
use Rattle.log_model.specs.Course.{Course, Visit}
use Rattle.log_model.specs.ByHand.{Asked}
use Rattle.device_calls.specs.history_model.Minutes.{HistoryMinute}
use Rattle.device_calls.specs.history_model.Presence.{Start}
use Rattle.device_calls.specs.history_model.Book.{Book}
use Rattle.unit_model.specs.minute_model.Activity.{last}
use Rattle.hand_model.specs.Holding.{Holding, first_of, begun_by, none_held}
use Rattle.hand_model.specs.Written.{Hands}
use Rattle.run_crew.specs.card_slots.declared.seats.Present.{Present}
use Rattle.device_calls.specs.safety_model.Unit.{marks_of, Increase, is_of}
use Rattle.device_calls.specs.safety_model.Hands.{Session, sessions_in, sessions_found}
use Rattle.run_minutes.specs.run_promise.Cards.{FirstKeep}
use Rattle.run_minutes.specs.run_promise.Between.{RunLedger}
use Rattle.run_minutes.specs.run_promise.Origin.{Origin, start_at}
use Rattle.run_crew.specs.declared.cabin.Cabin.{Cabin}
use Rattle.run_crew.specs.declared.cards.Accepted.{Accepted}
use Rattle.run_crew.specs.Cards.{session_of}
use Rattle.run_crew.specs.Cabin.{AreTwo}
use Rattle.run_minutes.specs.declared.keeper.Keeper.{Keeper}
use Rattle.run_minutes.specs.Keeping.{Fate, Still, Has, Fell, is_this, cabin_by, breaks_by, marks_by, tear_of, session_at, held_in, kept_in, IsFateOf}
use Rattle.run_minutes.specs.Minutes.{Round, Done, KeepingState, IsRound, AreRounds, unit_mark, told_after, told_by, present_at, minute_of}
use Rattle.run_minutes.specs.Books.{hands_by, firsts_by, fate_of, held_of, carried_after}
use Rattle.run_minutes.specs.Decided.{decided_minute, carried_by}
use Rattle.run_record.specs.Recorded.{Values}
use Rattle.run_record.specs.Within.{Beginning, told_before, course_in}
use Rattle.run_record.specs.HeldHands.{HandsGo, IsKnown, WasKnown, WasKnownLast}
use Rattle.run_record.specs.Handed.{actions_to, asked_so_far, done_for, sessions_so_far, AreToldOf, AreHandedIn, asked_for}
use Rattle.run_record.proofs.Asked.{asked-torn, IsAskedBy, asked-by_now}
use Rattle.run_record.proofs.HandedSteps.{go-as, known-as, known-more}
use Rattle.run_record.proofs.HandsFold.{hands-kept, hands-broken}
use Rattle.run_record.proofs.Opened.{increase-front, increase-apart}
use Rattle.run_acts.specs.Rounds.{Point, IsPoint, Outset, told_values, moment_of, and_breaks, HaveBroken, SoFar, HasBrokenDown}
use Rattle.run_acts.proofs.Round.{apart-both, this-one, other-session}
use Rattle.run_acts.proofs.RoundReached.{first-number, one-on}
use Rattle.log_model.specs.declared.lines.Verdict.{Verdict}
use Rattle.device_calls.specs.card_session.declared.session.Kept.{Kept}
use Rattle.log_model.specs.Slots.{same_card}
use Rattle.run_record.proofs.Stopped.{stopped-as, stopped-kept, stopped-behind, known-behind}
use Rattle.device_calls.specs.safety_model.ByHand.{IsStoppedBy}

-- ---- ONE CARD in a round, by what became of its entry

-- its mark, and its session
abbrev own_marks : Fate → Card → (minute : ℕ) → List Mark
own_marks Still c minute = []
own_marks (Has accepted clock) c minute = record { device = device_of c; minute = minute; clock = clock } ∷ []
own_marks Fell c minute = []

abbrev session_by : Fate → Option Accepted → Option Accepted
session_by Still session = session
session_by (Has accepted clock) session = Some accepted
session_by Fell session = None

-- it was asked with the session that it had, which held so much
abbrev WasAsked : Fate → (minute : ℕ) → Holding → Option Accepted → Type 0
WasAsked Still minute held session = Unit {0}
WasAsked (Has accepted clock) minute held session = (before : Accepted) × (session ≡ Some before) × (accepted.held ≡ begun_by minute before.held) × (held ≡ before.held)
WasAsked Fell minute held session = (before : Accepted) × (session ≡ Some before) × (held ≡ before.held)

was-asked : (fate : Fate) (kept : Kept) (held : Holding) (session : Option Accepted) → IsFateOf session kept fate → held ≡ held_in session → WasAsked fate kept.entry.minute held session
was-asked Still kept held session is holds = tt
was-asked (Has accepted clock) kept held None is holds = absurd is
was-asked (Has accepted clock) kept held (Some before) is holds = (before, refl, is.held, holds)
was-asked Fell kept held None is holds = absurd is
was-asked Fell kept held (Some before) is holds = (before, refl, holds)

-- its mark is of that minute
own-minute : (fate : Fate) (c : Card) (minute : ℕ) (k : Mark) → Contains (own_marks fate c minute) k → k.minute ≡ minute
own-minute Still c minute k at = absurd (omega (arith, at.1))
own-minute (Has accepted clock) c minute k at = ⊎_elim
    (λ none. absurd (omega (arith, none.1)))
    (λ (is : record { device = device_of c; minute = minute; clock = clock } ≡ k). sym (ap (λ (x : Mark). x.minute) is))
    (Contains-push_cases [] (record { device = device_of c; minute = minute; clock = clock }) k at)
own-minute Fell c minute k at = absurd (omega (arith, at.1))

-- THE STEP
fate-handed : (fate : Fate) (c : Card) (minute : ℕ) (held : Holding) (session : Option Accepted) (all : List Session) (done : List Asked) (marks : List Mark) (h : Hands) (firsts : List FirstKeep) → WasAsked fate minute held session → ((l : Session) → Contains all l → l.second / 60 ≤ minute) → Increase (marks ++ own_marks fate c minute)
    → HandsGo all done marks h firsts session → HandsGo all done (marks ++ own_marks fate c minute) (hands_by fate held minute h) (firsts_by fate c held minute firsts) (session_by fate session)
fate-handed Still c minute held session all done marks h firsts asked since rise go = subst (λ (ms : List Mark). HandsGo all done ms h firsts session) (sym (append-nil marks)) go
fate-handed (Has accepted clock) c minute held session all done marks h firsts asked since rise go =
    let mine : Mark = record { device = device_of c; minute = minute; clock = clock } in
    let before : Accepted = asked.0 in
    let was : HandsGo all done marks h firsts (Some before) = subst (HandsGo all done marks h firsts) asked.1 go in
    let from : before.held.inserted ≤ minute = let low = since was.holds.0 (last-in all was.holds.1.earlier was.holds.0 was.holds.1.are) in let same = was.holds.2.inserted in omega (arith, low, same) in
    subst (λ (k : Holding). HandsGo all done (marks ++ mine ∷ []) (hands_by (Has accepted clock) k minute h) (firsts_by (Has accepted clock) c k minute firsts) (Some accepted)) (sym asked.3)
    (hands-kept all done marks h firsts before was mine from (λ x there. increase-apart marks (mine ∷ []) rise x mine there (Contains-push [] mine)) accepted asked.2)
  where
    last-in : (all earlier : List Session) (l : Session) → all ≡ earlier ++ l ∷ [] → Contains all l
    last-in all earlier l is = subst (λ (k : List Session). Contains k l) (sym is) (Contains-push earlier l)
fate-handed Fell c minute held session all done marks h firsts asked since rise go =
    let before : Accepted = asked.0 in
    subst (λ (ms : List Mark). HandsGo all done ms (hands_by Fell held minute h) firsts None) (sym (append-nil marks))
    (subst (λ (k : Holding). HandsGo all done marks (hands_by Fell k minute h) firsts None) (sym asked.2)
    (hands-broken all done marks h firsts before (subst (HandsGo all done marks h firsts) asked.1 go) (minute / 1440)))

-- ---- with which newest minute its session was accepted

-- the last of some sessions is one of them
last-there : (all : List Session) (s : Session) → last all ≡ Some s → Contains all s
last-there [] s is = absurd (cc)
last-there (l ∷ []) s is = subst (Contains (l ∷ [])) (let e : l ≡ s = cc in e) (Contains-push [] l)
last-there (l ∷ k ∷ all) s is = Contains-append_right (l ∷ []) (k ∷ all) s (last-there (k ∷ all) s is)

-- behind a keep a session has a first minute
first-some : (minute : ℕ) (begun : Option ℕ) → first_of minute begun ≡ None → ⊥
first-some minute None is = absurd (cc)
first-some minute (Some first) is = absurd (cc)

fate-known : (fate : Fate) (start : Start) (past : List HistoryMinute) (i : HistoryMinute) (c : Card) (minute : ℕ) (held : Holding) (session : Option Accepted) (all : List Session) (marks : List Mark) → WasAsked fate minute held session → ((l : Session) → Contains all l → l.second / 60 ≤ minute)
    → WasKnownLast start past c marks all session → WasKnownLast start (past ++ i ∷ []) c (marks ++ own_marks fate c minute) all (session_by fate session)
fate-known Still start past i c minute held session all marks asked since was = subst (λ (ms : List Mark). WasKnownLast start (past ++ i ∷ []) c ms all session) (sym (append-nil marks)) (known-more start past (i ∷ []) c marks all session was)
fate-known (Has accepted clock) start past i c minute held session all marks asked since was = λ s last_.
    let before : Accepted = asked.0 in
    let had : WasKnownLast start past c marks all (Some before) = subst (WasKnownLast start past c marks all) asked.1 was in
    let h : WasKnown start past c marks s before = had s last_ in
    record {
      newest = h.newest;
      most = known-behind start past (i ∷ []) c s.second h.newest h.most;
      above = λ k at lt. ⊎_elim
          (λ old. h.above k old lt)
          (λ new. absurd (let is = own-minute (Has accepted clock) c minute k new in let low = since s (last-there all s last_) in omega (arith, is, low, lt)))
          (Contains-append_cases marks (own_marks (Has accepted clock) c minute) k at);
      same = λ none. absurd (first-some minute before.held.begun (sym (ap (λ (x : Holding). x.begun) asked.2) ∙ none));
    }
fate-known Fell start past i c minute held session all marks asked since was = tt

-- ---- what a round makes of one card's marks and session

marks-one : (fate : Fate) (present : Option Card) (c : Card) (minute : ℕ) → marks_of (device_of c) (marks_by fate present minute) ≡ cond (is_this present c) (own_marks fate c minute) []
marks-one Still None c minute = refl
marks-one (Has a n) None c minute = refl
marks-one Fell None c minute = refl
marks-one Still (Some A) A minute = refl
marks-one Still (Some A) B minute = refl
marks-one Still (Some B) A minute = refl
marks-one Still (Some B) B minute = refl
marks-one (Has a n) (Some A) A minute = refl
marks-one (Has a n) (Some A) B minute = refl
marks-one (Has a n) (Some B) A minute = refl
marks-one (Has a n) (Some B) B minute = refl
marks-one Fell (Some A) A minute = refl
marks-one Fell (Some A) B minute = refl
marks-one Fell (Some B) A minute = refl
marks-one Fell (Some B) B minute = refl

session-one : (fate : Fate) (present : Option Card) (second : ℕ) (cabin : Cabin) (c : Card) → session_of (cabin_by fate present second cabin).cards c ≡ cond (is_this present c) (session_by fate (session_of cabin.cards c)) (session_of cabin.cards c)
session-one Still None second cabin c = refl
session-one (Has a n) None second cabin c = refl
session-one Fell None second cabin c = refl
session-one Still (Some A) second cabin A = refl
session-one Still (Some A) second cabin B = refl
session-one Still (Some B) second cabin A = refl
session-one Still (Some B) second cabin B = refl
session-one (Has a n) (Some A) second cabin A = refl
session-one (Has a n) (Some A) second cabin B = refl
session-one (Has a n) (Some B) second cabin A = refl
session-one (Has a n) (Some B) second cabin B = refl
session-one Fell (Some A) second cabin A = refl
session-one Fell (Some A) second cabin B = refl
session-one Fell (Some B) second cabin A = refl
session-one Fell (Some B) second cabin B = refl

-- the unit's mark is none of a card
none-of-unit : (c : Card) (minute clock : ℕ) → marks_of (device_of c) (unit_mark minute clock ∷ []) ≡ []
none-of-unit A minute clock = refl
none-of-unit B minute clock = refl

-- two cards, of which one is this one at most
marks-both : (a b : Bool) (xs mine its : List Mark) → a ≡ true → b ≡ false → (((xs ++ []) ++ cond a mine []) ++ cond b its []) ≡ xs ++ mine
marks-both true false xs mine its is not_ = append-nil ((xs ++ []) ++ mine) ∙ ap (λ (l : List Mark). l ++ mine) (append-nil xs)
marks-both true true xs mine its is not_ = absurd (cc)
marks-both false b xs mine its is not_ = absurd (cc)

marks-second : (a b : Bool) (xs mine its : List Mark) → a ≡ false → b ≡ true → (((xs ++ []) ++ cond a mine []) ++ cond b its []) ≡ xs ++ its
marks-second false true xs mine its not_ is = ap (λ (l : List Mark). l ++ its) (append-nil (xs ++ []) ∙ append-nil xs)
marks-second false false xs mine its not_ is = absurd (cc)
marks-second true b xs mine its not_ is = absurd (cc)

marks-none : (a b : Bool) (xs mine its : List Mark) → a ≡ false → b ≡ false → (((xs ++ []) ++ cond a mine []) ++ cond b its []) ≡ xs ++ []
marks-none false false xs mine its not_ nor = append-nil ((xs ++ []) ++ []) ∙ append-nil (xs ++ [])
marks-none false true xs mine its not_ nor = absurd (cc)
marks-none true b xs mine its not_ nor = absurd (cc)

-- the marks of a device behind a round
module _ (device : Device) (p : Present) (minute : ℕ) (round : Round) (ms : List Mark) where
  abbrev with_unit : List Mark
  with_unit = ms ++ unit_mark minute round.clock ∷ []

  abbrev with_driver : List Mark
  with_driver = with_unit ++ marks_by round.driver p.driver minute

  marks-parts : marks_of device (with_driver ++ marks_by round.codriver p.codriver minute)
      ≡ ((marks_of device ms ++ marks_of device (unit_mark minute round.clock ∷ [])) ++ marks_of device (marks_by round.driver p.driver minute)) ++ marks_of device (marks_by round.codriver p.codriver minute)
  marks-parts =
      append_of with_driver (marks_by round.codriver p.codriver minute)
      ∙ ap (λ (l : List Mark). l ++ marks_of device (marks_by round.codriver p.codriver minute))
      (append_of with_unit (marks_by round.driver p.driver minute)
      ∙ ap (λ (l : List Mark). l ++ marks_of device (marks_by round.driver p.driver minute)) (append_of ms (unit_mark minute round.clock ∷ [])))
    where
      append_of : (xs ys : List Mark) → marks_of device (xs ++ ys) ≡ marks_of device xs ++ marks_of device ys
      append_of xs ys = filter-append (λ (m : Mark). is_of device m.device) xs ys

  -- if they increase, so did those before it
  pub increased : Increase (marks_of device (with_driver ++ marks_by round.codriver p.codriver minute)) → Increase (marks_of device ms)
  increased rise =
      let unit_ : List Mark = marks_of device (unit_mark minute round.clock ∷ []) in
      let driver_ : List Mark = marks_of device (marks_by round.driver p.driver minute) in
      increase-front (marks_of device ms) unit_
      (increase-front (marks_of device ms ++ unit_) driver_
      (increase-front ((marks_of device ms ++ unit_) ++ driver_) (marks_of device (marks_by round.codriver p.codriver minute)) (subst Increase marks-parts rise)))

-- and behind some rounds
pub increased-by : (device : Device) (k : Keeper) (s : TraceSecond) (q : Point) (xs : List Done) (t : KeepingState) → Increase (marks_of device (told_by k (moment_of s q) xs t).marks.items) → Increase (marks_of device t.marks.items)
increased-by device k s q [] t rise = rise
increased-by device k s q (x ∷ xs) t rise =
    increased device (present_at k.cabin x.minute.minute) x.minute.minute x.round t.marks.items
    (increased-by device k s q xs (told_after (present_at k.cabin x.minute.minute) x.minute.minute (moment_of s q) x.round t) rise)

-- ---- A ROUND

-- what is known of entries by hand, with these marks, breaks and sessions, behind the minutes of this book
abbrev pub HandedBy : (o : Origin) (done : List TraceSecond) (s : TraceSecond) (q : Point) (b : Beginning) (v : Values) → KeepingState → RunLedger → Book → Type 0
HandedBy o done s q b v t w book = AreHandedIn (start_at o) book.sure o.found b.run.log done s q.at (told_values t v).log (course_in b done s q.at (told_values t v).log) v.stops t.marks.items w.hands w.firsts (session_of t.keeper.cabin.cards)

-- and behind those of what is carried
abbrev pub HandedAt : (o : Origin) (done : List TraceSecond) (s : TraceSecond) (q : Point) (b : Beginning) (v : Values) → KeepingState → RunLedger → Type 0
HandedAt o done s q b v t w = HandedBy o done s q b v t w w.book

module _ (o : Origin) (done : List TraceSecond) (s : TraceSecond) (q : Point) (b : Beginning) (v : Values) (k : Keeper) (point : IsPoint s q) where
  -- a card that is torn out bears on nothing that was asked
  asked-breaks : (fate : Fate) (slot : Slot) (log : RunLog) → asked_so_far b.run.log done (and_breaks log (breaks_by fate slot (moment_of s q))) s (actions_to q.at s.actions) ≡ asked_so_far b.run.log done log s (actions_to q.at s.actions)
  asked-breaks Still slot log = ap (λ (bs : List Break). asked_so_far b.run.log done (record log { breaks = bs }) s (actions_to q.at s.actions)) (append-nil log.breaks)
  asked-breaks (Has a n) slot log = ap (λ (bs : List Break). asked_so_far b.run.log done (record log { breaks = bs }) s (actions_to q.at s.actions)) (append-nil log.breaks)
  asked-breaks Fell slot log = asked-torn b.run.log done log s q.at slot true (tear_of slot (moment_of s q)) (q.begun, q.late, refl, point.phase, point.few, point.all)

  module _ (m : Minute) (round : Round) (failed : Bool) (t : KeepingState) (w : RunLedger)
      (is : IsRound (present_at k.cabin m.minute) (minute_of m k) (moment_of s q) failed t.keeper round) (two : AreTwo (present_at k.cabin m.minute).driver (present_at k.cabin m.minute).codriver) where
    abbrev p : Present
    p = present_at k.cabin m.minute

    abbrev u : KeepingState
    u = told_after p m.minute (moment_of s q) round t

    abbrev x : RunLedger
    x = carried_after p (decided_minute k m) round w

    abbrev c : Course
    c = course_in b done s q.at (told_values t v).log

    abbrev d : Course
    d = course_in b done s q.at (told_values u v).log

    abbrev asked : List Asked
    asked = asked_so_far b.run.log done (told_values t v).log s (actions_to q.at s.actions)

    abbrev then_ : List Asked
    then_ = asked_so_far b.run.log done (told_values u v).log s (actions_to q.at s.actions)

    same-asked : then_ ≡ asked
    same-asked =
        asked-breaks round.codriver CoDriver (and_breaks (told_values t v).log (breaks_by round.driver Driver (moment_of s q)))
        ∙ asked-breaks round.driver Driver (told_values t v).log

    abbrev all_of : Card → List Session
    all_of y = sessions_so_far y (told_before b done) s.number c

    abbrev done_of : Card → List Asked
    done_of y = done_for y v.stops asked

    abbrev marks_for : Card → List Mark
    marks_for y = marks_of (device_of y) t.marks.items

    -- of one card, with what became of its entry
    into : (y : Card) (fate : Fate) (held : Holding) → fate_of p round y ≡ fate → held_of p round y ≡ held → session_of u.keeper.cabin.cards y ≡ session_by fate (session_of t.keeper.cabin.cards y) → marks_of (device_of y) u.marks.items ≡ marks_for y ++ own_marks fate y m.minute
        → WasAsked fate m.minute held (session_of t.keeper.cabin.cards y) → ((l : Session) → Contains (all_of y) l → l.second / 60 ≤ m.minute) → Increase (marks_of (device_of y) u.marks.items)
        → HandsGo (all_of y) (done_of y) (marks_for y) (w.hands y) (w.firsts y) (session_of t.keeper.cabin.cards y)
        → HandsGo (all_of y) (done_of y) (marks_of (device_of y) u.marks.items) (x.hands y) (x.firsts y) (session_of u.keeper.cabin.cards y)
    into y fate held fate_is held_is session marks asked_ since rise go =
        subst (λ (f : Fate). HandsGo (all_of y) (done_of y) (marks_of (device_of y) u.marks.items) (hands_by f (held_of p round y) m.minute (w.hands y)) (firsts_by f y (held_of p round y) m.minute (w.firsts y)) (session_of u.keeper.cabin.cards y)) (sym fate_is)
        (subst (λ (h : Holding). HandsGo (all_of y) (done_of y) (marks_of (device_of y) u.marks.items) (hands_by fate h m.minute (w.hands y)) (firsts_by fate y h m.minute (w.firsts y)) (session_of u.keeper.cabin.cards y)) (sym held_is)
        (subst (λ (a : Option Accepted). HandsGo (all_of y) (done_of y) (marks_of (device_of y) u.marks.items) (hands_by fate held m.minute (w.hands y)) (firsts_by fate y held m.minute (w.firsts y)) a) (sym session)
        (subst (λ (ms : List Mark). HandsGo (all_of y) (done_of y) ms (hands_by fate held m.minute (w.hands y)) (firsts_by fate y held m.minute (w.firsts y)) (session_by fate (session_of t.keeper.cabin.cards y))) (sym marks)
        (fate-handed fate y m.minute held (session_of t.keeper.cabin.cards y) (all_of y) (done_of y) (marks_for y) (w.hands y) (w.firsts y) asked_ since (subst Increase marks rise) go))))

    abbrev cabin1 : Cabin
    cabin1 = cabin_by round.driver p.driver s.number t.keeper.cabin

    -- its marks, by where it was present
    marks-are : (y : Card) → marks_of (device_of y) u.marks.items
        ≡ (((marks_for y ++ []) ++ cond (is_this p.driver y) (own_marks round.driver y m.minute) []) ++ cond (is_this p.codriver y) (own_marks round.codriver y m.minute) [])
    marks-are y =
        marks-parts (device_of y) p m.minute round t.marks.items
        ∙ ap (λ (l : List Mark). ((marks_for y ++ l) ++ marks_of (device_of y) (marks_by round.driver p.driver m.minute)) ++ marks_of (device_of y) (marks_by round.codriver p.codriver m.minute)) (none-of-unit y m.minute round.clock)
        ∙ ap (λ (l : List Mark). ((marks_for y ++ []) ++ l) ++ marks_of (device_of y) (marks_by round.codriver p.codriver m.minute)) (marks-one round.driver p.driver y m.minute)
        ∙ ap (λ (l : List Mark). ((marks_for y ++ []) ++ cond (is_this p.driver y) (own_marks round.driver y m.minute) []) ++ l) (marks-one round.codriver p.codriver y m.minute)

    -- and its session
    session-first : (y : Card) → session_of cabin1.cards y ≡ cond (is_this p.driver y) (session_by round.driver (session_of t.keeper.cabin.cards y)) (session_of t.keeper.cabin.cards y)
    session-first y = session-one round.driver p.driver s.number t.keeper.cabin y

    session-is : (y : Card) → session_of u.keeper.cabin.cards y ≡ cond (is_this p.codriver y) (session_by round.codriver (session_of cabin1.cards y)) (session_of cabin1.cards y)
    session-is y = session-one round.codriver p.codriver s.number cabin1 y

    -- the driver's card was asked with the session that it had
    driver-asked : (y : Card) → is_this p.driver y ≡ true → WasAsked round.driver m.minute round.driver_held (session_of t.keeper.cabin.cards y)
    driver-asked y here =
        subst (WasAsked round.driver m.minute round.driver_held) (ap (session_at t.keeper.cabin.cards) (this-one p.driver y here))
        (was-asked round.driver (kept_in (minute_of m k) Driver) round.driver_held (session_at t.keeper.cabin.cards p.driver) is.driver is.driver_holds)

    -- and the co-driver's, if it was asked
    codriver-asked : (y : Card) → is_this p.driver y ≡ false → is_this p.codriver y ≡ true → WasAsked round.codriver m.minute round.codriver_held (session_of t.keeper.cabin.cards y)
    codriver-asked y apart here =
        subst (WasAsked round.codriver m.minute round.codriver_held) (other-session round.driver p.driver s.number t.keeper.cabin y apart)
        (subst (WasAsked round.codriver m.minute round.codriver_held) (ap (session_at cabin1.cards) (this-one p.codriver y here))
        (⊎_elim
        (λ off. subst (λ (f : Fate). WasAsked f m.minute round.codriver_held (session_at cabin1.cards p.codriver)) (sym off.not_asked) tt)
        (λ asked_. was-asked round.codriver (kept_in (minute_of m k) CoDriver) round.codriver_held (session_at cabin1.cards p.codriver) asked_ is.codriver_holds)
        is.codriver))

    each : (y : Card) → ((l : Session) → Contains (all_of y) l → l.second / 60 ≤ m.minute) → Increase (marks_of (device_of y) u.marks.items)
        → HandsGo (all_of y) (done_of y) (marks_for y) (w.hands y) (w.firsts y) (session_of t.keeper.cabin.cards y)
        → HandsGo (all_of y) (done_of y) (marks_of (device_of y) u.marks.items) (x.hands y) (x.firsts y) (session_of u.keeper.cabin.cards y)
    each y since rise go = by (is_this p.driver y) (is_this p.codriver y) refl refl
      where
        now : Option Accepted
        now = session_of t.keeper.cabin.cards y

        by : (a e : Bool) → is_this p.driver y ≡ a → is_this p.codriver y ≡ e → HandsGo (all_of y) (done_of y) (marks_of (device_of y) u.marks.items) (x.hands y) (x.firsts y) (session_of u.keeper.cabin.cards y)
        by true e first second =
            let apart : is_this p.codriver y ≡ false = apart-both p.driver p.codriver two y first in
            into y round.driver round.driver_held
            (ap (λ (z : Bool). if z then round.driver else (if is_this p.codriver y then round.codriver else Still)) first)
            (ap (λ (z : Bool). if z then round.driver_held else (if is_this p.codriver y then round.codriver_held else none_held 0)) first)
            (session-is y
            ∙ ap (λ (z : Bool). cond z (session_by round.codriver (session_of cabin1.cards y)) (session_of cabin1.cards y)) apart
            ∙ session-first y
            ∙ ap (λ (z : Bool). cond z (session_by round.driver now) now) first)
            (marks-are y ∙ marks-both (is_this p.driver y) (is_this p.codriver y) (marks_for y) (own_marks round.driver y m.minute) (own_marks round.codriver y m.minute) first apart)
            (driver-asked y first) since rise go
        by false true first second =
            into y round.codriver round.codriver_held
            (ap (λ (z : Bool). if z then round.driver else (if is_this p.codriver y then round.codriver else Still)) first ∙ ap (λ (z : Bool). if z then round.codriver else Still) second)
            (ap (λ (z : Bool). if z then round.driver_held else (if is_this p.codriver y then round.codriver_held else none_held 0)) first ∙ ap (λ (z : Bool). if z then round.codriver_held else none_held 0) second)
            (session-is y
            ∙ ap (λ (z : Bool). cond z (session_by round.codriver (session_of cabin1.cards y)) (session_of cabin1.cards y)) second
            ∙ ap (session_by round.codriver) (session-first y ∙ ap (λ (z : Bool). cond z (session_by round.driver now) now) first))
            (marks-are y ∙ marks-second (is_this p.driver y) (is_this p.codriver y) (marks_for y) (own_marks round.driver y m.minute) (own_marks round.codriver y m.minute) first second)
            (codriver-asked y first second) since rise go
        by false false first second =
            into y Still (none_held 0)
            (ap (λ (z : Bool). if z then round.driver else (if is_this p.codriver y then round.codriver else Still)) first ∙ ap (λ (z : Bool). if z then round.codriver else Still) second)
            (ap (λ (z : Bool). if z then round.driver_held else (if is_this p.codriver y then round.codriver_held else none_held 0)) first ∙ ap (λ (z : Bool). if z then round.codriver_held else none_held 0) second)
            (session-is y
            ∙ ap (λ (z : Bool). cond z (session_by round.codriver (session_of cabin1.cards y)) (session_of cabin1.cards y)) second
            ∙ session-first y
            ∙ ap (λ (z : Bool). cond z (session_by round.driver now) now) first)
            (marks-are y ∙ marks-none (is_this p.driver y) (is_this p.codriver y) (marks_for y) (own_marks round.driver y m.minute) (own_marks round.codriver y m.minute) first second)
            tt since rise go

    -- the marks that are given of a card
    own-of : (y : Card) → (own : List Mark) × (marks_of (device_of y) u.marks.items ≡ marks_for y ++ own) × ((x : Mark) → Contains own x → x.minute ≡ m.minute)
    own-of y = by (is_this p.driver y) (is_this p.codriver y) refl refl
      where
        by : (a e : Bool) → is_this p.driver y ≡ a → is_this p.codriver y ≡ e → (own : List Mark) × (marks_of (device_of y) u.marks.items ≡ marks_for y ++ own) × ((x : Mark) → Contains own x → x.minute ≡ m.minute)
        by true e first second = (
          own_marks round.driver y m.minute,
          marks-are y ∙ marks-both (is_this p.driver y) (is_this p.codriver y) (marks_for y) (own_marks round.driver y m.minute) (own_marks round.codriver y m.minute) first (apart-both p.driver p.codriver two y first),
          own-minute round.driver y m.minute,
        )
        by false true first second = (
          own_marks round.codriver y m.minute,
          marks-are y ∙ marks-second (is_this p.driver y) (is_this p.codriver y) (marks_for y) (own_marks round.driver y m.minute) (own_marks round.codriver y m.minute) first second,
          own-minute round.codriver y m.minute,
        )
        by false false first second = (
          own_marks Still y m.minute,
          marks-are y ∙ marks-none (is_this p.driver y) (is_this p.codriver y) (marks_for y) (own_marks round.driver y m.minute) (own_marks round.codriver y m.minute) first second,
          own-minute Still y m.minute,
        )

    -- what became of a card's entry, as its marks and its session go
    step-of : (y : Card) → (fate : Fate) × (held : Holding) × (session_of u.keeper.cabin.cards y ≡ session_by fate (session_of t.keeper.cabin.cards y))
        × (marks_of (device_of y) u.marks.items ≡ marks_for y ++ own_marks fate y m.minute) × WasAsked fate m.minute held (session_of t.keeper.cabin.cards y)
    step-of y = by (is_this p.driver y) (is_this p.codriver y) refl refl
      where
        now : Option Accepted
        now = session_of t.keeper.cabin.cards y

        by : (a e : Bool) → is_this p.driver y ≡ a → is_this p.codriver y ≡ e → (fate : Fate) × (held : Holding) × (session_of u.keeper.cabin.cards y ≡ session_by fate (session_of t.keeper.cabin.cards y))
            × (marks_of (device_of y) u.marks.items ≡ marks_for y ++ own_marks fate y m.minute) × WasAsked fate m.minute held (session_of t.keeper.cabin.cards y)
        by true e first second =
            let apart : is_this p.codriver y ≡ false = apart-both p.driver p.codriver two y first in (
              round.driver,
              round.driver_held,
              session-is y
                  ∙ ap (λ (z : Bool). cond z (session_by round.codriver (session_of cabin1.cards y)) (session_of cabin1.cards y)) apart
                  ∙ session-first y
                  ∙ ap (λ (z : Bool). cond z (session_by round.driver now) now) first,
              marks-are y ∙ marks-both (is_this p.driver y) (is_this p.codriver y) (marks_for y) (own_marks round.driver y m.minute) (own_marks round.codriver y m.minute) first apart,
              driver-asked y first,
            )
        by false true first second = (
          round.codriver,
          round.codriver_held,
          session-is y
              ∙ ap (λ (z : Bool). cond z (session_by round.codriver (session_of cabin1.cards y)) (session_of cabin1.cards y)) second
              ∙ ap (session_by round.codriver) (session-first y ∙ ap (λ (z : Bool). cond z (session_by round.driver now) now) first),
          marks-are y ∙ marks-second (is_this p.driver y) (is_this p.codriver y) (marks_for y) (own_marks round.driver y m.minute) (own_marks round.codriver y m.minute) first second,
          codriver-asked y first second,
        )
        by false false first second = (
          Still,
          none_held 0,
          session-is y
              ∙ ap (λ (z : Bool). cond z (session_by round.codriver (session_of cabin1.cards y)) (session_of cabin1.cards y)) second
              ∙ session-first y
              ∙ ap (λ (z : Bool). cond z (session_by round.driver now) now) first,
          marks-are y ∙ marks-none (is_this p.driver y) (is_this p.codriver y) (marks_for y) (own_marks round.driver y m.minute) (own_marks round.codriver y m.minute) first second,
          tt,
        )

    -- with which newest minute its session was accepted
    known-at : (y : Card) → ((l : Session) → Contains (all_of y) l → l.second / 60 ≤ m.minute) → WasKnownLast (start_at o) w.book.sure y (marks_for y) (all_of y) (session_of t.keeper.cabin.cards y)
        → WasKnownLast (start_at o) x.book.sure y (marks_of (device_of y) u.marks.items) (all_of y) (session_of u.keeper.cabin.cards y)
    known-at y since had =
        let z = step-of y in
        known-as (start_at o) x.book.sure y (marks_for y ++ own_marks z.0 y m.minute) (marks_of (device_of y) u.marks.items) (all_of y) (all_of y) (session_by z.0 (session_of t.keeper.cabin.cards y)) (session_of u.keeper.cabin.cards y) (sym z.3) refl (sym z.2)
        (fate-known z.0 (start_at o) w.book.sure (decided_minute k m) y m.minute z.1 (session_of t.keeper.cabin.cards y) (all_of y) (marks_for y) z.4 since had)

    -- each that was asked was so by now
    asked-near : (y : Card) (minute : ℕ) → minute ≡ m.minute → s.number / 60 ≤ m.minute + 4 → All (λ (x : TraceSecond). x.number < s.number) done → All (λ (a : Asked). a.second / 60 ≤ minute + 4) (asked_for y asked)
    asked-near y minute same few early =
        All-filter (λ (a : Asked). same_card y a.sitting.card) (λ (a : Asked). a.second / 60 ≤ minute + 4) asked
        (All-weaker (IsAskedBy s.number (length (actions_to q.at s.actions))) (λ (a : Asked). a.second / 60 ≤ minute + 4)
        (λ a by_now. ⊎_elim (λ lt. omega (arith, lt, same, few)) (λ here. let is_ = here.0 in omega (arith, is_, same, few)) by_now) asked
        (asked-by_now b.run.log done (told_values t v).log s (actions_to q.at s.actions) early))

    -- why those were stopped that were asked
    stopped : (y : Card) → d.found ≡ c.found → ((l : Session) → Contains (all_of y) l → l.second / 60 ≤ m.minute) → Increase (marks_of (device_of y) u.marks.items) → s.number / 60 ≤ m.minute + 4 → All (λ (x : TraceSecond). x.number < s.number) done
        → All (IsStoppedBy (IsKnown (start_at o) w.book.sure y) (all_of y) (done_of y) (marks_for y) v.stops) (asked_for y asked)
        → All (IsStoppedBy (IsKnown (start_at o) x.book.sure y) (sessions_so_far y (told_before b done) s.number d) (done_for y v.stops then_) (marks_of (device_of y) u.marks.items) v.stops) (asked_for y then_)
    stopped y found since rise few early had =
        let own = own-of y in
        stopped-as (start_at o) x.book.sure y (all_of y) (sessions_so_far y (told_before b done) s.number d) (done_of y) (done_for y v.stops then_) (marks_for y ++ own.0) (marks_of (device_of y) u.marks.items) v.stops v.stops (asked_for y asked) (asked_for y then_)
        (ap (λ (fs : List (Visit × Verdict)). sessions_in y (told_before b done) ++ sessions_found y s.number fs) (sym found)) (ap (done_for y v.stops) (sym same-asked)) (sym own.1) refl (ap (asked_for y) (sym same-asked))
        (stopped-behind (start_at o) w.book.sure (decided_minute k m ∷ []) y (all_of y) (done_of y) (marks_for y ++ own.0) v.stops (asked_for y asked)
        (stopped-kept (start_at o) w.book.sure y (all_of y) (marks_for y) own.0 (λ old new at there. increase-apart (marks_for y) own.0 (subst Increase own.1 rise) old new at there)
        (λ l new at there. let low = since l at in let is_ = own.2 new there in omega (arith, low, is_)) (done_of y) v.stops (asked_for y asked) (λ new there. asked-near y new.minute (own.2 new there) few early) had))

    -- ALL OF IT
    pub round-handed : s.number / 60 ≤ m.minute + 4 → All (λ (x : TraceSecond). x.number < s.number) done → d.found ≡ c.found → ((y : Card) (l : Session) → Contains (all_of y) l → l.second / 60 ≤ m.minute) → ((y : Card) → Increase (marks_of (device_of y) u.marks.items)) → HandedAt o done s q b v t w → HandedAt o done s q b v u x
    round-handed few early found since rise had = record {
      each = λ y valid. go-as (all_of y) (sessions_so_far y (told_before b done) s.number d) (done_of y) (done_for y v.stops then_) (marks_of (device_of y) u.marks.items) (marks_of (device_of y) u.marks.items) (x.hands y) (x.firsts y) (session_of u.keeper.cabin.cards y) (session_of u.keeper.cabin.cards y)
          (ap (λ (fs : List (Visit × Verdict)). sessions_in y (told_before b done) ++ sessions_found y s.number fs) (sym found)) (ap (done_for y v.stops) (sym same-asked)) refl refl
          (each y (since y) (rise y) (had.each y valid));
      known = λ y valid. known-as (start_at o) x.book.sure y (marks_of (device_of y) u.marks.items) (marks_of (device_of y) u.marks.items) (all_of y) (sessions_so_far y (told_before b done) s.number d) (session_of u.keeper.cabin.cards y) (session_of u.keeper.cabin.cards y) refl
          (ap (λ (fs : List (Visit × Verdict)). sessions_in y (told_before b done) ++ sessions_found y s.number fs) (sym found)) refl
          (known-at y (since y) (had.known y valid));
      stopped = λ y valid. stopped y found (since y) (rise y) few early (had.stopped y valid);
      told = subst (AreToldOf v.stops) (sym same-asked) had.told;
    }

-- ---- SOME ROUNDS, and one more

module _ (o : Origin) (done : List TraceSecond) (s : TraceSecond) (q : Point) (b : Beginning) (os : Outset) (first last : Device → ℕ) (k : Keeper) (sp : Span) (v : Values) (marks0 : List Mark) (c0 : Course) (brought : Card → List ℕ)
    (few : s.number / 60 ≤ os.low + 4) (two : (m : ℕ) → AreTwo (present_at k.cabin m).driver (present_at k.cabin m).codriver)
    (since : (y : Card) (l : Session) → Contains (sessions_so_far y (told_before b done) s.number c0) l → l.second / 60 ≤ os.low) (early : All (λ (x : TraceSecond). x.number < s.number) done) where
  -- one round
  pub one-handed : (m : Minute) (rest : List Minute) (round : Round) (failed : Bool) (t : KeepingState) (w : RunLedger) (ds : List Minute) (new : List HistoryMinute) (from : ℕ) → SoFar o done s q b os first last k sp v marks0 c0 brought t w ds (m ∷ rest) new from
      → IsRound (present_at k.cabin m.minute) (minute_of m k) (moment_of s q) failed t.keeper round → HasBrokenDown round.driver (present_at k.cabin m.minute).driver first last → HasBrokenDown round.codriver (present_at k.cabin m.minute).codriver first last
      → ((y : Card) → Increase (marks_of (device_of y) (told_after (present_at k.cabin m.minute) m.minute (moment_of s q) round t).marks.items))
      → HandedAt o done s q b v t w → HandedAt o done s q b v (told_after (present_at k.cabin m.minute) m.minute (moment_of s q) round t) (carried_after (present_at k.cabin m.minute) (decided_minute k m) round w)
  one-handed m rest round failed t w ds new from h is broken more rise had =
      let next = one-on o done s q b os first last k sp v marks0 c0 brought few two m rest round failed t w ds new from h is broken more in
      round-handed o done s q b v k h.slate.point m round failed t w is (two m.minute)
      (let high = h.high in let here = (first-number m rest from h.numbers).0 in omega (arith, few, high, here)) early
      (next.same.found ∙ sym h.same.found)
      (λ y l there.
      let low = since y l (subst (λ (fs : List (Visit × Verdict)). Contains (sessions_in y (told_before b done) ++ sessions_found y s.number fs) l) h.same.found there) in
      let high = h.high in
      let here = (first-number m rest from h.numbers).0 in
      omega (arith, low, high, here))
      rise had

  -- those of some
  pub all-handed : (xs : List Done) (tail : List Minute) (t : KeepingState) (w : RunLedger) (ds : List Minute) (new : List HistoryMinute) (from : ℕ) → SoFar o done s q b os first last k sp v marks0 c0 brought t w ds (map (λ (x : Done). x.minute) xs ++ tail) new from
      → AreRounds k (moment_of s q) xs t → HaveBroken k xs first last → ((y : Card) → Increase (marks_of (device_of y) (told_by k (moment_of s q) xs t).marks.items))
      → HandedAt o done s q b v t w → HandedAt o done s q b v (told_by k (moment_of s q) xs t) (carried_by k xs w)
  all-handed [] tail t w ds new from h rounds broken rise had = had
  all-handed (x ∷ xs) tail t w ds new from h rounds broken rise had =
      let m = x.minute in
      let rest : List Minute = map (λ (y : Done). y.minute) xs ++ tail in
      let then_ : KeepingState = told_after (present_at k.cabin m.minute) m.minute (moment_of s q) x.round t in
      all-handed xs tail then_ (carried_after (present_at k.cabin m.minute) (decided_minute k m) x.round w) (ds ++ m ∷ []) (new ++ decided_minute k m ∷ []) (suc from)
      (one-on o done s q b os first last k sp v marks0 c0 brought few two m rest x.round false t w ds new from h rounds.0 broken.0 broken.1)
      rounds.1 broken.2 rise
      (one-handed m rest x.round false t w ds new from h rounds.0 broken.0 broken.1 (λ y. increased-by (device_of y) k s q xs then_ (rise y)) had)
