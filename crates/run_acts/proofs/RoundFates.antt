-- What became of the entry of a card that was present, in the keeping of a second: the slots, the log and the standings behind it.
use Rattle.std.proofs.Common.{◌≡◌, ◌⊎◌, inl, inr, ⊎_elim, ℕ, suc, ◌+◌, ◌/◌, ◌≤◌, ◌<◌, Bool, true, false, Option, Some, None, IfSome, is_some, List, [], ◌∷◌, ◌++◌, Contains, map, refl, ap, sym, subst, ◌∙◌, arith, append-nil}
use Rattle.std.specs.Prelude.{if◌then◌else◌}
use Rattle.std.proofs.lemmas.List.Elements.{Contains-push}
use Rattle.activity_codec.specs.declared.values.Slot.{Slot}
use Rattle.activity_codec.specs.declared.values.Slot.TheVariants.{Driver, CoDriver}
use Rattle.trace_model.specs.declared.Card.{Card}
use Rattle.trace_model.specs.declared.Card.TheVariants.{A, B}
use Rattle.trace_model.specs.Trace.{TraceSecond}
use Rattle.log_model.specs.run_model.declared.Device.{Device}
use Rattle.log_model.specs.run_model.declared.Device.TheVariants.{Unit as Recorder, CardA, CardB}
use Rattle.log_model.specs.declared.lines.Break.{Break}
use Rattle.log_model.specs.Log.{RunLog, Phase, is_torn_in}
use Rattle.log_model.specs.Slots.{Slots, Sitting, same_card, in_slot}
use Rattle.log_model.specs.Causes.{device_of, RoseBy}
use Rattle.log_model.specs.Course.{ToldSecond, Course, Visit, Before, visits, card_in, went}
use Rattle.device_calls.specs.history_model.Minutes.{HistoryMinute}
use Rattle.hand_model.specs.card_image.Own.{IsOwnValid}
use Rattle.device_calls.specs.card_session.declared.session.Kept.{Kept}
use Rattle.device_calls.specs.device_rule.Rules.{Standing, In}
use Rattle.run_crew.specs.card_slots.declared.seats.Seat.{Seat}
use Rattle.run_crew.specs.card_slots.declared.seats.Present.{Present}
use Rattle.run_crew.specs.card_slots.Calls.{seat_in, is_card, present_in}
use Rattle.run_crew.specs.card_slots.Kept.{Kept as Slate_, SitsSince, SitStill, with_left, left_of, taken}
use Rattle.run_crew.proofs.card_slots.Newest.{found_sits}
use Rattle.run_crew.specs.declared.cards.Accepted.{Accepted}
use Rattle.run_crew.specs.declared.cards.Cards.{Cards}
use Rattle.run_crew.specs.declared.cabin.Cabin.{Cabin}
use Rattle.run_crew.specs.Cards.{session_of, with_session}
use Rattle.run_crew.specs.Cabin.{SitsNowhere, left_from, torn_out}
use Rattle.run_crew.proofs.Sessions.{same_self, same_is, session_set, session_apart}
use Rattle.run_minutes.specs.run_promise.Found.{found_of}
use Rattle.run_events.specs.run_course.Moments.{and_break}
use Rattle.run_events.specs.run_course.Presence.{SlotsTell}
use Rattle.run_events.specs.run_course.Within.{IsTornFrom}
use Rattle.run_events.proofs.run_course.Within.{tear-tells}
use Rattle.run_events.specs.run_course.Reached.{moved_at, IsTearAt}
use Rattle.run_events.specs.run_course.Lines.{IsTornAt}
use Rattle.run_events.specs.run_course.Moment.{Moment}
use Rattle.run_events.specs.run_course.Telling.{BrokeDown}
use Rattle.run_events.specs.run_course.Kept.{StaysOut}
use Rattle.run_events.proofs.run_course.Lines.{who-sits}
use Rattle.run_events.proofs.run_course.Telling.{card-torn}
use Rattle.run_minutes.specs.run_devices.Presence.{SessionsStand, StaysSo, HasMore, IsTornOut, sits}
use Rattle.run_minutes.proofs.run_devices.Presence.{step-leaves}
use Rattle.run_minutes.specs.run_promise.Origin.{Origin, start_at}
use Rattle.run_minutes.specs.Keeping.{Fate, Still, Has, Fell, is_this, cabin_by, breaks_by, tear_of, session_at, card_in as present_of, IsFateOf, tears_of}
use Rattle.run_minutes.specs.Books.{standing_by}
use Rattle.run_record.specs.Within.{Beginning, told_before, course_in, IsLeaving}
use Rattle.run_record.specs.Recorded.{GoesOnIn}
use Rattle.run_record.proofs.Back.{low-too}
use Rattle.run_record.proofs.Moved.{not-leaving}
use Rattle.run_record.proofs.Seats.{no-both, this-or, seat-tells, none-sits, sits-there, sits-back, which-slot, one-slot, emptied, empty-still, nowhere-none, nowhere-not, left-other, tells-still}
use Rattle.run_record.proofs.Stays.{goes-taken, goes-still}
use Rattle.run_acts.specs.Rounds.{Point, Outset, moment_of, standing_card, and_breaks, StandsOrFell, Slate, OnlyTears, HasBrokenDown}
use Rattle.run_acts.proofs.RoundLeaving.{unseated, nowhere-still, leaving-on, torn-apart, moves-still}

-- ---- cases

ext : (f g : Card → Standing) → ((c : Card) → f c ≡ g c) → f ≡ g
ext f g same = λ i c. same c i

turned : (c d : Card) → same_card c d ≡ false → same_card d c ≡ false
turned A A is = is
turned B B is = is
turned A B is = refl
turned B A is = refl

-- the breakdowns, where a card has broken down as often as it will have
abbrev fallen : Card → (now last : Device → ℕ) → Device → ℕ
fallen A now last Recorder = now Recorder
fallen A now last CardA = last CardA
fallen A now last CardB = now CardB
fallen B now last Recorder = now Recorder
fallen B now last CardA = now CardA
fallen B now last CardB = last CardB

fallen-unit : (c : Card) (now last : Device → ℕ) → fallen c now last Recorder ≡ now Recorder
fallen-unit A now last = refl
fallen-unit B now last = refl

fallen-own : (c : Card) (now last : Device → ℕ) → fallen c now last (device_of c) ≡ last (device_of c)
fallen-own A now last = refl
fallen-own B now last = refl

fallen-other : (c d : Card) (now last : Device → ℕ) → same_card c d ≡ false → fallen c now last (device_of d) ≡ now (device_of d)
fallen-other A A now last is = no-both true refl is
fallen-other B B now last is = no-both true refl is
fallen-other A B now last is = refl
fallen-other B A now last is = refl

fallen-others : (c d : Card) (now last : Device → ℕ) → (d ≡ c → ⊥) → fallen c now last (device_of d) ≡ now (device_of d)
fallen-others A A now last apart = absurd (apart refl)
fallen-others B B now last apart = absurd (apart refl)
fallen-others A B now last apart = refl
fallen-others B A now last apart = refl

-- one step behind another
goes-both : (u : ℕ) (kept mid after : Slate_) (card : Card) → GoesOnIn u kept mid card → GoesOnIn u mid after card → GoesOnIn u kept after card
goes-both u kept mid after card (inl x) (inl y) = inl ((λ sits_. y.0 (x.0 sits_)), y.1 ∙ x.1)
goes-both u kept mid after card (inr left) (inl y) = inr (y.1 ∙ left)
goes-both u kept mid after card h (inr left) = inr left

-- ---- who sits

some-none : {T : Type 0} (o : Option Seat) (x : Seat) → o ≡ Some x → o ≡ None → T
some-none o x some none = let clash : None ≡ Some x = sym none ∙ some in absurd (cc)

-- two cards do not leave one slot
abbrev visit_by : Phase → Slot → Card → Visit
visit_by at slot card = record { phase = at; slot = slot; card = card }

two-leave : {T : Type 0} (c d : Card) → same_card c d ≡ false → (at : Phase) (slot : Slot) → visit_by at slot c ∷ [] ≡ visit_by at slot d ∷ [] → T
two-leave c d ne at slot same = no-both (same_card c c) (same_self c) (ap (same_card c) (first-card (visit_by at slot c) (visit_by at slot d) same) ∙ ne)
  where
    first-card : (x y : Visit) → x ∷ [] ≡ y ∷ [] → x.card ≡ y.card
    first-card x y same = let one : x ≡ y = cc in ap (λ (v : Visit). v.card) one

sits-since : (k : Slate_) (minute : ℕ) (present : Present) (slot : Slot) (card : Card) → SitStill k minute present → present_of present slot ≡ Some card → SitsSince k slot minute (Some card)
sits-since k minute present Driver card h is = subst (SitsSince k Driver minute) is h.driver
sits-since k minute present CoDriver card h is = subst (SitsSince k CoDriver minute) is h.codriver

if-both : {T : Type 0} (b : Bool) (t : T) → (if b then t else t) ≡ t
if-both true t = refl
if-both false t = refl

module _ (o : Origin) (done : List TraceSecond) (s : TraceSecond) (q : Point) (b : Beginning) (os : Outset) (m from : ℕ) (past : List HistoryMinute) (first last : Device → ℕ) (slot : Slot) (log : RunLog) (z : Card → Standing) (cabin : Cabin)
    (h : Slate o done s q b os from past log z cabin first last) (next : from ≡ suc m) (le : os.low ≤ m) (few : s.number / 60 ≤ m + 4) where
  abbrev c : Course
  c = course_in b done s q.at log

  abbrev told0 : List ToldSecond
  told0 = told_before b done

  abbrev log_by : Fate → RunLog
  log_by fate = and_breaks log (breaks_by fate slot (moment_of s q))

  -- what is had behind it
  pub record Behind (fate : Fate) (present : Option Card) : Type 0 where
    pub slate : Slate o done s q b os from past (log_by fate) (standing_card fate present m z) (cabin_by fate present s.number cabin) first last
    pub same : OnlyTears c (course_in b done s q.at (log_by fate))
    pub torn : (card : Card) → fate ≡ Fell → present ≡ Some card → (v : Visit) × (v.card ≡ card) × Contains (course_in b done s q.at (log_by fate)).torn v

  log-same : and_breaks log [] ≡ log
  log-same = ap (λ (bs : List Break). record log { breaks = bs }) (append-nil log.breaks)

  only-same : OnlyTears c (course_in b done s q.at (and_breaks log []))
  only-same = subst (λ (l : RunLog). OnlyTears c (course_in b done s q.at l)) (sym log-same)
      (record { picks = refl; settled = refl; found = refl; entered = refl; out = record { torn = λ v at. at; pulled = λ v at. at } })

  -- NO CALL was made
  standing-same : (present : Option Card) → standing_card Still present m z ≡ z
  standing-same present = ext (standing_card Still present m z) z (λ d. if-both (is_this present d) (z d))

  slate-still : (present : Option Card) → Slate o done s q b os from past (and_breaks log []) (standing_card Still present m z) cabin first last
  slate-still present = subst (λ (l : RunLog). Slate o done s q b os from past l (standing_card Still present m z) cabin first last) (sym log-same)
      (subst (λ (y : Card → Standing). Slate o done s q b os from past log y cabin first last) (sym (standing-same present)) h)

  still-behind : (present : Option Card) → Behind Still present
  still-behind None = record { slate = slate-still None; same = only-same; torn = λ card is at. absurd (cc) }
  still-behind (Some card) = record { slate = slate-still (Some card); same = only-same; torn = λ card is at. absurd (cc) }

  -- THE CARD HAS IT
  module _ (card : Card) (a : Accepted) (clock : ℕ) (valid : IsOwnValid (found_of o.found card).image) (old : Accepted) (is : session_of cabin.cards card ≡ Some old) (minute : a.session.minute ≡ m) where
    abbrev cards : Cards
    cards = with_session card (Some a) cabin.cards

    abbrev after : Cabin
    after = record cabin { cards = cards }

    abbrev y : Card → Standing
    y = standing_card (Has a clock) (Some card) m z

    was : (t : ℕ) × (z card ≡ In t old.session.minute)
    was = h.sessions card old valid is

    stands-now : y card ≡ In was.0 m
    stands-now = ap (λ (b : Bool). if b then standing_by (Has a clock) m (z card) else z card) (same_self card) ∙ ap (standing_by (Has a clock) m) was.1

    mine : HasMore from z y cards card
    mine = record {
      time = was.0;
      before = old.session.minute;
      minute = m;
      was = was.1;
      is = stands-now;
      kept = omega (arith, next);
      session = ap (λ (q : Option Accepted). is_some q) (session_set card (Some a) cabin.cards);
    }

    apart : (d : Card) → same_card card d ≡ false → session_of cards d ≡ session_of cabin.cards d
    apart d ne = session_apart card d (Some a) cabin.cards (turned card d ne)

    as-before : (d : Card) → same_card card d ≡ false → y d ≡ z d
    as-before d ne = ap (λ (b : Bool). if b then standing_by (Has a clock) m (z d) else z d) ne

    each : (d : Card) → StaysSo z y cabin.cards cards d ⊎ HasMore from z y cards d
    each d = ⊎_elim
        (λ same. inr (subst (λ (x : Card). HasMore from z y cards x) (same_is card d same) mine))
        (λ ne. inl (as-before d ne, λ x. ap (λ (q : Option Accepted). is_some q) (apart d ne) ∙ x))
        (this-or card d)

    before : (d : Card) → is_some (session_of cards d) ≡ true → is_some (session_of cabin.cards d) ≡ true
    before d x = ⊎_elim
        (λ same. subst (λ (k : Card). is_some (session_of cabin.cards k) ≡ true) (same_is card d same) (ap (λ (q : Option Accepted). is_some q) is))
        (λ ne. ap (λ (q : Option Accepted). is_some q) (sym (apart d ne)) ∙ x)
        (this-or card d)

    own : (x : Accepted) → session_of cards card ≡ Some x → (t : ℕ) × (y card ≡ In t x.session.minute)
    own x at =
        let both : Some a ≡ Some x = sym (session_set card (Some a) cabin.cards) ∙ at in
        let one : a ≡ x = cc in
        (was.0, stands-now ∙ ap (λ (n : ℕ). In was.0 n) (sym minute ∙ ap (λ (q : Accepted). q.session.minute) one))

    sessions : SessionsStand o.found y cards
    sessions d x good at = ⊎_elim
        (λ same. subst (λ (k : Card). session_of cards k ≡ Some x → (t : ℕ) × (y k ≡ In t x.session.minute)) (same_is card d same) (own x) at)
        (λ ne. let was_ = h.sessions d x good (sym (apart d ne) ∙ at) in (was_.0, as-before d ne ∙ was_.1))
        (this-or card d)

    so-leaves : (sl : Slot) (d : Card) → IsLeaving log (went b.run.log done).before s q.at os.low os.high cabin sl d → IsLeaving log (went b.run.log done).before s q.at os.low os.high after sl d
    so-leaves sl d l = leaving-on log log (went b.run.log done).before s q.at os.low os.high cabin after sl d refl l.untorn l.empty l.nowhere refl l

    -- it has its session still
    own-keeps : tears_of (session_of os.cabin.cards card) ≤ tears_of (session_of cabin.cards card) → tears_of (session_of os.cabin.cards card) ≤ tears_of (session_of cards card)
    own-keeps le = subst (λ (x : Option Accepted). tears_of (session_of os.cabin.cards card) ≤ tears_of x) (sym (session_set card (Some a) cabin.cards))
        (subst (λ (x : Option Accepted). tears_of (session_of os.cabin.cards card) ≤ tears_of x) is le)

    keeps : (d : Card) → tears_of (session_of os.cabin.cards d) ≤ tears_of (session_of cabin.cards d) → tears_of (session_of os.cabin.cards d) ≤ tears_of (session_of cards d)
    keeps d le = ⊎_elim
        (λ same. subst (λ (k : Card). tears_of (session_of os.cabin.cards k) ≤ tears_of (session_of cabin.cards k) → tears_of (session_of os.cabin.cards k) ≤ tears_of (session_of cards k)) (same_is card d same) own-keeps le)
        (λ ne. subst (λ (x : Option Accepted). tears_of (session_of os.cabin.cards d) ≤ tears_of x) (sym (apart d ne)) le)
        (this-or card d)

    fell-has : (d : Card) → StandsOrFell os.cabin.cards cards first last h.now d
    fell-has d = ⊎_elim (λ fell. inl fell) (λ stands. inr (stands.0, keeps d stands.1)) (h.fell d)

    slate-has : Slate o done s q b os from past log y after first last
    slate-has = record {
      point = h.point;
      now = h.now;
      moment = h.moment;
      rise = h.rise;
      fell = fell-has;
      rests = λ d x. h.rests d (before d x);
      tells = h.tells;
      present = step-leaves o.found z y told0 c c s.number from from cabin after h.present h.tells.newest h.tells.minute (omega arith) refl (record { torn = λ v at. at; pulled = λ v at. at })
          (λ d. ⊎_elim (λ stays. inl stays) (λ more. inr (inl more)) (each d)) (λ sl d u at. (at, each d));
      sessions = sessions;
      back = λ d x. ⊎_elim (λ early. inl early) (λ leaving. inr (leaving.0, so-leaves leaving.0 d leaving.1)) (h.back d (before d x));
      leave = λ sl d old_ x. so-leaves sl d (h.leave sl d old_ (before d x));
      had = λ d x. h.had d (before d x);
      stays = h.stays;
    }

    has-behind : Behind (Has a clock) (Some card)
    has-behind = record {
      slate = subst (λ (l : RunLog). Slate o done s q b os from past l y after first last) (sym log-same) slate-has;
      same = only-same;
      torn = λ other is at. absurd (cc);
    }

  -- THE CARD IS TORN OUT
  module _ (card : Card) (valid : IsOwnValid (found_of o.found card).image) (old : Accepted) (is : session_of cabin.cards card ≡ Some old)
      (rose : RoseBy 1 (first (device_of card)) (last (device_of card))) where
    abbrev gone : Cards
    gone = with_session card None cabin.cards

    abbrev out_ : Cabin
    out_ = torn_out card s.number cabin

    abbrev later : RunLog
    later = and_break log (tear_of slot (moment_of s q))

    abbrev d_ : Course
    d_ = course_in b done s q.at later

    abbrev x_ : Card → Standing
    x_ = standing_card Fell (Some card) m z

    abbrev visit : Visit
    visit = record { phase = q.at; slot = slot; card = card }

    abbrev bef : Before
    bef = (went b.run.log done).before

    had : is_some (session_of cabin.cards card) ≡ true
    had = ap (λ (q : Option Accepted). is_some q) is

    tear-at : IsTearAt s q.at slot true (tear_of slot (moment_of s q))
    tear-at = (q.begun, q.late, refl, h.point.phase, h.point.few, h.point.all)

    broke : BrokeDown card h.now (fallen card h.now last)
    broke = record {
      unit = let same = fallen-unit card h.now last in omega (arith, same);
      broke = subst (λ (n : ℕ). RoseBy 1 n (fallen card h.now last (device_of card))) (sym (h.rests card had)) (subst (λ (n : ℕ). RoseBy 1 (first (device_of card)) n) (sym (fallen-own card h.now last)) rose);
      others = λ d apart. fallen-others card d h.now last apart;
    }

    moves : moved_at later bef s q.at ≡ moved_at log bef s q.at
    moves = moves-still log bef s q.at slot (tear_of slot (moment_of s q)) tear-at h.moment.up_to

    was_t : (t : ℕ) × (z card ≡ In t old.session.minute)
    was_t = h.sessions card old valid is

    still-so : (d : Card) → same_card card d ≡ false → session_of gone d ≡ session_of cabin.cards d
    still-so d ne = session_apart card d None cabin.cards (turned card d ne)

    stands-so : (d : Card) → same_card card d ≡ false → x_ d ≡ z d
    stands-so d ne = ap (λ (b : Bool). if b then standing_by Fell m (z d) else z d) ne

    stays-so : (d : Card) → same_card card d ≡ false → StaysSo z x_ cabin.cards gone d
    stays-so d ne = (stands-so d ne, λ x. ap (λ (q : Option Accepted). is_some q) (still-so d ne) ∙ x)

    -- who has a session still is another card
    other-one : (d : Card) → is_some (session_of gone d) ≡ true → same_card card d ≡ false
    other-one d x = ⊎_elim
        (λ same. no-both (is_some (session_of gone d)) x (subst (λ (k : Card). is_some (session_of gone k) ≡ false) (same_is card d same) (ap (λ (q : Option Accepted). is_some q) (session_set card None cabin.cards))))
        (λ ne. ne)
        (this-or card d)

    had-before : (d : Card) → is_some (session_of gone d) ≡ true → is_some (session_of cabin.cards d) ≡ true
    had-before d x = ap (λ (q : Option Accepted). is_some q) (sym (still-so d (other-one d x))) ∙ x

    -- what is had of the slots, whether it sat in one or was leaving one
    pub record IsOut : Type 0 where
      pub untorn : is_torn_in log s.number q.at slot ≡ false
      pub out : (moved_at log bef s q.at).leaving slot ++ visits q.at slot c.slots ≡ visit ∷ []
      tells : IsTornFrom slot c d_ → SlotsTell (start_at o) told0 past d_.left s.number from d_.slots out_.slots
      who : IsTornFrom slot c d_ → (sl : Slot) (d : Card) (u : ℕ) → in_slot d_.slots sl ≡ sits d u → (in_slot c.slots sl ≡ sits d u) × (same_card card d ≡ false)
      past_is : out_.slots.past ≡ cabin.slots.past
      left_is : (d : Card) → same_card card d ≡ false → left_of out_.slots.left d ≡ left_of cabin.slots.left d
      goes : (d : Card) → GoesOnIn s.number cabin.slots out_.slots d
      leaving : (sl : Slot) (d : Card) → same_card card d ≡ false → IsLeaving log bef s q.at os.low os.high cabin sl d → IsLeaving later bef s q.at os.low os.high out_ sl d

    -- behind it
    module _ (g : IsOut) where
      told-now : Moment b.run bef s q.at later q.waits b.broken (fallen card h.now last) × IsTornAt s.number slot (visit ∷ []) c d_
      told-now = card-torn b.run bef s q.at log q.waits b.broken h.now (fallen card h.now last) h.moment slot (tear_of slot (moment_of s q)) tear-at (λ first. absurd (h.point.acted first)) g.untorn card g.out broke

      torn-now : IsTornAt s.number slot (visit ∷ []) c d_
      torn-now = told-now.1

      torn-mine : IsTornOut s.number from z x_ d_ card
      torn-mine = record {
        time = was_t.0;
        before = old.session.minute;
        newest = m;
        floor = m;
        was = was_t.1;
        is = ap (λ (b : Bool). if b then standing_by Fell m (z card) else z card) (same_self card) ∙ ap (standing_by Fell m) was_t.1;
        low = inr (omega (arith, next));
        from_ = omega (arith, next);
        few = few;
        out = visit;
        card_is = refl;
        told = inl (torn-now.new_ones visit (Contains-push [] visit));
      }

      out-now : StaysOut c d_
      out-now = record { torn = torn-now.stays; pulled = λ v at_. subst (λ (vs : List Visit). Contains vs v) (sym torn-now.is.pulled) at_ }

      -- it has broken down as often as it will have
      fell-fell : (d : Card) → StandsOrFell os.cabin.cards gone first last (fallen card h.now last) d
      fell-fell d = ⊎_elim
          (λ same. inl (subst (λ (k : Card). fallen card h.now last (device_of k) ≡ last (device_of k)) (same_is card d same) (fallen-own card h.now last)))
          (λ ne. ⊎_elim
          (λ fell. inl (fallen-other card d h.now last ne ∙ fell))
          (λ stands. inr (fallen-other card d h.now last ne ∙ stands.0, subst (λ (x : Option Accepted). tears_of (session_of os.cabin.cards d) ≤ tears_of x) (sym (still-so d ne)) stands.1))
          (h.fell d))
          (this-or card d)

      slate-fell : Slate o done s q b os from past later x_ out_ first last
      slate-fell = record {
        point = h.point;
        now = fallen card h.now last;
        moment = told-now.0;
        rise = let same = fallen-unit card h.now last in let le = h.rise in omega (arith, same, le);
        fell = fell-fell;
        rests = λ d x. fallen-other card d h.now last (other-one d x) ∙ h.rests d (had-before d x);
        tells = g.tells torn-now.is;
        present = step-leaves o.found z x_ told0 c d_ s.number from from cabin out_ h.present h.tells.newest h.tells.minute (omega arith) g.past_is out-now
            (λ d. ⊎_elim (λ same. inr (inr (subst (λ (k : Card). IsTornOut s.number from z x_ d_ k) (same_is card d same) torn-mine))) (λ ne. inl (stays-so d ne)) (this-or card d))
            (λ sl d u there_. let w = g.who torn-now.is sl d u there_ in (w.0, inl (stays-so d w.1)));
        sessions = λ d x good here.
            let ne = other-one d (ap (λ (q : Option Accepted). is_some q) here) in
            let was_ = h.sessions d x good (sym (still-so d ne) ∙ here) in
            (was_.0, stands-so d ne ∙ was_.1);
        back = λ d x. ⊎_elim
            (λ early. inl (subst (λ (n : Option ℕ). IfSome n (λ left. left ≤ os.low)) (sym (g.left_is d (other-one d x))) early))
            (λ l. inr (l.0, g.leaving l.0 d (other-one d x) l.1))
            (h.back d (had-before d x));
        leave = λ sl d old_ x. g.leaving sl d (other-one d x) (h.leave sl d old_ (had-before d x));
        had = λ d x. h.had d (had-before d x);
        stays = λ d. goes-both s.number os.cabin.slots cabin.slots out_.slots d (h.stays d) (g.goes d);
      }

      one-of : (k : Card) → Some card ≡ Some k → card ≡ k
      one-of k same = cc

      fell-behind : Behind Fell (Some card)
      fell-behind = record {
        slate = slate-fell;
        same = record { picks = torn-now.is.picks; settled = torn-now.is.settled; found = torn-now.is.found; entered = torn-now.is.entered; out = out-now };
        torn = λ k is_ same. (visit, one-of k same, torn-now.new_ones visit (Contains-push [] visit));
      }

    -- IT SAT in that slot
    module _ (p : Present) (there : present_in cabin.slots.past m ≡ Some p) (at : present_of p slot ≡ Some card) (early : IfSome (left_of cabin.slots.left card) (λ left. left ≤ os.low)) where
      seat : (newest : ℕ) × (seat_in cabin.slots.seats slot ≡ Some (record { card = card; newest = Some newest })) × (newest < m)
      seat = sits-since cabin.slots m p slot card (found_sits cabin.slots m p cabin.slots.past h.tells.newest.sit (sym there)) at (low-too os.low m (left_of cabin.slots.left card) le early)

      occupied : is_card (seat_in cabin.slots.seats slot) card ≡ true
      occupied = ap (λ (q : Option Seat). is_card q card) seat.1 ∙ same_self card

      sitting : (u : ℕ) × (in_slot c.slots slot ≡ sits card u)
      sitting = sits-there (start_at o) past from cabin.slots card seat.0 (seat_in cabin.slots.seats slot) (in_slot c.slots slot) (seat-tells (start_at o) told0 past c.left s.number from c.slots cabin.slots h.tells slot) seat.1

      slots-are : out_.slots ≡ taken slot s.number cabin.slots
      slots-are = ap (λ (q : Option Slot). left_from q s.number cabin.slots) (which-slot (start_at o) told0 past c.left s.number from c.slots cabin.slots h.tells slot card occupied)

      who-stays : IsTornFrom slot c d_ → (sl : Slot) (d : Card) (u : ℕ) → in_slot d_.slots sl ≡ sits d u → (in_slot c.slots sl ≡ sits d u) × (same_card card d ≡ false)
      who-stays torn sl d u there_ =
          let e = emptied c.slots slot sl (record { card = d; accepted = Some u }) (subst (λ (q : Slots). in_slot q sl ≡ sits d u) torn.slots there_) in
          let here = sits-back (start_at o) past from cabin.slots d u (seat_in cabin.slots.seats sl) (in_slot c.slots sl) (seat-tells (start_at o) told0 past c.left s.number from c.slots cabin.slots h.tells sl) e.0 in (
            e.0,
            ⊎_elim
                (λ same. absurd (e.1 (one-slot (start_at o) told0 past c.left s.number from c.slots cabin.slots h.tells slot sl card occupied
                (subst (λ (k : Card). is_card (seat_in cabin.slots.seats sl) k ≡ true) (sym (same_is card d same)) here))))
                (λ ne. ne)
                (this-or card d),
          )

      left-other_ : (d : Card) → same_card card d ≡ false → left_of out_.slots.left d ≡ left_of cabin.slots.left d
      left-other_ d ne = ap (λ (k : Slate_). left_of k.left d) slots-are ∙ ap (λ (q : Option Seat). left_of (with_left (s.number / 60) q cabin.slots.left) d) seat.1 ∙ left-other card d (Some seat.0) (s.number / 60) cabin.slots.left ne

      so-leaves_ : (sl : Slot) (d : Card) → same_card card d ≡ false → IsLeaving log bef s q.at os.low os.high cabin sl d → IsLeaving later bef s q.at os.low os.high out_ sl d
      so-leaves_ sl d ne l =
          let apart : slot ≡ sl → ⊥ = λ same. some-none (seat_in cabin.slots.seats sl) (record { card = card; newest = Some seat.0 }) (ap (seat_in cabin.slots.seats) (sym same) ∙ seat.1) l.empty in
          leaving-on log later bef s q.at os.low os.high cabin out_ sl d moves (torn-apart log s q.at slot sl (tear_of slot (moment_of s q)) tear-at apart l.untorn)
          (ap (λ (k : Slate_). seat_in k.seats sl) slots-are ∙ unseated cabin.slots.seats slot sl l.empty)
          (subst (λ (k : Slate_). SitsNowhere k.seats d) (sym slots-are) (nowhere-still cabin.slots.seats slot d l.nowhere))
          (ap (λ (k : Slate_). k.past) slots-are) l

      sat : IsOut
      sat = record {
        untorn = who-sits log bef s q.at slot (record { card = card; accepted = Some sitting.0 }) sitting.1;
        out = ap (λ (vs : List Visit). vs ++ visits q.at slot c.slots) (not-leaving log bef s q.at slot (record { card = card; accepted = Some sitting.0 }) sitting.1)
            ∙ ap (λ (q_ : Option Sitting). map {B = Visit} (λ (k : Card). record { phase = q.at; slot = slot; card = k }) (card_in q_)) sitting.1;
        tells = λ torn. subst (λ (k : Slate_). SlotsTell (start_at o) told0 past d_.left s.number from d_.slots k) (sym slots-are)
            (tear-tells (start_at o) told0 past s.number from slot c d_ cabin.slots h.tells torn);
        who = who-stays;
        past_is = ap (λ (k : Slate_). k.past) slots-are;
        left_is = left-other_;
        goes = λ d. subst (λ (k : Slate_). GoesOnIn s.number cabin.slots k d) (sym slots-are) (goes-taken s.number slot cabin.slots d);
        leaving = so-leaves_;
      }

    -- OR IT WAS LEAVING it
    module _ (l : IsLeaving log bef s q.at os.low os.high cabin slot card) where
      nobody : in_slot c.slots slot ≡ None
      nobody = none-sits (start_at o) past from cabin.slots (seat_in cabin.slots.seats slot) (in_slot c.slots slot) (seat-tells (start_at o) told0 past c.left s.number from c.slots cabin.slots h.tells slot) l.empty

      slots-stay : out_.slots ≡ cabin.slots
      slots-stay = ap (λ (q : Option Slot). left_from q s.number cabin.slots) (nowhere-none cabin.slots.seats card l.nowhere)

      course-stays : IsTornFrom slot c d_ → d_.slots ≡ c.slots
      course-stays torn = torn.slots ∙ empty-still c.slots slot nobody

      left-tells : IsTornFrom slot c d_ → SlotsTell (start_at o) told0 past d_.left s.number from d_.slots out_.slots
      left-tells torn = subst (λ (k : Slate_). SlotsTell (start_at o) told0 past d_.left s.number from d_.slots k) (sym slots-stay)
          (tells-still (start_at o) told0 past s.number from slot c d_ cabin.slots h.tells torn nobody)

      who-is : IsTornFrom slot c d_ → (sl : Slot) (d : Card) (u : ℕ) → in_slot d_.slots sl ≡ sits d u → (in_slot c.slots sl ≡ sits d u) × (same_card card d ≡ false)
      who-is torn sl d u there_ =
          let here : in_slot c.slots sl ≡ sits d u = ap (λ (q : Slots). in_slot q sl) (sym (course-stays torn)) ∙ there_ in
          let seated = sits-back (start_at o) past from cabin.slots d u (seat_in cabin.slots.seats sl) (in_slot c.slots sl) (seat-tells (start_at o) told0 past c.left s.number from c.slots cabin.slots h.tells sl) here in (
            here,
            ⊎_elim
                (λ same. no-both (is_card (seat_in cabin.slots.seats sl) d) seated (subst (λ (k : Card). is_card (seat_in cabin.slots.seats sl) k ≡ false) (same_is card d same) (nowhere-not cabin.slots.seats card l.nowhere sl)))
                (λ ne. ne)
                (this-or card d),
          )

      so-goes : (sl : Slot) (d : Card) → same_card card d ≡ false → IsLeaving log bef s q.at os.low os.high cabin sl d → IsLeaving later bef s q.at os.low os.high out_ sl d
      so-goes sl d ne k =
          let apart : slot ≡ sl → ⊥ = λ same. two-leave card d ne q.at slot (sym l.leaves ∙ ap (moved_at log bef s q.at).leaving same ∙ k.leaves ∙ ap (λ (x : Slot). record { phase = q.at; slot = x; card = d } ∷ []) (sym same)) in
          leaving-on log later bef s q.at os.low os.high cabin out_ sl d moves (torn-apart log s q.at slot sl (tear_of slot (moment_of s q)) tear-at apart k.untorn)
          (ap (λ (x : Slate_). seat_in x.seats sl) slots-stay ∙ k.empty)
          (subst (λ (x : Slate_). SitsNowhere x.seats d) (sym slots-stay) k.nowhere)
          (ap (λ (x : Slate_). x.past) slots-stay) k

      was-leaving : IsOut
      was-leaving = record {
        untorn = l.untorn;
        out = ap (λ (vs : List Visit). vs ++ visits q.at slot c.slots) l.leaves
            ∙ ap (λ (q_ : Option Sitting). visit ∷ map {B = Visit} (λ (k : Card). record { phase = q.at; slot = slot; card = k }) (card_in q_)) nobody;
        tells = left-tells;
        who = who-is;
        past_is = ap (λ (k : Slate_). k.past) slots-stay;
        left_is = λ d ne. ap (λ (k : Slate_). left_of k.left d) slots-stay;
        goes = λ d. goes-still s.number cabin.slots out_.slots d slots-stay;
        leaving = so-goes;
      }

    -- the slot that it was leaving is the one in which it was present
    its-slot : (sl : Slot) → IsLeaving log bef s q.at os.low os.high cabin sl card → (p : Present) → present_in cabin.slots.past m ≡ Some p → present_of p slot ≡ Some card → sl ≡ slot
    its-slot sl l p there at = by slot at
      where
        by : (at_ : Slot) → present_of p at_ ≡ Some card → sl ≡ at_
        by Driver is_ = l.driver m p le there is_
        by CoDriver is_ = l.codriver m p le there is_

    -- it sat in that slot, or was leaving it
    abbrev pub SatOrLeft : Type 0
    SatOrLeft = (is_card (seat_in cabin.slots.seats slot) card ≡ true) ⊎ IsLeaving log bef s q.at os.low os.high cabin slot card

    pub out-is : (p : Present) → present_in cabin.slots.past m ≡ Some p → present_of p slot ≡ Some card → IsOut × SatOrLeft
    out-is p there at = ⊎_elim
        (λ early. (sat p there at early, inl (occupied p there at early)))
        (λ leaving.
        let l = subst (λ (sl : Slot). IsLeaving log bef s q.at os.low os.high cabin sl card) (its-slot leaving.0 leaving.1 p there at) leaving.1 in
        (was-leaving l, inr l))
        (h.back card had)

    pub out-behind : (p : Present) → present_in cabin.slots.past m ≡ Some p → present_of p slot ≡ Some card → Behind Fell (Some card)
    out-behind p there at = fell-behind (out-is p there at).0

  -- EACH FATE
  pub fate-behind : (fate : Fate) (present : Option Card) (kept : Kept) → (fate ≡ Still) ⊎ IsFateOf (session_at cabin.cards present) kept fate → kept.entry.minute ≡ m → (p : Present) → present_in cabin.slots.past m ≡ Some p →
      present_of p slot ≡ present → ((card : Card) → present ≡ Some card → IsOwnValid (found_of o.found card).image) → HasBrokenDown fate present first last → Behind fate present
  fate-behind Still present kept is minute p there at valid broken = still-behind present
  fate-behind (Has a clock) None kept (inl is) minute p there at valid broken = absurd (cc)
  fate-behind (Has a clock) None kept (inr is) minute p there at valid broken = absurd is
  fate-behind Fell None kept (inl is) minute p there at valid broken = absurd (cc)
  fate-behind Fell None kept (inr is) minute p there at valid broken = absurd is
  fate-behind (Has a clock) (Some card) kept (inl is) minute p there at valid broken = absurd (cc)
  fate-behind Fell (Some card) kept (inl is) minute p there at valid broken = absurd (cc)
  fate-behind (Has a clock) (Some card) kept (inr is) minute p there at valid broken = by (session_of cabin.cards card) refl is
    where
      by : (q : Option Accepted) → session_of cabin.cards card ≡ q → IsFateOf q kept (Has a clock) → Behind (Has a clock) (Some card)
      by None none h_ = absurd h_
      by (Some old) some h_ = has-behind card a clock (valid card refl) old some (h_.minute ∙ minute)
  fate-behind Fell (Some card) kept (inr is) minute p there at valid broken = by (session_of cabin.cards card) refl is
    where
      by : (q : Option Accepted) → session_of cabin.cards card ≡ q → IsFateOf q kept Fell → Behind Fell (Some card)
      by None none h_ = absurd h_
      by (Some old) some h_ = out-behind card (valid card refl) old some (broken refl) p there at
