-- An entry by hand more, which the session of a slot's card holds: what stays so, and how slots and sessions stand.
use Rattle.std.proofs.Common.{◌≡◌, ◌∙◌, inl, inr, suc, ℕ, ◌+◌, ◌-◌, ◌<◌, ◌≤◌, Bool, true, false, cond, Option, Some, None, IfSome, is_some, List, [], ◌∷◌, ◌++◌, length, length-append, refl, ap, sym, subst, arith}
use Rattle.std.specs.Prelude.{◌⊎◌, ◌&&◌, Ok, max, nat_lt, nat_le, slice_get, option_map}
use Rattle.std.proofs.Math.Nat.{le-max_right}
use Rattle.std.proofs.lemmas.Bool.{ltb-true, leb-false}
use Rattle.std.proofs.lemmas.List.Elements.{All-weaker}
use Rattle.activity_codec.specs.declared.entries.Manual.{Manual}
use Rattle.trace_model.specs.declared.Card.{Card}
use Rattle.trace_model.specs.declared.Card.TheVariants.{A, B}
use Rattle.tach_media.specs.Medium.{State}
use Rattle.card_files.specs.card_layout.declared.command.CardState.{CardState}
use Rattle.hand_model.specs.declared.held.EnterFault.{EnterFault}
use Rattle.hand_model.specs.declared.held.EnterFault.TheVariants.{Full, NotFree}
use Rattle.hand_model.specs.Holding.{LieBetween, later, last_minute, stopped_by}
use Rattle.unit_model.specs.minute_model.Span.{ungiven_of}
use Rattle.run_crew.specs.card_slots.declared.seats.Seat.{Seat}
use Rattle.run_crew.specs.card_slots.declared.seats.Ended.{Ended}
use Rattle.run_crew.specs.declared.cards.Accepted.{Accepted}
use Rattle.run_crew.specs.declared.cards.Known.{Known}
use Rattle.run_crew.specs.declared.cards.Cards.{Cards}
use Rattle.run_crew.specs.declared.cabin.Cabin.{Cabin}
use Rattle.run_crew.specs.Cards.{known_of, session_of, with_session, IsKnown}
use Rattle.run_crew.specs.Cabin.{CabinIsSound, HoldsBy, HoldsHands, AnswersTo, SeatAnswers, IsBehind, EndedStands}
use Rattle.run_minutes.specs.Keeping.{CardMayBeCalled, GoesOnFrom, SessionsGoOn, tears_of}
use Rattle.run_minutes.proofs.Sessions.{number-set, row-set}
use Rattle.run_minutes.proofs.Units.{has-row}
use Rattle.run_acts.specs.declared.run.Run.{Run}
use Rattle.run_acts.specs.Power.{with_cabin}
use Rattle.run_acts.specs.Going.{CardAt, CanBeCut, RunHasPowerAllSeated}
use Rattle.run_minutes.specs.Keeping.{session_at}
use Rattle.run_acts.specs.ByHand.{stop_in, holding, cards_holding, cabin_holding}
use Rattle.run_acts.proofs.Cabins.{cabin-going, cabin-held}
use Rattle.run_acts.specs.Room.{bare_seats, falls_of}
use Rattle.run_acts.specs.Ringing.{seating_of}
use Rattle.run_acts.specs.RunRinged.{seats_of}
use Rattle.run_record.specs.Within.{AreOneBut, IsAlike, AreAlike, stop_told}

-- ---- one more

-- the last one stands behind one more
one_behind : (x y : Manual) (ys : List Manual) → slice_get (x ∷ y ∷ ys) (length (x ∷ y ∷ ys) - 1) ≡ slice_get (y ∷ ys) (length (y ∷ ys) - 1)
one_behind x y ys =
    let e : length (x ∷ y ∷ ys) - 1 ≡ suc (length (y ∷ ys) - 1) = omega arith in
    ap (λ (n : ℕ). slice_get (x ∷ y ∷ ys) n) e

-- the last of some, which is not earlier than the first
last_of : (x : Manual) (xs : List Manual) (before : ℕ) → LieBetween x.minute before xs → (l : Manual) × (slice_get (x ∷ xs) (length (x ∷ xs) - 1) ≡ Some l) × (x.minute ≤ l.minute)
last_of x [] before lie = (x, refl, omega arith)
last_of x (y ∷ ys) before lie =
    let r = last_of y ys before lie.1 in
    let at = r.2 in
    let next = lie.0 in
    (r.0, one_behind x y ys ∙ r.1, omega (arith, next, at))

lie_behind : (x : Manual) (xs : List Manual) (e : Manual) (before : ℕ) → LieBetween x.minute before xs → (l : Manual) → slice_get (x ∷ xs) (length (x ∷ xs) - 1) ≡ Some l → l.minute < e.minute → e.minute < before → LieBetween x.minute before (xs ++ e ∷ [])
lie_behind x [] e before lie l is late early =
    let same : x ≡ l = cc in
    (subst (λ (m : Manual). m.minute < e.minute) (sym same) late, early)
lie_behind x (y ∷ ys) e before lie l is late early = (lie.0, lie_behind y ys e before lie.1 l (sym (one_behind x y ys) ∙ is) late early)

-- IT IS LATER than all, and earlier than what they are earlier than
pub lie-more : (after before : ℕ) (es : List Manual) (e : Manual) → (es ≡ []) ⊎ LieBetween after before es → last_minute after es < e.minute → e.minute < before → LieBetween after before (es ++ e ∷ [])
lie-more after before [] e lie late early = (late, early)
lie-more after before (x ∷ xs) e (inl none) late early = absurd (cc)
lie-more after before (x ∷ xs) e (inr lie) late early =
    let l = last_of x xs before lie.1 in
    let most : max after l.0.minute < e.minute = subst (λ (o : Option Manual). later after o < e.minute) l.1 late in
    (lie.0, lie_behind x xs e before lie.1 l.0 l.1 (let right = le-max_right after l.0.minute in omega (arith, most, right)) early)

-- ---- it is taken

-- WHAT A SESSION FINDS that does not stop it: it has kept no minute, and the entry is free, and there is room
pub record IsTaken (a : Accepted) (minute : ℕ) : Type 0 where
  pub free : a.held.begun ≡ None
  pub late : last_minute a.session.minute a.held.entries < minute
  pub early : minute < a.held.inserted
  pub room : length a.held.entries < 8

pub is-taken : (a : Accepted) (minute : ℕ) → stopped_by a.held a.session.minute minute ≡ None → IsTaken a minute
is-taken a minute none = by a.held.begun refl none
  where
    fitting : (late early full : Bool) → nat_lt (last_minute a.session.minute a.held.entries) minute ≡ late → nat_lt minute a.held.inserted ≡ early → nat_le 8 (length a.held.entries) ≡ full → a.held.begun ≡ None
        → cond (late && early) (cond full (Some (Full 8)) None) (Some (NotFree (last_minute a.session.minute a.held.entries) a.held.inserted)) ≡ None → IsTaken a minute
    fitting true true true late early full free is = absurd (cc)
    fitting true true false late early full free is = record { free = free; late = ltb-true (last_minute a.session.minute a.held.entries) minute late; early = ltb-true minute a.held.inserted early; room = leb-false 8 (length a.held.entries) full }
    fitting true false full late early room free is = absurd (cc)
    fitting false early full late is_early room free is = absurd (cc)

    by : (b : Option ℕ) → a.held.begun ≡ b → stopped_by (record a.held { begun = b }) a.session.minute minute ≡ None → IsTaken a minute
    by (Some first) is h = absurd (cc)
    by None is h = fitting (nat_lt (last_minute a.session.minute a.held.entries) minute) (nat_lt minute a.held.inserted) (nat_le 8 (length a.held.entries)) refl refl refl is h

-- of a session that does not stop it
pub not-stopped : (a : Accepted) (minute : ℕ) → stop_in (Some a) minute ≡ None → IsTaken a minute
not-stopped a minute none = is-taken a minute (by (stopped_by a.held a.session.minute minute) none)
  where
    by : (f : Option EnterFault) → option_map stop_told f ≡ None → f ≡ None
    by None is = refl
    by (Some f) is = absurd (cc)

-- a session, and each card, is what it is
one_same : (o : Option Accepted) → AreOneBut o o
one_same None = tt
one_same (Some a) = (refl, refl)

pub cards-same : (cards : Cards) → AreAlike cards cards
cards-same cards c = record { number = refl; sizes = refl; row = refl; session = one_same (session_of cards c) }

-- ---- what does not regard what is held

module _ (e : Manual) where
  pub each-session : (P : Option Accepted → Type 0) → ((a : Accepted) → P (Some a) → P (Some (holding e a))) → (card c : Card) (cards : Cards) → P (session_of cards c) → P (session_of (cards_holding e card cards) c)
  each-session P on A A cards h = by cards.a.accepted h
    where
      by : (o : Option Accepted) → P o → P (option_map (holding e) o)
      by None was = was
      by (Some a) was = on a was
  each-session P on A B cards h = h
  each-session P on B A cards h = h
  each-session P on B B cards h = by cards.b.accepted h
    where
      by : (o : Option Accepted) → P o → P (option_map (holding e) o)
      by None was = was
      by (Some a) was = on a was

  -- a card has a session exactly where it had one
  some_or : (o : Option Accepted) → is_some (option_map (holding e) o) ≡ is_some o
  some_or None = refl
  some_or (Some a) = refl

  pub some-session : (card c : Card) (cards : Cards) → is_some (session_of (cards_holding e card cards) c) ≡ is_some (session_of cards c)
  some-session A A cards = some_or cards.a.accepted
  some-session A B cards = refl
  some-session B A cards = refl
  some-session B B cards = some_or cards.b.accepted

  known_held : (known : Known) → IsKnown known → IsKnown (record known { accepted = option_map (holding e) known.accepted })
  known_held known h = by known.accepted h.sized h.numbered
    where
      by : (o : Option Accepted) → IfSome o (λ a. known.sizes ≡ Ok a.session.application) → IfSome o (λ a. is_some known.number ≡ true) → IsKnown (record known { accepted = option_map (holding e) o })
      by None sized numbered = record { sized = tt; numbered = tt }
      by (Some a) sized numbered = record { sized = sized; numbered = numbered }

  pub known-held : (card c : Card) (cards : Cards) → IsKnown (known_of cards c) → IsKnown (known_of (cards_holding e card cards) c)
  known-held A A cards h = known_held cards.a h
  known-held A B cards h = h
  known-held B A cards h = h
  known-held B B cards h = known_held cards.b h

  answers_held : (from : ℕ) (o : Option ℕ) (a : Accepted) → AnswersTo from o (Some a) → AnswersTo from o (Some (holding e a))
  answers_held from None a h = absurd h
  answers_held from (Some newest) a h = h

  seat_held : (from : ℕ) (card : Card) (cards : Cards) (seat : Option Seat) → SeatAnswers from cards seat → SeatAnswers from (cards_holding e card cards) seat
  seat_held from card cards None h = tt
  seat_held from card cards (Some seat) h = each-session (λ (o : Option Accepted). AnswersTo from seat.newest o) (λ a was. answers_held from seat.newest a was) card seat.card cards h

  behind_held : (minute : ℕ) (card : Card) (cards : Cards) (present : Option Card) → IsBehind cards minute present → IsBehind (cards_holding e card cards) minute present
  behind_held minute card cards None h = tt
  behind_held minute card cards (Some c) h = each-session (λ (o : Option Accepted). IfSome o (λ a. a.session.minute < minute)) (λ a was. was) card c cards h

  ended_held : (from before : ℕ) (card : Card) (cards : Cards) (ended : Ended) → EndedStands from before cards ended → EndedStands from before (cards_holding e card cards) ended
  ended_held from before card cards ended h = record {
    over = h.over;
    driver = λ late. behind_held ended.minute card cards ended.present.driver (h.driver late);
    codriver = λ late. behind_held ended.minute card cards ended.present.codriver (h.codriver late);
    apart = h.apart;
  }

  -- it lies behind those that are held, and before the insertion
  holds_more : (from : ℕ) (a : Accepted) → IsTaken a e.minute → HoldsHands from a → HoldsHands from (holding e a)
  holds_more from a t h =
      let was : HoldsBy from None a = subst (λ (b : Option ℕ). HoldsBy from b a) t.free h in
      let long = length-append a.held.entries (e ∷ []) in
      let room = t.room in
      subst (λ (b : Option ℕ). HoldsBy from b (holding e a)) (sym t.free)
      (was.0, omega (arith, long, room), inr (lie-more a.session.minute a.held.inserted a.held.entries e was.2 t.late t.early))

  -- so the sessions hold still, where that of the card takes it
  holds_all : (from : ℕ) (card c : Card) (cards : Cards) → IfSome (session_of cards card) (λ a. IsTaken a e.minute) → IfSome (session_of cards c) (HoldsHands from) → IfSome (session_of (cards_holding e card cards) c) (HoldsHands from)
  holds_all from A A cards taken h = by cards.a.accepted taken h
    where
      by : (o : Option Accepted) → IfSome o (λ a. IsTaken a e.minute) → IfSome o (HoldsHands from) → IfSome (option_map (holding e) o) (HoldsHands from)
      by None t was = tt
      by (Some a) t was = holds_more from a t was
  holds_all from A B cards taken h = h
  holds_all from B A cards taken h = h
  holds_all from B B cards taken h = by cards.b.accepted taken h
    where
      by : (o : Option Accepted) → IfSome o (λ a. IsTaken a e.minute) → IfSome o (HoldsHands from) → IfSome (option_map (holding e) o) (HoldsHands from)
      by None t was = tt
      by (Some a) t was = holds_more from a t was

  -- SLOTS AND SESSIONS STAND, where the session takes it
  pub holding-stands : (cabin : Cabin) (card : Option Card) (from : ℕ) (leaving : Option Card) → IfSome (session_at cabin.cards card) (λ a. IsTaken a e.minute) → CabinIsSound from leaving cabin → CabinIsSound from leaving (cabin_holding e card cabin)
  holding-stands cabin None from leaving taken h = h
  holding-stands cabin (Some card) from leaving taken h = record {
    a = known-held card A cabin.cards h.a;
    b = known-held card B cabin.cards h.b;
    driver = seat_held from card cabin.cards cabin.slots.seats.driver h.driver;
    codriver = seat_held from card cabin.cards cabin.slots.seats.codriver h.codriver;
    apart = h.apart;
    only = λ c some. h.only c (sym (some-session card c cabin.cards) ∙ some);
    left = h.left;
    past = All-weaker (EndedStands from cabin.slots.minute cabin.cards) (EndedStands from cabin.slots.minute (cards_holding e card cabin.cards)) (λ ended was. ended_held from cabin.slots.minute card cabin.cards ended was) cabin.slots.past h.past;
    newest = h.newest;
    hands = λ c. holds_all from card c cabin.cards taken (h.hands c);
  }

  -- ---- the devices may be called still

  called_held : {chip : CardState} {state : State} (card c : Card) (cards : Cards) → CardMayBeCalled (known_of cards c) chip state → CardMayBeCalled (known_of (cards_holding e card cards) c) chip state
  called_held {chip} {state} A A cards h = record { is_known = known_held cards.a h.is_known; port = h.port; works = each-session (λ (o : Option Accepted). IfSome o (λ a. state.works ≡ true)) (λ a was. was) A A cards h.works }
  called_held {chip} {state} A B cards h = h
  called_held {chip} {state} B A cards h = h
  called_held {chip} {state} B B cards h = record { is_known = known_held cards.b h.is_known; port = h.port; works = each-session (λ (o : Option Accepted). IfSome o (λ a. state.works ≡ true)) (λ a was. was) B B cards h.works }

  at_held : {chip : CardState} {state : State} (card c : Card) (cards : Cards) → CardAt (known_of cards c) chip state → CardAt (known_of (cards_holding e card cards) c) chip state
  at_held A A cards h = record { port = h.port; size = h.size }
  at_held A B cards h = h
  at_held B A cards h = h
  at_held B B cards h = record { port = h.port; size = h.size }

  -- each session goes on
  goes_or : (o : Option Accepted) → GoesOnFrom o (option_map (holding e) o)
  goes_or None = tt
  goes_or (Some a) = (refl, refl)

  goes_same : (o : Option Accepted) → GoesOnFrom o o
  goes_same None = tt
  goes_same (Some a) = (refl, refl)

  sessions_held : (card : Card) (cards : Cards) → SessionsGoOn cards (cards_holding e card cards)
  sessions_held A cards = record { a = goes_or cards.a.accepted; b = goes_same cards.b.accepted }
  sessions_held B cards = record { a = goes_same cards.a.accepted; b = goes_or cards.b.accepted }

  -- and is what it was, but for what it holds
  one_held : (o : Option Accepted) → AreOneBut o (option_map (holding e) o)
  one_held None = tt
  one_held (Some a) = (refl, refl)

  cards_alike : (card c : Card) (cards : Cards) → IsAlike cards (cards_holding e card cards) c
  cards_alike A A cards = record { number = refl; sizes = refl; row = refl; session = one_held cards.a.accepted }
  cards_alike A B cards = record { number = refl; sizes = refl; row = refl; session = one_same cards.b.accepted }
  cards_alike B A cards = record { number = refl; sizes = refl; row = refl; session = one_same cards.a.accepted }
  cards_alike B B cards = record { number = refl; sizes = refl; row = refl; session = one_held cards.b.accepted }

  pub holding-alike : (card : Option Card) (cabin : Cabin) → AreAlike cabin.cards (cabin_holding e card cabin).cards
  holding-alike None cabin = cards-same cabin.cards
  holding-alike (Some card) cabin = λ c. cards_alike card c cabin.cards

  pub holding-slots : (card : Option Card) (cabin : Cabin) → (cabin_holding e card cabin).slots ≡ cabin.slots
  holding-slots None cabin = refl
  holding-slots (Some card) cabin = refl

  -- as many can be torn out, and each is where it was inserted
  tears_held : (o : Option Accepted) → tears_of (option_map (holding e) o) ≡ tears_of o
  tears_held None = refl
  tears_held (Some a) = refl

  pub holding-falls : (card : Option Card) (cabin : Cabin) → falls_of (cabin_holding e card cabin) ≡ falls_of cabin
  holding-falls None cabin = refl
  holding-falls (Some A) cabin = ap (λ (n : ℕ). bare_seats cabin.slots.seats + (n + tears_of cabin.cards.b.accepted)) (tears_held cabin.cards.a.accepted)
  holding-falls (Some B) cabin = ap (λ (n : ℕ). bare_seats cabin.slots.seats + (tears_of cabin.cards.a.accepted + n)) (tears_held cabin.cards.b.accepted)

  seating_held : (noted : ℕ) (o : Option Accepted) → option_map (seating_of noted) (option_map (holding e) o) ≡ option_map (seating_of noted) o
  seating_held noted None = refl
  seating_held noted (Some a) = refl

  pub holding-seats : (card : Option Card) (run : Run) (c : Card) → seats_of (with_cabin (cabin_holding e card run.keeper.cabin) run) c ≡ seats_of run c
  holding-seats None run c = refl
  holding-seats (Some A) run A = seating_held run.noted run.keeper.cabin.cards.a.accepted
  holding-seats (Some A) run B = refl
  holding-seats (Some B) run A = refl
  holding-seats (Some B) run B = seating_held run.noted run.keeper.cabin.cards.b.accepted

  module _ {U A0 B0 : State} {chip_a chip_b : CardState} (run : Run) (to : ℕ) where
    -- A RUN WITH POWER GOES ON with it
    pub holding-going : (card : Option Card) → ((from : ℕ) (leaving : Option Card) → CabinIsSound from leaving run.keeper.cabin → CabinIsSound from leaving (cabin_holding e card run.keeper.cabin)) → RunHasPowerAllSeated to run U chip_a chip_b A0 B0
        → RunHasPowerAllSeated to (with_cabin (cabin_holding e card run.keeper.cabin) run) U chip_a chip_b A0 B0
    holding-going None stands g = g
    holding-going (Some card) stands g =
        let u = g.ready.unit_ready in
        let cards = run.keeper.cabin.cards in
        cabin-going to run (with_cabin (cabin_holding e (Some card) run.keeper.cabin) run) (cabin_holding e (Some card) run.keeper.cabin) refl None None g (record { is_unit = u.is_unit; works = u.works; agrees = u.agrees })
        (called_held card A cards g.ready.card_a) (called_held card B cards g.ready.card_b)
        (λ c h. has-row cards (cards_holding e card cards) U U c (number-set card c (option_map (holding e) (session_of cards card)) cards) (row-set card c (option_map (holding e) (session_of cards card)) cards) (λ r n at. at) h)
        refl (stands (ungiven_of g.span) None g.cabin) (sessions_held card cards) (λ known. known)

    -- and power can be lost
    pub holding-held : (card : Option Card) → ((from : ℕ) (leaving : Option Card) → CabinIsSound from leaving run.keeper.cabin → CabinIsSound from leaving (cabin_holding e card run.keeper.cabin)) → CanBeCut to run U chip_a chip_b A0 B0
        → CanBeCut to (with_cabin (cabin_holding e card run.keeper.cabin) run) U chip_a chip_b A0 B0
    holding-held None stands h = h
    holding-held (Some card) stands h =
        cabin-held to run (with_cabin (cabin_holding e (Some card) run.keeper.cabin) run) (cabin_holding e (Some card) run.keeper.cabin) refl h h.is_unit h.minute
        (at_held card A run.keeper.cabin.cards h.card_a) (at_held card B run.keeper.cabin.cards h.card_b) (h.stand.0, h.stand.1, stands h.stand.0 h.stand.1 h.stand.2)

-- ---- a session takes it

-- the session in a slot, where nothing stops it
pub taken-there : (o : Option Accepted) (minute : ℕ) → stop_in o minute ≡ None → IfSome o (λ a. IsTaken a minute)
taken-there None minute none = tt
taken-there (Some a) minute none = not-stopped a minute none

-- so there is room
pub room-there : (o : Option Accepted) (minute : ℕ) → stop_in o minute ≡ None → IfSome o (λ a. length a.held.entries < 8)
room-there None minute none = tt
room-there (Some a) minute none = (not-stopped a minute none).room

-- it holds it, taken out and given back
pub held-back : (e : Manual) (card : Card) (a : Accepted) (cards : Cards) → session_of cards card ≡ Some a → with_session card (Some (holding e a)) (with_session card None cards) ≡ cards_holding e card cards
held-back e A a cards has = ap (λ (o : Option Accepted). record cards { a = record cards.a { accepted = option_map (holding e) o } }) (sym has)
held-back e B a cards has = ap (λ (o : Option Accepted). record cards { b = record cards.b { accepted = option_map (holding e) o } }) (sym has)

-- nor is there one
pub none-held : (e : Manual) (card : Card) (cards : Cards) → session_of cards card ≡ None → with_session card None cards ≡ cards_holding e card cards
none-held e A cards has = ap (λ (o : Option Accepted). record cards { a = record cards.a { accepted = option_map (holding e) o } }) (sym has)
none-held e B cards has = ap (λ (o : Option Accepted). record cards { b = record cards.b { accepted = option_map (holding e) o } }) (sym has)
