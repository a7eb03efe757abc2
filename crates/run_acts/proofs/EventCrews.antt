-- The numbers of the cards in the slots.
use Rattle.std.proofs.Common.{◌≡◌, ◌∙◌, ◌⊎◌, inl, inr, ℕ, ◌^◌, ◌<◌, Bool, true, false, cond, Option, Some, None, IfSome, List, refl, ap, sym, subst, arith}
use Rattle.std.specs.Prelude.{is_some, option_map}
use Rattle.activity_codec.specs.declared.values.Slot.{Slot}
use Rattle.activity_codec.specs.declared.values.Slot.TheVariants.{Driver, CoDriver}
use Rattle.trace_model.specs.declared.Card.{Card}
use Rattle.trace_model.specs.declared.Card.TheVariants.{A, B}
use Rattle.tacho_types.specs.CardNumber.{card_number_bytes}
use Rattle.tacho_types.specs.declared.card_number.FullCardNumber.{FullCardNumber}
use Rattle.log_model.specs.Slots.{Slots, Sitting, same_card}
use Rattle.log_model.specs.Course.{ToldSecond}
use Rattle.device_calls.specs.history_model.Minutes.{HistoryMinute}
use Rattle.device_calls.specs.history_model.Presence.{Start}
use Rattle.unit_notes.specs.event_model.declared.kinds.TheConstants.{CARD_FAULT}
use Rattle.unit_notes.specs.event_model.Events as events
use Rattle.unit_notes.specs.event_model.Events.{noted_with}
use Rattle.hand_model.specs.card_image.Own.{IsOwnValid}
use Rattle.run_minutes.specs.run_promise.Found.{Found, found_of}
use Rattle.run_minutes.specs.run_devices.Told.{AreFoundCards}
use Rattle.run_minutes.specs.Keeping.{Fate, Still, Has, Fell}
use Rattle.run_minutes.specs.Faults.{fault_entry, faults_by}
use Rattle.run_acts.specs.NotedEvents.{NoteTellsEvent, AreTold}
use Rattle.unit_notes.specs.note_model.Tables.{number_or_none}
use Rattle.run_crew.specs.card_slots.declared.seats.Seat.{Seat}
use Rattle.run_crew.specs.card_slots.Calls.{Seats, seat_in, is_card}
use Rattle.run_crew.specs.card_slots.Kept.{Kept}
use Rattle.run_events.specs.run_course.Presence.{SlotsTell, SitsAs, IsNewest}
use Rattle.run_crew.specs.declared.cabin.Cabin.{Cabin}
use Rattle.run_crew.specs.declared.cards.Accepted.{Accepted}
use Rattle.run_crew.specs.declared.cards.Cards.{Cards}
use Rattle.run_crew.specs.Cards.{known_of, session_of, with_session, accepted_number}
use Rattle.run_crew.specs.Cabin.{CabinIsSound, AnswersTo, SeatAnswers, SitsNowhere, number_of_seat, slot_with, left_from, torn_out, crew_of}
use Rattle.run_record.proofs.Seats.{nowhere-none}
use Rattle.run_events.specs.Entries.{number_or_no_card, IsCrewOf}
use Rattle.run_crew.specs.declared.cards.Crew.{Crew}
use Rattle.run_events.specs.Watched.{named}
use Rattle.run_acts.specs.EventCrews.{AreKnownBy, AreKnownAs, fault_events}

-- ---- one card

no-number : (cards : Cards) (c : Card) → session_of cards c ≡ None → accepted_number (known_of cards c) ≡ None
no-number cards A is = ap (λ (q : Option Accepted). cond (is_some q) cards.a.number None) is
no-number cards B is = ap (λ (q : Option Accepted). cond (is_some q) cards.b.number None) is

its-number : (cards : Cards) (c : Card) (x : Accepted) → session_of cards c ≡ Some x → accepted_number (known_of cards c) ≡ (known_of cards c).number
its-number cards A x is = ap (λ (q : Option Accepted). cond (is_some q) cards.a.number None) is
its-number cards B x is = ap (λ (q : Option Accepted). cond (is_some q) cards.b.number None) is

-- ---- one slot: no accepted card sits there, by both; or this one, and it has a session

abbrev SeatIs : Cards → Option Seat → Option Sitting → Type 0
SeatIs cards seat sitting = ((number_of_seat cards seat ≡ None) × (events.accepted_card sitting ≡ None))
    ⊎ ((c : Card) × (is_some (session_of cards c) ≡ true) × (number_of_seat cards seat ≡ (known_of cards c).number) × (events.accepted_card sitting ≡ Some c))

-- a card in a slot has a session exactly where it is accepted
abbrev pub SitsWell : Cards → Option Seat → Type 0
SitsWell cards None = Unit {0}
SitsWell cards (Some seat) = is_some seat.newest ≡ is_some (session_of cards seat.card)

pub record AllSitWell (cabin : Cabin) : Type 0 where
  pub driver : SitsWell cabin.cards cabin.slots.seats.driver
  pub codriver : SitsWell cabin.cards cabin.slots.seats.codriver

answers-well : (low : ℕ) (n : Option ℕ) (x : Option Accepted) → AnswersTo low n x → is_some n ≡ is_some x
answers-well low None None h = refl
answers-well low None (Some s) h = absurd h
answers-well low (Some n) None h = absurd h
answers-well low (Some n) (Some s) h = refl

seat-well : (low : ℕ) (cards : Cards) (seat : Option Seat) → SeatAnswers low cards seat → SitsWell cards seat
seat-well low cards None h = tt
seat-well low cards (Some seat) h = answers-well low seat.newest (session_of cards seat.card) h

pub all-well : (low : ℕ) (leaving : Option Card) (cabin : Cabin) → CabinIsSound low leaving cabin → AllSitWell cabin
all-well low leaving cabin h = record { driver = seat-well low cabin.cards cabin.slots.seats.driver h.driver; codriver = seat-well low cabin.cards cabin.slots.seats.codriver h.codriver }

module _ (cards : Cards) (start : Start) (past : List HistoryMinute) (from : ℕ) (kept : Kept) where
  accepted-is : (sitting : Sitting) (a : Option ℕ) → sitting.accepted ≡ a → events.accepted_card (Some sitting) ≡ option_map {T = ℕ} {U = Card} (λ u. sitting.card) a
  accepted-is sitting a is = ap (λ (q : Option ℕ). option_map {T = ℕ} {U = Card} (λ u. sitting.card) q) is

  both-are : (seat : Seat) (sitting : Sitting) → seat.card ≡ sitting.card → (n : Option ℕ) (a : Option ℕ) → sitting.accepted ≡ a → (x : Option Accepted) → session_of cards seat.card ≡ x → IsNewest start past from kept seat.card n a → is_some n ≡ is_some x → SeatIs cards (Some seat) (Some sitting)
  both-are seat sitting card None None a None x new well = inl (no-number cards seat.card x, accepted-is sitting None a)
  both-are seat sitting card None None a (Some s) x new well = absurd (let bad : false ≡ true = well in cc)
  both-are seat sitting card None (Some u) a s x new well = absurd new
  both-are seat sitting card (Some n) None a s x new well = absurd new
  both-are seat sitting card (Some n) (Some u) a None x new well = absurd (let bad : true ≡ false = well in cc)
  both-are seat sitting card (Some n) (Some u) a (Some s) x new well =
      inr (seat.card, ap (λ (q : Option Accepted). is_some q) x, its-number cards seat.card s x, accepted-is sitting (Some u) a ∙ ap (λ (c : Card). Some c) (sym card))

  seat-is : (seat : Option Seat) (sitting : Option Sitting) → SitsAs start past from kept seat sitting → SitsWell cards seat → SeatIs cards seat sitting
  seat-is None None sits well = inl (refl, refl)
  seat-is None (Some sitting) sits well = absurd sits
  seat-is (Some seat) None sits well = absurd sits
  seat-is (Some seat) (Some sitting) sits well = both-are seat sitting sits.0 seat.newest sitting.accepted refl (session_of cards seat.card) refl sits.1 well

seat-named : (number : Card → List ℕ) (cards : Cards) → AreKnownBy number cards → (seat : Option Seat) (sitting : Option Sitting) → SeatIs cards seat sitting → card_number_bytes (number_or_no_card (number_of_seat cards seat)) ≡ number_or_none number (events.accepted_card sitting)
seat-named number cards known seat sitting (inl is) = ap (λ (q : Option FullCardNumber). card_number_bytes (number_or_no_card q)) is.0 ∙ sym (ap (λ (q : Option Card). number_or_none number q) is.1)
seat-named number cards known seat sitting (inr is) = ap (λ (q : Option FullCardNumber). card_number_bytes (number_or_no_card q)) is.2 ∙ known is.0 is.1 ∙ sym (ap (λ (q : Option Card). number_or_none number q) is.3)

seat-as : (number : Card → FullCardNumber) (cards : Cards) → AreKnownAs number cards → (seat : Option Seat) (sitting : Option Sitting) → SeatIs cards seat sitting → number_of_seat cards seat ≡ option_map {T = Card} {U = FullCardNumber} number (events.accepted_card sitting)
seat-as number cards known seat sitting (inl is) = is.0 ∙ sym (ap (λ (q : Option Card). option_map {T = Card} {U = FullCardNumber} number q) is.1)
seat-as number cards known seat sitting (inr is) = is.2 ∙ known is.0 is.1 ∙ sym (ap (λ (q : Option Card). option_map {T = Card} {U = FullCardNumber} number q) is.3)

-- ---- both

module _ (start : Start) (told : List ToldSecond) (past : List HistoryMinute) (left : List Card) (u from : ℕ) (slots : Slots) (cabin : Cabin) (well : AllSitWell cabin) (tells : SlotsTell start told past left u from slots cabin.slots) where
  first-is : SeatIs cabin.cards cabin.slots.seats.driver slots.driver
  first-is = seat-is cabin.cards start past from cabin.slots cabin.slots.seats.driver slots.driver tells.driver well.driver

  second-is : SeatIs cabin.cards cabin.slots.seats.codriver slots.codriver
  second-is = seat-is cabin.cards start past from cabin.slots cabin.slots.seats.codriver slots.codriver tells.codriver well.codriver

  pub sitting-named : (number : Card → List ℕ) → AreKnownBy number cabin.cards → IsCrewOf number (events.crew_of slots) (crew_of cabin)
  sitting-named number known = record {
    driver = seat-named number cabin.cards known cabin.slots.seats.driver slots.driver first-is;
    codriver = seat-named number cabin.cards known cabin.slots.seats.codriver slots.codriver second-is;
  }

  pub crew-sits : (number : Card → FullCardNumber) → AreKnownAs number cabin.cards → crew_of cabin ≡ named number (events.crew_of slots)
  crew-sits number known =
      let first = seat-as number cabin.cards known cabin.slots.seats.driver slots.driver first-is in
      let second = seat-as number cabin.cards known cabin.slots.seats.codriver slots.codriver second-is in
      ap (λ (q : Option FullCardNumber). record { driver = q; codriver = (crew_of cabin).codriver }) first
      ∙ ap (λ (q : Option FullCardNumber). record { driver = (named number (events.crew_of slots)).driver; codriver = q }) second

pub cards-named : (number : Card → List ℕ) (start : Start) (told : List ToldSecond) (past : List HistoryMinute) (left : List Card) (u from low : ℕ) (leaving : Option Card) (slots : Slots) (cabin : Cabin) →
    CabinIsSound low leaving cabin → SlotsTell start told past left u from slots cabin.slots → AreKnownBy number cabin.cards → IsCrewOf number (events.crew_of slots) (crew_of cabin)
cards-named number start told past left u from low leaving slots cabin stands tells known = sitting-named start told past left u from slots cabin (all-well low leaving cabin stands) tells number known

pub crew-named : (number : Card → FullCardNumber) (start : Start) (told : List ToldSecond) (past : List HistoryMinute) (left : List Card) (u from low : ℕ) (leaving : Option Card) (slots : Slots) (cabin : Cabin) →
    CabinIsSound low leaving cabin → SlotsTell start told past left u from slots cabin.slots → AreKnownAs number cabin.cards → crew_of cabin ≡ named number (events.crew_of slots)
crew-named number start told past left u from low leaving slots cabin stands tells known = crew-sits start told past left u from slots cabin (all-well low leaving cabin stands) tells number known

-- ---- behind a tear

other-card : (cards : Cards) (card c : Card) → same_card c card ≡ false → accepted_number (known_of (with_session card None cards) c) ≡ accepted_number (known_of cards c)
other-card cards A A is = absurd (cc)
other-card cards A B is = refl
other-card cards B A is = refl
other-card cards B B is = absurd (cc)

other-seat : (cards : Cards) (card : Card) (seat : Option Seat) → is_card seat card ≡ false → number_of_seat (with_session card None cards) seat ≡ number_of_seat cards seat
other-seat cards card None is = refl
other-seat cards card (Some seat) is = other-card cards card seat.card is

in-driver : (seats : Seats) (card : Card) → is_card seats.driver card ≡ true → slot_with seats card ≡ Some Driver
in-driver seats card is = ap (λ (b : Bool). cond b (Some Driver) (cond (is_card seats.codriver card) (Some CoDriver) None)) is

in-codriver : (seats : Seats) (card : Card) → is_card seats.driver card ≡ false → is_card seats.codriver card ≡ true → slot_with seats card ≡ Some CoDriver
in-codriver seats card first is = ap (λ (b : Bool). cond b (Some Driver) (cond (is_card seats.codriver card) (Some CoDriver) None)) first ∙ ap (λ (b : Bool). cond b (Some CoDriver) None) is

not-both : (seats : Seats) (card : Card) → ((c : Card) → is_card seats.driver c ≡ true → is_card seats.codriver c ≡ false) → is_card seats.codriver card ≡ true → is_card seats.driver card ≡ false
not-both seats card apart there = by (is_card seats.driver card) refl
  where
    by : (b : Bool) → is_card seats.driver card ≡ b → is_card seats.driver card ≡ false
    by false is = is
    by true is = let clash : true ≡ false = sym there ∙ apart card is in absurd (cc)

module _ (number : Card → List ℕ) (start : Start) (told : List ToldSecond) (past : List HistoryMinute) (left : List Card) (u from : ℕ) (slots : Slots) (cabin : Cabin) (well : AllSitWell cabin) (tells : SlotsTell start told past left u from slots cabin.slots)
    (known : AreKnownBy number cabin.cards) where
  was : IsCrewOf number (events.crew_of slots) (crew_of cabin)
  was = sitting-named start told past left u from slots cabin well tells number known

  -- it sat there
  pub torn-sits : (slot : Slot) (card : Card) → is_card (seat_in cabin.slots.seats slot) card ≡ true → (second : ℕ) → IsCrewOf number (events.with_card slot None (events.crew_of slots)) (crew_of (torn_out card second cabin))
  torn-sits Driver card there second =
      let at = in-driver cabin.slots.seats card there in
      let gone : Cabin = record { slots = left_from (Some Driver) second cabin.slots; cards = with_session card None cabin.cards } in
      let is : IsCrewOf number (events.with_card Driver None (events.crew_of slots)) (crew_of gone) =
      record { driver = refl; codriver = ap (λ (q : Option FullCardNumber). card_number_bytes (number_or_no_card q)) (other-seat cabin.cards card cabin.slots.seats.codriver (tells.apart card there)) ∙ was.codriver } in
      subst (λ (q : Option Slot). IsCrewOf number (events.with_card Driver None (events.crew_of slots)) (crew_of (record { slots = left_from q second cabin.slots; cards = with_session card None cabin.cards }))) (sym at) is
  torn-sits CoDriver card there second =
      let none = not-both cabin.slots.seats card tells.apart there in
      let at = in-codriver cabin.slots.seats card none there in
      let gone : Cabin = record { slots = left_from (Some CoDriver) second cabin.slots; cards = with_session card None cabin.cards } in
      let is : IsCrewOf number (events.with_card CoDriver None (events.crew_of slots)) (crew_of gone) =
      record { driver = ap (λ (q : Option FullCardNumber). card_number_bytes (number_or_no_card q)) (other-seat cabin.cards card cabin.slots.seats.driver none) ∙ was.driver; codriver = refl } in
      subst (λ (q : Option Slot). IsCrewOf number (events.with_card CoDriver None (events.crew_of slots)) (crew_of (record { slots = left_from q second cabin.slots; cards = with_session card None cabin.cards }))) (sym at) is

  -- or it was leaving that slot
  stays-in : (card : Card) (seat : Option Seat) → is_card seat card ≡ false → card_number_bytes (number_or_no_card (number_of_seat (with_session card None cabin.cards) seat)) ≡ card_number_bytes (number_or_no_card (number_of_seat cabin.cards seat))
  stays-in card seat not = ap (λ (q : Option FullCardNumber). card_number_bytes (number_or_no_card q)) (other-seat cabin.cards card seat not)

  empty-in : (card : Card) (seat : Option Seat) → seat ≡ None → card_number_bytes (number_or_no_card (number_of_seat (with_session card None cabin.cards) seat)) ≡ number_or_none number None
  empty-in card seat none = ap (λ (q : Option Seat). card_number_bytes (number_or_no_card (number_of_seat (with_session card None cabin.cards) q))) none

  pub torn-leaves : (slot : Slot) (card : Card) → seat_in cabin.slots.seats slot ≡ None → SitsNowhere cabin.slots.seats card → (second : ℕ) → IsCrewOf number (events.with_card slot None (events.crew_of slots)) (crew_of (torn_out card second cabin))
  torn-leaves Driver card empty nowhere second =
      subst (λ (q : Option Slot). IsCrewOf number (events.with_card Driver None (events.crew_of slots)) (crew_of (record { slots = left_from q second cabin.slots; cards = with_session card None cabin.cards }))) (sym (nowhere-none cabin.slots.seats card nowhere))
      (record { driver = empty-in card cabin.slots.seats.driver empty; codriver = stays-in card cabin.slots.seats.codriver nowhere.codriver ∙ was.codriver })
  torn-leaves CoDriver card empty nowhere second =
      subst (λ (q : Option Slot). IsCrewOf number (events.with_card CoDriver None (events.crew_of slots)) (crew_of (record { slots = left_from q second cabin.slots; cards = with_session card None cabin.cards }))) (sym (nowhere-none cabin.slots.seats card nowhere))
      (record { driver = stays-in card cabin.slots.seats.driver nowhere.driver ∙ was.driver; codriver = empty-in card cabin.slots.seats.codriver empty })

pub torn-named : (number : Card → List ℕ) (start : Start) (told : List ToldSecond) (past : List HistoryMinute) (left : List Card) (u from low : ℕ) (leaving : Option Card) (slots : Slots) (cabin : Cabin) →
    CabinIsSound low leaving cabin → SlotsTell start told past left u from slots cabin.slots → AreKnownBy number cabin.cards → (slot : Slot) (card : Card) → is_card (seat_in cabin.slots.seats slot) card ≡ true → (second : ℕ) →
    IsCrewOf number (events.with_card slot None (events.crew_of slots)) (crew_of (torn_out card second cabin))
torn-named number start told past left u from low leaving slots cabin stands tells known slot card there second =
    torn-sits number start told past left u from slots cabin (all-well low leaving cabin stands) tells known slot card there second

-- ---- who has a session

pub sessions-known : (f : Found) (number : Card → List ℕ) (cards : Cards) → AreFoundCards f cards → ((c : Card) → is_some (session_of cards c) ≡ true → IsOwnValid (found_of f c).image) →
    ((c : Card) → IsOwnValid (found_of f c).image → (found_of f c).number ≡ number c) → AreKnownBy number cards
sessions-known f number cards found valid same c has = by (known_of cards c).number (found.named c (valid c has)) (found.told c (valid c has)) ∙ same c (valid c has)
  where
    by : (q : Option FullCardNumber) → IfSome q (λ n. card_number_bytes n ≡ (found_of f c).number) → is_some q ≡ true → card_number_bytes (number_or_no_card q) ≡ (found_of f c).number
    by None named told = absurd (cc)
    by (Some n) named told = named

-- ---- a fault

fault-told : (number : Card → List ℕ) (second : ℕ) (crew : events.Crew) (numbers : Crew) → second < 2 ^ 32 → IsCrewOf number crew numbers → NoteTellsEvent number (noted_with CARD_FAULT second second crew) (fault_entry second numbers)
fault-told number second crew numbers low named = record {
  is = record {
    kind = refl;
    purpose = refl;
    begin = refl;
    end = refl;
    driver_begin = named.driver;
    codriver_begin = named.codriver;
    driver_end = named.driver;
    codriver_end = named.codriver;
    average = refl;
  };
  there = (7, omega arith, refl);
  other = λ is. absurd (omega (arith, is));
  begin = low;
  end = low;
}

pub faults-told : (number : Card → List ℕ) (fate : Fate) (second : ℕ) (cabin : Cabin) (crew : events.Crew) → second < 2 ^ 32 → IsCrewOf number crew (crew_of cabin) → AreTold number (faults_by fate second cabin) (fault_events fate second crew)
faults-told number Still second cabin crew low named = tt
faults-told number (Has accepted clock) second cabin crew low named = tt
faults-told number Fell second cabin crew low named = (fault-told number second crew (crew_of cabin) low named, tt)
