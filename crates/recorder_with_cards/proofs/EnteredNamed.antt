-- The numbers of the cards as a card is judged: before it, with it, and without it; and so which events its notes tell.
use Rattle.std.proofs.Common.{◌≡◌, ◌/◌, ◌∙◌, ℕ, ◌^◌, ◌<◌, Bool, true, false, cond, Option, Some, None, List, refl, ap, sym, subst}
use Rattle.activity_codec.specs.declared.values.Slot.{Slot}
use Rattle.activity_codec.specs.declared.values.Slot.TheVariants.{Driver, CoDriver}
use Rattle.trace_model.specs.declared.Card.{Card}
use Rattle.trace_model.specs.declared.Card.TheVariants.{A, B}
use Rattle.tacho_types.specs.CardNumber.{card_number_bytes}
use Rattle.tacho_types.specs.declared.card_number.FullCardNumber.{FullCardNumber}
use Rattle.log_model.specs.Slots.{same_card, other_slot}
use Rattle.device_calls.specs.event_model.Events as events
use Rattle.run_minutes.specs.card_slots.declared.seats.Seat.{Seat}
use Rattle.run_minutes.specs.card_slots.Calls.{seat_in, is_card}
use Rattle.device_calls.specs.hand_model.Holding.{none_held}
use Rattle.run_acts.specs.run_crew.declared.cabin.Cabin.{Cabin}
use Rattle.run_acts.specs.run_crew.declared.cards.Accepted.{Accepted}
use Rattle.run_acts.specs.run_crew.declared.cards.Cards.{Cards}
use Rattle.run_acts.specs.run_crew.Cards.{known_of, with_session, with_number, accepted_number}
use Rattle.run_acts.specs.run_crew.Cabin.{with_accepted, number_of_seat, slot_with, left_from, torn_out, crew_of}
use Rattle.run_acts.specs.run_events.Entries.{number_or_no_card, IsCrewOf}
use Rattle.run_acts.specs.NotedEvents.{AreTold}
use Rattle.run_insertion.specs.declared.lines.Entering.{Entering}
use Rattle.run_insertion.specs.Entering.{Ending, Unfit, Ahead, Fell, Unasked, Unnoted, Seated, Lost, and_one}
use Rattle.run_insertion.specs.Noted.{notes_by}
use Rattle.recorder_with_cards.specs.EnteredEvents.{events_in}
use Rattle.recorder_with_cards.specs.EnteredTold.{events_by, IsLow, cabin_of, AreNamed}
use Rattle.recorder_with_cards.proofs.EnteredAdds.{ending-told}

-- ---- what is known of another card stays
beside-known : (c x : Card) (cards : Cards) (a : Option Accepted) (n : FullCardNumber) (row : ℕ) → same_card x c ≡ false → accepted_number (known_of (with_session c a (with_number c n row cards)) x) ≡ accepted_number (known_of cards x)
beside-known A A cards a n row apart = let wrong : true ≡ false = apart in cc
beside-known A B cards a n row apart = refl
beside-known B A cards a n row apart = refl
beside-known B B cards a n row apart = let wrong : true ≡ false = apart in cc

beside-gone : (c x : Card) (cards : Cards) → same_card x c ≡ false → accepted_number (known_of (with_session c None cards) x) ≡ accepted_number (known_of cards x)
beside-gone A A cards apart = let wrong : true ≡ false = apart in cc
beside-gone A B cards apart = refl
beside-gone B A cards apart = refl
beside-gone B B cards apart = let wrong : true ≡ false = apart in cc

own-known : (c : Card) (cards : Cards) (a : Accepted) (n : FullCardNumber) (row : ℕ) → accepted_number (known_of (with_session c (Some a) (with_number c n row cards)) c) ≡ Some n
own-known A cards a n row = refl
own-known B cards a n row = refl

seat-beside : (c : Card) (seat : Option Seat) (cards : Cards) (a : Option Accepted) (n : FullCardNumber) (row : ℕ) → is_card seat c ≡ false → number_of_seat (with_session c a (with_number c n row cards)) seat ≡ number_of_seat cards seat
seat-beside c None cards a n row apart = refl
seat-beside c (Some seat) cards a n row apart = beside-known c seat.card cards a n row apart

seat-gone : (c : Card) (seat : Option Seat) (cards : Cards) → is_card seat c ≡ false → number_of_seat (with_session c None cards) seat ≡ number_of_seat cards seat
seat-gone c None cards apart = refl
seat-gone c (Some seat) cards apart = beside-gone c seat.card cards apart

itself : (c : Card) → same_card c c ≡ true
itself A = refl
itself B = refl

-- ---- WITH IT
with-named : (number : Card → List ℕ) (cabin : Cabin) (crew : events.Crew) → IsCrewOf number crew (crew_of cabin) → (slot : Slot) (card : Card) (a : Accepted) (n : FullCardNumber) (row : ℕ) → card_number_bytes n ≡ number card →
    is_card (seat_in cabin.slots.seats (other_slot slot)) card ≡ false → IsCrewOf number (events.with_card slot (Some card) crew) (crew_of (with_accepted slot card n row a cabin))
with-named number cabin crew base Driver card a n row is apart = record {
  driver = ap (λ (q : Option FullCardNumber). card_number_bytes (number_or_no_card q)) (own-known card cabin.cards a n row) ∙ is;
  codriver = ap (λ (q : Option FullCardNumber). card_number_bytes (number_or_no_card q)) (seat-beside card cabin.slots.seats.codriver cabin.cards (Some a) n row apart) ∙ base.codriver;
}
with-named number cabin crew base CoDriver card a n row is apart = record {
  driver = ap (λ (q : Option FullCardNumber). card_number_bytes (number_or_no_card q)) (seat-beside card cabin.slots.seats.driver cabin.cards (Some a) n row apart) ∙ base.driver;
  codriver = ap (λ (q : Option FullCardNumber). card_number_bytes (number_or_no_card q)) (own-known card cabin.cards a n row) ∙ is;
}

-- ---- WITHOUT IT
slot-is : (cabin : Cabin) (slot : Slot) (card : Card) → is_card (seat_in cabin.slots.seats slot) card ≡ true → is_card (seat_in cabin.slots.seats (other_slot slot)) card ≡ false → slot_with cabin.slots.seats card ≡ Some slot
slot-is cabin Driver card here apart = ap (λ (b : Bool). cond b (Some Driver) (cond (is_card cabin.slots.seats.codriver card) (Some CoDriver) None)) here
slot-is cabin CoDriver card here apart =
    ap (λ (b : Bool). cond b (Some Driver) (cond (is_card cabin.slots.seats.codriver card) (Some CoDriver) None)) apart ∙ ap (λ (b : Bool). cond b (Some CoDriver) None) here

gone-by : (number : Card → List ℕ) (cabin : Cabin) (crew : events.Crew) → IsCrewOf number crew (crew_of cabin) → (slot : Slot) (card : Card) (second : ℕ) → is_card (seat_in cabin.slots.seats (other_slot slot)) card ≡ false →
    IsCrewOf number (events.with_card slot None crew) (crew_of (record { slots = left_from (Some slot) second cabin.slots; cards = with_session card None cabin.cards }))
gone-by number cabin crew base Driver card second apart = record {
  driver = refl;
  codriver = ap (λ (q : Option FullCardNumber). card_number_bytes (number_or_no_card q)) (seat-gone card cabin.slots.seats.codriver cabin.cards apart) ∙ base.codriver;
}
gone-by number cabin crew base CoDriver card second apart = record {
  driver = ap (λ (q : Option FullCardNumber). card_number_bytes (number_or_no_card q)) (seat-gone card cabin.slots.seats.driver cabin.cards apart) ∙ base.driver;
  codriver = refl;
}

pub gone-named : (number : Card → List ℕ) (cabin : Cabin) (crew : events.Crew) → IsCrewOf number crew (crew_of cabin) → (slot : Slot) (card : Card) (second : ℕ) → is_card (seat_in cabin.slots.seats slot) card ≡ true →
    is_card (seat_in cabin.slots.seats (other_slot slot)) card ≡ false → IsCrewOf number (events.with_card slot None crew) (crew_of (torn_out card second cabin))
gone-named number cabin crew base slot card second here apart =
    subst (λ (q : Option Slot). IsCrewOf number (events.with_card slot None crew) (crew_of (record { slots = left_from q second cabin.slots; cards = with_session card None cabin.cards }))) (sym (slot-is cabin slot card here apart))
    (gone-by number cabin crew base slot card second apart)

-- ---- AS A CARD IS JUDGED
twice : (slot : Slot) (own : Option Card) (crew : events.Crew) → events.with_card slot None (events.with_card slot own crew) ≡ events.with_card slot None crew
twice Driver own crew = refl
twice CoDriver own crew = refl

seat-then : (slot : Slot) (card : Card) (n : FullCardNumber) (row : ℕ) (a : Accepted) (cabin : Cabin) → is_card (seat_in (with_accepted slot card n row a cabin).slots.seats slot) card ≡ true
seat-then Driver card n row a cabin = itself card
seat-then CoDriver card n row a cabin = itself card

other-then : (slot : Slot) (card : Card) (n : FullCardNumber) (row : ℕ) (a : Accepted) (cabin : Cabin) → is_card (seat_in cabin.slots.seats (other_slot slot)) card ≡ false → is_card (seat_in (with_accepted slot card n row a cabin).slots.seats (other_slot slot)) card ≡ false
other-then Driver card n row a cabin apart = apart
other-then CoDriver card n row a cabin apart = apart

-- an accepted card has told its number
abbrev pub IsNumbered : Ending → List ℕ → Type 0
IsNumbered (Unfit fid place) number = Unit {0}
IsNumbered (Ahead stored) number = Unit {0}
IsNumbered Fell number = Unit {0}
IsNumbered Unasked number = Unit {0}
IsNumbered (Unnoted entered clock) number = Unit {0}
IsNumbered (Seated entered clock entry) number = card_number_bytes entered.look.number ≡ number
IsNumbered (Lost entered clock entry) number = card_number_bytes entered.look.number ≡ number

module _ (number : Card → List ℕ) (second : ℕ) (low : second < 2 ^ 32) (e : Entering) (at : e.at.second ≡ second) (noted : ℕ) (cabin : Cabin) (crew : events.Crew) (base : IsCrewOf number crew (crew_of cabin)) (unaccepted : events.with_card e.slot None crew ≡ crew)
    (here : is_card (seat_in cabin.slots.seats e.slot) e.which ≡ true) (apart : is_card (seat_in cabin.slots.seats (other_slot e.slot)) e.which ≡ false) where
  abbrev bare : events.Crew
  bare = events.with_card e.slot None crew

  abbrev with_it : events.Crew
  with_it = events.with_card e.slot (Some e.which) crew

  at-first : IsCrewOf number bare (crew_of cabin)
  at-first = subst (λ (c : events.Crew). IsCrewOf number c (crew_of cabin)) (sym unaccepted) base

  left-so : IsCrewOf number bare (crew_of (torn_out e.which e.at.second cabin))
  left-so = gone-named number cabin crew base e.slot e.which e.at.second here apart

  still : (ending : Ending) → cabin_of ending e noted cabin ≡ cabin → AreNamed number ending e noted cabin bare bare bare
  still ending is = record {
    at_first = at-first;
    with_it = subst (λ (c : Cabin). IsCrewOf number bare (crew_of c)) (sym is) at-first;
    without_it = subst (λ (c : Cabin). IsCrewOf number bare (crew_of (torn_out e.which e.at.second c))) (sym is) left-so;
  }

  accepted-so : (ending : Ending) (n : FullCardNumber) (row : ℕ) (a : Accepted) → cabin_of ending e noted cabin ≡ with_accepted e.slot e.which n row a cabin → card_number_bytes n ≡ number e.which → AreNamed number ending e noted cabin bare with_it bare
  accepted-so ending n row a is named = record {
    at_first = at-first;
    with_it = subst (λ (c : Cabin). IsCrewOf number with_it (crew_of c)) (sym is) (with-named number cabin crew base e.slot e.which a n row named apart);
    without_it = subst (λ (c : Cabin). IsCrewOf number bare (crew_of (torn_out e.which e.at.second c))) (sym is)
        (subst (λ (k : events.Crew). IsCrewOf number k (crew_of (torn_out e.which e.at.second (with_accepted e.slot e.which n row a cabin)))) (twice e.slot (Some e.which) crew)
        (gone-named number (with_accepted e.slot e.which n row a cabin) with_it (with-named number cabin crew base e.slot e.which a n row named apart) e.slot e.which e.at.second (seat-then e.slot e.which n row a cabin) (other-then e.slot e.which n row a cabin apart)));
  }

  -- ITS NOTES TELL these events
  pub ending-tells : (ending : Ending) → IsLow ending → IsNumbered ending (number e.which) → AreTold number (events_in (notes_by ending e noted cabin)) (events_by ending e.speed second bare with_it bare)
  ending-tells (Unfit fid place) small named = ending-told number second low e at (Unfit fid place) noted cabin bare bare bare small (still (Unfit fid place) refl)
  ending-tells (Ahead stored) small named = ending-told number second low e at (Ahead stored) noted cabin bare bare bare small (still (Ahead stored) refl)
  ending-tells Fell small named = ending-told number second low e at Fell noted cabin bare bare bare small (still Fell refl)
  ending-tells Unasked small named = ending-told number second low e at Unasked noted cabin bare bare bare small (still Unasked refl)
  ending-tells (Unnoted entered clock) small named = ending-told number second low e at (Unnoted entered clock) noted cabin bare bare bare small (still (Unnoted entered clock) refl)
  ending-tells (Seated entered clock entry) small named =
      ending-told number second low e at (Seated entered clock entry) noted cabin bare with_it bare small (accepted-so (Seated entered clock entry) entered.look.number entered.row (record { session = entered.session; held = none_held (e.at.second / 60); entry = entry; noted = and_one noted }) refl named)
  ending-tells (Lost entered clock entry) small named =
      ending-told number second low e at (Lost entered clock entry) noted cabin bare with_it bare small (accepted-so (Lost entered clock entry) entered.look.number entered.row (record { session = entered.session; held = none_held (e.at.second / 60); entry = entry; noted = and_one noted }) refl named)
