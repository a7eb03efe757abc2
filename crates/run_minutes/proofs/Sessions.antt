-- What slots and sessions are behind an entry.
use Rattle.std.proofs.Common.{◌≡◌, inl, inr, ℕ, ◌/◌, ◌≤◌, Option, Some, None, IfSome, refl, arith}
use Rattle.std.proofs.lemmas.List.Elements.{All-weaker}
use Rattle.trace_model.specs.declared.Card.{Card}
use Rattle.trace_model.specs.declared.Card.TheVariants.{A, B}
use Rattle.card_slots.specs.declared.seats.Seat.{Seat}
use Rattle.card_slots.specs.declared.seats.Ended.{Ended}
use Rattle.card_slots.specs.Kept.{Kept as Slots, KnowsNewest}
use Rattle.card_slots.proofs.Newest.{take-knows}
use Rattle.activity_codec.specs.declared.values.Slot.{Slot}
use Rattle.run_crew.specs.declared.cards.Accepted.{Accepted}
use Rattle.run_crew.specs.declared.cards.Cards.{Cards}
use Rattle.run_crew.specs.declared.cabin.Cabin.{Cabin}
use Rattle.run_crew.specs.Cards.{known_of, session_of, with_session}
use Rattle.run_crew.specs.Cabin.{CabinIsSound, AnswersTo, SeatAnswers, EndedStands, torn_out, left_from, slot_with, HoldsBy, HoldsHands}
use Rattle.run_crew.proofs.Moves.{tear-stands}

-- a session behind another
pub session-twice : (c : Card) (s t : Option Accepted) (cards : Cards) → with_session c t (with_session c s cards) ≡ with_session c t cards
session-twice A s t cards = refl
session-twice B s t cards = refl

pub number-set : (c d : Card) (s : Option Accepted) (cards : Cards) → (known_of (with_session c s cards) d).number ≡ (known_of cards d).number
number-set A A s cards = refl
number-set A B s cards = refl
number-set B A s cards = refl
number-set B B s cards = refl

pub row-set : (c d : Card) (s : Option Accepted) (cards : Cards) → (known_of (with_session c s cards) d).row ≡ (known_of cards d).row
row-set A A s cards = refl
row-set A B s cards = refl
row-set B A s cards = refl
row-set B B s cards = refl

-- ---- minutes that are not to be kept any more

module _ (from n : ℕ) (le : from ≤ n) where
  answers-later : (newest : Option ℕ) (session : Option Accepted) → AnswersTo from newest session → AnswersTo n newest session
  answers-later None None answers = tt
  answers-later None (Some a) answers = absurd answers
  answers-later (Some m) None answers = absurd answers
  answers-later (Some m) (Some a) (inl below) = inl below
  answers-later (Some m) (Some a) (inr kept) = inr (omega (arith, kept, le))

  seat-later : (cards : Cards) (seat : Option Seat) → SeatAnswers from cards seat → SeatAnswers n cards seat
  seat-later cards None answers = tt
  seat-later cards (Some seat) answers = answers-later seat.newest (session_of cards seat.card) answers

  ended-later : (before : ℕ) (cards : Cards) (e : Ended) → EndedStands from before cards e → EndedStands n before cards e
  ended-later before cards e was = record {
    over = was.over;
    driver = λ late. was.driver (omega (arith, late, le));
    codriver = λ late. was.codriver (omega (arith, late, le));
    apart = was.apart;
  }

  holds-later : (begun : Option ℕ) (a : Accepted) → HoldsBy from begun a → HoldsBy n begun a
  holds-later None a was = (let low = was.0 in omega (arith, low, le), was.1, was.2)
  holds-later (Some first) a was = was

  hands-later : (o : Option Accepted) → IfSome o (HoldsHands from) → IfSome o (HoldsHands n)
  hands-later None was = tt
  hands-later (Some a) was = holds-later a.held.begun a was

  pub stands-later : (leaving : Option Card) (cabin : Cabin) → CabinIsSound from leaving cabin → CabinIsSound n leaving cabin
  stands-later leaving cabin h = record {
    a = h.a;
    b = h.b;
    driver = seat-later cabin.cards cabin.slots.seats.driver h.driver;
    codriver = seat-later cabin.cards cabin.slots.seats.codriver h.codriver;
    apart = h.apart;
    only = h.only;
    left = h.left;
    past = All-weaker (EndedStands from cabin.slots.minute cabin.cards) (EndedStands n cabin.slots.minute cabin.cards) (λ e was. ended-later cabin.slots.minute cabin.cards e was) cabin.slots.past h.past;
    newest = h.newest;
    hands = λ card. hands-later (session_of cabin.cards card) (h.hands card);
  }

-- ---- the other card

-- a card that is torn out

torn-knows : (o : Option Slot) (second : ℕ) (slots : Slots) → slots.minute ≤ second / 60 → KnowsNewest slots → KnowsNewest (left_from o second slots)
torn-knows None second slots low knows = knows
torn-knows (Some slot) second slots low knows = take-knows slots slot second low knows

pub torn-stands : (cabin : Cabin) (card : Card) (second from : ℕ) (leaving : Option Card) → cabin.slots.minute ≤ second / 60 → CabinIsSound from leaving cabin → CabinIsSound from leaving (torn_out card second cabin)
torn-stands cabin card second from leaving low h = tear-stands cabin card second from leaving low h (torn-knows (slot_with cabin.slots.seats card) second cabin.slots low h.newest)

-- what holds of a card holds of one that was present
pub some-goes : (o : Option Card) (P Q : Card → Type 0) → ((card : Card) → P card → Q card) → IfSome o P → IfSome o Q
some-goes None P Q goes h = tt
some-goes (Some card) P Q goes h = goes card h
