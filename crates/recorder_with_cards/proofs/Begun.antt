-- A span that begins at a power-on.
use Rattle.std.proofs.Common.{◌≡◌, ℕ, Option, Some, None, refl, subst, arith}
use Rattle.trace_model.specs.declared.Card.{Card}
use Rattle.minute_rules.specs.minute_model.declared.Rule.{Rule}
use Rattle.minute_rules.specs.minute_model.Span.{begin}
use Rattle.minute_rules.specs.Kept.{CountsSpan, Kept as Minutes}
use Rattle.run_minutes.specs.card_slots.declared.seats.Seat.{Seat}
use Rattle.run_acts.specs.run_crew.declared.cards.Accepted.{Accepted}
use Rattle.run_acts.specs.run_crew.declared.cards.Cards.{Cards}
use Rattle.run_acts.specs.run_crew.Cards.{session_of}
use Rattle.run_acts.specs.run_crew.Cabin.{AnswersTo, SeatAnswers}
use Rattle.run_acts.proofs.Kept.{owing-is}
use Rattle.recorder_with_cards.specs.Accepting.{IsBare}

-- none waits
pub begun-none : (rule : Rule) (minutes : Minutes) (next : ℕ) → CountsSpan minutes (begin rule next) → minutes.owing ≡ 0
begun-none rule minutes next stands = let is = owing-is minutes (begin rule next) stands in omega (arith, is)

-- no card is accepted
newest-none : (from : ℕ) (newest : Option ℕ) → AnswersTo from newest None → newest ≡ None
newest-none from None h = refl
newest-none from (Some n) h = absurd h

pub dark-bare : (from : ℕ) (cards : Cards) (seat : Option Seat) → ((card : Card) → session_of cards card ≡ None) → SeatAnswers from cards seat → IsBare seat
dark-bare from cards None none h = tt
dark-bare from cards (Some seat) none h = newest-none from seat.newest (subst (λ (o : Option Accepted). AnswersTo from seat.newest o) (none seat.card) h)
