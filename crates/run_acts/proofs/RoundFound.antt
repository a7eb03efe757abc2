-- What was found of the cards stays, whatever becomes of their sessions.
use Rattle.std.proofs.Common.{◌≡◌, ℕ, Option, Some, None, IfSome, is_some, true, subst, sym}
use Rattle.trace_model.specs.declared.Card.{Card}
use Rattle.tacho_types.specs.CardNumber.{card_number_bytes}
use Rattle.tacho_types.specs.declared.card_number.FullCardNumber.{FullCardNumber}
use Rattle.run_crew.specs.card_slots.declared.seats.Present.{Present}
use Rattle.run_crew.specs.declared.cards.Accepted.{Accepted}
use Rattle.run_crew.specs.declared.cards.Cards.{Cards}
use Rattle.run_crew.specs.declared.cabin.Cabin.{Cabin}
use Rattle.run_crew.specs.Cards.{with_session}
use Rattle.run_minutes.specs.run_promise.Found.{Found, found_of}
use Rattle.run_minutes.specs.run_devices.Told.{AreFoundCards}
use Rattle.run_minutes.specs.Keeping.{Fate, Still, Has, Fell, cabin_by}
use Rattle.run_minutes.specs.Minutes.{Round, cabin_after}
use Rattle.run_minutes.proofs.Sessions.{number-set}

found-with : (f : Found) (c : Card) (s : Option Accepted) (cards : Cards) → AreFoundCards f cards → AreFoundCards f (with_session c s cards)
found-with f c s cards h = record {
  two = h.two;
  named = λ d valid. subst (λ (q : Option FullCardNumber). IfSome q (λ n. card_number_bytes n ≡ (found_of f d).number)) (sym (number-set c d s cards)) (h.named d valid);
  told = λ d valid. subst (λ (q : Option FullCardNumber). is_some q ≡ true) (sym (number-set c d s cards)) (h.told d valid);
  only = λ d has. h.only d (subst (λ (q : Option FullCardNumber). is_some q ≡ true) (number-set c d s cards) has);
  own = h.own;
  sizes = h.sizes;
  entries = h.entries;
  word = h.word;
}

found-by : (f : Found) (fate : Fate) (present : Option Card) (second : ℕ) (cabin : Cabin) → AreFoundCards f cabin.cards → AreFoundCards f (cabin_by fate present second cabin).cards
found-by f Still None second cabin h = h
found-by f (Has a n) None second cabin h = h
found-by f Fell None second cabin h = h
found-by f Still (Some c) second cabin h = h
found-by f (Has a n) (Some c) second cabin h = found-with f c (Some a) cabin.cards h
found-by f Fell (Some c) second cabin h = found-with f c None cabin.cards h

pub found-after : (f : Found) (present : Present) (second : ℕ) (round : Round) (cabin : Cabin) → AreFoundCards f cabin.cards → AreFoundCards f (cabin_after present second round cabin).cards
found-after f present second round cabin h = found-by f round.codriver present.codriver second (cabin_by round.driver present.driver second cabin) (found-by f round.driver present.driver second cabin h)
