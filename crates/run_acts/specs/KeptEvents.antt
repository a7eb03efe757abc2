-- The faults of cards as events of a run, and the numbers of its cards (Annex IB, section III.12; the moments:
-- profile).
use Rattle.std.specs.Prelude.{◌≡◌, List}
use Rattle.std.specs.List.{AllByRecursion}
use Rattle.trace_model.specs.declared.Card.{Card}
use Rattle.tacho_types.specs.declared.card_number.FullCardNumber.{FullCardNumber}
use Rattle.unit_notes.specs.event_model.declared.kinds.TheConstants.{CARD_FAULT}
use Rattle.unit_notes.specs.declared.unit_event.UnitEvent.{UnitEvent}
use Rattle.run_minutes.specs.run_promise.Origin.{Origin}
use Rattle.run_note_record.specs.Evented.{number_in}
use Rattle.run_events.specs.Watched.{number_bytes}

-- these are faults of cards
abbrev pub AreFaults : List UnitEvent → Type 0
AreFaults vs = AllByRecursion (λ v. v.kind ≡ CARD_FAULT) vs

-- these are the numbers of the cards
abbrev pub AreNumbered : Origin → (Card → FullCardNumber) → Type 0
AreNumbered o number = (c : Card) → number_in o c ≡ number_bytes number c
