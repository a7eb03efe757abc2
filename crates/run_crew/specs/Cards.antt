-- What is known of the two cards (profile).
use Rattle.std.specs.Prelude.{◌≡◌, ℕ, true, Option, Some, None, Result, Ok, IfSome, is_some, if◌then◌else◌}
use Rattle.trace_model.specs.declared.Card.{Card}
use Rattle.trace_model.specs.declared.Card.TheVariants.{A, B}
use Rattle.card_layout.specs.declared.files.Application.{Application}
use Rattle.tacho_types.specs.declared.card_number.FullCardNumber.{FullCardNumber}
use Rattle.run_crew.specs.declared.cards.Accepted.{Accepted}
use Rattle.run_crew.specs.declared.cards.Known.{Known}
use Rattle.run_crew.specs.declared.cards.Cards.{Cards}

-- what is known of a card
abbrev pub known_of : Cards → Card → Known
known_of cards A = cards.a
known_of cards B = cards.b

-- the session of a card, where it is accepted
abbrev pub session_of : Cards → Card → Option Accepted
session_of cards A = cards.a.accepted
session_of cards B = cards.b.accepted

-- a card with this session, or with none
abbrev pub with_session : Card → Option Accepted → Cards → Cards
with_session A session cards = record cards { a = record cards.a { accepted = session } }
with_session B session cards = record cards { b = record cards.b { accepted = session } }

-- a card that has told these sizes, or a bad field
abbrev pub with_sizes : Card → Result Application ℕ → Cards → Cards
with_sizes A sizes cards = record cards { a = record cards.a { sizes = sizes } }
with_sizes B sizes cards = record cards { b = record cards.b { sizes = sizes } }

-- a card that has told this number, and for which this row of the unit is begun
abbrev pub with_number : Card → FullCardNumber → (row : ℕ) → Cards → Cards
with_number A number row cards = record cards { a = record cards.a { number = Some number; row = row } }
with_number B number row cards = record cards { b = record cards.b { number = Some number; row = row } }

-- the number of a card, while it is accepted
abbrev pub accepted_number : Known → Option FullCardNumber
accepted_number known = if is_some known.accepted then known.number else None

-- a session goes by the sizes of its card, which has told a number
pub record IsKnown (known : Known) : Type 0 where
  pub sized : IfSome known.accepted (λ a. known.sizes ≡ Ok a.session.application)
  pub numbered : IfSome known.accepted (λ a. is_some known.number ≡ true)
