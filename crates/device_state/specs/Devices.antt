-- What was seen of cards, by what they told (profile).
use Rattle.std.specs.Prelude.{Option, Some, None, Result, Ok, Err}
use Rattle.tacho_types.specs.CardNumber.{card_number_bytes}
use Rattle.card_validity.specs.declared.looking.CardLook.{CardLook}
use Rattle.device_state.specs.declared.card.CardFault.{CardFault}
use Rattle.device_state.specs.declared.unit.CardSeen.{CardSeen}
use Rattle.device_state.specs.declared.unit.CardsSeen.{CardsSeen}

-- what was seen of a card: its number, its open session, and its newest minute
abbrev pub seen_by : CardLook → CardSeen
seen_by look = record { number = card_number_bytes look.number; session = look.session; newest = look.newest_minute }

-- what was seen of a card, where it told something
abbrev pub seen : Result CardLook CardFault → Option CardSeen
seen (Ok look) = Some (seen_by look)
seen (Err fault) = None

-- what was seen of the two cards
abbrev pub cards_seen : (a b : Result CardLook CardFault) → CardsSeen
cards_seen a b = record { a = seen a; b = seen b }
