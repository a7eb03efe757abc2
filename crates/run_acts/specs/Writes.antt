-- How many writes the calls of a run begin at most, on the unit and on a card (profile).
use Rattle.std.specs.Prelude.{ℕ}

-- SETTLING: those of three minutes, on the unit
abbrev pub settle_unit_most : ℕ
settle_unit_most = 78

-- and on a card
abbrev pub settle_card_most : ℕ
settle_card_most = 294

-- A TURN: those, and on the unit 15 for a block of detailed speed and the events that have ended (run_events
-- `watch_most`)
abbrev pub turn_unit_most : ℕ
turn_unit_most = 93

-- A WITHDRAWAL: those of settling, and 4 more on the unit
abbrev pub withdraw_unit_most : ℕ
withdraw_unit_most = 82

-- and 8 more on the card
abbrev pub withdraw_card_most : ℕ
withdraw_card_most = 302

-- CLOSING A SESSION: on the unit the entry of its insertion, or the fault of a card that is torn out
abbrev pub close_unit_most : ℕ
close_unit_most = 4

-- and on the card
abbrev pub close_card_most : ℕ
close_card_most = 8

-- A PLACE: on the unit, with the fault of a card that is torn out
abbrev pub place_unit_most : ℕ
place_unit_most = 9

-- and on the card
abbrev pub place_card_most : ℕ
place_card_most = 5

-- AN INTERRUPTION ON THE CARD OF A SLOT: on the unit the fault of a card that is torn out
abbrev pub slot_gap_unit_most : ℕ
slot_gap_unit_most = 4

-- and on the card
abbrev pub slot_gap_card_most : ℕ
slot_gap_card_most = 4

-- AN INTERRUPTION: its event on the unit, and those of both slots
abbrev pub gap_unit_most : ℕ
gap_unit_most = 12

-- and on a card: no more than those of both
abbrev pub gap_card_most : ℕ
gap_card_most = 8
