-- How many writes the steps of an acceptance begin at most (profile).
use Rattle.std.specs.Prelude.{ℕ, ◌+◌}
use Rattle.device_calls.specs.card_model.declared.lengths.TheConstants.{DAYS_MOST}

-- SEATING A CARD: on the unit its insertion and its row
abbrev pub seat_unit_most : ℕ
seat_unit_most = 12

-- THE EVENT OF A MOVING VEHICLE: on the unit, with the fault of a card that is torn out
abbrev pub moving_unit_most : ℕ
moving_unit_most = 8

-- and on the card
abbrev pub moving_card_most : ℕ
moving_card_most = 4

-- WHAT COMES WITH AN ACCEPTED CARD: that event, and on the unit the one of a session that was not closed
abbrev pub entered_unit_most : ℕ
entered_unit_most = 12

-- A CARD ENTERS: on the unit those of its seating and of what comes with it
abbrev pub enter_unit_most : ℕ
enter_unit_most = 24

-- and on the card those of its insertion, as many as its days have and some more
abbrev pub enter_card_most : ℕ
enter_card_most = DAYS_MOST + 88
