-- How many writes some calls begin at most (profile).
use Rattle.std.specs.Prelude.{ℕ, ◌+◌, ◌≤◌}
use Rattle.run_devices.specs.safety_model.Safe.{Devices}

-- A KEEP of a minute begins so many on its card: 17, and 4 for each of the eight entries by hand that a session's first
-- one may have before it.
abbrev pub keep_most : ℕ
keep_most = 49

-- AN ENTRY THAT IS OWED begins so many on the unit;
abbrev pub owe_unit_most : ℕ
owe_unit_most = 3

-- and so many the entries of both slots and the minute itself.
abbrev pub acknowledge_unit_most : ℕ
acknowledge_unit_most = 18

-- A TEAR begins so many on the unit, where its fault is noted.
abbrev pub tear_unit_most : ℕ
tear_unit_most = 4

-- A MINUTE begins on a card those of two keeps,
abbrev pub minute_most : ℕ
minute_most = 98

-- and on the unit 18 for what is owed and for itself, and 4 for the tear of each of two cards.
abbrev pub minute_unit_most : ℕ
minute_unit_most = 26

-- SO MANY WRITES AT MOST were begun on the unit, and so many on each card.
pub record WroteAtMost (on_unit on_card : ℕ) (old new : Devices) : Type 0 where
  pub unit : new.unit.clock ≤ old.unit.clock + on_unit
  pub card_a : new.card_a.clock ≤ old.card_a.clock + on_card
  pub card_b : new.card_b.clock ≤ old.card_b.clock + on_card
