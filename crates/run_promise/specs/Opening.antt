-- How a run begins (profile): devices that have one image each, and what the opening finds of it.
use Rattle.std.specs.Prelude.{◌≡◌, ℕ, Some, [], List}
use Rattle.run_course.specs.trace_model.declared.Card.{Card}
use Rattle.tach_media.specs.Medium.{State}
use Rattle.unit_rule.specs.card_model.Days.{AreDays}
use Rattle.unit_rule.specs.device_rule.Fields.{card_days}
use Rattle.unit_rule.specs.device_rule.Own.{own_view, own_sizes}
use Rattle.run_course.specs.history_model.Presence.{CardStart}
use Rattle.run_course.specs.history_model.Book.{not_begun}
use Rattle.unit_rule.specs.device_rule.Views.{UnitView, unit_view, owed, beyond}
use Rattle.unit_rule.specs.device_rule.Rules.{Out}
use Rattle.run_promise.specs.Found.{Found, found_of}
use Rattle.run_promise.specs.Between.{RunLedger}
use Rattle.unit_rule.specs.hand_model.Written.{no_hands}

-- a device begins with this image alone: a read gives it, and since then a stop leaves no other
pub record BeginsAs (x : List ℕ) (device : State) : Type 0 where
  pub tells : device.image ≡ Some x
  pub only : (c : List ℕ) → device.left_since device.clock c → c ≡ x

-- what a card brings, by its image and what the unit's shows
abbrev pub as_found : Card → UnitView → List ℕ → CardStart
as_found c u x = record {
  entries = (own_view x).held.entries;
  owed = owed c u (own_view x);
  mark = (own_view x).mark;
  word = beyond (own_view x);
}

-- so it was found of these images of unit and card, at this clock, and the card's days are days
pub record IsLookedAt (f : Found) (c : Card) (u x : List ℕ) (clock : ℕ) : Type 0 where
  pub image : (found_of f c).image ≡ x
  pub start : (found_of f c).start ≡ as_found c (unit_view f.card_a.number f.card_b.number u) x
  pub began : (found_of f c).began ≡ clock
  pub days : AreDays 0 (card_days (own_sizes x) x)

-- what is carried before the first second: nothing is kept, and no card is accepted
abbrev pub carried_first : (due : ℕ) → RunLedger
carried_first due = record {
  due = due;
  book = not_begun;
  marks = [];
  standing = λ c. Out;
  brought = λ c. [];
  hands = λ c. no_hands;
  firsts = λ c. [];
}
