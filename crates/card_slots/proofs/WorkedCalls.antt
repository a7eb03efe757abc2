-- Worked calls, computed on the definitions.
use Rattle.std.proofs.Common.{◌≡◌, ℕ, ◌+◌, Option, Some, None, List, [], ◌∷◌, refl}
use Rattle.activity_codec.specs.declared.values.Slot.TheVariants.{Driver, CoDriver}
use Rattle.trace_model.specs.declared.Card.{Card}
use Rattle.trace_model.specs.declared.Card.TheVariants.{A, B}
use Rattle.card_slots.specs.declared.seats.Present.{Present}
use Rattle.card_slots.specs.Calls.{SlotCall, Put, Take, CutAt, EndMinute, table_of, present_by}

-- 2010-03-01 00:00 as a second and as a minute
abbrev start : ℕ
start = 1267401600

abbrev minute : ℕ
minute = 21123360

-- these cards are present
abbrev with_cards : Option Card → Option Card → Option Present
with_cards driver codriver = Some (record { driver = driver; codriver = codriver })

-- A new card is put in, withdrawn in order ten minutes later, and put in again in that second, when its newest minute is the tenth.
abbrev put_in_again : List SlotCall
put_in_again =
    Put Driver A None ∷ Put Driver A (Some 0) ∷ EndMinute (minute + 9) ∷ Take Driver (start + 600) ∷ Put Driver A None
    ∷ Put Driver A (Some (minute + 10)) ∷ EndMinute (minute + 10) ∷ EndMinute (minute + 11) ∷ []

before_it : present_by put_in_again (minute + 9) ≡ with_cards (Some A) None
unfolding table_of
before_it = refl

in_its_minute : present_by put_in_again (minute + 10) ≡ with_cards None None
unfolding table_of
in_its_minute = refl

after_it : present_by put_in_again (minute + 11) ≡ with_cards (Some A) None
unfolding table_of
after_it = refl

-- Two drivers change slots in one minute: neither is present in it.
abbrev changed_over : List SlotCall
changed_over =
    Put Driver A (Some 0) ∷ Put CoDriver B (Some 0) ∷ Take Driver start ∷ Take CoDriver start ∷ Put Driver B (Some 0) ∷ Put CoDriver A (Some 0)
    ∷ EndMinute minute ∷ EndMinute (minute + 1) ∷ []

while_changing : present_by changed_over minute ≡ with_cards None None
unfolding table_of
while_changing = refl

once_changed : present_by changed_over (minute + 1) ≡ with_cards (Some B) (Some A)
unfolding table_of
once_changed = refl

-- Power is lost, and comes back with the next minute.
abbrev power_lost : List SlotCall
power_lost = Put Driver A (Some 0) ∷ CutAt (start + 59) ∷ EndMinute minute ∷ Put Driver A (Some minute) ∷ EndMinute (minute + 1) ∷ []

in_the_dark : present_by power_lost minute ≡ with_cards None None
unfolding table_of
in_the_dark = refl

with_power : present_by power_lost (minute + 1) ≡ with_cards (Some A) None
unfolding table_of
with_power = refl

-- a minute that has not ended
not_ended : present_by power_lost (minute + 2) ≡ None
unfolding table_of
not_ended = refl
