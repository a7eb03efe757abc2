-- What a number draws.
use Rattle.std.specs.Prelude.{ℕ, zero, suc, ◌-◌, ◌/◌, ◌%◌, nat_le, if◌then◌else◌, Option, Some, None, option_map}
use Rattle.noisy_model.specs.declared.event.Event.{Event}
use Rattle.noisy_model.specs.declared.event.Event.TheVariants.{Send, ToUnit, ToLoader}

-- the place of the last of so many but for the late ones, if there are so many
abbrev pub before_last : (count late : ℕ) → Option ℕ
before_last count late = if nat_le count late then None else Some (count - 1 - late)

-- the loader's end sends, a packet comes to the unit's end, or an answer to the loader's
abbrev pub event_of : (kind late sent answered : ℕ) → Option Event
event_of zero late sent answered = Some Send
event_of (suc zero) late sent answered = option_map ToUnit (before_last sent late)
event_of (suc (suc kind)) late sent answered = option_map ToLoader (before_last answered late)

-- the event that a number draws, where so many packets were sent and so many answers given
abbrev pub event_drawn : (x sent answered : ℕ) → Option Event
event_drawn x sent answered = event_of (x / 65536 % 3) (x / 256 % 3) sent answered
