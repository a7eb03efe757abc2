-- Which events are sure: those in whose second no call on the unit failed (profile).
use Rattle.std.specs.Prelude.{◌≡◌, ℕ, Bool, true, not, List}
use Rattle.std.specs.List.{list_all}
use Rattle.log_model.specs.Log.{RunLog}
use Rattle.event_model.specs.Events.{Event}
use Rattle.note_model.specs.Done.{has_failed_in}
use Rattle.note_model.specs.Events.{noting_second}

-- no one of these was noted in a second in which a call on the unit failed
abbrev pub are_sure : RunLog → List Event → Bool
are_sure log events = list_all (λ e. not (has_failed_in log (noting_second e))) events

-- calls that failed in a second have failed there for good
abbrev pub StayFailed : (log later : RunLog) → Type 0
StayFailed log later = (u : ℕ) → has_failed_in log u ≡ true → has_failed_in later u ≡ true
