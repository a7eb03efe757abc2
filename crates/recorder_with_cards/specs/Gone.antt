-- The items of a trace as they come, and how a run goes on by them (profile).
use Rattle.std.specs.Prelude.{◌≡◌, ◌⊎◌, ℕ, ◌+◌, ◌≤◌, Bool, true, false, Result, IfErr, OnOk, [], length}
use Rattle.tach_media.specs.Medium.{State, HasBroken}
use Rattle.tach_media.specs.card_layout.declared.command.CardState.{CardState}
use Rattle.trace_model.specs.declared.Item.{Item}
use Rattle.trace_model.specs.declared.Item.TheVariants.{Run as Driven, Off, Act}
use Rattle.unit_minutes.specs.unit_model.Image.{IsUnit}
use Rattle.run_opening.specs.declared.fault.RunFault.{RunFault}
use Rattle.log_model.specs.Causes.{cuts, tears}
use Rattle.device_calls.specs.safety_model.Safe.{Devices}
use Rattle.run_minutes.specs.run_promise.Between.{devices}
use Rattle.run_opening.specs.Opening.{IsRefused, IsAsItWas}
use Rattle.run_outcome.specs.declared.outcome.Outcome.{Outcome}
use Rattle.run_acts.specs.declared.run.Run.{Run}
use Rattle.run_acts.specs.Going.{IsBetweenSeconds, IsFoundLater}
use Rattle.run_acts.specs.Recording.{log_of}
use Rattle.recorder_with_cards.specs.Breakdowns.{BreakdownsAreTold}

-- the first item that waits for its second behind an item, where it was this one before: an action waits itself
abbrev pub first_waiting : Item → (first index : ℕ) → ℕ
first_waiting (Driven seconds speed) first index = index + 1
first_waiting (Off seconds) first index = index + 1
first_waiting (Act action) first index = first

-- an item has seconds; an action has none
abbrev pub has_seconds : Item → Bool
has_seconds (Driven seconds speed) = true
has_seconds (Off seconds) = true
has_seconds (Act action) = false

-- A RUN WENT ON by so many seconds, or a power-on has refused the unit: no failed call does.
pub record HasGone (result : Result (Unit {0}) RunFault) (seconds : ℕ) (old new : Run) (after : Outcome) (unit : State)
    (chip_a chip_b : CardState) (a b : State) : Type 0 where
  pub late : IfErr result IsFoundLater
  pub going : OnOk result (IsBetweenSeconds new unit chip_a chip_b a b)
  pub next : OnOk result (new.next ≡ old.next + seconds)
  pub unfound : OnOk result (new.unfound ≤ length after.breaks.items)
  pub is_unit : IsUnit unit

-- BREAKDOWNS ARE TOLD: each cut that a failed call made is a breakdown of the unit more, whatever it tells; and of a
-- run that is recorded, where none has cut the power the unit has not broken down, and neither card has where none has
-- torn one out; nor have they broken down more often than such cuts and tears tell
pub record TellsBreakdowns (result : Result (Unit {0}) RunFault) (after : Outcome) (d e : Devices) : Type 0 where
  pub broke : HasBroken d.unit e.unit (length (cuts true (log_of after)))
  pub calm : OnOk result (cuts true (log_of after) ≡ [] → e.unit.breakdowns ≡ d.unit.breakdowns)
  pub still : OnOk result (tears true (log_of after) ≡ []
      → (e.card_a.breakdowns ≡ d.card_a.breakdowns) × (e.card_b.breakdowns ≡ d.card_b.breakdowns))
  pub told : OnOk result (BreakdownsAreTold (log_of after) d e)

-- A RUN IS REFUSED: by the opening, for one of its causes, with each device as it was and no line told; or later by a
-- unit that was read anew at a power-on.
abbrev pub IsRefusedBy : (start : ℕ) → (before after : Outcome) → (unit unit_after a a_after b b_after : State)
    → RunFault → Type 0
IsRefusedBy start before after unit unit_after a a_after b b_after fault =
    (IsRefused start (devices unit a b) (devices unit_after a_after b_after) fault × IsAsItWas unit unit_after
    × IsAsItWas a a_after × IsAsItWas b b_after × (after ≡ before)) ⊎ IsFoundLater fault
