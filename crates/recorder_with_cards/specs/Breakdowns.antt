-- How often the devices of a run with cards have broken down, by its log (profile).
use Rattle.std.specs.Prelude.{◌≡◌, ℕ, ◌+◌, ◌<◌, ◌≤◌, true, length, filter}
use Rattle.trace_model.specs.declared.Card.{Card}
use Rattle.tach_media.specs.Medium.{HasBrokenAtMost, last_count}
use Rattle.log_model.specs.Log.{RunLog}
use Rattle.log_model.specs.Slots.{same_card}
use Rattle.log_model.specs.Causes.{cuts, tears, cards_torn}
use Rattle.device_calls.specs.safety_model.Recording.{Recording, told_of}
use Rattle.device_calls.specs.safety_model.Safe.{Devices, card_of}

-- both cards together have broken down so often at most, as long as either count stands below its last value
abbrev pub HaveBrokenAtMost : (old new : Devices) → ℕ → Type 0
HaveBrokenAtMost old new times = new.card_a.breakdowns < last_count → new.card_b.breakdowns < last_count
    → new.card_a.breakdowns + new.card_b.breakdowns ≤ (old.card_a.breakdowns + old.card_b.breakdowns) + times

-- EACH BREAKDOWN IS TOLD: the unit has broken down no more often than failed calls have cut the power, and the cards no
-- more often than failed calls have torn one out.
pub record BreakdownsAreTold (log : RunLog) (old new : Devices) : Type 0 where
  pub unit : HasBrokenAtMost old.unit new.unit (length (cuts true log))
  pub cards : HaveBrokenAtMost old new (length (tears true log))

-- SO EACH DEVICE HAS BROKEN DOWN JUST AS OFTEN AS IT IS TOLD, as long as its count stands below its last value: the
-- unit so often as failed calls have cut the power, and each card so often as one has torn it out.
pub record BreakdownsAreCounted (r : Recording) (old new : Devices) : Type 0 where
  pub unit : new.unit.breakdowns < last_count
      → new.unit.breakdowns ≡ old.unit.breakdowns + length (cuts true r.log)
  pub card : new.card_a.breakdowns < last_count → new.card_b.breakdowns < last_count → (c : Card)
      → (card_of new c).breakdowns
      ≡ (card_of old c).breakdowns + length (filter (same_card c) (cards_torn (told_of r)))
