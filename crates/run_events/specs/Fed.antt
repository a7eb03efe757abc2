-- The seconds of a run as they are fed to what is watched of its events (profile).
use Rattle.std.specs.Prelude.{◌≡◌, ℕ, zero, suc, ◌+◌, ◌≤◌, true, false, None, List, [], ◌∷◌}
use Rattle.activity_codec.specs.declared.values.Slot.{Slot}
use Rattle.log_model.specs.Log.{RunLog, Phase, cut_in, is_torn_in, found_in}
use Rattle.log_model.specs.Slots.{Slots}
use Rattle.log_model.specs.Course.{Before}
use Rattle.event_model.specs.Events.{Seen}
use Rattle.run_course.specs.Quiet.{quiet_second}

-- a log tells nothing of the seconds from a number on
pub record IsSilentFrom (log : RunLog) (next : ℕ) : Type 0 where
  pub uncut : (u : ℕ) → next ≤ u → cut_in log u ≡ None
  pub torn : (u : ℕ) (p : Phase) (slot : Slot) → next ≤ u → is_torn_in log u p slot ≡ false
  pub found : (u : ℕ) (p : Phase) (slot : Slot) → next ≤ u → found_in log u p slot ≡ []

-- power goes on, with these slots
abbrev pub going_with : Slots → Before
going_with slots = record { running = true; gone = false; given = true; slots = slots }

-- a second with power in which nothing happens, as its events see it
abbrev pub still_second : (number speed : ℕ) → Slots → Seen
still_second number speed slots = record {
  told = quiet_second number speed slots;
  after = λ n. slots;
  within = λ n. slots;
  itself = slots;
}

-- n such seconds one after another, from a number on, at one speed
abbrev pub still_seconds : ℕ → (number speed : ℕ) → Slots → List Seen
still_seconds zero number speed slots = []
still_seconds (suc n) number speed slots = still_second number speed slots ∷ still_seconds n (number + 1) speed slots
