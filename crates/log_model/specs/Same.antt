-- When two run logs tell the same of a second (profile).
use Rattle.std.specs.Prelude.{◌≡◌, ℕ}
use Rattle.activity_codec.specs.declared.values.Slot.{Slot}
use Rattle.log_model.specs.Log.{RunLog, Phase, cut_in, is_torn_in, found_in}

-- of its cut, its tears and its finds; what was found kept after the cut may be told later
pub record SameAt (log later : RunLog) (u : ℕ) : Type 0 where
  pub cut : cut_in later u ≡ cut_in log u
  pub torn : (p : Phase) (slot : Slot) → is_torn_in later u p slot ≡ is_torn_in log u p slot
  pub found : (p : Phase) (slot : Slot) → found_in later u p slot ≡ found_in log u p slot
