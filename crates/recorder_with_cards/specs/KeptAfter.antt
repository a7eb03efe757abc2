-- What a run tells of what was kept after its cuts (profile).
use Rattle.std.specs.Prelude.{◌≡◌, ◌⊎◌, ◌<◌, ℕ, true, IfSome, List, [], ◌∷◌, length}
use Rattle.std.specs.List.{AllByRecursion}
use Rattle.minute_rules.specs.minute_model.Activity.{last}
use Rattle.tach_media.specs.Medium.{State}
use Rattle.unit_minutes.specs.unit_model.Image.{last_kept}
use Rattle.log_model.specs.Log.{RunLog, kept_after}
use Rattle.log_model.specs.Course.{ToldSecond}
use Rattle.log_model.specs.Spans.{spans_of, first_in}
use Rattle.device_calls.specs.history_model.History.{cut_second}
use Rattle.device_calls.specs.note_model.Done.{has_failed_in}
use Rattle.device_calls.specs.safety_model.Recording.{Recording, told_of}

-- an image of the unit has this last-kept minute
abbrev pub WasKept : (unit : List ℕ → Type 0) → ℕ → Type 0
WasKept unit k = (x : List ℕ) × unit x × (last_kept x ≡ k)

-- After the cut of a second it was found what was kept, by a span behind it; or that is 0, and in the first second of
-- each span behind it a call failed: none has loaded the unit.
abbrev pub IsFoundAfter : (unit : List ℕ → Type 0) → RunLog → (later : List (List ToldSecond)) → (second : ℕ) → Type 0
IsFoundAfter unit log later u = (WasKept unit (kept_after log u) × (0 < length later))
    ⊎ ((kept_after log u ≡ 0) × AllByRecursion (λ (span : List ToldSecond). has_failed_in log (first_in span) ≡ true)
    later)

-- so it is after each span that ended with a cut
abbrev pub AreFoundAfter : (unit : List ℕ → Type 0) → RunLog → (spans : List (List ToldSecond)) → Type 0
AreFoundAfter unit log [] = Unit {0}
AreFoundAfter unit log (span ∷ later) = IfSome (cut_second (last span)) (IsFoundAfter unit log later)
    × AreFoundAfter unit log later

-- WHAT WAS KEPT AFTER CUTS was found so, by the images that the unit might have left since the start.
abbrev pub TellsKept : Recording → (since : ℕ) → (unit : State) → Type 0
TellsKept r since unit = AreFoundAfter (unit.left_since since) r.log (spans_of (told_of r))
