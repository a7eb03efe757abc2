-- The run log: breaks, refused actions and finds, each in order of time (profile).
use Rattle.std.specs.Prelude.{ℕ, Bool, true, false, ◌&&◌, Option, Some, None, List, [], ◌∷◌, filter, map, nat_eq}
use Rattle.std.specs.Prelude.{is_some, unwrap_or, if◌then◌else◌}
use Rattle.std.specs.List.{list_any}
use Rattle.activity_codec.specs.declared.values.Slot.{Slot}
use Rattle.activity_codec.specs.Activity.{same_slot}
use Rattle.log_model.specs.declared.lines.Break.{Break}
use Rattle.log_model.specs.declared.lines.Break.TheVariants.{Cut, Tear}
use Rattle.log_model.specs.declared.lines.Find.{Find}
use Rattle.log_model.specs.declared.lines.Refused.{Refused}
use Rattle.log_model.specs.declared.lines.Verdict.{Verdict}
use Rattle.log_model.specs.declared.lines.Verdict.TheVariants.{Accepted, NotValid, TimeOverlap}

-- what a run tells, beside what its devices have acknowledged
pub record RunLog : Type 0 where
  pub breaks : List Break
  pub refused : List Refused
  pub finds : List Find

-- a moment of a second: the power-on (in action 0), in its n-th action, or in the keeping behind all of them
pub data Phase : Type 0 where
  In : ℕ → Phase
  Keeping : Phase

-- the two moments are one
abbrev pub same_phase : Phase → Phase → Bool
same_phase (In n) (In m) = nat_eq n m
same_phase Keeping Keeping = true
same_phase (In n) Keeping = false
same_phase Keeping (In n) = false

-- of a cut in this second, how many actions had begun
abbrev pub cut_of : ℕ → Break → Option ℕ
cut_of u (Cut second kept failed begun) = if nat_eq second u then Some begun else None
cut_of u (Tear second slot failed begun late) = None

-- a second with a cut: how many of its actions had begun
unfoldable pub cut_in : RunLog → ℕ → Option ℕ
cut_in log u = go log.breaks
  where
    go : List Break → Option ℕ
    go [] = None
    go (b ∷ bs) = if is_some (cut_of u b) then cut_of u b else go bs

-- of a cut in this second, what was found kept after it
abbrev pub kept_by : ℕ → Break → Option ℕ
kept_by u (Cut second kept failed begun) = if nat_eq second u then Some kept else None
kept_by u (Tear second slot failed begun late) = None

-- what the next power-on that loaded the unit found kept after the cut of a second
unfoldable pub kept_after : RunLog → ℕ → ℕ
kept_after log u = unwrap_or (go log.breaks) 0
  where
    go : List Break → Option ℕ
    go [] = None
    go (b ∷ bs) = if is_some (kept_by u b) then kept_by u b else go bs

-- the moment of a tear
abbrev pub phase_of : (begun : ℕ) → (late : Bool) → Phase
phase_of begun late = if late then Keeping else In begun

-- a tear of this slot at this moment
abbrev pub tears_here : ℕ → Phase → Slot → Break → Bool
tears_here u p slot (Cut second kept failed begun) = false
tears_here u p slot (Tear second s failed begun late) = nat_eq second u && same_phase (phase_of begun late) p
    && same_slot s slot

-- a slot's card was torn out at a moment of a second
unfoldable pub is_torn_in : RunLog → ℕ → Phase → Slot → Bool
is_torn_in log u p slot = list_any (tears_here u p slot) log.breaks

-- what was found of a slot's card at a moment of a second
unfoldable pub found_in : RunLog → ℕ → Phase → Slot → List Verdict
found_in log u p slot =
    map (λ f. f.verdict) (filter (λ f. nat_eq f.second u && same_phase (In f.begun) p && same_slot f.slot slot)
    log.finds)

-- the card is accepted
abbrev pub is_accepting : Verdict → Bool
is_accepting (Accepted replayed) = true
is_accepting (NotValid fid place) = false
is_accepting (TimeOverlap stored now) = false
