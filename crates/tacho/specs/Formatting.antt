-- How a device is made new (profile).
use Rattle.std.specs.Prelude.{◌≡◌, ◌⊎◌, ◌<◌, ◌≤◌, ◌+◌, false, ℕ, option_map, List, [], ◌∷◌, ◌++◌, codes}
use Rattle.std.specs.Io.KnownBytes.{Appends}
use Rattle.tach_media.specs.Medium.{State, LeavesOnly, IsSettled, HasCause, Rose, last_count}
use Rattle.tach_media.specs.Streams.{AppendsFront}
use Rattle.card_layout.specs.Issue.{IsPartlyIssued}
use Rattle.card_layout.specs.Outcomes.{just_issued}
use Rattle.run_model.specs.declared.Device.{Device}
use Rattle.run_model.specs.declared.Device.TheVariants.{Unit as OfUnit}
use Rattle.card_files.specs.declared.new_card.CardIdentity.{CardIdentity}
use Rattle.card_files.specs.NewCard.{new_card}
use Rattle.unit_model.specs.NewImage.{new_image}
use Rattle.unit_memory.specs.declared.format.Identity.{Identity}
use Rattle.unit_memory.specs.Formats.{IsFormatting, format_most}
use Rattle.tacho.specs.declared.end.Fault.{Fault}
use Rattle.tacho.specs.declared.end.Fault.TheVariants.{Done, WriteFault, MediumFault, Memory}
use Rattle.card_layout.specs.declared.files.TheConstants.{LARGEST, LARGEST_IMAGE}
use Rattle.tacho.specs.End.{is_medium_fault}
use Rattle.tacho.specs.Outside.{SinkTold, CardTold}

-- a device that is a card's: it has the largest card's size, and no bytes behind
pub record IsCard (s : State) : Type 0 where
  pub sized : s.size ≡ LARGEST_IMAGE
  pub behind : s.behind ≡ 0

-- so many writes issue a card of the largest sizes, at most
abbrev pub issue_most : ℕ
issue_most = 101

-- what is printed of a device that was made new
abbrev pub formatted_line : List ℕ
formatted_line = codes "formatted" ++ 10 ∷ []

-- the flat image of a new card of the largest sizes
abbrev pub card_image : CardIdentity → List ℕ
card_image identity = new_card identity LARGEST

-- the image of a new unit
abbrev pub unit_image : Identity → List ℕ
unit_image identity = new_image identity.vin identity.registration.0 identity.limit

-- what a stop leaves of a card that is issued, beside the image before: one whose card type is 0, or the new one
abbrev pub IsIssuing : (image old left : List ℕ) → Type 0
IsIssuing image old left = IsPartlyIssued image old left ⊎ (left ≡ image)

-- the image that is told is now this one
abbrev pub IsMade : (image : List ℕ) (old new : State) → Type 0
IsMade image old new = new.image ≡ option_map (λ _. image) old.image

-- all is done, or the sink, this device or memory failed
abbrev pub IsFormatEnd : Device → Fault → Type 0
IsFormatEnd device Done = Unit {0}
IsFormatEnd device WriteFault = Unit {0}
IsFormatEnd device (MediumFault failed) = failed ≡ device
IsFormatEnd device Memory = Unit {0}
IsFormatEnd device _ = ⊥

-- How a command ends that makes a device new, and then prints so.
pub record EndsFormat (device : Device) (image : List ℕ) (IsMoment : List ℕ → List ℕ → Type 0) (old new : State)
    (before after : SinkTold) (fault : Fault) : Type 0 where
  pub ends : IsFormatEnd device fault
  pub done : fault ≡ Done → IsMade image old new × Appends before.held after.held formatted_line
  -- a front of the line was printed, of the device that was made new
  pub front : fault ≡ WriteFault → IsMade image old new × AppendsFront before.held after.held formatted_line
  -- what a stop leaves, at each moment and at the end
  pub moments : LeavesOnly old new IsMoment
  pub settled : (fault ≡ Memory → ⊥) → is_medium_fault fault ≡ false → new.clock < last_count → IsSettled new
  -- when a device fails, and when the sink
  pub cause : (fault ≡ Memory → ⊥) → HasCause old new (is_medium_fault fault)
  pub write_fault : fault ≡ WriteFault → Rose before.faults after.faults
  -- where neither fails, all is done or memory ran out
  pub finishes : (Rose old.faults new.faults → ⊥) → (Rose before.faults after.faults → ⊥)
      → (fault ≡ Done) ⊎ (fault ≡ Memory)

-- How `format a` and `format b` end: the card is issued to an identity, and answers as a card that was just issued,
-- also where the issue failed.
pub record EndsIssue (device : Device) (identity : CardIdentity) (old new : CardTold) (before after : SinkTold)
    (fault : Fault) : Type 0 where
  pub made : EndsFormat device (card_image identity) (IsIssuing (card_image identity)) old.memory new.memory before
      after fault
  pub state : (fault ≡ Memory → ⊥) → new.state ≡ just_issued
  -- so many writes begin at most, whatever fails
  pub writes : new.memory.clock ≤ old.memory.clock + issue_most

-- How `format unit` ends: the unit is made new, of an identity. It takes no memory.
pub record EndsMaking (identity : Identity) (old new : State) (before after : SinkTold) (fault : Fault) : Type 0 where
  pub made : EndsFormat OfUnit (unit_image identity) (IsFormatting (unit_image identity)) old new before after fault
  pub no_memory : fault ≡ Memory → ⊥
  -- so many writes begin at most, whatever fails
  pub writes : new.clock ≤ old.clock + format_most
