-- A card file against a unit file, by the bytes of both (profile).
use Rattle.std.specs.Prelude.{◌≡◌, ◌⊎◌, ℕ, ◌+◌, ◌/◌, Bool, false, Some, None, List, ◌++◌, length, map, filter}
use Rattle.std.specs.Prelude.{bytes_eq}
use Rattle.activity_codec.specs.declared.entries.Entry.{Entry}
use Rattle.card_files.specs.declared.vehicle.Vehicle.{Vehicle}
use Rattle.unit_model.specs.Days.{UnitMinute}
use Rattle.message_model.specs.Messages.{Message, IsUnitFile}
use Rattle.message_model.specs.Showing.{minutes_in}
use Rattle.file_view.specs.CardFiles.{IsBadCardFile}
use Rattle.file_view.specs.UnitFiles.{IsBadUnitFile}
use Rattle.file_view.specs.Fronts.{registration_in, begins_message, IsBadFront}
use Rattle.file_view.specs.Vehicles.{ShowsCard}
use Rattle.card_match.specs.Matching.{Against, IsMatch}
use Rattle.card_match.specs.Differences.{AreDifferences}
use Rattle.card_match.specs.declared.cases.Use.{Use}
use Rattle.card_match.specs.declared.verdict.Matched.{Matched}
use Rattle.card_match.specs.declared.verdict.Differences.{Differences}
use Rattle.card_match.specs.declared.files.MatchFault.{MatchFault}
use Rattle.card_match.specs.declared.files.MatchFault.TheVariants.{BadUnitFile, BadCardFile, Memory}

-- a vehicle entry is one of this registration
abbrev pub is_of : List ℕ → Vehicle → Bool
is_of registration v = bytes_eq v.registration.0 registration

-- the minutes of a vehicle entry's use
abbrev pub use_of : Vehicle → Use
use_of v = record { first = v.first_use.0 / 60; last = v.last_use.0 / 60 }

-- the uses of the vehicle of a registration
abbrev pub uses_of : List ℕ → List Vehicle → List Use
uses_of registration vehicles = map use_of (filter (is_of registration) vehicles)

-- what the entries of a card file are matched against
abbrev pub against : List ℕ → List Vehicle → List UnitMinute → Against
against registration vehicles minutes = record { uses = uses_of registration vehicles; minutes = minutes }

-- The bytes are a unit file with an overview, and a card file; and this is the answer, of this kind, of the card's
-- entries against the unit's minutes.
pub record AnswersFiles {T : Type 0} (Answer : Against → List Entry → T → Type 0) (unit card : List ℕ) (told : T) : Type
    0 where
  pub messages : List Message
  pub file : IsUnitFile messages unit
  pub registration : List ℕ
  pub registered : registration_in messages ≡ Some registration
  pub entries : List Entry
  pub vehicles : List Vehicle
  pub shows : ShowsCard card entries vehicles
  pub answer : Answer (against registration vehicles (minutes_in messages)) entries told

-- the answer is whether they match
abbrev pub MatchesFiles : (unit card : List ℕ) → Matched → Type 0
MatchesFiles unit card matched = AnswersFiles IsMatch unit card matched

-- the same of all that differs
abbrev pub ComparesFiles : (unit card : List ℕ) → Differences → Type 0
ComparesFiles unit card all = AnswersFiles AreDifferences unit card all

-- a unit file without an overview
pub record LacksOverview (unit : List ℕ) : Type 0 where
  pub messages : List Message
  pub file : IsUnitFile messages unit
  pub none : registration_in messages ≡ None

-- a unit file with an overview
pub record HasOverview (unit : List ℕ) : Type 0 where
  pub messages : List Message
  pub file : IsUnitFile messages unit
  pub registration : List ℕ
  pub told : registration_in messages ≡ Some registration

-- no unit file, first at this place; or one without an overview, and this is its length
abbrev pub IsBadUnit : ℕ → List ℕ → Type 0
IsBadUnit place unit = IsBadUnitFile place unit ⊎ ((place ≡ length unit) × LacksOverview unit)

-- why two files were not matched
abbrev pub IsMatchFault : (unit card : List ℕ) → MatchFault → Type 0
IsMatchFault unit card (BadUnitFile place) = IsBadUnit place unit
IsMatchFault unit card (BadCardFile place) = HasOverview unit × IsBadCardFile place card
IsMatchFault unit card Memory = Unit {0}

-- a unit file, and behind it bytes that begin with no 76
pub record AreParts (bytes unit card : List ℕ) : Type 0 where
  pub parts : bytes ≡ unit ++ card
  pub messages : List Message
  pub file : IsUnitFile messages unit
  pub ends : begins_message card ≡ false

-- The source is a unit file followed at once by a card file; and this is the answer, of this kind.
pub record AnswersSource {T : Type 0} (Answer : Against → List Entry → T → Type 0) (bytes : List ℕ) (told : T) : Type
    0 where
  pub unit : List ℕ
  pub card : List ℕ
  pub are : AreParts bytes unit card
  pub answers : AnswersFiles Answer unit card told

-- the answer is whether they match
abbrev pub MatchesSource : (bytes : List ℕ) → Matched → Type 0
MatchesSource bytes matched = AnswersSource IsMatch bytes matched

-- the same of all that differs
abbrev pub ComparesSource : (bytes : List ℕ) → Differences → Type 0
ComparesSource bytes all = AnswersSource AreDifferences bytes all

-- The source is of another form: a message fails at this place, or the unit file that ends there has no overview, or
-- the card file fails.
pub record IsBadBehind (place : ℕ) (bytes : List ℕ) : Type 0 where
  pub unit : List ℕ
  pub card : List ℕ
  pub are : AreParts bytes unit card
  pub bad : ((place ≡ length unit) × LacksOverview unit)
      ⊎ ((at : ℕ) × (place ≡ length unit + at) × HasOverview unit × IsBadCardFile at card)

-- the source fails at this place: at a message in front, or behind the messages
abbrev pub IsBadSource : ℕ → List ℕ → Type 0
IsBadSource place bytes = IsBadFront place bytes ⊎ IsBadBehind place bytes
