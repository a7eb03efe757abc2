-- What the commands `view`, `view last N` and `view manual` show of a file.
use Rattle.std.specs.Prelude.{◌≡◌, ℕ, Bool, false, ◌==◌, MatchBool, Option, List, [], ◌∷◌, map}
use Rattle.activity_codec.specs.declared.entries.Entry.{Entry}
use Rattle.activity_codec.specs.declared.entries.Manual.{Manual}
use Rattle.unit_model.specs.Days.{UnitMinute}
use Rattle.link_model.specs.declared.services.TheConstants.{MESSAGE}
use Rattle.view_text.specs.Text.{IsUnitView, IsCardView}
use Rattle.view_text.specs.Entries.{entry_shown}
use Rattle.view_text.specs.ByHand.{IsByHandView}
use Rattle.file_view.specs.declared.fault.ViewFault.{ViewFault}
use Rattle.file_view.specs.declared.fault.ViewFault.TheVariants as viewing
use Rattle.file_view.specs.Histories.{minute_shown}
use Rattle.file_view.specs.CardFiles.{IsBadCardFile}
use Rattle.file_view.specs.UnitFiles.{IsBadUnitFile}
use Rattle.file_view.specs.Showing.{ShowsCardFile}
use Rattle.file_view.specs.ByHand.{ShowsByHand}
use Rattle.file_view.specs.UnitShowing.{ShowsUnitFile}
use Rattle.tacho.specs.declared.end.Fault.{Fault}
use Rattle.tacho.specs.declared.end.Fault.TheVariants.{Memory, BadFile}

-- a file whose first byte is 76 is read as a unit file, any other as a card file
abbrev pub is_unit_file : List ℕ → Bool
is_unit_file [] = false
is_unit_file (b ∷ bytes) = b == MESSAGE

-- the view text of the minutes of a unit file, of all days or of the last so many messages of days
pub record PrintsUnit (last : Option ℕ) (bytes out : List ℕ) : Type 0 where
  pub minutes : List UnitMinute
  pub shows : ShowsUnitFile last bytes minutes
  pub view : IsUnitView (map minute_shown minutes) out

-- the view text of the entries of a card file, of all days or of the newest so many
pub record PrintsCard (last : Option ℕ) (bytes out : List ℕ) : Type 0 where
  pub entries : List Entry
  pub shows : ShowsCardFile last bytes entries
  pub view : IsCardView (map entry_shown entries) out

-- `view` prints this of a file
abbrev pub PrintsFile : Option ℕ → (bytes out : List ℕ) → Type 0
PrintsFile last bytes out = MatchBool (is_unit_file bytes) (PrintsUnit last bytes out) (PrintsCard last bytes out)

-- the bytes are outside the grammar, first at this place
abbrev pub IsBadFile : (place : ℕ) → List ℕ → Type 0
IsBadFile place bytes = MatchBool (is_unit_file bytes) (IsBadUnitFile place bytes) (IsBadCardFile place bytes)

-- the view text of the entries by hand of a card file
pub record PrintsHands (bytes out : List ℕ) : Type 0 where
  pub entries : List Manual
  pub shows : ShowsByHand bytes entries
  pub view : IsByHandView entries out

-- `view manual` prints this of a card file, and of a unit file nothing
abbrev pub PrintsByHand : (bytes out : List ℕ) → Type 0
PrintsByHand bytes out = MatchBool (is_unit_file bytes) ⊥ (PrintsHands bytes out)

-- the bytes are no card file, first at this place: a unit file at its first byte
abbrev pub IsNoCardFile : (place : ℕ) → List ℕ → Type 0
IsNoCardFile place bytes = MatchBool (is_unit_file bytes) (place ≡ 0) (IsBadCardFile place bytes)

-- the end where a file is not shown
abbrev pub view_refusal_of : ViewFault → Fault
view_refusal_of (viewing.BadFile place) = BadFile place
view_refusal_of viewing.Memory = Memory
