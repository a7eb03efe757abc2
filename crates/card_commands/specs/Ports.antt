-- The flat image of a card, as a medium behind the card's commands.
use Rattle.std.proofs.Common.{arith}
use Rattle.std.specs.Prelude.{◌≡◌, ℕ, ◌+◌, ◌-◌, ◌≤◌, nat_lt, if◌then◌else◌, Bool, true, false, Result, Ok, Err, min}
use Rattle.std.specs.Prelude.{List, [], ◌∷◌, map, Option, Some, None, option_and_then, is_none}
use Rattle.std.specs.Option.{ForSome}
use Rattle.card_layout.specs.declared.files.Application.{Application}
use Rattle.card_layout.specs.declared.files.CardFile.{CardFile}
use Rattle.card_layout.specs.declared.files.TheConstants.{APPLICATION_RANGE, LARGEST_IMAGE}
use Rattle.card_layout.specs.Application.{first_bad_field, application_of, IsApplication}
use Rattle.card_layout.specs.Files.{files_of, image_size_of, updated_ranges}
use Rattle.card_layout.specs.declared.command.CardState.{CardState}
use Rattle.card_layout.specs.declared.command.ElementaryFile.{ElementaryFile}
use Rattle.tach_media.specs.Medium.{State, IsCoherent, Commands}
use Rattle.card_layout.specs.Outcomes.{is_under}
use Rattle.card_commands.specs.declared.loading.PortFault.{PortFault}
use Rattle.card_commands.specs.declared.loading.PortFault.TheVariants.{Failed, BadApplication}

-- the ranges that the unit may write, each by its place and its length: those of the updated files
abbrev pub writable_of : Application → List (ℕ × ℕ)
writable_of app = map (λ r. (r.base, r.len)) (updated_ranges app)

-- The flat image by these sizes as a medium: the card's own images, of which no more is reached than the sizes tell.
abbrev pub port_state : Application → State → State
port_state app s = record s {
  size = min (image_size_of app) s.size;
  behind = s.size - image_size_of app + s.behind;
  writable = writable_of app;
  layers = Commands app s.size s.writable ∷ s.layers;
}

-- a coherent card is a coherent medium through its commands too
pub port_coherent : (app : Application) (s : State) → IsCoherent s → IsCoherent (port_state app s)
port_coherent app s whole = record {
  sized = λ x is. omega (arith, whole.sized x is);
  left_sized = λ c left. omega (arith, whole.left_sized c left);
  is_left = whole.is_left;
  only = whole.only;
  counts_now = whole.counts_now;
  earlier = whole.earlier;
  broken = whole.broken;
}

-- the file in which a place lies, where the first of the files begins at this base
abbrev pub file_from : ℕ → List CardFile → ℕ → Option ElementaryFile
file_from base [] place = None
file_from base (f ∷ fs) place =
    if nat_lt place (base + f.size)
    then Some (record { fid = f.fid; range = record { base = base; len = f.size }; updated = f.updated })
    else file_from (base + f.size) fs place

-- the file of a card of these sizes in which a place lies
unfoldable pub file_at : Application → ℕ → Option ElementaryFile
file_at app place = file_from 0 (files_of app) place

-- the sizes that these bytes of Application_Identification tell, where no field is bad
abbrev pub told_by : List ℕ → Option Application
told_by bytes = if is_none (first_bad_field bytes) then Some (application_of bytes) else None

-- the sizes by which a card goes, once they are fixed
abbrev pub sizes_of : CardState → Option Application
sizes_of card = option_and_then told_by card.application

-- A port's sizes are those by which its chip goes, and the file that it holds for selected the chip has selected.
pub record IsPort (app : Application) (selected : Option ElementaryFile) (card : CardState) (s : State) : Type 0 where
  pub good : IsApplication app
  pub size : LARGEST_IMAGE ≤ s.size
  pub sizes : sizes_of card ≡ Some app
  pub works : ForSome selected (λ file. s.works ≡ true)
  pub chosen : ForSome selected (λ file. card.selected ≡ Some file)
  pub current : ForSome selected (λ file. is_under card.directory file.fid ≡ true)

-- whether a loading failed because a call on the chip did
abbrev pub has_failed : Result Application PortFault → Bool
has_failed (Ok app) = false
has_failed (Err Failed) = true
has_failed (Err (BadApplication field)) = false

-- what a loading tells of Application_Identification: its sizes, or its first bad field
abbrev pub IsJudged : List ℕ → Result Application PortFault → Type 0
IsJudged bytes (Ok app) = (first_bad_field bytes ≡ None) × (app ≡ application_of bytes)
IsJudged bytes (Err Failed) = Unit {0}
IsJudged bytes (Err (BadApplication field)) = first_bad_field bytes ≡ Some field

-- Application_Identification as a file
abbrev pub application_file : ElementaryFile
application_file = record { fid = record { 0 = 0x0501 }; range = APPLICATION_RANGE; updated = false }
