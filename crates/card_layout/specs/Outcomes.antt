-- What a card answers to a command, and what the command does to its flat image (Appendix 2, section 3.6).
use Rattle.std.specs.Prelude.{◌≡◌, ℕ, ◌+◌, ◌/◌, ◌%◌, ◌==◌, ◌||◌, not, nat_lt, if◌then◌else◌, Bool, true, false, Option}
use Rattle.std.specs.Prelude.{Some, None, option_map, option_and_then, IfSome, IsSomeAnd, is_none, Result, Ok, Err}
use Rattle.std.specs.Prelude.{List, [], ◌∷◌, ◌++◌, length}
use Rattle.card_layout.specs.declared.files.Fid.{Fid}
use Rattle.card_layout.specs.declared.files.Range.{Range}
use Rattle.card_layout.specs.declared.files.TheConstants.{APPLICATION_RANGE}
use Rattle.card_layout.specs.Application.{first_bad_field, application_of, application_in}
use Rattle.card_layout.specs.Files.{range_of, is_updated}
use Rattle.card_layout.specs.declared.command.Command.{Command}
use Rattle.card_layout.specs.declared.command.Command.TheVariants.{Application, Select, Read, Update}
use Rattle.card_layout.specs.declared.command.Directory.{Directory}
use Rattle.card_layout.specs.declared.command.Directory.TheVariants.{Master, Tachograph}
use Rattle.card_layout.specs.declared.command.ElementaryFile.{ElementaryFile}
use Rattle.card_layout.specs.declared.command.CardState.{CardState}
use Rattle.card_layout.specs.Commands.{command_of}
use Rattle.card_layout.specs.Images.{bytes_at}

-- the state after a reset: the master file is current, and no file is selected
abbrev pub after_reset : CardState → CardState
after_reset card = record card { directory = Master; selected = None }

-- the state of a card that was issued, whose sizes no command has needed yet
abbrev pub just_issued : CardState
just_issued = record { directory = Master; selected = None; application = None }

-- this directory is current, and no file is selected
abbrev pub in_directory : Directory → CardState → CardState
in_directory directory card = record card { directory = directory; selected = None }

-- ICC and IC stand in the master file, all the other files in DF Tachograph
abbrev pub is_under : Directory → Fid → Bool
is_under Master fid = fid.0 == 0x0002 || fid.0 == 0x0005
is_under Tachograph fid = not (fid.0 == 0x0002 || fid.0 == 0x0005)

-- ICC, IC and Application_Identification, whose places no sizes move
abbrev pub is_fixed : Fid → Bool
is_fixed fid = fid.0 == 0x0002 || fid.0 == 0x0005 || fid.0 == 0x0501

-- the range of each of these three
abbrev pub fixed_range : Fid → Range
fixed_range fid =
    if fid.0 == 0x0002 then record { base = 0; len = 25 }
    else if fid.0 == 0x0005 then record { base = 25; len = 8 }
    else APPLICATION_RANGE

-- a file by the sizes that these bytes of Application_Identification tell; none where one of their fields is out of its
-- range
abbrev pub sized_file : List ℕ → Fid → Option ElementaryFile
sized_file bytes fid =
    if is_none (first_bad_field bytes)
    then option_map (λ r. record { fid = fid; range = r; updated = is_updated (application_of bytes) fid })
    (range_of (application_of bytes) fid)
    else None

-- the file with this identifier, in whichever directory, once the sizes are fixed by these bytes
abbrev pub file_of : Option (List ℕ) → Fid → Option ElementaryFile
file_of application fid =
    if is_fixed fid then Some (record { fid = fid; range = fixed_range fid; updated = false })
    else option_and_then (λ bytes. sized_file bytes fid) application

-- the file with this identifier under the current directory
abbrev pub found : CardState → Fid → Option ElementaryFile
found card fid = if is_under card.directory fid then file_of card.application fid else None

-- what a command does to the image: nothing, it gives bytes of a file, or it writes bytes
pub data Effect : Type 0 where
  nothing : Effect
  gives : ElementaryFile → (offset len : ℕ) → Effect
  puts : (place : ℕ) → (bytes : List ℕ) → Effect

-- a status word, the state that follows, and what is done to the image
pub record Outcome : Type 0 where
  pub status : ℕ
  pub card : CardState
  pub effect : Effect

-- a refusal changes nothing
abbrev pub refused : ℕ → CardState → Outcome
refused status card = record { status = status; card = card; effect = nothing }

-- what is done has the status 9000, and leaves this state and this effect
abbrev pub done : CardState → Effect → Outcome
done card effect = record { status = 0x9000; card = card; effect = effect }

-- SELECT of a file that was found is remembered; of one that was not it is refused
abbrev pub select_found : CardState → Option ElementaryFile → Outcome
select_found card None = refused 0x6A82 card
select_found card (Some file) = done (record card { selected = Some file }) nothing

-- SELECT by identifier: 3F00 is the master file and 0500 DF Tachograph
abbrev pub select_outcome : CardState → Fid → Outcome
select_outcome card fid =
    if fid.0 == 0x3F00 then done (in_directory Master card) nothing
    else if fid.0 == 0x0500 then done (in_directory Tachograph card) nothing
    else select_found card (found card fid)

-- READ BINARY of the selected file
abbrev pub read_outcome : CardState → ElementaryFile → ℕ → ℕ → Outcome
read_outcome card file offset len =
    if nat_lt file.range.len offset then refused 0x6B00 card
    else if nat_lt file.range.len (offset + len) then refused 0x6700 card
    else done card (gives file offset len)

-- UPDATE BINARY of the selected file
abbrev pub update_outcome : CardState → ElementaryFile → ℕ → List ℕ → Outcome
update_outcome card file offset bytes =
    if not file.updated then refused 0x6982 card
    else if nat_lt file.range.len offset then refused 0x6B00 card
    else if nat_lt file.range.len (offset + length bytes) then refused 0x6700 card
    else done card (puts (file.range.base + offset) bytes)

-- a command on the selected file
abbrev pub on_selected : CardState → Option ElementaryFile → (ElementaryFile → Outcome) → Outcome
on_selected card None outcome = refused 0x6986 card
on_selected card (Some file) outcome = outcome file

-- The table of the checks on the card's state, in their order.
abbrev pub command_outcome : CardState → Command → Outcome
command_outcome card Application = done (in_directory Tachograph card) nothing
command_outcome card (Select fid) = select_outcome card fid
command_outcome card (Read offset len) = on_selected card card.selected (λ file. read_outcome card file offset len)
command_outcome card (Update offset bytes) = on_selected card card.selected
    (λ file. update_outcome card file offset bytes.items)

-- what comes of bytes that were read as a command; where they are none, the status that says why
abbrev pub outcome_from : CardState → Result Command ℕ → Outcome
outcome_from card (Ok command) = command_outcome card command
outcome_from card (Err status) = refused status card

-- what comes of these bytes
abbrev pub outcome_of : CardState → List ℕ → Outcome
outcome_of card b = outcome_from card (command_of b)

-- whether a file is Application_Identification
abbrev pub is_application : ElementaryFile → Bool
is_application file = file.fid.0 == 0x0501

-- A SELECT of any file but the three whose places are fixed needs the sizes, and so does a read of
-- Application_Identification.
abbrev pub effect_needs_sizes : Effect → Bool
effect_needs_sizes nothing = false
effect_needs_sizes (gives file offset len) = is_application file
effect_needs_sizes (puts place bytes) = false

-- a command needs the sizes of the files
abbrev pub needs_sizes : CardState → Command → Bool
needs_sizes card Application = false
needs_sizes card (Select fid) = not (is_fixed fid || fid.0 == 0x3F00 || fid.0 == 0x0500)
needs_sizes card (Read offset len) = effect_needs_sizes (command_outcome card (Read offset len)).effect
needs_sizes card (Update offset bytes) = false

-- the same of what bytes were read as; what is no command needs none
abbrev pub result_needs_sizes : CardState → Result Command ℕ → Bool
result_needs_sizes card (Ok command) = needs_sizes card command
result_needs_sizes card (Err status) = false

-- the same of the bytes themselves
abbrev pub bytes_need_sizes : CardState → List ℕ → Bool
bytes_need_sizes card b = result_needs_sizes card (command_of b)

-- The bytes of Application_Identification by which a card goes after a command. The first command that needs the sizes
-- fixes them as a read gives them; once fixed they stay.
abbrev pub Fixes : (needed : Bool) (image before after : Option (List ℕ)) → Type 0
Fixes needed image (Some bytes) after = after ≡ Some bytes
Fixes true image None after = IsSomeAnd after
    (λ bytes. (length bytes ≡ APPLICATION_RANGE.len) × IfSome image (λ x. bytes ≡ application_in x))
Fixes false image None after = after ≡ None

-- the data of an answer: as many bytes as were asked, those of the image; of Application_Identification those by which
-- the card goes
abbrev pub IsData : Effect → (image application : Option (List ℕ)) → List ℕ → Type 0
IsData nothing image application given = given ≡ []
IsData (gives file offset len) image application given =
    (length given ≡ len) × IfSome image (λ x. given ≡ bytes_at x (file.range.base + offset) len)
    × (is_application file ≡ true → IfSome application (λ bytes. given ≡ bytes_at bytes offset len))
IsData (puts place bytes) image application given = given ≡ []

-- What an answer says: by the sizes that are fixed by then, the table gives the status word and the state.
pub record IsAnswered (b : List ℕ) (image : Option (List ℕ)) (before after : CardState) (answer : List ℕ) : Type 0 where
  pub sizes : Fixes (bytes_need_sizes before b) image before.application after.application
  pub state : after ≡ (outcome_of (record before { application = after.application }) b).card
  pub given : List ℕ
  pub given_is : IsData (outcome_of before b).effect image after.application given
  pub whole : answer ≡ given ++ (let status = (outcome_of (record before { application = after.application }) b).status
      in status / 256 ∷ status % 256 ∷ [])
