-- What helps behind `usage`, by the first word that fits no form (profile).
use Rattle.std.specs.Prelude.{ℕ, ◌&&◌, ◌||◌, not, Bool, if◌then◌else◌, List, [], ◌∷◌, codes, bytes_eq, is_none, is_some}
use Rattle.trace_model.specs.Names.{card_named}
use Rattle.tacho.specs.declared.hints.Hint.{Hint}
use Rattle.tacho.specs.declared.hints.Hint.TheVariants.{Help, NoCommand, OneMore, Format, Devices, Cards, Nation, Plate}
use Rattle.tacho.specs.declared.hints.Hint.TheVariants.{VehicleNumber, Limit, CardNumber, Surname, FirstName}
use Rattle.tacho.specs.declared.hints.Hint.TheVariants.{Days, Minutes, Seed}
use Rattle.tacho.specs.declared.forms.TheConstants.{CARD_NUMBER, NAME, PLATE, VIN, NATION_MOST, LIMIT_LEAST, LIMIT_MOST}
use Rattle.tacho.specs.Texts.{is_word, number_in}
use Rattle.tacho.specs.Forms.{form_of_one, form_of_two}
use Rattle.tacho.specs.Sources.{takes_names}

-- a form begins with this word, `format` left out
abbrev pub is_command : List ℕ → Bool
is_command command =
    is_some (form_of_one command) || bytes_eq command (codes "card") || bytes_eq command (codes "demo")

-- what helps by the first word alone
abbrev pub command_hint : List ℕ → Hint
command_hint command =
    if bytes_eq command (codes "format") then Format else (if is_command command then Help else NoCommand)

-- the first word of a card that it can't have
abbrev pub card_hint : (state number surname first : List ℕ) → Hint
card_hint state number surname first =
    if is_none (number_in 0 NATION_MOST state) then Nation
    else (if not (is_word CARD_NUMBER CARD_NUMBER number) then CardNumber
    else (if not (is_word 1 NAME surname) then Surname
    else (if not (is_word 1 NAME first) then FirstName else Help)))

-- the first word of a unit that it can't have
abbrev pub unit_hint : (nation plate vin limit : List ℕ) → Hint
unit_hint nation plate vin limit =
    if is_none (number_in 0 NATION_MOST nation) then Nation
    else (if not (is_word 1 PLATE plate) then Plate
    else (if not (is_word VIN VIN vin) then VehicleNumber
    else (if is_none (number_in LIMIT_LEAST LIMIT_MOST limit) then Limit else Help)))

-- six words: `format` and a device that it does not make, or a word of one that it can't have
abbrev pub hint_of_six : (command what first second third fourth : List ℕ) → Hint
hint_of_six command what first second third fourth =
    if not (bytes_eq command (codes "format")) then command_hint command
    else (if bytes_eq what (codes "unit") then unit_hint first second third fourth
    else (if is_none (card_named what) then Devices else card_hint first second third fourth))

-- `last N` behind a command, with an N that it does not take
abbrev pub last_hint : List ℕ → Hint
last_hint command =
    if bytes_eq command (codes "speeds") then Minutes
    else (if bytes_eq command (codes "view") || bytes_eq command (codes "totals") || bytes_eq command (codes "chart")
    || bytes_eq command (codes "show") then Days else command_hint command)

-- three words: one more than a form that reads a file; `last N`; `download noisy X`; `serve card` and no card
abbrev pub hint_of_three : (command which : List ℕ) → Hint
hint_of_three command which =
    if takes_names (form_of_two command which) then OneMore
    else (if bytes_eq which (codes "last") then last_hint command
    else (if bytes_eq command (codes "download") && bytes_eq which (codes "noisy") then Seed
    else (if bytes_eq command (codes "serve") && bytes_eq which (codes "card") then Cards else command_hint command)))

-- two words: one more than a form that reads a file; `card` and no card; `demo X`
abbrev pub hint_of_two : (command : List ℕ) → Hint
hint_of_two command =
    if takes_names (form_of_one command) then OneMore
    else (if bytes_eq command (codes "card") then Cards
    else (if bytes_eq command (codes "demo") then Seed else command_hint command))

-- WHAT HELPS where these words are in no form
unfoldable pub hint_of : List (List ℕ) → Hint
hint_of [] = Help
hint_of (command ∷ more ∷ []) = hint_of_two command
hint_of (command ∷ which ∷ count ∷ []) = hint_of_three command which
hint_of (command ∷ what ∷ first ∷ second ∷ third ∷ fourth ∷ []) = hint_of_six command what first second third fourth
hint_of (command ∷ more) = command_hint command

-- the line of what helps, but for those that begin with a word that was given
abbrev pub hint_text : Hint → List ℕ
hint_text Format = codes "format takes unit N PLATE VIN LIMIT, or a N NUMBER SURNAME FIRST, or b and these"
hint_text Devices = codes "format makes unit, a or b"
hint_text Cards = codes "the cards are a and b"
hint_text Nation = codes "N is a number from 0 to 255"
hint_text Plate = codes "PLATE has 1 to 13 ASCII characters and no blank, and does not begin with -"
hint_text VehicleNumber = codes "VIN has 17 ASCII characters and no blank, and does not begin with -"
hint_text Limit = codes "LIMIT is a number from 1 to 254"
hint_text CardNumber = codes "NUMBER has 16 ASCII characters and no blank, and does not begin with -"
hint_text Surname = codes "SURNAME has 1 to 35 ASCII characters and no blank, and does not begin with -"
hint_text FirstName = codes "FIRST has 1 to 35 ASCII characters and no blank, and does not begin with -"
hint_text Days = codes "N is a number of days from 1 to 366"
hint_text Minutes = codes "N is a number of minutes from 1 to 1440"
hint_text Seed = codes "X is a number from 0 to 2147483647"
hint_text other = codes "try: tacho help"
