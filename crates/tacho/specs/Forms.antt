-- The forms of words that the program knows (profile).
use Rattle.std.specs.Prelude.{ℕ, ◌&&◌, ◌||◌, if◌then◌else◌, Option, Some, None, option_map, List, [], ◌∷◌, codes}
use Rattle.std.specs.Prelude.{bytes_eq}
use Rattle.trace_model.specs.Names.{card_named}
use Rattle.minute_model.specs.declared.Rule.TheVariants.{Original, Amended}
use Rattle.tacho_types.specs.declared.texts.Name36.{Name36}
use Rattle.tacho_types.specs.declared.texts.Registration.{Registration}
use Rattle.card_files.specs.declared.new_card.CardIdentity.{CardIdentity}
use Rattle.unit_memory.specs.declared.format.Identity.{Identity}
use Rattle.tacho.specs.declared.forms.Form.{Form}
use Rattle.tacho.specs.declared.forms.Form.TheVariants.{Minutes, Record, FormatCard, FormatUnit, Upgrade, State, Serve}
use Rattle.tacho.specs.declared.forms.Form.TheVariants.{ServeHex, ServePackets, ServeCard, Download, DownloadNoisy}
use Rattle.tacho.specs.declared.forms.Form.TheVariants.{DownloadPackets, Read, CardFile, Demo, Help, Version}
use Rattle.tacho.specs.declared.forms.Reading.{Reading}
use Rattle.tacho.specs.declared.forms.Reading.TheVariants.{View, ByHand, Match, MatchAll, Totals, Chart, Speeds, Show}
use Rattle.tacho.specs.declared.forms.TheConstants.{CARD_NUMBER, NAME, PLATE, VIN, NATION_MOST, LIMIT_LEAST, LIMIT_MOST}
use Rattle.tacho.specs.declared.forms.TheConstants.{LAST_LEAST, LAST_MOST, SPEEDS_MOST, SEED_MOST}
use Rattle.tacho_types.specs.Texts.{padded_text}
use Rattle.tacho.specs.Texts.{word_in, number_in}

infixl 10 ◌>>=◌
-- a step behind another: it tells nothing where one of them tells nothing
abbrev pub ◌>>=◌ : {A B : Type 0} → Option A → (A → Option B) → Option B
None >>= rest = None
(Some x) >>= rest = rest x

-- a name of 1 to 35 characters
abbrev pub name_in : List ℕ → Option Name36
name_in text = option_map (λ name. record { 0 = padded_text NAME name }) (word_in 1 NAME text)

-- what N, NUMBER, SURNAME and FIRST tell of a card: the state, a number from 0 to 255, the card's number of 16
-- characters, and two names
abbrev pub card_in : (state number surname first : List ℕ) → Option CardIdentity
card_in state number surname first = do
  state ← number_in 0 NATION_MOST state
  number ← word_in CARD_NUMBER CARD_NUMBER number
  surname ← name_in surname
  first ← name_in first
  Some (record { state = record { 0 = state }; number = number; surname = surname; first = first })

-- what N and PLATE tell: a number from 0 to 255, and 1 to 13 characters
abbrev pub registration_in : (nation plate : List ℕ) → Option Registration
registration_in nation plate = do
  nation ← number_in 0 NATION_MOST nation
  plate ← word_in 1 PLATE plate
  Some (record { 0 = nation ∷ padded_text PLATE plate })

-- what N, PLATE, VIN and LIMIT tell of a unit: its registration, its number of 17 characters, and a limit from 1 to 254
abbrev pub unit_in : (nation plate vin limit : List ℕ) → Option Identity
unit_in nation plate vin limit = do
  registration ← registration_in nation plate
  vin ← word_in VIN VIN vin
  limit ← number_in LIMIT_LEAST LIMIT_MOST limit
  Some (record { vin = vin; registration = registration; limit = limit })

-- `view`, `match`, `totals`, `chart`, `speeds` and `show`
abbrev pub reading_of : List ℕ → Option Reading
reading_of word =
    if bytes_eq word (codes "view") then Some (View None)
    else (if bytes_eq word (codes "match") then Some Match
    else (if bytes_eq word (codes "totals") then Some (Totals None)
    else (if bytes_eq word (codes "chart") then Some (Chart None)
    else (if bytes_eq word (codes "speeds") then Some (Speeds None)
    else (if bytes_eq word (codes "show") then Some (Show None) else None)))))

-- the form of one such word
abbrev pub read_form : List ℕ → Option Form
read_form word = do
  reading ← reading_of word
  Some (Read reading)

-- `minutes`, `record`, `serve`, `download`, `upgrade` and `state`; `help`, also `--help`, and `--version`; and what is
-- told of a file
abbrev pub form_of_one : List ℕ → Option Form
form_of_one word =
    if bytes_eq word (codes "minutes") then Some (Minutes Original)
    else (if bytes_eq word (codes "record") then Some Record
    else (if bytes_eq word (codes "serve") then Some Serve
    else (if bytes_eq word (codes "download") then Some Download
    else (if bytes_eq word (codes "upgrade") then Some Upgrade
    else (if bytes_eq word (codes "state") then Some State
    else (if bytes_eq word (codes "help") || bytes_eq word (codes "--help") then Some Help
    else (if bytes_eq word (codes "--version") then Some Version else read_form word)))))))

-- `a` and `b`
abbrev pub file_of : (letter : List ℕ) → Option Form
file_of letter = do
  card ← card_named letter
  Some (CardFile card)

-- a number from 0 to 2147483647
abbrev pub demo_of : List ℕ → Option Form
demo_of seed = do
  seed ← number_in 0 SEED_MOST seed
  Some (Demo seed)

-- `minutes 2009`, `match all` and `view manual`; `serve --hex`, of which the second word alone begins with `-`; `serve
-- packets` and `download packets`; `card` and `demo`, and what follows them
abbrev pub form_of_two : (command option : List ℕ) → Option Form
form_of_two command option =
    if bytes_eq command (codes "minutes") && bytes_eq option (codes "2009") then Some (Minutes Amended)
    else (if bytes_eq command (codes "serve") && bytes_eq option (codes "--hex") then Some ServeHex
    else (if bytes_eq command (codes "serve") && bytes_eq option (codes "packets") then Some ServePackets
    else (if bytes_eq command (codes "download") && bytes_eq option (codes "packets") then Some DownloadPackets
    else (if bytes_eq command (codes "match") && bytes_eq option (codes "all") then Some (Read MatchAll)
    else (if bytes_eq command (codes "view") && bytes_eq option (codes "manual") then Some (Read ByHand)
    else (if bytes_eq command (codes "card") then file_of option
    else (if bytes_eq command (codes "demo") then demo_of option else None)))))))

-- `unit N PLATE VIN LIMIT`
abbrev pub unit_form : (nation plate vin limit : List ℕ) → Option Form
unit_form nation plate vin limit = do
  identity ← unit_in nation plate vin limit
  Some (FormatUnit identity)

-- `a N NUMBER SURNAME FIRST` and `b N NUMBER SURNAME FIRST`
abbrev pub card_form : (letter state number surname first : List ℕ) → Option Form
card_form letter state number surname first = do
  card ← card_named letter
  identity ← card_in state number surname first
  Some (FormatCard card identity)

-- what is made new, the unit or a card, and of which identity
abbrev pub format_of : (what first second third fourth : List ℕ) → Option Form
format_of what first second third fourth =
    if bytes_eq what (codes "unit") then unit_form first second third fourth
    else card_form what first second third fourth

-- `format` and what follows it
abbrev pub form_of_six : (command what first second third fourth : List ℕ) → Option Form
form_of_six command what first second third fourth =
    if bytes_eq command (codes "format") then format_of what first second third fourth else None

-- `last N`, N from 1 to so many
abbrev pub last_in : (most : ℕ) → (which count : List ℕ) → Option ℕ
last_in most which count = if bytes_eq which (codes "last") then number_in LAST_LEAST most count else None

-- `view`, `totals`, `chart` and `show`, of so many last days
abbrev pub days_form : (command : List ℕ) (days : ℕ) → Option Form
days_form command days =
    if bytes_eq command (codes "view") then Some (Read (View (Some days)))
    else (if bytes_eq command (codes "totals") then Some (Read (Totals (Some days)))
    else (if bytes_eq command (codes "chart") then Some (Read (Chart (Some days)))
    else (if bytes_eq command (codes "show") then Some (Read (Show (Some days))) else None)))

-- `noisy X`, X from 0 to 2147483647
abbrev pub noisy_form : List ℕ → Option Form
noisy_form seed = do
  seed ← number_in 0 SEED_MOST seed
  Some (DownloadNoisy seed)

-- `noisy` and what follows it
abbrev pub noisy_of : (which seed : List ℕ) → Option Form
noisy_of which seed = if bytes_eq which (codes "noisy") then noisy_form seed else None

-- `a` and `b`, of a card that answers commands
abbrev pub slot_form : (letter : List ℕ) → Option Form
slot_form letter = do
  card ← card_named letter
  Some (ServeCard card)

-- `card` and what follows it
abbrev pub slot_of : (what letter : List ℕ) → Option Form
slot_of what letter = if bytes_eq what (codes "card") then slot_form letter else None

-- one of these, and `last N` behind it, N from 1 to 366
abbrev pub last_form : (command which count : List ℕ) → Option Form
last_form command which count = do
  days ← last_in LAST_MOST which count
  days_form command days

-- `last N` behind `speeds`, N from 1 to 1440
abbrev pub speeds_of : (which count : List ℕ) → Option Form
speeds_of which count = do
  minutes ← last_in SPEEDS_MOST which count
  Some (Read (Speeds (Some minutes)))

-- `download`, `speeds` and `serve` and what follows them, or one of these
abbrev pub form_of_three : (command which count : List ℕ) → Option Form
form_of_three command which count =
    if bytes_eq command (codes "download") then noisy_of which count
    else (if bytes_eq command (codes "speeds") then speeds_of which count
    else (if bytes_eq command (codes "serve") then slot_of which count else last_form command which count))

-- what the words ask for; nothing where they are in no form
unfoldable pub form_of : List (List ℕ) → Option Form
form_of (word ∷ []) = form_of_one word
form_of (command ∷ option ∷ []) = form_of_two command option
form_of (command ∷ which ∷ count ∷ []) = form_of_three command which count
form_of (command ∷ what ∷ first ∷ second ∷ third ∷ fourth ∷ []) = form_of_six command what first second third fourth
form_of _ = None
