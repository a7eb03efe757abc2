-- What an opening finds of a card (profile).
use Rattle.std.specs.Prelude.{◌≡◌, ℕ, true, Option, Some, None, Result, Ok, Err, IfSome, List, is_some, is_ok}
use Rattle.card_layout.specs.declared.files.Application.{Application}
use Rattle.card_layout.specs.declared.files.Fid.{Fid}
use Rattle.card_layout.specs.Application.{first_bad_field, application_in}
use Rattle.card_layout.specs.declared.command.CardState.{CardState}
use Rattle.tacho_types.specs.declared.card_number.FullCardNumber.{FullCardNumber}
use Rattle.tacho_types.specs.CardNumber.{card_number_bytes, card_number_of}
use Rattle.tach_media.specs.Medium.{State}
use Rattle.run_model.specs.declared.Device.{Device}
use Rattle.card_commands.specs.Ports.{IsPort}
use Rattle.card_image.specs.Own.{own_sizes, own_number, own_bad_file, IsOwnValid}
use Rattle.run_crew.specs.declared.cards.Known.{Known}
use Rattle.run_opening.specs.declared.fault.RunFault.{RunFault}
use Rattle.run_opening.specs.declared.fault.RunFault.TheVariants.{MediumFault, BadUnit, ClockBack, SameCard}

-- where a field of Application_Identification is bad its number, else the sizes
abbrev pub sizes_by : (bad : Option ℕ) → Application → Result Application ℕ
sizes_by None app = Ok app
sizes_by (Some field) app = Err field

-- the sizes that a card's image tells, or the number of the first bad field of Application_Identification
abbrev pub told_sizes : List ℕ → Result Application ℕ
told_sizes x = sizes_by (first_bad_field (application_in x)) (own_sizes x)

-- of a card none of whose files fails the number
abbrev pub number_by : (bad : Option (Fid × ℕ)) → FullCardNumber → Option FullCardNumber
number_by None number = Some number
number_by (Some place) number = None

-- the number that its image tells, exactly where the card is valid
abbrev pub told_number : List ℕ → Option FullCardNumber
told_number x = number_by (own_bad_file x) (card_number_of (own_number x))

-- this is known of a card with this image; a number is that image's in its bytes
pub record IsKnownOfCard (x : List ℕ) (known : Known) : Type 0 where
  pub sizes : known.sizes ≡ told_sizes x
  pub number : known.number ≡ told_number x
  pub bytes : IfSome known.number (λ n. card_number_bytes n ≡ own_number x)

-- A card as the opening leaves it. By value: it has no session, a port may be made over it by its sizes, and it has a
-- number only where it has sizes. Where it tells its image, that tells what is known of it.
pub record IsFoundOn (known : Known) (card : CardState) (s : State) : Type 0 where
  pub none : known.accepted ≡ None
  pub port : (app : Application) → known.sizes ≡ Ok app → IsPort app None card s
  pub sized : is_some known.number ≡ true → is_ok known.sizes ≡ true
  pub told : IfSome s.image (λ x. IsKnownOfCard x known)

-- the device failed
abbrev pub IsMediumFault : Device → RunFault → Type 0
IsMediumFault device fault = fault ≡ MediumFault device

-- two cards do not both have one number
abbrev pub AreTwo : (a b : Option FullCardNumber) → Type 0
AreTwo a b = (n : FullCardNumber) → a ≡ Some n → b ≡ Some n → ⊥

-- two cards have one number, which the fault tells
abbrev pub IsOneNumber : (a b : Option FullCardNumber) → RunFault → Type 0
IsOneNumber a b (MediumFault device) = ⊥
IsOneNumber a b (BadUnit place) = ⊥
IsOneNumber a b (ClockBack kept second) = ⊥
IsOneNumber a b (SameCard number) = (a ≡ Some number) × (b ≡ Some number)

-- a card that tells its image is valid, and has this number
abbrev pub HasNumber : FullCardNumber → State → Type 0
HasNumber number card = IfSome card.image (λ x. IsOwnValid x × (own_number x ≡ card_number_bytes number))
