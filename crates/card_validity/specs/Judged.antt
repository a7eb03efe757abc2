-- What the judging of a card's image finds.
use Rattle.std.specs.Prelude.{◌≡◌, ℕ, ◌<◌, ◌-◌, IfSome, max, Option, None, List, [], ◌∷◌, drop}
use Rattle.card_layout.specs.Fields.{field_at}
use Rattle.card_layout.specs.declared.files.Application.{Application}
use Rattle.card_layout.specs.declared.files.Fid.{Fid}
use Rattle.card_layout.specs.Application.{first_bad_field}
use Rattle.card_layout.specs.Files.{place_of}
use Rattle.tacho_types.specs.Numbers.{time_of}
use Rattle.tacho_types.specs.CardNumber.{card_number_of}
use Rattle.tach_media.specs.Medium.{bytes_at}
use Rattle.gated_ring.specs.Ring.{PointsInside, IsNewest}
use Rattle.card_days.specs.Held.{Knows}
use Rattle.card_image.specs.card_retention.Entries.{newest_word}
use Rattle.card_image.specs.Fields.{file, file_bytes, day_string, vehicle_ring, newest_vehicle, end_mark, session_time}
use Rattle.card_image.specs.Fields.{current_use, card_days, card_number}
use Rattle.card_image.specs.View.{counting}
use Rattle.card_image.specs.Judging.{file_checks, first_bad_of, IsValid}
use Rattle.card_validity.specs.declared.files.Judged.{Judged}
use Rattle.card_validity.specs.declared.looking.CardLook.{CardLook}

-- The first file that fails behind Application_Identification, with the place: what is judged of a card whose sizes are
-- known.
abbrev pub first_bad_behind : Application → List ℕ → Option (Fid × ℕ)
first_bad_behind app x = first_bad_of (drop 1 (file_checks app x))

-- the sizes are those that the image tells
abbrev pub TellsSizes : Application → List ℕ → Type 0
TellsSizes app x = first_bad_field (file_bytes app 0x0501 x) ≡ None

-- The files that are judged stand in a copy as in the image: they lie one after the other, from the days to the current
-- use.
abbrev pub IsCopy : Application → (x z : List ℕ) → Type 0
IsCopy app x z = let from = place_of app (file 0x0504) in let len = place_of app (file 0x0508) - from in bytes_at z from
    len ≡ bytes_at x from len

-- what is known of a card that passed: its days, its vehicles, the newest of them, and the current use
pub record IsKnown (app : Application) (x : List ℕ) (j : Judged) : Type 0 where
  pub passes : first_bad_behind app x ≡ None
  pub shape : j.days.shape ≡ day_string app
  pub days : Knows j.days x (card_days app x)
  pub ring : j.vehicles ≡ vehicle_ring app
  pub points : PointsInside (vehicle_ring app) x
  pub newest : IsNewest (vehicle_ring app) x j.newest
  pub vehicle : j.vehicle ≡ newest_vehicle app x
  pub current : j.current ≡ current_use app x

-- by value: it goes by these sizes
pub record IsSized (app : Application) (j : Judged) : Type 0 where
  pub days : j.days.shape ≡ day_string app
  pub vehicles : j.vehicles ≡ vehicle_ring app
  pub newest : IfSome j.newest (λ i. i < app.vehicles)

-- the card is valid, and this is known of it
pub record IsJudged (app : Application) (x : List ℕ) (j : Judged) : Type 0 where
  pub valid : IsValid app x
  pub known : IsKnown app x j

-- The fields of Identification (Appendix 1, CardIdentification and DriverCardHolderIdentification): issuing state,
-- number, authority, issue, begin and end of validity, surname, first names, birth date, language.
abbrev pub identification_widths : List ℕ
identification_widths = 1 ∷ 16 ∷ 36 ∷ 4 ∷ 4 ∷ 4 ∷ 36 ∷ 36 ∷ 4 ∷ 2 ∷ []

-- the bytes of one of these fields, by its number from 0 on
abbrev pub identification_field : Application → List ℕ → ℕ → List ℕ
identification_field app x k = field_at identification_widths k (file_bytes app 0x0520 x)

-- What a valid card tells. Its newest minute is the later of its end mark and its newest word's minute, of the days
-- that count.
pub record IsLook (app : Application) (x : List ℕ) (l : CardLook) : Type 0 where
  pub valid : IsValid app x
  pub number : l.number ≡ card_number_of (card_number app x)
  pub surname : l.surname.0 ≡ identification_field app x 6
  pub first : l.first.0 ≡ identification_field app x 7
  pub expiry : l.expiry ≡ time_of (identification_field app x 5)
  pub session : l.session ≡ session_time app x
  pub newest_minute : l.newest_minute
      ≡ max (end_mark app x) (newest_word (counting (session_time app x) (end_mark app x) (card_days app x)))
  pub previous : l.previous ≡ newest_vehicle app x
