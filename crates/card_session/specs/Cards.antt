-- What the calls of a session leave of a card, after them and at each moment.
use Rattle.std.specs.Prelude.{◌≡◌, ◌⊎◌, ℕ, ◌+◌, ◌-◌, Option, Some, None, List, [], ◌∷◌}
use Rattle.activity_codec.specs.declared.values.Activity.{Activity}
use Rattle.activity_codec.specs.declared.entries.Entry.{Entry}
use Rattle.card_layout.specs.declared.files.Application.{Application}
use Rattle.card_layout.specs.Files.{place_of}
use Rattle.tach_media.specs.Medium.{SameOutside, put}
use Rattle.tacho_types.specs.declared.numbers.Odometer.{Odometer}
use Rattle.card_days.specs.card_model.Days.{Day}
use Rattle.card_days.specs.card_model.Image.{HoldsDays}
use Rattle.gated_ring.specs.Ring.{PointsInside, size_of as ring_size}
use Rattle.card_validity.specs.card_image.Fields.{file, day_string, vehicle_ring}
use Rattle.card_validity.specs.card_image.Judging.{IsValid}
use Rattle.card_session.specs.Books.{with_entry, closed}
use Rattle.card_session.specs.Sessions.{Session, IsSession, book_of}
use Rattle.card_session.specs.Moments.{IsBook, IsKeepMoment, IsCloseMoment}
use Rattle.card_session.specs.Vehicles.{Vehicles}

-- how many bytes the days and the vehicle entries have, which stand one after the other
abbrev pub days_and_vehicles : Application → ℕ
days_and_vehicles app = 4 + (day_string app).size + ring_size (vehicle_ring app)

-- Outside the days and the vehicle entries nothing differs; the string holds its days, the pointer of the vehicle
-- entries is an index; and the days and the vehicle entries are so.
pub record IsCard (app : Application) (P : List Day → Vehicles → Type 0) (x c : List ℕ) : Type 0 where
  pub outside : SameOutside (day_string app).base (days_and_vehicles app) x c
  pub holds : HoldsDays (day_string app) c (book_of app c).days
  pub points : PointsInside (vehicle_ring app) c
  pub told : P (book_of app c).days (book_of app c).vehicles

-- the km that an entry adds: none at a session's first
abbrev pub grown : Option Odometer → ℕ → ℕ
grown None odometer = 0
grown (Some before) odometer = odometer - before.0

-- after a keep: the entry is on the card, and nothing else has changed but its distance and its vehicles
pub record IsCardKept (s next : Session) (e : Entry) (odometer : ℕ) (x y : List ℕ) : Type 0 where
  pub card : IsCard s.application (IsBook
      (with_entry s.application.activity s.registration odometer (grown s.odometer odometer) (book_of s.application x)
      e)) x y
  pub knows : IsSession next y

-- a moment of a keep
pub record IsCardKeeping (s : Session) (e : Entry) (odometer : ℕ) (x c : List ℕ) : Type 0 where
  pub card : IsCard s.application (IsKeepMoment s.application.activity s.registration odometer
      (grown s.odometer odometer) e (book_of s.application x)) x c

-- the session time is 0
abbrev pub ended : Application → List ℕ → List ℕ
ended app x = put (place_of app (file 0x0507)) (0 ∷ 0 ∷ 0 ∷ 0 ∷ []) x

-- the card would be valid, were its session ended
abbrev pub MayEnd : Application → List ℕ → Type 0
MayEnd app x = IsValid app (ended app x)

-- After a withdrawal: the closing word and the end mark at it, where the word is to be written, and behind them the
-- session time.
pub record IsCardClosed (s : Session) (act : Activity) (x y : List ℕ) : Type 0 where
  pub before : List ℕ
  pub card : IsCard s.application (IsBook (closed s.application.activity act (book_of s.application x))) x before
  pub session : y ≡ ended s.application before

-- a moment of it
abbrev pub IsCardClosing : Session → Activity → List ℕ → List ℕ → Type 0
IsCardClosing s act x c = IsCard s.application (IsCloseMoment s.application.activity act (book_of s.application x)) x c
    ⊎ IsCardClosed s act x c
