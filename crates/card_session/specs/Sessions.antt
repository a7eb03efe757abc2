-- What a session keeps of an accepted card, and when it is what the card tells.
use Rattle.std.specs.Prelude.{◌≡◌, ℕ, ◌+◌, ◌/◌, ◌<◌, ◌≤◌, max, Option, List, [], ◌∷◌, IfSome}
use Rattle.card_layout.specs.declared.files.Application.{Application}
use Rattle.card_layout.specs.Application.{IsApplication}
use Rattle.card_layout.specs.Files.{image_size_of, place_of}
use Rattle.tach_media.specs.Medium.{State, LiesInside}
use Rattle.tacho_types.specs.declared.texts.Registration.{Registration}
use Rattle.tacho_types.specs.declared.numbers.Odometer.{Odometer}
use Rattle.card_files.specs.declared.vehicle.Vehicle.{Vehicle}
use Rattle.gated_ring.specs.Ring.{Shape, PointsInside, IsNewest, size_of as ring_size}
use Rattle.card_days.specs.card_model.Days.{Day}
use Rattle.card_days.specs.card_model.Changes.{AreStrict}
use Rattle.card_days.specs.Held.{Held, Knows}
use Rattle.card_validity.specs.card_retention.Entries.{EndsBy, newest_word}
use Rattle.card_validity.specs.card_image.Fields.{file, day_string, vehicle_ring, card_days, last_use_of}
use Rattle.card_session.specs.declared.words.TheConstants.{LATEST_MINUTE}
use Rattle.card_session.specs.Vehicles.{vehicles_of}
use Rattle.card_session.specs.Books.{Book, mark_of}

-- WHAT A SESSION KEEPS of its card: the sizes, what is known of the days and of the vehicle entries, the registration
-- of the vehicle, the newest minute and the odometer value
pub record Session : Type 0 where
  pub application : Application
  pub days : Held
  pub vehicles : Shape
  -- the newest vehicle entry: its index, and what it tells
  pub newest : Option ℕ
  pub vehicle : Option Vehicle
  pub registration : Registration
  -- the newest minute of the card
  pub minute : ℕ
  -- at the session's last keep
  pub odometer : Option Odometer

-- By value: it goes by its sizes, and its end mark leaves room for a minute more.
pub record IsValue (s : Session) : Type 0 where
  pub sizes : IsApplication s.application
  pub days : s.days.shape ≡ day_string s.application
  pub vehicles : s.vehicles ≡ vehicle_ring s.application
  pub newest : IfSome s.newest (λ i. i < s.application.vehicles)
  pub mark : last_use_of s.vehicle / 60 ≤ LATEST_MINUTE

-- what an image tells of the days and of the vehicles
unfoldable pub book_of : Application → List ℕ → Book
book_of app x = record { days = card_days app x; vehicles = vehicles_of app x }

-- What is kept of the days and of the vehicles is what the image tells.
pub record KnowsCard (s : Session) (x : List ℕ) : Type 0 where
  pub days : Knows s.days x (book_of s.application x).days
  pub points : PointsInside (vehicle_ring s.application) x
  pub newest : IsNewest (vehicle_ring s.application) x s.newest
  pub vehicle : s.vehicle ≡ (book_of s.application x).vehicles.newest

-- the words of the newest day, if there is one, increase
abbrev pub EndsStrictly : List Day → Type 0
EndsStrictly [] = Unit {0}
EndsStrictly (d ∷ []) = AreStrict d.words
EndsStrictly (d ∷ e ∷ ds) = EndsStrictly (e ∷ ds)

-- No entry's word is the latest behind the end mark, and a word may follow.
pub record IsOpenBook (b : Book) : Type 0 where
  pub ends : EndsBy (mark_of b) b.days
  pub strict : EndsStrictly b.days

-- the newest minute: the later of the end mark and of the newest word's minute
abbrev pub newest_in : Book → ℕ
newest_in b = max (mark_of b) (newest_word b.days)

-- what a session keeps of a card is what the image tells
pub record IsSession (s : Session) (x : List ℕ) : Type 0 where
  pub card : KnowsCard s x
  pub book : IsOpenBook (book_of s.application x)
  pub minute : s.minute ≡ newest_in (book_of s.application x)

-- The files that a keep writes lie in the medium, and may be written.
pub record MayKeep (app : Application) (s : State) : Type 0 where
  pub fits : image_size_of app ≤ s.size
  pub days : LiesInside s.writable (day_string app).base (4 + (day_string app).size)
  pub vehicles : LiesInside s.writable (vehicle_ring app).base (ring_size (vehicle_ring app))

-- A withdrawal writes the session time too, which stands first in its file.
pub record MayClose (app : Application) (s : State) : Type 0 where
  pub keep : MayKeep app s
  pub session : LiesInside s.writable (place_of app (file 0x0507)) 4
