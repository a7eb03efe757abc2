-- What the parts of a session's calls do, each after it and at each of its moments.
use Rattle.std.specs.Prelude.{◌≡◌, ◌≢◌, ◌⊎◌, ℕ, ◌+◌, ◌-◌, ◌*◌, ◌<◌, Bool, false, Option, Some, None, option_map, List}
use Rattle.std.specs.Prelude.{[], length, IfSome}
use Rattle.activity_codec.specs.declared.entries.Entry.{Entry}
use Rattle.tach_media.specs.Medium.{State, LeavesOnly, HasCause}
use Rattle.card_session.specs.Vehicles.{Vehicles, with_room, with_vehicle}
use Rattle.card_days.specs.card_model.Days.{Day}
use Rattle.card_days.specs.card_model.Changes.{Remain, OnNewest, TakesWord, IsNext, date_of}
use Rattle.card_validity.specs.card_retention.Entries.{newest_word}
use Rattle.tacho_types.specs.declared.texts.Registration.{Registration}
use Rattle.card_days.specs.Steps.{IsIdle}
use Rattle.card_session.specs.Books.{Book, mark_of, with_change, with_new_day, day_words, gap_closed, entered_days}
use Rattle.card_session.specs.Books.{travelled, used, vehicles_with, with_entry, measured_to, last_used, begun_vehicle}
use Rattle.card_session.specs.Books.{vehicle_counter}
use Rattle.card_session.specs.Sessions.{Session, KnowsCard, IsOpenBook, EndsStrictly, newest_in, book_of}
use Rattle.card_session.specs.Moments.{IsBook, IsBeforeGap, IsBeforeWords, IsBeforeUse}
use Rattle.card_session.specs.Cards.{IsCard}

-- After Ok the image is so related to the one before, and at each moment so. A part may make no call.
pub record DoesPart (old new : State) (failed : Bool) (S R : List ℕ → List ℕ → Type 0) : Type 0 where
  pub done : failed ≡ false → IfSome old.image (λ x. IfSome new.image (S x))
  pub leaves : LeavesOnly old new R
  pub cause : HasCause old new failed ⊎ ((failed ≡ false) × IsIdle old new)

-- of a card that is known, and whose book is such a one, it makes this book, which then is known
abbrev pub IsPartDone : (s next : Session) → (Book → Type 0) → (Book → Book) → List ℕ → List ℕ → Type 0
IsPartDone s next P f x y = KnowsCard s x → P (book_of s.application x)
    → IsCard s.application (IsBook (f (book_of s.application x))) x y × KnowsCard next y

-- a moment of it
abbrev pub IsPartMoment : Session → (Book → Type 0) → (Book → List Day → Vehicles → Type 0) → List ℕ → List ℕ → Type 0
IsPartMoment s P Q x c = KnowsCard s x → P (book_of s.application x)
    → IsCard s.application (Q (book_of s.application x)) x c

-- beside the days nothing that a session keeps has changed
pub record HasSame (s next : Session) : Type 0 where
  pub application : next.application ≡ s.application
  pub vehicles : next.vehicles ≡ s.vehicles
  pub newest : next.newest ≡ s.newest
  pub vehicle : next.vehicle ≡ s.vehicle
  pub registration : next.registration ≡ s.registration
  pub minute : next.minute ≡ s.minute
  pub odometer : next.odometer ≡ s.odometer

-- ADD A WORD, where there is one: the newest day takes it
abbrev pub TakesSome : Option ℕ → Book → Type 0
TakesSome word b = IfSome word (λ w. OnNewest (TakesWord w) b.days)

-- the book with that word
abbrev pub with_some : (size : ℕ) → Option ℕ → Book → Book
with_some size None b = b
with_some size (Some w) b = record { days = with_change size w b.days; vehicles = b.vehicles }

-- a moment of it: the oldest days go as they must, or the word is there
abbrev pub IsAdding : (size : ℕ) → Option ℕ → Book → List Day → Vehicles → Type 0
IsAdding size None b days vehicles = (days ≡ b.days) × (vehicles ≡ b.vehicles)
IsAdding size (Some w) b days vehicles = (Remain (size - 2) b.days days ⊎ (days ≡ with_change size w b.days))
    × (vehicles ≡ b.vehicles)

-- CLOSE THE GAP before a minute: no word and no mark reaches it
abbrev pub IsBeforeGapOf : (minute : ℕ) → Book → Type 0
IsBeforeGapOf minute b = IsOpenBook b × (newest_in b < minute)

-- the book whose gap is closed
abbrev pub with_gap_closed : (size minute : ℕ) → Book → Book
with_gap_closed size minute b = record { days = gap_closed size (mark_of b) minute b.days; vehicles = b.vehicles }

-- a moment of it: the days are before it, or the gap is closed
abbrev pub IsClosingGap : (size minute : ℕ) → Book → List Day → Vehicles → Type 0
IsClosingGap size minute b days vehicles = (IsBeforeGap size (mark_of b) minute b.days days
    ⊎ (days ≡ gap_closed size (mark_of b) minute b.days)) × (vehicles ≡ b.vehicles)

-- BEGIN THE DAY of an entry
abbrev pub BeginsDay : Entry → Book → Type 0
BeginsDay e b = IsNext b.days (date_of e.minute) (day_words e)

-- the book with that day
abbrev pub with_day : (size : ℕ) → Entry → Book → Book
with_day size e b = record { days = with_new_day size e b.days; vehicles = b.vehicles }

-- a moment of it: the oldest days go as they must, or it is there
abbrev pub IsBeforeDay : (size : ℕ) → Entry → Book → List Day → Vehicles → Type 0
IsBeforeDay size e b days vehicles = (Remain (size - (12 + 2 * length (day_words e))) b.days days
    ⊎ (days ≡ with_new_day size e b.days)) × (vehicles ≡ b.vehicles)

-- AN ENTRY'S WORDS: no word reaches its minute
abbrev pub IsBeforeEntry : Entry → Book → Type 0
IsBeforeEntry e b = EndsStrictly b.days × (newest_word b.days < e.minute)

-- the book with these words
abbrev pub with_entry_words : (size : ℕ) → Entry → Book → Book
with_entry_words size e b = record { days = entered_days size e b.days; vehicles = b.vehicles }

-- a moment of it: the days are before these words, or have them
abbrev pub IsWriting : (size : ℕ) → Entry → Book → List Day → Vehicles → Type 0
IsWriting size e b days vehicles = (IsBeforeWords size e b.days days ⊎ (days ≡ entered_days size e b.days))
    × (vehicles ≡ b.vehicles)

-- THE DISTANCE of the newest day, which there is
abbrev pub HasDay : Book → Type 0
HasDay b = b.days ≢ []

-- the book whose newest day has so many km more
abbrev pub with_more : (km : ℕ) → Book → Book
with_more km b = record { days = travelled km b.days; vehicles = b.vehicles }

-- a moment of it: the distance is the old one, or the new one
abbrev pub IsTravelling : (km : ℕ) → Book → List Day → Vehicles → Type 0
IsTravelling km b days vehicles = ((days ≡ b.days) ⊎ (days ≡ travelled km b.days)) × (vehicles ≡ b.vehicles)

-- THE USE OF THE VEHICLE: it asks nothing of the book
abbrev pub AnyBook : Book → Type 0
AnyBook b = Unit {0}

-- the book with a use of this vehicle at this minute
abbrev pub with_use : Registration → (odometer minute : ℕ) → Book → Book
with_use registration odometer minute b = record {
  days = b.days;
  vehicles = vehicles_with registration odometer minute
      b.vehicles;
}

-- a moment of it: the vehicle entries are before the use, or have it
abbrev pub IsUsing : Registration → (odometer minute : ℕ) → Book → List Day → Vehicles → Type 0
IsUsing registration odometer minute b days vehicles =
    (days ≡ b.days) × (IsBeforeUse registration odometer minute b.vehicles vehicles
    ⊎ (vehicles ≡ vehicles_with registration odometer minute b.vehicles))

-- the book whose newest vehicle entry has this odometer value at its end
abbrev pub with_measured : (odometer : ℕ) → Book → Book
with_measured odometer b = record { days = b.days; vehicles = measured_to odometer b.vehicles }

-- a moment at which the odometer value is written
abbrev pub IsSettingOdometer : (odometer : ℕ) → Book → List Day → Vehicles → Type 0
IsSettingOdometer odometer b days vehicles = (days ≡ b.days)
    × ((vehicles ≡ b.vehicles) ⊎ (vehicles ≡ measured_to odometer b.vehicles))

-- the book whose newest vehicle entry has this last use
abbrev pub with_last_use : (seconds : ℕ) → Book → Book
with_last_use seconds b = record { days = b.days; vehicles = last_used seconds b.vehicles }

-- a session that would know the card with another last use
abbrev pub used_session : (seconds : ℕ) → Session → Session
used_session seconds s = record s { vehicle = option_map (used seconds) s.vehicle }

-- a moment at which the last use is written
abbrev pub IsSettingUse : (seconds : ℕ) → Book → List Day → Vehicles → Type 0
IsSettingUse seconds b days vehicles = (days ≡ b.days)
    × ((vehicles ≡ b.vehicles) ⊎ (vehicles ≡ last_used seconds b.vehicles))

-- the book with a vehicle entry more, which begins here
abbrev pub with_new_use : Registration → (odometer minute : ℕ) → Book → Book
with_new_use registration odometer minute b =
    record {
      days = b.days;
      vehicles = with_vehicle
          (begun_vehicle registration odometer minute (vehicle_counter b.vehicles.newest)) b.vehicles;
    }

-- a moment of it: the vehicle entries are the old ones, have room for the new one, or have it
abbrev pub IsAddingUse : Registration → (odometer minute : ℕ) → Book → List Day → Vehicles → Type 0
IsAddingUse registration odometer minute b days vehicles =
    (days ≡ b.days)
    × ((vehicles ≡ b.vehicles)
    ⊎ ((vehicles ≡ with_room b.vehicles)
    ⊎ (vehicles ≡ with_vehicle (begun_vehicle registration odometer minute (vehicle_counter b.vehicles.newest))
    b.vehicles)))

-- beside the newest vehicle entry nothing that a session keeps has changed
pub record SameButVehicle (s t : Session) : Type 0 where
  pub application : t.application ≡ s.application
  pub days : t.days ≡ s.days
  pub registration : t.registration ≡ s.registration
  pub minute : t.minute ≡ s.minute
  pub odometer : t.odometer ≡ s.odometer

-- AN ENTRY, whole
abbrev pub entered : (size : ℕ) → Registration → (odometer more : ℕ) → Entry → Book → Book
entered size registration odometer more e b = with_entry size registration odometer more b e
