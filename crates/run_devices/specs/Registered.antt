-- Of which vehicles a card tells over a run, whatever calls failed (profile): in its vehicle entries, place by place,
-- and in its current use.
use Rattle.std.specs.Prelude.{◌≡◌, ◌⊎◌, ℕ, ◌/◌, ◌≤◌, max, Option, Some, None, IfSome, List, [], ◌∷◌, ◌++◌}
use Rattle.device_calls.specs.tacho_types.declared.texts.Registration.{Registration}
use Rattle.tach_media.specs.card_layout.declared.files.Application.{Application}
use Rattle.device_calls.specs.card_files.declared.vehicle.Vehicle.{Vehicle}
use Rattle.device_calls.specs.card_image.Fields.{current_use, session_time}
use Rattle.device_calls.specs.card_image.Own.{own_view, own_covered}
use Rattle.device_calls.specs.card_session.Vehicles.{Vehicles, behind_first}
use Rattle.device_calls.specs.card_session.Books.{used}
use Rattle.device_calls.specs.card_session.Sessions.{book_of}

-- each vehicle entry of a ring is so
abbrev pub RingIn : (P : Vehicle → Type 0) → List (Option Vehicle) → Type 0
RingIn P [] = Unit {0}
RingIn P (None ∷ os) = RingIn P os
RingIn P (Some v ∷ os) = P v × RingIn P os

-- each vehicle entry of a card is so, the newest and those of its ring
pub record AreIn (P : Vehicle → Type 0) (v : Vehicles) : Type 0 where
  pub newest : IfSome v.newest P
  pub ring : RingIn P v.ring

-- some vehicle entry of a ring is so
abbrev pub HasOne : (P : Vehicle → Type 0) → List (Option Vehicle) → Type 0
HasOne P [] = ⊥
HasOne P (None ∷ os) = HasOne P os
HasOne P (Some v ∷ os) = P v ⊎ HasOne P os

-- some vehicle entry of a card is so
abbrev pub SomeIs : (P : Vehicle → Type 0) → Vehicles → Type 0
SomeIs P v = ((w : Vehicle) × (v.newest ≡ Some w) × P w) ⊎ HasOne P v.ring

-- ---- what the start has

-- the newest minute of a card's image: of a word that counts on it, or of the closing word that is still to come
abbrev pub newest_minute_on : (image : List ℕ) → ℕ
newest_minute_on image = max (own_covered image) (own_view image).newest

-- what a card's vehicle entries are compared with: the registration of the unit's vehicle, and of the card's image at
-- the start its vehicle entries and its newest minute
pub record VehiclesBefore : Type 0 where
  pub registration : Registration
  pub vehicles : Vehicles
  pub minute : ℕ

-- by this image at the start, of a card with these sizes
abbrev pub vehicles_before : Application → Registration → (start : List ℕ) → VehiclesBefore
vehicles_before app registration start = record {
  registration = registration;
  vehicles = (book_of app start).vehicles;
  minute = newest_minute_on start;
}

-- ---- place by place

-- an entry is another but for its last use, which was moved on, no later than a minute
abbrev pub IsUsedOn : (minute : ℕ) → (w v : Vehicle) → Type 0
IsUsedOn minute w v = (v ≡ used v.last_use.0 w) × (w.last_use.0 ≤ v.last_use.0) × (v.last_use.0 / 60 ≤ minute)

-- it is the newest one of the start, of which a closing may have moved the last use, no later than the newest minute of
-- the start
abbrev pub IsNewestBefore : VehiclesBefore → Vehicle → Type 0
IsNewestBefore b v = (w : Vehicle) × (b.vehicles.newest ≡ Some w) × ((v ≡ w) ⊎ IsUsedOn b.minute w v)

-- it is of the unit's vehicle, or the newest one of the start
abbrev pub IsNewestOf : VehiclesBefore → Vehicle → Type 0
IsNewestOf b v = (v.registration ≡ b.registration) ⊎ IsNewestBefore b v

-- AT A PLACE stands what stood there at the start, unchanged; or one of the unit's vehicle, or the newest of the start
abbrev pub StandsAt : VehiclesBefore → (stood : Option Vehicle) → Vehicle → Type 0
StandsAt b stood v = (stood ≡ Some v) ⊎ IsNewestOf b v

-- what stands at the first place
abbrev pub at_first : List (Option Vehicle) → Option Vehicle
at_first [] = None
at_first (o ∷ os) = o

-- SO IT IS PLACE BY PLACE, from the one that the next entry takes; a place may be free
abbrev pub StandInPlace : VehiclesBefore → (stood now : List (Option Vehicle)) → Type 0
StandInPlace b stood [] = Unit {0}
StandInPlace b stood (n ∷ ns) = IfSome n (StandsAt b (at_first stood)) × StandInPlace b (behind_first stood) ns

-- THE VEHICLE ENTRIES STAND AS AT THE START, each at its place: some at the old end have given way, and behind those
-- that are kept come others of the unit's vehicle.
pub record StandAsBefore (b : VehiclesBefore) (now : Vehicles) : Type 0 where
  pub newest : IfSome now.newest (IsNewestOf b)
  pub gone : List (Option Vehicle)
  pub kept : List (Option Vehicle)
  pub split : b.vehicles.ring ≡ gone ++ kept
  pub places : StandInPlace b kept now.ring

-- the newest entry, if there is one, has this registration
abbrev pub NewestIsOf : Registration → Vehicles → Type 0
NewestIsOf registration v = IfSome v.newest (λ w. w.registration ≡ registration)

-- NO MINUTE COMES IN ANOTHER VEHICLE: the newest entry of an image is of the unit's vehicle, or the image has no later
-- minute than the start
abbrev pub HasNoMinuteElsewhere : VehiclesBefore → Application → (x : List ℕ) → Type 0
HasNoMinuteElsewhere b app x = NewestIsOf b.registration (book_of app x).vehicles ⊎ ((own_view x).newest ≤ b.minute)

-- ---- the current use

-- ITS CURRENT USE, by these sizes, tells of no open session; or it is that of the start, or has this registration.
abbrev pub IsUsedSo : Application → Registration → (start x : List ℕ) → Type 0
IsUsedSo app registration start x = (session_time app x ≡ 0) ⊎ ((current_use app x ≡ current_use app start)
    ⊎ ((current_use app x).registration ≡ registration))

-- AN IMAGE TELLS OF NO OTHER VEHICLE than this one and what was there at the start: no entry of another has changed or
-- come, no minute has come in one, and no session is open in one.
pub record TellsOfTwo (app : Application) (registration : Registration) (start x : List ℕ) : Type 0 where
  pub entries : StandAsBefore (vehicles_before app registration start) (book_of app x).vehicles
  pub minutes : HasNoMinuteElsewhere (vehicles_before app registration start) app x
  pub session : IsUsedSo app registration start x
