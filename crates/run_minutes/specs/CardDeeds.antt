-- What calls make of a card's days and of its vehicle entries, deed by deed, whichever of its images a stop may leave
-- (profile).
use Rattle.std.specs.Prelude.{◌≡◌, ℕ, ◌/◌, ◌++◌, Bool, true, false, not, Option, Some, List, [], ◌∷◌, map, nat_eq}
use Rattle.activity_codec.specs.declared.values.Activity.{Activity}
use Rattle.activity_codec.specs.declared.values.Activity.TheVariants.{Rest}
use Rattle.activity_codec.specs.declared.entries.Entry.{Entry}
use Rattle.activity_codec.specs.declared.entries.Manual.{Manual}
use Rattle.hand_model.specs.Holding.{of_day}
use Rattle.tach_media.specs.Medium.{State}
use Rattle.tacho_types.specs.declared.numbers.Odometer.{Odometer}
use Rattle.tacho_types.specs.declared.texts.Registration.{Registration}
use Rattle.tach_media.specs.card_layout.declared.files.Application.{Application}
use Rattle.run_events.specs.card_files.declared.current_use.CurrentUse.{CurrentUse}
use Rattle.hand_model.specs.card_image.Fields.{current_use}
use Rattle.card_session.specs.declared.session.Kept.{Kept}
use Rattle.card_session.specs.Books.{Book, mark_of}
use Rattle.card_session.specs.Sessions.{book_of}
use Rattle.card_session.specs.Cards.{grown}
use Rattle.card_session.specs.Inserting.{lacked}
use Rattle.device_calls.specs.card_string.Deeds.{Deed, Keep, Enter, Close, Cut, after}

-- what deeds make of a book, one after another
abbrev pub made_by : (size : ℕ) → List Deed → Book → Book
made_by size [] b = b
made_by size (d ∷ ds) b = made_by size ds (after size d b)

-- a session is open in this use
abbrev pub is_open_in : CurrentUse → Bool
is_open_in held = not (nat_eq held.session.0 0)

-- A CARD SHOWS A BOOK, whichever of its images a stop may leave: these are its days and its vehicle entries; and this
-- is its current use: the session that is open on it, or none, and its vehicle.
abbrev pub ShowsBook : Application → Book → CurrentUse → State → Type 0
ShowsBook app b held card = (x : List ℕ) → card.may_leave x → (book_of app x ≡ b) × (current_use app x ≡ held)

-- CALLS DO THESE DEEDS on a card: of the book that it shows they make the one that it shows then. Its current use
-- stays.
abbrev pub DoesOn : Application → List Deed → (old new : State) → Type 0
DoesOn app ds old new = (b : Book) (held : CurrentUse) → ShowsBook app b held old
    → ShowsBook app (made_by app.activity ds b) held new

-- ---- minutes that a session keeps

-- the entries by hand that it writes
abbrev pub enters : List Manual → List Deed
enters hands = map (λ h. Enter h) hands

-- ITS KEEPS of these: each with the odometer value at the end of its minute, and so many km as that has grown since the
-- one before; none at the first of a session. Before the first one it writes of the entries by hand that it holds those
-- of the minute's day, and gives up the others.
abbrev pub keeps : Registration → (before : Option Odometer) → (holds : List Manual) → List Kept → List Deed
keeps vehicle before holds [] = []
keeps vehicle before holds (k ∷ ks) =
    enters (of_day (k.entry.minute / 1440) holds)
    ++ Keep (record {
      entry = k.entry;
      registration = vehicle;
      odometer = k.odometer.0;
      km = grown before k.odometer.0;
    }) ∷ keeps vehicle (Some k.odometer) [] ks

-- what it holds behind them
abbrev pub holds_after : List Manual → List Kept → List Manual
holds_after holds [] = holds
holds_after holds (k ∷ ks) = []

-- the odometer value at the last of them
abbrev pub last_odometer : (before : Option Odometer) → List Kept → Option Odometer
last_odometer before [] = before
last_odometer before (k ∷ ks) = last_odometer (Some k.odometer) ks

-- ---- sessions that are opened and closed

-- the keeps of what is owed to a card, all with the odometer value of now and without a km
abbrev pub owed_keeps : Registration → (odometer : ℕ) → List Entry → List Deed
owed_keeps vehicle odometer es = map (λ (e : Entry). Keep
    (record { entry = e; registration = vehicle; odometer = odometer; km = 0 })) es

-- AN INSERTION: of a card whose session was left open the days are cut at its end mark, and it keeps what it lacks of
-- what is owed to it; then the last words are closed with rest
abbrev pub opens : (used : Bool) → Registration → (odometer : ℕ) → (lacks : List Entry) → List Deed
opens false vehicle odometer lacks = Close Rest ∷ []
opens true vehicle odometer lacks = Cut ∷ owed_keeps vehicle odometer lacks ++ Close Rest ∷ []

-- the use of a session that begins in a second, of this vehicle
abbrev pub begun_use : Registration → (second : ℕ) → CurrentUse
begun_use vehicle u = record { session = record { 0 = u }; registration = vehicle }

-- the use of a session that is closed: none is open, and the vehicle stays
abbrev pub ended_use : CurrentUse → CurrentUse
ended_use held = record { session = record { 0 = 0 }; registration = held.registration }

-- calls do it on a card in a second: a session is open then, which began in it
abbrev pub OpensOn : Application → Registration → (second odometer : ℕ) → (owed : List Entry) → (old new : State)
    → Type 0
OpensOn app vehicle second odometer owed old new = (b : Book) (held : CurrentUse) → ShowsBook app b held old
    → ShowsBook app (made_by app.activity (opens (is_open_in held) vehicle odometer (lacked (mark_of b) owed)) b)
    (begun_use vehicle second) new

-- A WITHDRAWAL: the last words are closed with an activity; no session is open then
abbrev pub ClosesOn : Application → Activity → (old new : State) → Type 0
ClosesOn app act old new = (b : Book) (held : CurrentUse) → ShowsBook app b held old
    → ShowsBook app (made_by app.activity (Close act ∷ []) b) (ended_use held) new
