-- What is noted of a card that enters, on the unit and on the card, one after another (profile).
use Rattle.std.specs.Prelude.{◌≡◌, ◌⊎◌, ℕ, Bool, true, false, Option, Some, None, IfSome, option_map, List, [], ◌∷◌}
use Rattle.std.specs.Prelude.{◌++◌, nat_eq, nat_lt, if◌then◌else◌}
use Rattle.tach_media.specs.Medium.{State, LeavesOnly}
use Rattle.tacho_types.specs.CardNumber.{card_number_bytes}
use Rattle.tacho_types.specs.declared.card_number.FullCardNumber.{FullCardNumber}
use Rattle.tacho_types.specs.declared.texts.Registration.{Registration}
use Rattle.card_layout.specs.declared.files.Application.{Application}
use Rattle.run_events.specs.card_files.declared.card_event.CardEvent.{CardEvent}
use Rattle.run_events.specs.card_files.Noting as card
use Rattle.card_session.specs.Inserting.{IsCardInserted, IsCardInserting}
use Rattle.run_events.specs.gated_ring.Change.{IsAdded, IsAdding}
use Rattle.run_events.specs.message_model.Records.{insertion_ring}
use Rattle.device_calls.specs.unit_owed.Rows.{IsRowBegun, IsRowBeginning}
use Rattle.unit_notes.specs.event_model.declared.kinds.TheConstants.{CARD_NOT_VALID, TIME_OVERLAP}
use Rattle.unit_notes.specs.event_model.declared.kinds.TheConstants.{INSERTION_WHILE_DRIVING}
use Rattle.unit_notes.specs.event_model.declared.kinds.TheConstants.{SESSION_NOT_CLOSED, CARD_FAULT}
use Rattle.unit_notes.specs.declared.insertion.Insertion.{Insertion}
use Rattle.unit_notes.specs.declared.unit_event.UnitEvent.{UnitEvent}
use Rattle.unit_notes.specs.Entries.{insertion_bytes, fault_bytes}
use Rattle.unit_notes.specs.Noting.{IsNotingEvent, IsEventNoted}
use Rattle.card_validity.specs.declared.looking.CardLook.{CardLook}
use Rattle.device_calls.specs.Entering.{owed_on}
use Rattle.device_calls.specs.device_rule.Views.{other}
use Rattle.run_crew.specs.declared.cabin.Cabin.{Cabin}
use Rattle.run_crew.specs.Cards.{known_of}
use Rattle.run_crew.specs.Cabin.{torn_out, crew_of}
use Rattle.run_events.specs.Entries.{entry_of}
use Rattle.run_insertion.specs.declared.lines.Entering.{Entering}
use Rattle.run_insertion.specs.Entering.{Ending, Way, Unread, Unsized, Judged, Unfit, Ahead, Fell, Unasked, Unnoted}
use Rattle.run_insertion.specs.Entering.{Seated, Lost, seated, insertion_of}

-- ---- notes, one after another

-- these were done, from one image to another
abbrev pub AreDone : {T : Type 0} → (done : T → List ℕ → List ℕ → Type 0) → List T → List ℕ → List ℕ → Type 0
AreDone done [] x y = y ≡ x
AreDone done (n ∷ ns) x y = (z : List ℕ) × done n x z × AreDone done ns z y

-- a moment of that: of the first; or the first is done, and it is a moment of the others
abbrev pub AreBeingDone : {T : Type 0} → (done moment : T → List ℕ → List ℕ → Type 0) → List T → List ℕ → List ℕ
    → Type 0
AreBeingDone done moment [] x c = ⊥
AreBeingDone done moment (n ∷ ns) x c = moment n x c ⊎ ((z : List ℕ) × done n x z × AreBeingDone done moment ns z c)

-- A DEVICE NOTED THESE, one after another; where that was cut short it is a moment of it.
pub record HasNoted {T : Type 0} (done moment : T → List ℕ → List ℕ → Type 0) (notes : List T) (cut : Bool)
    (old new : State) : Type 0 where
  pub whole : cut ≡ false → IfSome old.image (λ x. IfSome new.image (AreDone done notes x))
  pub moments : LeavesOnly old new (AreBeingDone done moment notes)

-- ---- on the unit

-- an insertion; the row of a card's number with the time of its session, beside the row of another number, which stays;
-- or an event or fault
pub data UnitNote : Type 0 where
  Inserts : (insertion : Insertion) → UnitNote
  BeginsRow : (number : FullCardNumber) (session : ℕ) (spared : Option FullCardNumber) → UnitNote
  Tells : (event : UnitEvent) → UnitNote

-- a note is made: it takes an image of the unit to this one,
abbrev pub IsOnUnit : UnitNote → List ℕ → List ℕ → Type 0
IsOnUnit (Inserts insertion) x y = IsAdded insertion_ring (insertion_bytes insertion) x y
IsOnUnit (BeginsRow number session spared) x y = IsRowBegun (card_number_bytes number) session
    (option_map (λ (s : FullCardNumber). card_number_bytes s) spared) x y
IsOnUnit (Tells event) x y = IsEventNoted event.kind (fault_bytes event) x y

-- or to one at a moment of its writing
abbrev pub IsComing : UnitNote → List ℕ → List ℕ → Type 0
IsComing (Inserts insertion) x c = IsAdding insertion_ring (insertion_bytes insertion) x c
IsComing (BeginsRow number session spared) x c = IsRowBeginning (card_number_bytes number) session
    (option_map (λ (s : FullCardNumber). card_number_bytes s) spared) x c
IsComing (Tells event) x c = IsNotingEvent event.kind (fault_bytes event) x c

-- an event from one second to another, with the cards that are accepted
abbrev pub event_of : (kind begin end : ℕ) → Cabin → UnitNote
event_of kind begin end cabin = Tells (entry_of kind begin end (crew_of cabin) (crew_of cabin))

-- the fault of a card that is torn out, with the cards that are left
abbrev pub fault_of : Entering → Cabin → UnitNote
fault_of e cabin = event_of CARD_FAULT e.at.second e.at.second (torn_out e.which e.at.second cabin)

-- that the vehicle moves
abbrev pub moving_notes : Entering → Cabin → List UnitNote
moving_notes e cabin = if nat_lt 0 e.speed then event_of INSERTION_WHILE_DRIVING e.at.second e.at.second cabin ∷ []
    else []

-- that the session of the card that began then was not closed: 0 is none
abbrev pub unclosed_notes : (session : ℕ) → Entering → Cabin → List UnitNote
unclosed_notes session e cabin = if nat_eq session 0 then [] else event_of SESSION_NOT_CLOSED session e.at.second cabin
    ∷ []

-- that it moves, and that the card was torn out as that was noted on it
abbrev pub moved_notes : (fell : Bool) → Entering → Cabin → List UnitNote
moved_notes false e cabin = event_of INSERTION_WHILE_DRIVING e.at.second e.at.second cabin ∷ []
moved_notes true e cabin = event_of INSERTION_WHILE_DRIVING e.at.second e.at.second cabin ∷ fault_of e cabin ∷ []

-- What comes with an accepted card, which was torn out meanwhile, or was not: the events have the cards that were
-- accepted before.
abbrev pub notes_with : (fell : Bool) → (session : ℕ) → Entering → Cabin → List UnitNote
notes_with false session e cabin = moving_notes e cabin ++ unclosed_notes session e cabin
notes_with true session e cabin = moving_notes e cabin ++ fault_of e cabin ∷ unclosed_notes session e cabin

-- THE INSERTION, and then the row of the card, with now as its session
abbrev pub row_of : CardLook → Entering → Cabin → UnitNote
row_of look e cabin = BeginsRow look.number e.at.second (known_of cabin.cards (other e.which)).number

-- these two; or the insertion alone, where the unit failed as it noted that
abbrev pub seat_notes : CardLook → Entering → Cabin → Option ℕ → List UnitNote
seat_notes look e cabin None = Inserts (insertion_of look e) ∷ []
seat_notes look e cabin (Some entry) = Inserts (insertion_of look e) ∷ row_of look e cabin ∷ []

-- WHAT THE UNIT NOTES of a card that ended so
abbrev pub notes_by : Ending → Entering → (noted : ℕ) → Cabin → List UnitNote
notes_by (Unfit fid place) e noted cabin = event_of CARD_NOT_VALID e.at.second e.at.second cabin ∷ []
notes_by (Ahead stored) e noted cabin = event_of TIME_OVERLAP e.at.second stored cabin ∷ []
notes_by Fell e noted cabin = fault_of e cabin ∷ []
notes_by Unasked e noted cabin = []
notes_by (Unnoted entered clock) e noted cabin = seat_notes entered.look e cabin None
notes_by (Seated entered clock entry) e noted cabin =
    seat_notes entered.look e cabin (Some entry)
    ++ notes_with false entered.look.session e (seated entered.look entered.session entered.row entry noted e cabin)
notes_by (Lost entered clock entry) e noted cabin =
    seat_notes entered.look e cabin (Some entry)
    ++ notes_with true entered.look.session e (seated entered.look entered.session entered.row entry noted e cabin)

-- ---- on the card

-- it is inserted, with the entries that the unit's image owes to it; or it has an event
pub data CardNote : Type 0 where
  PutIn : CardNote
  Shows : (event : CardEvent) → CardNote

module _ (app : Application) (registration : Registration) (e : Entering) (unit : List ℕ) where
  abbrev pub IsOnCard : CardNote → List ℕ → List ℕ → Type 0
  IsOnCard PutIn x y = IsCardInserted app registration e.odometer.0 (owed_on app unit x) e.at.second x y
  IsOnCard (Shows event) x y = card.IsEventNoted app event x y

  abbrev pub IsComingOnCard : CardNote → List ℕ → List ℕ → Type 0
  IsComingOnCard PutIn x c = IsCardInserting app registration e.odometer.0 (owed_on app unit x) e.at.second x c
  IsComingOnCard (Shows event) x c = card.IsNotingEvent app event x c

-- that the vehicle moves
abbrev pub moving_event : Registration → Entering → CardEvent
moving_event registration e = record {
  kind = INSERTION_WHILE_DRIVING;
  begin = record { 0 = e.at.second };
  end = record { 0 = e.at.second };
  registration = registration;
}

-- it is noted on the card where the speed is not 0
abbrev pub moving_on_card : Registration → Entering → List CardNote
moving_on_card registration e = if nat_lt 0 e.speed then Shows (moving_event registration e) ∷ [] else []

-- what is noted on an accepted card behind its insertion
abbrev pub card_notes_behind : Ending → Registration → Entering → List CardNote
card_notes_behind (Unfit fid place) registration e = []
card_notes_behind (Ahead stored) registration e = []
card_notes_behind Fell registration e = []
card_notes_behind Unasked registration e = []
card_notes_behind (Unnoted entered clock) registration e = []
card_notes_behind (Seated entered clock entry) registration e = moving_on_card registration e
card_notes_behind (Lost entered clock entry) registration e = moving_on_card registration e

-- WHAT IS NOTED ON THE CARD
abbrev pub card_notes_by : Ending → Registration → Entering → List CardNote
card_notes_by (Unfit fid place) registration e = []
card_notes_by (Ahead stored) registration e = []
card_notes_by Fell registration e = PutIn ∷ []
card_notes_by Unasked registration e = []
card_notes_by (Unnoted entered clock) registration e = PutIn ∷ []
card_notes_by (Seated entered clock entry) registration e = PutIn ∷ moving_on_card registration e
card_notes_by (Lost entered clock entry) registration e = PutIn ∷ moving_on_card registration e

-- that was cut short: the card failed, or the unit did behind the insertion
abbrev pub is_cut : Ending → (failed : Bool) → Bool
is_cut (Unfit fid place) failed = false
is_cut (Ahead stored) failed = false
is_cut Fell failed = true
is_cut Unasked failed = false
is_cut (Unnoted entered clock) failed = false
is_cut (Seated entered clock entry) failed = failed
is_cut (Lost entered clock entry) failed = true

-- so it went on the card, by the way that it entered
abbrev pub AreOnCard : Way → Registration → Entering → (unit : List ℕ) → List ℕ → List ℕ → Type 0
AreOnCard Unread registration e unit x y = ⊥
AreOnCard (Unsized field) registration e unit x y = y ≡ x
AreOnCard (Judged app ending) registration e unit x y = AreDone (IsOnCard app registration e unit)
    (card_notes_by ending registration e) x y

-- or an image of the card is at a moment of these notes
abbrev pub AreComingOnCard : Way → Registration → Entering → (unit : List ℕ) → List ℕ → List ℕ → Type 0
AreComingOnCard Unread registration e unit x c = ⊥
AreComingOnCard (Unsized field) registration e unit x c = ⊥
AreComingOnCard (Judged app ending) registration e unit x c =
    AreBeingDone (IsOnCard app registration e unit) (IsComingOnCard app registration e unit)
    (card_notes_by ending registration e) x c
