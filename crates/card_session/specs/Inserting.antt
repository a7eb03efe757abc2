-- What an insertion makes of a card, and what is left of it at each moment (profile).
use Rattle.std.specs.Prelude.{◌≡◌, ◌≢◌, ◌⊎◌, ℕ, ◌+◌, ◌/◌, ◌^◌, ◌<◌, ◌≤◌, List, [], ◌∷◌, length, nat_eq, nat_lt, All}
use Rattle.std.specs.Prelude.{if◌then◌else◌, Some, None, false, Result, IfSome, IsOk}
use Rattle.activity_codec.specs.declared.values.Activity.TheVariants.{Rest}
use Rattle.activity_codec.specs.declared.entries.Entry.{Entry}
use Rattle.card_layout.specs.declared.files.Application.{Application}
use Rattle.card_layout.specs.Application.{IsApplication}
use Rattle.card_layout.specs.Files.{place_of, size_of}
use Rattle.tach_media.specs.Medium.{State, LiesInside, IsPartlyWritten, put, LeavesOnly, Unchanged, Reads, HasCause}
use Rattle.tach_media.specs.Medium.{IsSettled, last_count}
use Rattle.tacho_types.specs.declared.texts.Registration.{Registration}
use Rattle.tacho_types.specs.Numbers.{time_bytes}
use Rattle.card_files.specs.declared.card_event.CardEvent.{CardEvent}
use Rattle.card_files.specs.declared.current_use.CurrentUse.{CurrentUse}
use Rattle.card_files.specs.Noting.{HoldsEvent, IsNotingEvent, IsEventNoted}
use Rattle.card_days.specs.card_model.declared.lengths.TheConstants.{DAYS_MOST}
use Rattle.card_days.specs.card_model.Days.{Day}
use Rattle.card_days.specs.card_model.Changes.{Shorter, date_of, trimmed}
use Rattle.card_validity.specs.card_image.Fields.{file, current_use, session_time, end_mark}
use Rattle.card_validity.specs.card_image.Judging.{first_bad_file, IsValid}
use Rattle.card_validity.specs.card_image.View.{card_view}
use Rattle.card_validity.specs.declared.fault.InsertFault.{InsertFault}
use Rattle.card_validity.specs.Faults.{IfNotValid, IfTimeOverlap, has_failed}
use Rattle.card_validity.specs.Judged.{TellsSizes}
use Rattle.card_session.specs.declared.insert.Inserted.{Inserted}
use Rattle.card_session.specs.declared.words.TheConstants.{LATEST_MINUTE}
use Rattle.card_session.specs.Vehicles.{Vehicles}
use Rattle.card_session.specs.Books.{Book, mark_of, with_entry, closed}
use Rattle.card_session.specs.Sessions.{Session, KnowsCard, IsSession, IsOpenBook, EndsStrictly, MayKeep, newest_in}
use Rattle.card_session.specs.Sessions.{book_of}
use Rattle.card_session.specs.Moments.{IsBook, IsKeepMoment, IsCloseMoment}
use Rattle.card_session.specs.Cards.{IsCard}

-- ---- what is handed to it

-- each entry comes after a minute and after the entry before it
abbrev pub Follow : (minute : ℕ) → List Entry → Type 0
Follow minute [] = Unit {0}
Follow minute (e ∷ es) = (minute < e.minute) × Follow e.minute es

-- owed entries: their minutes increase, none is of the first day, and all are before the minute of now
abbrev pub AreOwed : (now : ℕ) → List Entry → Type 0
AreOwed now owed = Follow 1439 owed × All (λ e. e.minute < now / 60) owed

-- the files that an insertion writes lie in the medium, and may be written
pub record MayInsert (app : Application) (s : State) : Type 0 where
  pub keep : MayKeep app s
  pub events : LiesInside s.writable (place_of app (file 0x0502)) (size_of app (file 0x0502))
  pub current : LiesInside s.writable (place_of app (file 0x0507)) 19

-- the owed entries that a card lacks: from the first on that is later than its end mark
abbrev pub lacked : (mark : ℕ) → List Entry → List Entry
lacked mark [] = []
lacked mark (e ∷ es) = if nat_lt mark e.minute then e ∷ es else lacked mark es

-- how many of them a card lacks with this session time and this end mark: none where no session is open
abbrev pub replayed_count : (session mark : ℕ) → List Entry → ℕ
replayed_count session mark owed = if nat_eq session 0 then 0 else length (lacked mark owed)

-- so many of the owed entries were replayed: those that a card with this session time and this end mark lacks, which
-- are no more than are owed
pub record Replays (session mark : ℕ) (owed : List Entry) (n : ℕ) : Type 0 where
  pub few : n ≤ length owed
  pub count : n ≡ replayed_count session mark owed

-- ---- of the days and the vehicle entries

-- THE CUT behind the end mark
abbrev pub with_cut : (minute : ℕ) → Book → Book
with_cut minute b = record { days = trimmed minute b.days; vehicles = b.vehicles }

-- a moment of it: of the days only some of those later than the minute's day are gone
abbrev pub IsCutting : (minute : ℕ) → Book → List Day → Vehicles → Type 0
IsCutting minute b days vehicles = (Shorter (date_of minute) b.days days ⊎ (days ≡ trimmed minute b.days))
    × (vehicles ≡ b.vehicles)

-- ENTRIES in their order, none of which adds a distance
abbrev pub with_owed : (size : ℕ) → Registration → (odometer : ℕ) → List Entry → Book → Book
with_owed size registration odometer [] b = b
with_owed size registration odometer (e ∷ es) b = with_owed size registration odometer es
    (with_entry size registration odometer 0 b e)

-- no word and no mark reaches the first of them
abbrev pub IsBeforeAll : List Entry → Book → Type 0
IsBeforeAll es b = IsOpenBook b × Follow (newest_in b) es

-- a moment of them: the first few are on the card, and it is a moment of the keep of the next
abbrev pub IsReplaying : (size : ℕ) → Registration → (odometer : ℕ) → List Entry → Book → List Day → Vehicles → Type 0
IsReplaying size registration odometer [] b days vehicles = IsBook b days vehicles
IsReplaying size registration odometer (e ∷ es) b days vehicles =
    IsKeepMoment size registration odometer 0 e b days vehicles
    ⊎ IsReplaying size registration odometer es (with_entry size registration odometer 0 b e) days vehicles

-- the words of the newest day that a cut at the end mark leaves increase
abbrev pub EndsCut : Book → Type 0
EndsCut b = EndsStrictly (trimmed (mark_of b) b.days)

-- THE REPAIR: the cut at the end mark, and the entries that the card lacks
abbrev pub repaired : (size : ℕ) → Registration → (odometer : ℕ) → (owed : List Entry) → Book → Book
repaired size registration odometer owed b = with_owed size registration odometer (lacked (mark_of b) owed)
    (with_cut (mark_of b) b)

-- a moment of it: of the cut, or of the entries
abbrev pub IsRepairMoment : (size : ℕ) → Registration → (odometer : ℕ) → (owed : List Entry) → Book → List Day
    → Vehicles → Type 0
IsRepairMoment size registration odometer owed b days vehicles =
    IsCutting (mark_of b) b days vehicles
    ⊎ IsReplaying size registration odometer (lacked (mark_of b) owed) (with_cut (mark_of b) b) days vehicles

-- ---- of a card: its steps, each as it is done and at its moments

-- two steps, one after the other
abbrev pub Both : (S S' : List ℕ → List ℕ → Type 0) → List ℕ → List ℕ → Type 0
Both S S' x z = (y : List ℕ) × S x y × S' y z

-- a moment of two steps: one of the first, or the first is done and it is one of the second
abbrev pub During : (R S R' : List ℕ → List ℕ → Type 0) → List ℕ → List ℕ → Type 0
During R S R' x c = R x c ⊎ Both S R' x c

-- a drop that was cut short is ended: the days and the vehicle entries stay
abbrev pub IsStill : Application → List ℕ → List ℕ → Type 0
IsStill app x c = IsCard app (IsBook (book_of app x)) x c

-- the card is repaired
abbrev pub IsRepaired : Application → Registration → (odometer : ℕ) → (owed : List Entry) → List ℕ → List ℕ → Type 0
IsRepaired app registration odometer owed x y = IsCard app
    (IsBook (repaired app.activity registration odometer owed (book_of app x))) x y

-- a moment at which it is repaired
abbrev pub IsRepairing : Application → Registration → (odometer : ℕ) → (owed : List Entry) → List ℕ → List ℕ → Type 0
IsRepairing app registration odometer owed x c = IsCard app
    (IsRepairMoment app.activity registration odometer owed (book_of app x)) x c

-- The event of a session that was not closed (Appendix 1, EventFaultType 06): from that session's begin to now, with
-- its vehicle.
abbrev pub unclosed : CurrentUse → (now : ℕ) → CardEvent
unclosed current now = record {
  kind = 6;
  begin = current.session;
  end = record { 0 = now };
  registration = current.registration;
}

-- an event with that begin is there
abbrev pub HoldsUnclosed : Application → List ℕ → Type 0
HoldsUnclosed app x = HoldsEvent app 6 (session_time app x) x

-- the event is noted, unless one with that begin is there
abbrev pub IsNoted : Application → (now : ℕ) → List ℕ → List ℕ → Type 0
IsNoted app now x y = (HoldsUnclosed app x × (y ≡ x))
    ⊎ ((HoldsUnclosed app x → ⊥) × IsEventNoted app (unclosed (current_use app x) now) x y)

-- a moment at which the event is noted
abbrev pub IsNoting : Application → (now : ℕ) → List ℕ → List ℕ → Type 0
IsNoting app now x c = (HoldsUnclosed app x → ⊥) × IsNotingEvent app (unclosed (current_use app x) now) x c

-- a word may follow, and a minute the end mark
abbrev pub MayShut : Book → Type 0
MayShut b = IsOpenBook b × (mark_of b < LATEST_MINUTE)

-- a card is closed: by the closing word, rest, and the end mark at it
abbrev pub IsShut : Application → List ℕ → List ℕ → Type 0
IsShut app x y = IsCard app (IsBook (closed app.activity Rest (book_of app x))) x y

-- a moment at which it is closed so
abbrev pub IsShutting : Application → List ℕ → List ℕ → Type 0
IsShutting app x c = IsCard app (IsCloseMoment app.activity Rest (book_of app x)) x c

-- the session time, at the front of its file
abbrev pub timed : Application → (seconds : ℕ) → List ℕ → List ℕ
timed app seconds x = put (place_of app (file 0x0507)) (time_bytes (record { 0 = seconds })) x

-- the registration, behind the session time
abbrev pub registered : Application → Registration → List ℕ → List ℕ
registered app registration x = put (place_of app (file 0x0507) + 4) registration.0 x

-- the session time is 0
abbrev pub IsEnded : Application → List ℕ → List ℕ → Type 0
IsEnded app x y = y ≡ timed app 0 x

-- a moment of it: the session time is the old one, or 0
abbrev pub IsEnding : Application → List ℕ → List ℕ → Type 0
IsEnding app x c = (c ≡ x) ⊎ IsEnded app x c

-- the new session: the registration, and behind it the session time
abbrev pub IsOpened : Application → Registration → (now : ℕ) → List ℕ → List ℕ → Type 0
IsOpened app registration now x y = y ≡ timed app now (registered app registration x)

-- a moment of it: some of the registration is there, all of it, or the session time too
abbrev pub IsOpening : Application → Registration → (now : ℕ) → List ℕ → List ℕ → Type 0
IsOpening app registration now x c =
    IsPartlyWritten (place_of app (file 0x0507) + 4) registration.0 x c
    ⊎ ((c ≡ registered app registration x) ⊎ IsOpened app registration now x c)

-- ---- parts of it, of a card that a session knows

-- a card whose session was left open: this was its current use
pub record Mends (s : Session) (current : CurrentUse) (x : List ℕ) : Type 0 where
  pub knows : KnowsCard s x
  pub current_is : current ≡ current_use s.application x
  pub strict : EndsCut (book_of s.application x)
  pub mark : mark_of (book_of s.application x) < LATEST_MINUTE

-- it is repaired, the event is noted, and a closing word may follow
abbrev pub IsSessionMended : (s next : Session) → CurrentUse → (odometer : ℕ) → (owed : List Entry) → (now : ℕ) → List ℕ
    → List ℕ → Type 0
IsSessionMended s next current odometer owed now x y = Mends s current x
    → Both (IsStill s.application) (Both (IsRepaired s.application s.registration odometer owed)
    (IsNoted s.application now)) x y × KnowsCard next y × MayShut (book_of next.application y)

-- a moment of this repair and of the noting of the event
abbrev pub IsMendMoment : Session → CurrentUse → (odometer : ℕ) → (owed : List Entry) → (now : ℕ) → List ℕ → List ℕ
    → Type 0
IsMendMoment s current odometer owed now x c = Mends s current x
    → During (IsStill s.application) (IsStill s.application)
    (During (IsRepairing s.application s.registration odometer owed)
    (IsRepaired s.application s.registration odometer owed) (IsNoting s.application now)) x c

-- the closing word is written where it must be, and then one of these is done; the session knows the card, and a word
-- may follow
abbrev pub IsShutThen : (s next : Session) → (S : List ℕ → List ℕ → Type 0) → List ℕ → List ℕ → Type 0
IsShutThen s next S x y = KnowsCard s x → MayShut (book_of s.application x)
    → Both (IsShut s.application) S x y × KnowsCard next y × IsOpenBook (book_of next.application y)

-- a moment of it: of the closing word, or of what is done then
abbrev pub IsShutThenMoment : Session → (R : List ℕ → List ℕ → Type 0) → List ℕ → List ℕ → Type 0
IsShutThenMoment s R x c = KnowsCard s x → MayShut (book_of s.application x)
    → During (IsShutting s.application) (IsShut s.application) R x c

-- the session that was left open is ended, and another opened
abbrev pub IsReopened : Application → Registration → (now : ℕ) → List ℕ → List ℕ → Type 0
IsReopened app registration now = Both (IsEnded app) (IsOpened app registration now)

-- a moment of this end, or of the opening
abbrev pub IsReopening : Application → Registration → (now : ℕ) → List ℕ → List ℕ → Type 0
IsReopening app registration now = During (IsEnding app) (IsEnded app) (IsOpening app registration now)

-- the same of a card without a session, whose drop is ended first
abbrev pub IsStarted : (s next : Session) → (now : ℕ) → List ℕ → List ℕ → Type 0
IsStarted s next now x y = KnowsCard s x → MayShut (book_of s.application x)
    → Both (IsStill s.application) (Both (IsShut s.application) (IsOpened s.application s.registration now)) x y
    × KnowsCard next y × IsOpenBook (book_of next.application y)

-- a moment of this start
abbrev pub IsStartMoment : Session → (now : ℕ) → List ℕ → List ℕ → Type 0
IsStartMoment s now x c = KnowsCard s x → MayShut (book_of s.application x)
    → During (IsStill s.application) (IsStill s.application)
    (During (IsShutting s.application) (IsShut s.application) (IsOpening s.application s.registration now)) x c

-- ---- an insertion, whole

-- of a card whose session was closed
abbrev pub InsertsClosed : Application → Registration → (now : ℕ) → List ℕ → List ℕ → Type 0
InsertsClosed app registration now = Both (IsStill app) (Both (IsShut app) (IsOpened app registration now))

-- a moment of such an insertion
abbrev pub InsertingClosed : Application → Registration → (now : ℕ) → List ℕ → List ℕ → Type 0
InsertingClosed app registration now = During (IsStill app) (IsStill app)
    (During (IsShutting app) (IsShut app) (IsOpening app registration now))

-- of one whose session was left open: the session time stays until all entries that it lacked are on it
abbrev pub InsertsOpen : Application → Registration → (odometer : ℕ) → (owed : List Entry) → (now : ℕ) → List ℕ → List ℕ
    → Type 0
InsertsOpen app registration odometer owed now =
    Both (IsStill app) (Both (IsRepaired app registration odometer owed)
    (Both (IsNoted app now) (Both (IsShut app) (Both (IsEnded app) (IsOpened app registration now)))))

-- a moment of such an insertion, whose steps come in this order
abbrev pub InsertingOpen : Application → Registration → (odometer : ℕ) → (owed : List Entry) → (now : ℕ) → List ℕ
    → List ℕ → Type 0
InsertingOpen app registration odometer owed now =
    During (IsStill app) (IsStill app)
    (During (IsRepairing app registration odometer owed) (IsRepaired app registration odometer owed)
    (During (IsNoting app now) (IsNoted app now)
    (During (IsShutting app) (IsShut app) (During (IsEnding app) (IsEnded app) (IsOpening app registration now)))))

-- what an insertion leaves of a card
abbrev pub IsCardInserted : Application → Registration → (odometer : ℕ) → (owed : List Entry) → (now : ℕ) → List ℕ
    → List ℕ → Type 0
IsCardInserted app registration odometer owed now x y =
    ((session_time app x ≡ 0) × InsertsClosed app registration now x y)
    ⊎ ((session_time app x ≢ 0) × InsertsOpen app registration odometer owed now x y)

-- and a moment of it
abbrev pub IsCardInserting : Application → Registration → (odometer : ℕ) → (owed : List Entry) → (now : ℕ) → List ℕ
    → List ℕ → Type 0
IsCardInserting app registration odometer owed now x c =
    ((session_time app x ≡ 0) × InsertingClosed app registration now x c)
    ⊎ ((session_time app x ≢ 0) × InsertingOpen app registration odometer owed now x c)

-- a card that is accepted, as a session over it knows it: of this current use
pub record Takes (s : Session) (current : CurrentUse) (x : List ℕ) : Type 0 where
  pub knows : KnowsCard s x
  pub current_is : current ≡ current_use s.application x
  pub mark : mark_of (book_of s.application x) < LATEST_MINUTE
  pub ready : session_time s.application x ≡ 0 → IsOpenBook (book_of s.application x)
  pub strict : session_time s.application x ≢ 0 → EndsCut (book_of s.application x)

-- it is inserted, and the next session is the card's
abbrev pub IsTaken : (s next : Session) → CurrentUse → (odometer : ℕ) → (owed : List Entry) → (now : ℕ) → List ℕ
    → List ℕ → Type 0
IsTaken s next current odometer owed now x y = Takes s current x
    → IsCardInserted s.application s.registration odometer owed now x y × IsSession next y

-- a moment at which it is inserted
abbrev pub IsTaking : Session → CurrentUse → (odometer : ℕ) → (owed : List Entry) → (now : ℕ) → List ℕ → List ℕ → Type 0
IsTaking s current odometer owed now x c = Takes s current x
    → IsCardInserting s.application s.registration odometer owed now x c

-- ---- the call

-- A CARD MAY BE PUT IN by these sizes: they are of the formats, a session may be opened on it, and it tells them
pub record CardMayBePutIn (app : Application) (x : State) : Type 0 where
  pub sizes : IsApplication app
  pub card : MayInsert app x
  pub told : IfSome x.image (TellsSizes app)

-- AND AT THIS SECOND, at this odometer, with these entries owed: they are within the bounds of the formats
pub record MayBePutIn (now odometer : ℕ) (entries : List Entry) : Type 0 where
  pub some : 1 ≤ now
  pub last : now / 60 < LATEST_MINUTE
  pub fits : odometer < 2 ^ 24
  pub owed : AreOwed now entries

-- THE CARD IS ACCEPTED: it was valid, of no later time; its image is that of a card that is inserted; the session is
-- its own, of this vehicle, with no odometer yet; and of the owed entries those were replayed that it lacked
pub record CardAccepted (app : Application) (registration : Registration) (odometer : ℕ) (owed : List Entry) (now : ℕ)
    (X Y : State) (i : Inserted) : Type 0 where
  pub valid : IfSome X.image (λ x. IsValid app x × ((card_view app x).stored ≤ now))
  pub inserted : IfSome X.image (λ x. IfSome Y.image (IsCardInserted app registration odometer owed now x))
  pub session : IfSome X.image (λ x. IfSome Y.image (IsSession i.session))
  pub value : (i.session.application ≡ app) × (i.session.registration ≡ registration) × (i.session.odometer ≡ None)
  pub few : i.replayed ≤ length owed
  pub replayed : IfSome X.image (λ x. i.replayed ≡ replayed_count (session_time app x) (end_mark app x) owed)

-- THE CARD IS REFUSED: it is not valid, and this is its first bad place; or its stored time is later than now; in both
-- cases it was only read
pub record CardRefused (app : Application) (now : ℕ) (X Y : State) (fault : InsertFault) : Type 0 where
  pub bad : IfNotValid fault (λ fid place. IfSome X.image (λ x. first_bad_file app x ≡ Some (fid, place)))
  pub late : IfTimeOverlap fault (λ stored at. (at ≡ now) × (now < stored)
      × IfSome X.image (λ x. IsValid app x × (stored ≡ (card_view app x).stored)))
  pub bad_reads : IfNotValid fault (λ fid place. Reads X Y false)
  pub late_reads : IfTimeOverlap fault (λ stored at. Reads X Y false)

-- WHAT IT LEAVES: each image that a stop may leave is one of a card that is being inserted; it was written only where
-- its stored time is not later than now; where it was accepted a stop leaves it as it is; a call on it failed exactly
-- where that was answered; and no more writes were begun than these
pub record LeavesInserting (app : Application) (registration : Registration) (odometer : ℕ) (owed : List Entry)
    (now : ℕ) (result : Result Inserted InsertFault) (X Y : State) : Type 0 where
  pub moments : LeavesOnly X Y (IsCardInserting app registration odometer owed now)
  pub in_time : LeavesOnly X Y Unchanged ⊎ IfSome X.image (λ x. (card_view app x).stored ≤ now)
  pub settled : IsOk result → Y.clock < last_count → IsSettled Y
  pub cause : HasCause X Y (has_failed result)
  pub most : Y.clock ≤ X.clock + (DAYS_MOST + 84)
