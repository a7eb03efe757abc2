-- What a card shows of its stays in a run in which no call failed on it, nor on the unit (profile): its days, with
-- their words and distances, its vehicle entries and its current use, exactly; one stay for each acceptance that the
-- log tells, closed where the run notes its withdrawal, and nowhere else; and, where none failed on the other card
-- either, what the unit tells of the vehicle before, at each of them.
use Rattle.std.specs.Prelude.{◌≡◌, ◌⊎◌, ◌≤◌, ◌<◌, ℕ, ◌++◌, Bool, true, false, ◌||◌, Option, Some, None, IfSome}
use Rattle.std.specs.Prelude.{option_map, List, [], ◌∷◌, is_some, length, map, filter}
use Rattle.std.specs.List.{AllByRecursion}
use Rattle.activity_codec.specs.declared.values.Activity.{Activity}
use Rattle.activity_codec.specs.declared.values.Slot.{Slot}
use Rattle.activity_codec.specs.declared.entries.Entry.{Entry}
use Rattle.activity_codec.specs.declared.entries.Manual.{Manual}
use Rattle.trace_model.specs.declared.Card.{Card}
use Rattle.trace_model.specs.declared.Card.TheVariants.{A, B}
use Rattle.unit_model.specs.minute_model.Span.{Span, activity_next}
use Rattle.minute_rules.specs.Kept.{Kept as Minutes, CountsSpan}
use Rattle.tach_media.specs.Medium.{State, bytes_at, last_count}
use Rattle.tacho_types.specs.declared.texts.Registration.{Registration}
use Rattle.unit_model.specs.declared.layout.TheConstants.{REGISTRATION}
use Rattle.run_events.specs.message_model.Records.{insertion_ring}
use Rattle.log_model.specs.Log.{RunLog, is_accepting}
use Rattle.log_model.specs.Causes.{cuts, device_of}
use Rattle.log_model.specs.Slots.{same_card}
use Rattle.log_model.specs.declared.lines.Find.{Find}
use Rattle.log_model.specs.declared.lines.Verdict.{Verdict}
use Rattle.log_model.specs.declared.lines.Verdict.TheVariants.{Accepted as AcceptedWith, NotValid, TimeOverlap}
use Rattle.hand_model.specs.card_image.View.{stored_of}
use Rattle.hand_model.specs.card_image.Own.{own_sizes, IsOwnValid}
use Rattle.card_files.specs.declared.current_use.CurrentUse.{CurrentUse}
use Rattle.card_files.specs.declared.vehicle.Vehicle.{Vehicle}
use Rattle.hand_model.specs.card_image.Fields.{current_use, last_use_of}
use Rattle.device_calls.specs.card_session.declared.session.Kept.{Kept}
use Rattle.device_calls.specs.card_session.Books.{Book, mark_of}
use Rattle.device_calls.specs.card_session.Sessions.{IsSession, book_of}
use Rattle.device_calls.specs.card_session.Cards.{IsCardClosed}
use Rattle.device_calls.specs.card_session.Inserting.{lacked}
use Rattle.device_calls.specs.card_string.Deeds.{Deed, Close}
use Rattle.unit_notes.specs.note_model.Noted.{Note}
use Rattle.device_calls.specs.safety_model.Safe.{Devices, card_of, breakdowns_of}
use Rattle.device_calls.specs.device_rule.Views.{other}
use Rattle.run_crew.specs.card_slots.Calls.{Seats, is_card, seat_in, card_in}
use Rattle.run_crew.specs.declared.cards.Accepted.{Accepted}
use Rattle.run_crew.specs.declared.cabin.Cabin.{Cabin}
use Rattle.run_crew.specs.Cards.{session_of}
use Rattle.run_minutes.specs.run_promise.Found.{CardFound, found_of}
use Rattle.run_minutes.specs.run_promise.Origin.{Origin}
use Rattle.run_minutes.specs.run_promise.Whole.{NothingFailed}
use Rattle.run_minutes.specs.CardDeeds.{made_by, is_open_in, ShowsBook, keeps, holds_after, last_odometer, opens}
use Rattle.run_events.specs.gated_ring.Ring.{PointsInside}
use Rattle.run_acts.specs.Closings.{Spell, spells_of, with_last_shut, last_slot}
use Rattle.run_acts.specs.Comings.{VehicleTold, told_of, TellsMore}
use Rattle.run_acts.specs.Truths.{Truths}

-- the registration of the vehicle, as the image of its unit says
abbrev pub registration_in : List ℕ → List ℕ
registration_in unit = bytes_at unit REGISTRATION.place REGISTRATION.size

-- A CLOSING: the second of it, and the activity with which the last words were closed
pub record Shut : Type 0 where
  pub second : ℕ
  pub word : Activity

-- A STAY of a card in the vehicle: from its insertion, of whose acceptance this line of the log tells, where the
-- vehicle had this odometer value, and so much was owed to the card, with the entries by hand that were done in it and
-- the minutes that it kept, to its withdrawal with an activity; or it was not withdrawn.
pub record Stay : Type 0 where
  pub found : Find
  pub odometer : ℕ
  pub owed : List Entry
  pub by_hand : List Manual
  pub kepts : List Kept
  pub closed : Option Shut
  -- the lines by which its card was turned away since the stay before
  pub turned : List Find

-- its withdrawal as a deed, if it was withdrawn
abbrev pub closes : Option Shut → List Deed
closes None = []
closes (Some x) = Close x.word ∷ []

-- what is done on the card in it
abbrev pub deeds_of : Registration → (used : Bool) → Book → Stay → List Deed
deeds_of vehicle used b s = opens used vehicle s.odometer (lacked (mark_of b) s.owed)
    ++ (keeps vehicle None s.by_hand s.kepts ++ closes s.closed)

-- a book, and the current use with it
pub record Shown : Type 0 where
  pub book : Book
  pub held : CurrentUse

-- the session time that a stay leaves: its second; 0 where it was closed
abbrev pub open_from : (second : ℕ) → Option Shut → ℕ
open_from u None = u
open_from u (Some x) = 0

-- and the current use that it leaves, of the vehicle
abbrev pub use_after : Registration → Stay → CurrentUse
use_after vehicle s = record { session = record { 0 = open_from s.found.second s.closed }; registration = vehicle }

-- what a card shows behind a stay
abbrev pub after_stay : Registration → (size : ℕ) → Stay → Shown → Shown
after_stay vehicle size s p = record {
  book = made_by size (deeds_of vehicle (is_open_in p.held) p.book s) p.book;
  held = use_after vehicle s;
}

-- and behind some, one after another
abbrev pub after_stays : Registration → (size : ℕ) → List Stay → Shown → Shown
after_stays vehicle size [] p = p
after_stays vehicle size (s ∷ ss) p = after_stays vehicle size ss (after_stay vehicle size s p)

-- at the start
abbrev pub start_shown : List ℕ → Shown
start_shown image = record { book = book_of (own_sizes image) image; held = current_use (own_sizes image) image }

-- ---- when they began, and when none did

-- the stored time of a card that shows this: no earlier second may be recorded on it
abbrev pub stored_by : Shown → ℕ
stored_by p = stored_of (last_use_of p.book.vehicles.newest) p.held.session.0 p.book.days

-- a find of a card that tells of a later time
abbrev pub is_late : Verdict → Bool
is_late (AcceptedWith replayed) = false
is_late (NotValid fid place) = false
is_late (TimeOverlap stored now) = true

-- the lines of a log by which a card that was valid was accepted, or turned away
abbrev pub judged_told : RunLog → List Find
judged_told log = filter (λ (f : Find). is_accepting f.verdict || is_late f.verdict) log.finds

-- those of a card: the ones of its stays, each behind those by which it was turned away before, and these since the
-- last
abbrev pub judged_in : List Stay → (since : List Find) → List Find
judged_in [] since = since
judged_in (s ∷ ss) since = s.turned ++ s.found ∷ judged_in ss since

-- A CARD THAT SHOWS THIS is turned away by a line: that tells the time which it stored by then, which is later
abbrev pub IsTurnedAway : Shown → Find → Type 0
IsTurnedAway p f = (f.verdict ≡ TimeOverlap (stored_by p) f.second) × (f.second < stored_by p)

-- and accepted by that of a stay, behind such ones: that tells how many entries were owed to it, in a second that is
-- not earlier than the time which it stored by then
abbrev pub IsJudged : Shown → Stay → Type 0
IsJudged p s = AllByRecursion (IsTurnedAway p) s.turned × (s.found.verdict ≡ AcceptedWith (length s.owed))
    × (stored_by p ≤ s.found.second)

-- SO IT WAS JUDGED by the lines of each of its stays, by what it showed then; and since the last it was turned away
abbrev pub AreJudged : Registration → (size : ℕ) → List Stay → (since : List Find) → Shown → Type 0
AreJudged vehicle size [] since p = AllByRecursion (IsTurnedAway p) since
AreJudged vehicle size (s ∷ ss) since p = IsJudged p s × AreJudged vehicle size ss since (after_stay vehicle size s p)

-- ---- what was owed to their card

-- WHAT WAS OWED AT EACH OF THEM is that which is owed so, by its line and the end mark of what the card showed by then.
abbrev pub AreOwed : (Owes : Find → (mark : ℕ) → List Entry → Type 0) → Registration → (size : ℕ) → List Stay → Shown
    → Type 0
AreOwed Owes vehicle size [] p = Unit {0}
AreOwed Owes vehicle size (s ∷ ss) p = Owes s.found (mark_of p.book) s.owed
    × AreOwed Owes vehicle size ss (after_stay vehicle size s p)

-- ---- how many

-- the lines of a log that tell of an acceptance
abbrev pub acceptances_told : RunLog → List Find
acceptances_told log = filter (λ (f : Find). is_accepting f.verdict) log.finds

-- each line is the next of the one list, or of the other
abbrev pub AreMerged : {L : Type 0} (lines one other : List L) → Type 0
AreMerged {L} [] one other = (one ≡ []) × (other ≡ [])
AreMerged {L} (f ∷ lines) one other =
    ((rest : List L) × (one ≡ f ∷ rest) × AreMerged lines rest other)
    ⊎ ((rest : List L) × (other ≡ f ∷ rest) × AreMerged lines one rest)

-- the spell of a stay
abbrev pub stay_spell : Stay → Spell
stay_spell s = record {
  second = s.found.second;
  slot = s.found.slot;
  withdrawn = option_map {T = Shut} (λ (x : Shut). x.second) s.closed;
}

-- and those of some
abbrev pub spells : List Stay → List Spell
spells ss = map stay_spell ss

-- a card is in one of the slots
abbrev pub sits_in : Seats → Card → Bool
sits_in seats c = is_card seats.driver c || is_card seats.codriver c

-- as they are noted in a second: the last one of a card that has left its slot, and whose session is not closed yet, is
-- withdrawn in it
abbrev pub as_noted : (second : ℕ) → (session : Option Accepted) → (sits : Bool) → List Spell → List Spell
as_noted u None sits ss = ss
as_noted u (Some a) true ss = ss
as_noted u (Some a) false ss = with_last_shut u ss

-- A CARD WITH A SESSION sits in the slot in which its last spell began.
abbrev pub IsPlaced : List Note → Cabin → Card → Type 0
IsPlaced notes cabin c = (slot : Slot) → is_some (session_of cabin.cards c) ≡ true
    → card_in (seat_in cabin.slots.seats slot) ≡ Some c → last_slot (spells_of c notes) ≡ Some slot

-- ---- whose

-- WHOSE STAYS: those of both cards, or of one, whatever the other did
pub data Whose : Type 0 where
  Both : Whose
  Only : Card → Whose

-- a card is one of them
abbrev pub covers : Whose → Card → Bool
covers Both c = true
covers (Only k) c = same_card k c

-- NO CALL HAS FAILED ON A CARD, nor on the unit: the log tells of no failed cut, and the card's count of breakdowns
-- stands as it began, below its last value.
pub record IsUnhurt (o : Origin) (log : RunLog) (c : Card) (d : Devices) : Type 0 where
  pub uncut : cuts true log ≡ []
  pub low : o.breakdowns (device_of c) < last_count
  pub stands : breakdowns_of d (device_of c) ≡ o.breakdowns (device_of c)

-- THEIR STAYS ARE KNOWN: of both cards where no call has failed, and of one where none has on it.
abbrev pub AreKnown : Whose → Origin → RunLog → Devices → Type 0
AreKnown Both o log d = NothingFailed log
AreKnown (Only c) o log d = IsUnhurt o log c d

-- ---- what is true of them

-- A STAY IS TRUE: its acceptance told the odometer of then, each of its minutes that of its end, and it was closed with
-- the word of its slot.
abbrev pub IsTrueOf : Truths → Stay → Type 0
IsTrueOf t s = t.accepted s.found s.odometer × AllByRecursion t.kept s.kepts
    × IfSome s.closed (λ x. t.closed s.found x.second x.word)

-- what was owed is said where no call has failed on either card; of one card alone what it got
abbrev pub owed_by : Whose → Truths → Card → Find → (mark : ℕ) → List Entry → Type 0
owed_by Both t c f mark es = t.owed c f mark es
owed_by (Only k) t c f mark es = t.got c es

-- SO IS EACH of these, of a card with this image at the start; and what was owed at it was owed so
abbrev pub AreTrue : Whose → Truths → Card → Registration → (image : List ℕ) → List Stay → Type 0
AreTrue whose t c vehicle image ss = AllByRecursion (IsTrueOf t) ss
    × AreOwed (owed_by whose t c) vehicle (own_sizes image).activity ss (start_shown image)

-- ---- the vehicle before

-- A COMING of a card: the line that tells of its acceptance, and its newest vehicle entry as it was looked at
pub record Coming : Type 0 where
  pub found : Find
  pub before : Option Vehicle

-- those of these stays: the newest entry that the stays before each make of this book
abbrev pub comings_of : Registration → (size : ℕ) → List Stay → Shown → List Coming
comings_of vehicle size [] p = []
comings_of vehicle size (s ∷ ss) p = record { found = s.found; before = p.book.vehicles.newest }
    ∷ comings_of vehicle size ss (after_stay vehicle size s p)

-- of a card with this image at the start
abbrev pub comings_on : Registration → (image : List ℕ) → List Stay → List Coming
comings_on vehicle image ss = comings_of vehicle (own_sizes image).activity ss (start_shown image)

-- the lines of some
abbrev pub lines_of : List Coming → List Find
lines_of cs = map (λ (c : Coming). c.found) cs

-- and the vehicles that the cards had before
abbrev pub befores_of : List Coming → List VehicleTold
befores_of cs = map (λ (c : Coming). told_of c.before) cs

-- A UNIT TELLS THE VEHICLE BEFORE: by these lines the cards have come, each of them as the next of its card's stays,
-- and each image that a stop may leave of the unit tells those vehicles, one entry for each line, in their order,
-- behind those of the start. The pointer of its ring was an index then.
pub record TellsBefores (unit : List ℕ) (acceptances : List Find) (vehicle : Registration)
    (image : Card → List ℕ) (stays : Card → List Stay) (now : State) : Type 0 where
  pub comings : List Coming
  pub lines : lines_of comings ≡ acceptances
  pub merged : AreMerged comings (comings_on vehicle (image A) (stays A)) (comings_on vehicle (image B) (stays B))
  pub tells : PointsInside insertion_ring unit → (x : List ℕ) → now.may_leave x → TellsMore (befores_of comings) unit x

-- ---- one card

-- A CARD IN ITS SLOT goes on in the last of its stays: its session is of the vehicle, and has the odometer value of the
-- last minute kept in it; and it holds the entries by hand that were done in the stay, as long as it has kept no
-- minute; and where it may take one it has kept none.
pub record GoesIn (vehicle : Registration) (stays : List Stay) (a : Accepted) : Type 0 where
  pub front : List Stay
  pub stay : Stay
  pub are : stays ≡ front ++ stay ∷ []
  pub still : stay.closed ≡ None
  pub registered : a.session.registration ≡ vehicle
  pub odometer : a.session.odometer ≡ last_odometer None stay.kepts
  pub held : a.held.entries ≡ holds_after stay.by_hand stay.kepts
  pub free : a.held.begun ≡ None → stay.kepts ≡ []

-- so it is of a card with a session; of one without nothing is said
abbrev pub StaysIn : Registration → List Stay → Option Accepted → Type 0
StaysIn vehicle stays None = Unit {0}
StaysIn vehicle stays (Some a) = GoesIn vehicle stays a

-- EACH IMAGE THAT A CARD MAY LEAVE shows exactly what these stays in the vehicle make of the image at the start; and by
-- when and where they began, and when they were withdrawn, they are the noted ones, in this second.
pub record HasStays (second : ℕ) (f : CardFound) (vehicle : Registration) (noted : List Spell) (sits : Bool)
    (stays : List Stay) (session : Option Accepted) (card : State) : Type 0 where
  pub shows : ShowsBook (own_sizes f.image)
      (after_stays vehicle (own_sizes f.image).activity stays (start_shown f.image)).book
      (after_stays vehicle (own_sizes f.image).activity stays (start_shown f.image)).held card
  pub goes : StaysIn vehicle stays session
  pub spell : as_noted second session sits (spells stays) ≡ noted

-- so it is once the run is over, of a card with this image at the start, in this vehicle
abbrev pub ShowsStays : Registration → (image : List ℕ) → List Stay → (card : State) → Type 0
ShowsStays vehicle image stays card = ShowsBook (own_sizes image)
    (after_stays vehicle (own_sizes image).activity stays (start_shown image)).book
    (after_stays vehicle (own_sizes image).activity stays (start_shown image)).held card

-- ---- the lines of the log

-- EACH LINE by which a card was judged is, in its order, the next of the one card's or of the other's; or, of one card
-- alone, of its own or of those that are of the other's entering.
abbrev pub AreTold : Whose → Truths → (lines : List Find) → (own : Card → List Find) → Type 0
AreTold Both t lines own = AreMerged lines (own A) (own B)
AreTold (Only c) t lines own = (others : List Find) × AreMerged lines (own c) others
    × AllByRecursion (t.entered (other c)) others

-- THE UNIT TELLS THE VEHICLE BEFORE each of them, where they are those of both cards.
abbrev pub AreToldBefore : Whose → (unit : List ℕ) → (acceptances : List Find) → Registration
    → (image : Card → List ℕ) → (stays : Card → List Stay) → (now : State) → Type 0
AreToldBefore Both unit acceptances vehicle image stays now = TellsBefores unit acceptances vehicle image stays now
AreToldBefore (Only c) unit acceptances vehicle image stays now = Unit {0}

-- ---- the cards

-- THE STAYS OF THESE CARDS in the vehicle of the run, by these notes so far, by these lines that tell of an acceptance,
-- and these with those that tell of a later time: each of these is, in its order, the next of the one card's or of the
-- other's; only a card that was valid has some, each of them true, and it shows exactly them, as they are noted in this
-- second; and it sits in the slot of the last of them. The unit tells the vehicle before each.
pub record AreStays (whose : Whose) (o : Origin) (t : Truths) (second : ℕ) (notes : List Note)
    (acceptances lines : List Find) (vehicle : Registration) (cabin : Cabin) (d : Devices) : Type 0 where
  pub says : vehicle.0 ≡ registration_in o.recording.unit
  pub stays : Card → List Stay
  pub only : (c : Card) → covers whose c ≡ true → (stays c ≡ []) ⊎ IsOwnValid (found_of o.found c).image
  pub each : (c : Card) → covers whose c ≡ true → IsOwnValid (found_of o.found c).image →
      HasStays second (found_of o.found c) vehicle (spells_of c notes) (sits_in cabin.slots.seats c) (stays c)
      (session_of cabin.cards c) (card_of d c)
  pub hold : (c : Card) → covers whose c ≡ true → AreTrue whose t c vehicle (found_of o.found c).image (stays c)
  pub placed : (c : Card) → covers whose c ≡ true → IsOwnValid (found_of o.found c).image → IsPlaced notes cabin c
  -- by which lines each was turned away since its last stay; none, while it has a session; only a card that was valid
  -- was
  pub since : Card → List Find
  pub lone : (c : Card) → covers whose c ≡ true → (since c ≡ []) ⊎ IsOwnValid (found_of o.found c).image
  pub judged : AreTold whose t lines (λ (c : Card). judged_in (stays c) (since c))
  -- each of these lines is of the card's own entering
  pub entered : (c : Card) → covers whose c ≡ true → AllByRecursion (t.entered c) (judged_in (stays c) (since c))
  pub verdicts : (c : Card) → covers whose c ≡ true → IsOwnValid (found_of o.found c).image
      → AreJudged vehicle (own_sizes (found_of o.found c).image).activity (stays c) (since c)
      (start_shown (found_of o.found c).image)
  pub waits : (c : Card) → covers whose c ≡ true → IsOwnValid (found_of o.found c).image
      → is_some (session_of cabin.cards c) ≡ true → since c ≡ []
  pub befores : AreToldBefore whose o.recording.unit acceptances vehicle
      (λ (c : Card). (found_of o.found c).image) stays d.unit

-- so they are where they are known: those of both cards, and of each by itself
abbrev pub AllStay : Origin → Truths → (second : ℕ) → RunLog → List Note → Registration → Cabin → Devices → Type 0
AllStay o t second log notes vehicle cabin d = (whose : Whose) → AreKnown whose o log d
    → AreStays whose o t second notes (acceptances_told log) (judged_told log) vehicle cabin d

-- A CARD IS CLOSED where its session was, with the activity that its slot has by these minutes: each image that it may
-- leave is its image before, closed
abbrev pub ClosesOnCard : Slot → Minutes → (session : Option Accepted) → (card card_after : State) → Type 0
ClosesOnCard slot minutes None card card_after = ⊥
ClosesOnCard slot minutes (Some a) card card_after =
    (act : Activity) × ((span : Span) → CountsSpan minutes span → act ≡ activity_next slot span)
    × ((c : List ℕ) → card_after.may_leave c
    → (x : List ℕ) × (card.image ≡ Some x) × (IsSession a.session x → IsCardClosed a.session act x c))
