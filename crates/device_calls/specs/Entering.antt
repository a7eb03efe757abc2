-- What becomes of a card that is put in (profile).
use Rattle.std.specs.Prelude.{◌≡◌, ◌⊎◌, ℕ, ◌+◌, ◌<◌, ◌≤◌, Bool, true, false, Option, Some, None, IfSome, IfOk, IfErr}
use Rattle.std.specs.Prelude.{IsOk, Result, Ok, Err, List, length}
use Rattle.activity_codec.specs.declared.entries.Entry.{Entry}
use Rattle.tach_media.specs.Medium.{State, HasCause, LeavesOnly, Reads, Unchanged, IsSettled, last_count}
use Rattle.tacho_types.specs.declared.texts.Registration.{Registration}
use Rattle.card_layout.specs.declared.files.Application.{Application}
use Rattle.card_validity.specs.declared.fault.InsertFault.{InsertFault}
use Rattle.card_validity.specs.declared.fault.InsertFault.TheVariants as card
use Rattle.card_validity.specs.declared.looking.CardLook.{CardLook}
use Rattle.card_validity.specs.Judged.{IsLook}
use Rattle.trace_model.specs.declared.Card.{Card}
use Rattle.card_validity.specs.card_image.Own.{own_sizes, own_number}
use Rattle.unit_rule.specs.card_model.declared.lengths.TheConstants.{DAYS_MOST}
use Rattle.device_calls.specs.Rule.{Both, number_of}
use Rattle.card_validity.specs.card_image.Fields.{card_number, end_mark, session_time}
use Rattle.card_validity.specs.card_image.Judging.{first_bad_file, IsValid}
use Rattle.card_validity.specs.card_image.View.{card_view}
use Rattle.card_session.specs.Sessions.{Session, IsSession}
use Rattle.card_session.specs.Inserting.{AreOwed, IsCardInserted, IsCardInserting, replayed_count}
use Rattle.unit_minutes.specs.unit_owed.Owed.{owed_to}
use Rattle.device_calls.specs.declared.entering.Entered.{Entered}
use Rattle.device_calls.specs.declared.entering.NotEntered.{NotEntered}
use Rattle.device_calls.specs.declared.entering.NotEntered.TheVariants.{UnitFailed, CardFailed, NotValid, TimeOverlap}

-- the entries that a unit's image owes to a card's
abbrev pub owed_on : Application → (unit card : List ℕ) → List Entry
owed_on app u x = owed_to u (card_number app x) (session_time app x) (end_mark app x)

-- why an insertion ended
abbrev pub of_card : InsertFault → NotEntered
of_card card.Failed = CardFailed
of_card (card.NotValid fid place) = NotValid fid place
of_card (card.TimeOverlap stored now) = TimeOverlap stored now

-- a call on the unit failed
abbrev pub unit_failed : {T : Type 0} → Result T NotEntered → Bool
unit_failed (Ok v) = false
unit_failed (Err UnitFailed) = true
unit_failed (Err CardFailed) = false
unit_failed (Err (NotValid fid place)) = false
unit_failed (Err (TimeOverlap stored now)) = false

-- a call on the unit was made: so it was where the card is accepted, or that call failed
abbrev pub unit_called : {T : Type 0} → Result T NotEntered → Bool
unit_called (Ok v) = true
unit_called (Err UnitFailed) = true
unit_called (Err CardFailed) = false
unit_called (Err (NotValid fid place)) = false
unit_called (Err (TimeOverlap stored now)) = false

-- a call on the card failed
abbrev pub card_failed : {T : Type 0} → Result T NotEntered → Bool
card_failed (Ok v) = false
card_failed (Err UnitFailed) = false
card_failed (Err CardFailed) = true
card_failed (Err (NotValid fid place)) = false
card_failed (Err (TimeOverlap stored now)) = false

-- THE UNIT is only read.
pub record IsRead (old new : State) (failed called : Bool) : Type 0 where
  pub leaves : LeavesOnly old new Unchanged
  pub same : failed ≡ false → new.image ≡ old.image
  pub clock : new.clock ≡ old.clock
  pub cause : called ≡ true → HasCause old new failed
  -- where no call was made it works as it did
  pub rests : called ≡ false → old.works ≡ true → HasCause old new false

-- A CARD THAT IS ACCEPTED, of these images of unit and card before and of the card after it: it told this, was valid
-- and of no later time, the entries that were owed to it are on it, so many of them new, and the session knows it.
pub record IsAccepted (app : Application) (registration : Registration) (odometer now : ℕ)
    (unit before after : Option (List ℕ))
    (look : CardLook) (owed : List Entry) (session : Session) (replayed : ℕ) : Type 0 where
  pub looked : IfSome before (λ x. IsLook app x look)
  pub valid : IfSome before (λ x. IsValid app x × ((card_view app x).stored ≤ now))
  pub owes : IfSome unit (λ u. IfSome before (λ x. IfSome after (λ y. owed ≡ owed_on app u x)))
  pub inserted : IfSome before (λ x. IfSome after (IsCardInserted app registration odometer owed now x))
  pub number : IfSome before (λ x. replayed ≡ replayed_count (session_time app x) (end_mark app x) owed)
  pub few : replayed ≤ length owed
  pub fit : AreOwed now owed
  pub knows : IfSome before (λ x. IfSome after (IsSession session))
  pub sizes : session.application ≡ app
  pub vehicle : session.registration ≡ registration
  pub fresh : session.odometer ≡ None

-- A CARD THAT IS NOT ACCEPTED was not written but where a call on it failed; and why it is not.
abbrev pub IsRefused : Application → (now : ℕ) → (before after : State) → NotEntered → Type 0
IsRefused app now before after UnitFailed = Reads before after false
IsRefused app now before after CardFailed = Unit {0}
IsRefused app now before after (NotValid fid place) = Reads before after false
    × IfSome before.image (λ x. first_bad_file app x ≡ Some (fid, place))
IsRefused app now before after (TimeOverlap stored at) =
    Reads before after false × (at ≡ now) × (now < stored)
    × IfSome before.image (λ x. IsValid app x × (stored ≡ (card_view app x).stored))

-- A card that was written told of no later time.
abbrev pub IsInTime : Application → (now : ℕ) → (before after : State) → Type 0
IsInTime app now before after = LeavesOnly before after Unchanged
    ⊎ IfSome before.image (λ x. (card_view app x).stored ≤ now)

-- PUT IN: at each moment, too, what the card's images are by those of unit and card before; and how many writes it
-- begins on the card at most.
pub record IsEntering (app : Application) (registration : Registration) (odometer now : ℕ)
    (unit_old unit_new card_old card_new : State)
    (r : Result Entered NotEntered) : Type 0 where
  pub unit : IsRead unit_old unit_new (unit_failed r) (unit_called r)
  pub accepted : IfOk r (λ e. IsAccepted app registration odometer now unit_old.image card_old.image card_new.image
      e.look e.owed.items e.session e.replayed)
  pub refused : IfErr r (IsRefused app now card_old card_new)
  pub moments : IfSome unit_old.image (λ u. LeavesOnly card_old card_new
      (λ x c. IsCardInserting app registration odometer (owed_on app u x) now x c))
  -- the card was only read, or both devices worked when its insertion began, and it was valid
  pub begun : LeavesOnly card_old card_new Unchanged
      ⊎ ((unit_new.works ≡ true) × (card_old.works ≡ true) × (unit_new.image ≡ unit_old.image)
      × IfSome unit_old.image (λ u. IfSome card_old.image (λ x. IsValid app x × AreOwed now (owed_on app u x))))
  pub settled : IsOk r → card_new.clock < last_count → IsSettled card_new
  pub cause : HasCause card_old card_new (card_failed r)
  pub most : card_new.clock ≤ card_old.clock + (DAYS_MOST + 84)

-- the same of a card that told this, and of these entries
pub record IsInsertedWith (app : Application) (registration : Registration) (odometer now : ℕ) (es : List Entry)
    (look : CardLook)
    (card_old card_new : State) (r : Result Entered NotEntered) : Type 0 where
  pub unit : unit_failed r ≡ false
  pub looked : IfOk r (λ e. (e.look ≡ look) × (e.owed.items ≡ es))
  pub valid : IfOk r (λ e. IfSome card_old.image (λ x. IsValid app x × ((card_view app x).stored ≤ now)))
  pub inserted : IfOk r (λ e. IfSome card_old.image
      (λ x. IfSome card_new.image (IsCardInserted app registration odometer es now x)))
  pub number : IfOk r (λ e. IfSome card_old.image
      (λ x. e.replayed ≡ replayed_count (session_time app x) (end_mark app x) es))
  pub few : IfOk r (λ e. e.replayed ≤ length es)
  pub knows : IfOk r (λ e. IfSome card_old.image (λ x. IfSome card_new.image (IsSession e.session)))
  pub values : IfOk r (λ e. (e.session.application ≡ app) × (e.session.registration ≡ registration)
      × (e.session.odometer ≡ None))
  pub refused : IfErr r (IsRefused app now card_old card_new)
  pub moments : LeavesOnly card_old card_new (IsCardInserting app registration odometer es now)
  pub settled : IsOk r → card_new.clock < last_count → IsSettled card_new
  pub cause : HasCause card_old card_new (card_failed r)

-- What is known of a card that is put in: it goes by these sizes, and has the card's number.
pub record IsAsked (r : Both) (c : Card) (app : Application) (x : List ℕ) : Type 0 where
  pub sizes : own_sizes x ≡ app
  pub number : own_number x ≡ number_of r c
