-- What the calls on one device each leave: the unit, its rules, its images, and a card, each in a record (profile).
use Rattle.std.specs.Prelude.{ℕ, ◌/◌, ◌<◌, ◌^◌, ◌∷◌, ◌≡◌, ◌≤◌, Bool, IfOk, IfSome, List, None, OnErr, OnOk}
use Rattle.std.specs.Prelude.{Option, Result, Some, [], false, is_err, is_some, true, ◌+◌}
use Rattle.std.specs.Prelude.{IsTrue, ◌==◌, ◌||◌, ◌≢◌}
use Rattle.activity_codec.specs.declared.entries.Entry.{Entry}
use Rattle.card_by_hand.specs.First.{IsFirstKeeping, IsFirstKept}
use Rattle.card_by_hand.specs.Wider.{with_hands}
use Rattle.card_commands.specs.Ports.{IsPort}
use Rattle.card_layout.specs.declared.command.CardState.{CardState}
use Rattle.card_layout.specs.declared.files.Application.{Application}
use Rattle.card_session.specs.Sessions.{IsSession, Session}
use Rattle.card_session.specs.declared.session.Kept.{Kept}
use Rattle.card_session.specs.declared.words.TheConstants.{LATEST_MINUTE}
use Rattle.unit_rule.specs.card_string.Shows.{IsDone, IsFirstShown}
use Rattle.unit_rule.specs.device_rule.Device.{LeavesViews}
use Rattle.unit_rule.specs.device_rule.Filling.{GivesUpDay, KeepsMinute, seen_by_unit}
use Rattle.unit_rule.specs.device_rule.Marked.{of_unit}
use Rattle.unit_rule.specs.device_rule.Rules.{Fits, IsEntered, IsPresent, Out, Standing}
use Rattle.unit_rule.specs.device_rule.Steps.{IsBeginning, IsKeeping, IsMending, IsPutting}
use Rattle.unit_rule.specs.device_rule.Views.{other}
use Rattle.hand_model.specs.Holding.{Holding, LieBetween, begun_by}
use Rattle.unit_rule.specs.history_model.Book.{Book}
use Rattle.unit_rule.specs.history_model.Minutes.{HistoryMinute, on_card}
use Rattle.unit_rule.specs.log_model.declared.lines.Mark.{Mark}
use Rattle.unit_rule.specs.run_unit_course.Legs.{Travel}
use Rattle.tach_media.specs.Medium.{HasCause, IsSettled, LeavesOnly, State, last_count, Unchanged, revivable}
use Rattle.tach_media.specs.declared.fault.Failed.{Failed}
use Rattle.tacho_types.specs.CardNumber.{card_number_bytes}
use Rattle.trace_model.specs.declared.Card.{Card}
pub use Rattle.unit_minutes.specs.Calls.{MinuteMayBeKept, UnitIsReady}
use Rattle.unit_minutes.specs.Image.{Agrees, IsKeeping as IsKeepingImage}
use Rattle.unit_minutes.specs.Kept.{kept_minute}
use Rattle.unit_minutes.specs.Mends.{IsMending as IsMendingImage, notes_mended}
use Rattle.unit_minutes.specs.declared.kept.KeptMinute.{KeptMinute}
use Rattle.unit_minutes.specs.declared.notes.Notes.{Notes}
use Rattle.unit_minutes.specs.unit_model.Image.{IsUnit}
use Rattle.unit_minutes.specs.unit_model.declared.layout.TheConstants.{OWED_ROWS}
use Rattle.unit_minutes.specs.unit_owed.Rows.{IsPutting as IsPuttingRow, IsRowAt, IsRowBeginning, IsRowBegun, IsRowFor}
use Rattle.unit_rule.specs.Marks.{UnitFollowsBook}
use Rattle.unit_rule.specs.Odometer.{HasTravelled, odometer_after, odometer_by}
use Rattle.unit_rule.specs.Rule.{IsCards, Started, once_mended}
use Rattle.device_calls.specs.Entering.{IsAsked, IsInTime, unit_failed}
use Rattle.device_calls.specs.OnCard.{Anything, hands_for}
use Rattle.device_calls.specs.Minute.{Carry, KnowsCarried, MayTake, and_kept}
use Rattle.device_calls.specs.Rule.{Both, CardHolds, CardRests, IsCommitted, IsHeldMended, IsHeldUp, IsKeptUp}
use Rattle.device_calls.specs.Rule.{IsRowTaken, IsTakenUp, card_seen, number_of, opened, unit_seen}
use Rattle.device_calls.specs.Travel.{HasGone}
use Rattle.device_calls.specs.declared.entering.Entered.{Entered}
use Rattle.device_calls.specs.declared.entering.NotEntered.{NotEntered}
pub use Rattle.card_session.specs.Inserting.{CardMayBePutIn, MayBePutIn}
use Rattle.unit_rule.specs.card_model.declared.lengths.TheConstants.{DAYS_MOST}
use Rattle.card_files.specs.declared.card_event.CardEvent.{CardEvent}
use Rattle.card_files.specs.Noting.{IsEventNoted, IsNotingEvent, IsNotingPlace, IsPlaceNoted}
use Rattle.card_files.specs.Rings.{place_ring}
use Rattle.card_session.specs.gated_ring.Ring.{PointsInside, pointer}
use Rattle.tacho_types.specs.declared.places.PlaceEntry.{PlaceEntry}
use Rattle.activity_codec.specs.declared.values.Activity.{Activity}
use Rattle.card_session.specs.Cards.{IsCardClosed, IsCardClosing}

-- THE UNIT STANDS behind a row that was begun: it is a unit still, with the journal as it was; where it did not fail
-- they agree, the row is the number's, and that of the number that is spared is where it was
pub record UnitStandsBegun (result : Result (Unit {0}) Failed) (number : List ℕ) (index : ℕ) (spared : Option (List ℕ))
    (old new : Notes) (U V : State) : Type 0 where
  pub unit : IsUnit V
  pub same : new ≡ old
  pub agrees : OnOk result (IfSome V.image (Agrees old))
  pub row : OnOk result (IfSome V.image (IsRowAt index number))
  pub spares : (r : ℕ) (n : List ℕ) → spared ≡ Some n → IfSome U.image (IsRowAt r n)
      → OnOk result (IfSome V.image (IsRowAt r n))

-- THE RULES behind it: the unit follows its book where the number is one of its cards; the card is accepted, with
-- nothing owed to it; and the other card, whose number is spared, stands as it did
pub record RulesBegun (which : Card) (result : Result (Unit {0}) Failed) (number : List ℕ) (session : ℕ)
    (spared : Option (List ℕ)) (U V X Z : State) : Type 0 where
  pub holds : (s : Started) (due : ℕ) (b : Book) (marks : List Mark) → IsCards s number
      → ((n : List ℕ) → spared ≡ Some n → IsCards s n)
      → UnitFollowsBook s due b marks U → UnitFollowsBook s due b marks V
  pub mine : (r : Both) (s : Started) (due : ℕ) (b : Book) (marks : List Mark) (newest : ℕ) → number ≡ number_of r which
      → UnitFollowsBook s due b marks U → due ≤ session / 60 → CardHolds r which b Out [] [] U X
      → IsEntered (opened r which).start (opened r which).began session newest (card_seen X)
      → IsRowTaken r which b session newest (is_err result) V X
  pub others : (r : Both) (s : Started) (due : ℕ) (b : Book) (marks : List Mark) (z : Standing) (m d : List Entry)
      → number ≡ number_of r which → spared ≡ Some (number_of r (other which)) → CardHolds r (other which) b z m d U Z
      → IsKeptUp r (other which) b z m d (is_err result) V Z

-- WHAT IT LEAVES: each image that a stop may leave has the row as it was, or as it is begun
pub record LeavesBegun (which : Card) (result : Result (Unit {0}) Failed) (number : List ℕ) (session : ℕ)
    (spared : Option (List ℕ)) (U V : State) : Type 0 where
  pub views : (r : Both) → number ≡ number_of r which → spared ≡ Some (number_of r (other which))
      → LeavesViews (unit_seen r U) (unit_seen r V) (IsBeginning which)
  pub begun : OnOk result (IfSome U.image (λ x. IfSome V.image (IsRowBegun number session spared x)))
  pub moments : LeavesOnly U V (IsRowBeginning number session spared)

-- THE UNIT ANSWERS: its clock does not fall, and it tells its image where it did; it failed exactly where that was
-- answered
pub record UnitAnswers (failed : Bool) (U V : State) : Type 0 where
  pub clock : U.clock ≤ V.clock
  pub tells : is_some V.image ≡ is_some U.image
  pub cause : HasCause U V failed

-- THE UNIT STANDS behind an entry that was put: it is a unit still, with the journal as it was; where it did not fail
-- they agree, and each row is whose it was
pub record UnitStandsOwing (result : Result (Unit {0}) Failed) (old new : Notes) (U V : State) : Type 0 where
  pub unit : IsUnit V
  pub same : new ≡ old
  pub agrees : OnOk result (IfSome V.image (Agrees old))
  pub rows : (r : ℕ) (n : List ℕ) → IfSome U.image (IsRowAt r n) → OnOk result (IfSome V.image (IsRowAt r n))

-- THE RULES behind it: the unit follows its book where the number is one of its cards; the entry is put for the card,
-- for the minute that comes; and the other card stands as it did
pub record RulesOwing (which : Card) (result : Result (Unit {0}) Failed) (number : List ℕ) (entry : Entry)
    (U V X Z : State) : Type 0 where
  pub holds : (s : Started) (due : ℕ) (b : Book) (marks : List Mark) → IsCards s number
      → UnitFollowsBook s due b marks U → UnitFollowsBook s due b marks V
  pub mine : (r : Both) (s : Started) (due : ℕ) (b : Book) (marks : List Mark) (z : Standing)
      → number ≡ number_of r which → UnitFollowsBook s due b marks U → due ≤ entry.minute → 1440 ≤ entry.minute
      → IsPresent (opened r which).start z entry.minute → CardHolds r which b z [] [] U X
      → IsKeptUp r which b z (entry ∷ []) [] (is_err result) V X
  pub others : (r : Both) (s : Started) (due : ℕ) (b : Book) (marks : List Mark) (y z : Standing) (m d : List Entry)
      → number ≡ number_of r which → UnitFollowsBook s due b marks U → due ≤ entry.minute → 1440 ≤ entry.minute
      → CardHolds r which b y [] [] U X → CardHolds r (other which) b z m d U Z
      → IsKeptUp r (other which) b z m d (is_err result) V Z

-- WHAT IT LEAVES: each image that a stop may leave has the entry or has it not, and what was travelled stays; what
-- might have been left might still
pub record LeavesOwing (which : Card) (number : List ℕ) (entry : Entry) (U V X : State) : Type 0 where
  pub views : (r : Both) (s : Started) (due : ℕ) (b : Book) (marks : List Mark) (z : Standing)
      → number ≡ number_of r which → UnitFollowsBook s due b marks U → due ≤ entry.minute → 1440 ≤ entry.minute
      → CardHolds r which b z [] [] U X → LeavesViews (unit_seen r U) (unit_seen r V) (IsPutting which entry)
  pub travelled : (start : ℕ) (b : Book) (g : Travel) → HasTravelled start b g U → HasTravelled start b g V
  pub moments : LeavesOnly U V (IsPuttingRow number entry)
  pub keeps : (t : ℕ) (x : List ℕ) → t ≤ U.clock → U.left_since t x → V.left_since t x

-- THE UNIT STANDS behind a minute: it is a unit still; where it did not fail its journal has the minute and its
-- odometer, they agree, and each row is whose it was; where it failed the journal is as it was
pub record UnitStandsCommitted (kept : KeptMinute) (result : Result (Unit {0}) Failed) (old new : Notes)
    (U V : State) : Type 0 where
  pub unit : IsUnit V
  pub notes : OnOk result ((new.kept ≡ kept.minute) × (new.odometer ≡ kept.odometer.0))
  pub same : OnErr result (new ≡ old)
  pub agrees : OnOk result (IfSome V.image (Agrees new))
  pub rows : (r : ℕ) (n : List ℕ) → IfSome U.image (IsRowAt r n) → OnOk result (IfSome V.image (IsRowAt r n))

-- THE RULES behind it: the unit follows the book with that minute, and what it says on each card is owed to that; where
-- the unit failed the minute may be there or not
pub record RulesCommitted (kept : KeptMinute) (result : Result (Unit {0}) Failed) (U V X Z : State) : Type 0 where
  pub holds : (s : Started) (due : ℕ) (b : Book) (marks : List Mark) (i : HistoryMinute)
      → kept_minute kept ≡ seen_by_unit i → UnitFollowsBook (once_mended s) due b marks U → b.maybe ≡ None
      → due ≤ i.minute → IsHeldUp s b marks i (is_err result) V
  pub first : (r : Both) (c : Card) (s : Started) (due : ℕ) (b : Book) (marks : List Mark) (i : HistoryMinute)
      (z : Standing) → kept_minute kept ≡ seen_by_unit i → UnitFollowsBook s due b marks U → b.maybe ≡ None
      → due ≤ i.minute → CardHolds r c b z (on_card c i) [] U X → Fits c (opened r c).start z i
      → IsCommitted r c b i z (is_err result) V X
  pub second : (r : Both) (c : Card) (s : Started) (due : ℕ) (b : Book) (marks : List Mark) (i : HistoryMinute)
      (z : Standing) → kept_minute kept ≡ seen_by_unit i → UnitFollowsBook s due b marks U → b.maybe ≡ None
      → due ≤ i.minute → CardHolds r c b z (on_card c i) [] U Z → Fits c (opened r c).start z i
      → IsCommitted r c b i z (is_err result) V Z

-- WHAT IT LEAVES: each image that a stop may leave has the minute or has it not, and the odometer that belongs to that;
-- what might have been left might still
pub record LeavesCommitted (kept : KeptMinute) (result : Result (Unit {0}) Failed) (U V : State) : Type 0 where
  pub views : (a b : List ℕ) (i : HistoryMinute) → kept_minute kept ≡ seen_by_unit i
      → LeavesViews (of_unit a b U) (of_unit a b V) (IsKeeping KeepsMinute GivesUpDay i)
  pub travelled : (start : ℕ) (g : Travel) (leg : ℕ) (s : Started) (due : ℕ) (b : Book) (marks : List Mark)
      (i : HistoryMinute) → kept_minute kept ≡ seen_by_unit i → UnitFollowsBook s due b marks U → b.maybe ≡ None
      → due ≤ i.minute → HasTravelled start b g U → kept.odometer.0 ≡ odometer_by (odometer_after start g.before) leg
      → HasGone start b g i leg (is_err result) V
  pub moments : LeavesOnly U V (IsKeepingImage (kept_minute kept) kept.odometer.0)
  pub keeps : (t : ℕ) (x : List ℕ) → t ≤ U.clock → U.left_since t x → V.left_since t x

-- THE UNIT STANDS behind its mending: it is a unit still; where it did not fail its journal is mended and they agree;
-- where it failed the journal is as it was
pub record UnitStandsMended (result : Result (Unit {0}) Failed) (old new : Notes) (V : State) : Type 0 where
  pub unit : IsUnit V
  pub notes : OnOk result (new ≡ notes_mended old)
  pub same : OnErr result (new ≡ old)
  pub agrees : OnOk result (IfSome V.image (Agrees new))

-- THE RULES behind it: the unit follows its book, as one that was mended where it works, and no card is accepted any
-- more; where the unit failed each card stands as it did
pub record RulesMended (result : Result (Unit {0}) Failed) (U V X Z : State) : Type 0 where
  pub holds : (s : Started) (due : ℕ) (b : Book) (marks : List Mark) → UnitFollowsBook s due b marks U
      → IsHeldMended s due b marks V
  pub first : (r : Both) (c : Card) (b : Book) (z : Standing) → CardRests r c b z U X
      → IsTakenUp r c b z (is_err result) V X
  pub second : (r : Both) (c : Card) (b : Book) (z : Standing) → CardRests r c b z U Z
      → IsTakenUp r c b z (is_err result) V Z

-- WHAT IT LEAVES: each image that a stop may leave is that of before, or one of its mending
pub record LeavesMended (old : Notes) (U V : State) : Type 0 where
  pub views : (a b : List ℕ) → LeavesViews (of_unit a b U) (of_unit a b V) IsMending
  pub moments : LeavesOnly U V (IsMendingImage old)

-- WHICH ROW of the unit is to be the card's, while the row of the number that is spared is another's
pub record IsRowTold (result : Result Entered NotEntered) (spared : Option (List ℕ)) (U : State) : Type 0 where
  pub own : IfOk result (λ e. IfSome U.image (IsRowFor e.row (card_number_bytes e.look.number) spared))
  pub low : IfOk result (λ e. e.row < OWED_ROWS)

-- THE RULES behind a card that was put in: the unit follows its book, the other card stands as it did, and so does this
-- one, whose row is not begun yet; where it is accepted it has entered so that it may be begun
pub record RulesEntering (which : Card) (app : Application) (now : ℕ) (result : Result Entered NotEntered)
    (U V X Y Z : State) : Type 0 where
  pub holds : (s : Started) (due : ℕ) (b : Book) (marks : List Mark) → UnitFollowsBook s due b marks U
      → UnitFollowsBook s due b marks V
  pub others : (r : Both) (b : Book) (z : Standing) (m d : List Entry) → CardHolds r (other which) b z m d U Z
      → CardHolds r (other which) b z m d V Z
  pub mine : (r : Both) (s : Started) (due : ℕ) (b : Book) (marks : List Mark) → UnitFollowsBook s due b marks U
      → b.maybe ≡ None → due ≤ now / 60 → is_some U.image ≡ true → is_some X.image ≡ true
      → IfSome X.image (IsAsked r which app) → CardHolds r which b Out [] [] U X → CardHolds r which b Out [] [] V Y
  pub entered : (r : Both) (s : Started) (due : ℕ) (b : Book) (marks : List Mark) → UnitFollowsBook s due b marks U
      → b.maybe ≡ None → due ≤ now / 60 → is_some U.image ≡ true → is_some X.image ≡ true
      → IfSome X.image (IsAsked r which app) → CardHolds r which b Out [] [] U X
      → IfOk result (λ e. IsEntered (opened r which).start (opened r which).began now e.session.minute (card_seen Y))

-- THE UNIT STANDS, which was only read: it is a unit still, and agrees with the journal where no call on it failed
pub record UnitStandsAsked (journal : Notes) (result : Result Entered NotEntered) (V : State) : Type 0 where
  pub unit : IsUnit V
  pub agrees : unit_failed result ≡ false → IfSome V.image (Agrees journal)

-- THE CARD STANDS behind it: a port may be made over it again, and it was written only where it told of no later time
pub record CardStandsPutIn (app : Application) (now : ℕ) (X Y : State) (chip : CardState) : Type 0 where
  pub leaves : LeavesOnly X Y Anything
  pub in_time : IsInTime app now X Y
  pub port : IsPort app None chip Y

-- THE SESSION GOES ON: it is of the same card and vehicle; where the card did not fail its newest minute and its
-- odometer are the entry's, and its entries by hand of that day are written
pub record SessionKeeps (result : Result (Unit {0}) Failed) (kept : Kept) (old new : Session)
    (hands hands_after : Holding) : Type 0 where
  pub same : (new.application ≡ old.application) × (new.registration ≡ old.registration)
  pub last : OnOk result ((new.minute ≡ kept.entry.minute) × (new.odometer ≡ Some kept.odometer))
  pub held : OnOk result (hands_after ≡ begun_by kept.entry.minute hands)

-- THE CARD KEEPS THE ENTRY, by the session that knows it: so it is where the card did not fail, and each image that a
-- stop may leave is one of that keep
pub record KeepsOnCard (result : Result (Unit {0}) Failed) (kept : Kept) (old new : Session) (hands : Holding)
    (X Y : State) : Type 0 where
  pub is : OnOk result (IfSome X.image (λ x. IfSome Y.image
      (λ y. IsSession old x → IsFirstKept old new (hands_for hands kept.entry.minute) kept.entry kept.odometer.0 x y)))
  pub moments : LeavesOnly X Y (λ x c. IsSession old x
      → IsFirstKeeping old (hands_for hands kept.entry.minute) kept.entry kept.odometer.0 x c)

-- WHAT IS CARRIED OF ITS STRING goes on: each image that a stop may leave shows what it must, and where the card did
-- not fail the next entry may come
pub record StringGoesOn (result : Result (Unit {0}) Failed) (kept : Kept) (old new : Session) (hands : Holding)
    (X Y : State) : Type 0 where
  pub shown : (w : Carry) → LeavesOnly X Y (λ x y. MayTake old w (hands_for hands kept.entry.minute) kept.entry x
      → IsFirstShown old.application w.slack w.covered w.counted w.all (hands_for hands kept.entry.minute)
      kept.entry x y)
  pub done : (w : Carry) → OnOk result (IfSome X.image (λ x. IfSome Y.image
      (λ y. MayTake old w (hands_for hands kept.entry.minute) kept.entry x
      → IsDone old.application w.slack w.covered
      (with_hands w.covered w.counted (hands_for hands kept.entry.minute)) w.all kept.entry x y
      × KnowsCarried new (and_kept w (hands_for hands kept.entry.minute) kept.entry) y)))

-- THE CARD STANDS behind it: a port may be made over it again, and a stop leaves it as it is; it failed exactly where
-- that was answered
pub record CardStandsKept (result : Result (Unit {0}) Failed) (app : Application) (X Y : State)
    (chip : CardState) : Type 0 where
  pub port : IsPort app None chip Y
  pub settled : OnOk result (Y.clock < last_count → IsSettled Y)
  pub cause : HasCause X Y (is_err result)

-- A CARD MAY BE PUT IN at this second: its minute is later than the last-kept one, and it and the odometer are within
-- their bounds
pub record MayEnter (now odometer : ℕ) (journal : Notes) : Type 0 where
  pub late : journal.kept < now / 60
  pub last : now / 60 < LATEST_MINUTE
  pub fits : odometer < 2 ^ 24

-- AN ENTRY MAY BE KEPT by a card: it is later than the newest one of the session and its entries by hand, and it and
-- the odometer are within their bounds
pub record MayKeepEntry (session : Session) (kept : Kept) (hands : Holding) : Type 0 where
  pub later : LieBetween session.minute kept.entry.minute hands.entries
  pub first : 1440 ≤ kept.entry.minute
  pub last : kept.entry.minute ≤ LATEST_MINUTE
  pub fits : kept.odometer.0 < 2 ^ 24

-- THE UNIT ANSWERS so, and begins so many writes at most
pub record UnitAnswersWithin (writes : ℕ) (failed : Bool) (U V : State) : Type 0 where
  pub goes : UnitAnswers failed U V
  pub most : V.clock ≤ U.clock + writes

-- THE CARD IS WRITTEN as one that is put in: only where it told of no later time, and so many writes at most
pub record IsPutIn (app : Application) (now : ℕ) (X Y : State) : Type 0 where
  pub leaves : LeavesOnly X Y Anything
  pub in_time : IsInTime app now X Y
  pub most : Y.clock ≤ X.clock + (DAYS_MOST + 84)

-- AN ENTRY IS KEPT by a card: its session goes on, the card keeps it, and what is carried of its string goes on
pub record KeepsEntry (result : Result (Unit {0}) Failed) (kept : Kept) (old new : Session)
    (hands hands_after : Holding) (X Y : State) : Type 0 where
  pub session : SessionKeeps result kept old new hands hands_after
  pub keeps : KeepsOnCard result kept old new hands X Y
  pub string : StringGoesOn result kept old new hands X Y

-- THE CARD IS WRITTEN, and a stop leaves it as it is; it failed exactly where that was answered
pub record CardIsWritten (result : Result (Unit {0}) Failed) (X Y : State) : Type 0 where
  pub leaves : LeavesOnly X Y Anything
  pub settled : OnOk result (Y.clock < last_count → IsSettled Y)
  pub cause : HasCause X Y (is_err result)

-- AN EVENT MAY BE NOTED on a card: it is of a kind that a card has, and began
pub record MayNoteOnCard (event : CardEvent) : Type 0 where
  pub kind : IsTrue (event.kind == 5 || event.kind == 6 || event.kind == 8)
  pub begin : event.begin.0 ≢ 0

-- AN EVENT WAS NOTED on a card: where it did not fail it is there, and each image that a stop may leave has it or has
-- it not
pub record NotesEventOnCard (result : Result (Unit {0}) Failed) (app : Application) (event : CardEvent)
    (X Y : State) : Type 0 where
  pub noted : OnOk result (IfSome X.image (λ x. IfSome Y.image (IsEventNoted app event x)))
  pub moments : LeavesOnly X Y (IsNotingEvent app event)

-- A PLACE WAS NOTED on a card: where it did not fail it is there, or the pointer of its places was no index and nothing
-- was written; and each image that a stop may leave has it or has it not
pub record NotesPlaceOnCard (result : Result (Unit {0}) Failed) (app : Application) (entry : PlaceEntry)
    (X Y : State) : Type 0 where
  pub noted : OnOk result (IfSome X.image
      (λ x. PointsInside (place_ring app) x → IfSome Y.image (IsPlaceNoted app entry x)))
  pub bad : OnOk result (IfSome X.image (λ x. app.places ≤ pointer (place_ring app) x → Y.image ≡ X.image))
  pub moments : LeavesOnly X Y (IsNotingPlace app entry)

-- THE CARD STANDS behind it: a port may be made over it again, and a stop leaves it as it is, where that pointer was an
-- index; it failed exactly where that was answered
pub record CardStandsPlaced (result : Result (Unit {0}) Failed) (app : Application) (X Y : State)
    (chip : CardState) : Type 0 where
  pub settled : (x : List ℕ) → X.image ≡ Some x → PointsInside (place_ring app) x
      → OnOk result (Y.clock < last_count → IsSettled Y)
  pub port : IsPort app None chip Y
  pub cause : HasCause X Y (is_err result)

-- A SESSION WAS CLOSED on its card: where it did not fail the words are closed with this activity, and each image that
-- a stop may leave is one of that
pub record ClosesOnCard (result : Result (Unit {0}) Failed) (session : Session) (act : Activity)
    (X Y : State) : Type 0 where
  pub closed : OnOk result (IfSome X.image
      (λ x. IfSome Y.image (λ y. IsSession session x → IsCardClosed session act x y)))
  pub moments : LeavesOnly X Y (λ x c. IsSession session x → IsCardClosing session act x c)

-- THIS ROW OF THE UNIT is the number's
pub record HasRowAt (index : ℕ) (number : List ℕ) (U : State) : Type 0 where
  pub low : index < OWED_ROWS
  pub row : IfSome U.image (IsRowAt index number)

-- THIS ROW OF THE UNIT may be begun for the number, while the row of the number that is spared stays
pub record MayBeginRow (index : ℕ) (number : List ℕ) (spared : Option (List ℕ)) (U : State) : Type 0 where
  pub low : index < OWED_ROWS
  pub row : IfSome U.image (IsRowFor index number spared)

-- A DEVICE WAS REVIVED AND READ: it was not written, and its clock is as it was; it failed exactly where that was
-- answered
pub record WasRevived (failed : Bool) (U V : State) : Type 0 where
  pub leaves : LeavesOnly U V Unchanged
  pub clock : V.clock ≡ U.clock
  pub cause : HasCause (revivable U) V failed
