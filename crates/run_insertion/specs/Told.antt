-- What an acceptance leaves of what is carried, over devices that tell their images (profile).
use Rattle.std.specs.Prelude.{List, ◌++◌, max, ◌≡◌, ◌⊎◌, ℕ, ◌/◌, ◌<◌, ◌≤◌, Bool, true, false, Some, IfSome, is_some, []}
use Rattle.std.specs.Prelude.{◌∷◌, length, if◌then◌else◌}
use Rattle.trace_model.specs.declared.Card.{Card}
use Rattle.tach_media.specs.Medium.{State, LeavesOnly, Unchanged, last_count}
use Rattle.tacho_types.specs.CardNumber.{card_number_bytes}
use Rattle.tacho_types.specs.declared.texts.Registration.{Registration}
use Rattle.card_validity.specs.card_image.Own.{own_view, own_sizes, IsOwnValid}
use Rattle.device_calls.specs.history_model.Book.{Book}
use Rattle.device_calls.specs.history_model.Presence.{trimmed_by}
use Rattle.card_session.specs.Sessions.{Session, IsValue}
use Rattle.device_calls.specs.Times.{AreTimedSince}
use Rattle.card_layout.specs.declared.files.Application.{Application}
use Rattle.device_calls.specs.device_rule.Rules.{Out, In, Torn}
use Rattle.run_crew.specs.declared.cards.Accepted.{Accepted}
use Rattle.run_crew.specs.Cards.{session_of}
use Rattle.device_calls.specs.safety_model.Safe.{Devices}
use Rattle.card_validity.specs.declared.looking.CardLook.{CardLook}
use Rattle.run_crew.specs.declared.cards.Cards.{Cards}
use Rattle.run_minutes.specs.run_promise.Found.{CardFound, Found, found_of}
use Rattle.run_minutes.specs.run_promise.Cards.{IsUntouched, brought_by}
use Rattle.run_minutes.specs.run_promise.Between.{RunLedger}
use Rattle.run_minutes.specs.run_devices.Told.{AreFoundCards, IsPutIn, DevicesPowered, DevicesUnpowered, HasFoundSo}
use Rattle.run_minutes.specs.run_devices.Told.{for_card}
use Rattle.run_minutes.specs.run_devices.Told.{arranged, with_standing, with_acceptance, card_marks, with_marks}
use Rattle.run_minutes.specs.declared.keeper.Keeper.{Keeper}
use Rattle.run_minutes.specs.CardDeeds.{DoesOn, OpensOn}
use Rattle.device_calls.specs.declared.entering.Entered.{Entered}
use Rattle.run_insertion.specs.declared.lines.Entering.{Entering}
use Rattle.run_insertion.specs.Entering.{Ending, Unfit, Ahead, Fell, Unasked, Unnoted, Seated, Lost, Way, ending_of}
use Rattle.run_insertion.specs.Entering.{most_owed}

-- all that is carried, while the unit works; or behind its failure
abbrev pub IsCarriedOn : (failed : Bool) → Found → RunLedger → Cards → Devices → Type 0
IsCarriedOn false f w cards d = DevicesPowered f w cards d
IsCarriedOn true f w cards d = DevicesUnpowered f w d

-- WHAT IS ASKED of a card that is seated: it was valid as it was found at the start, is not accepted yet, and was put
-- in as this session knows it; and all that is carried stands.
pub record MaySeat (f : Found) (w : RunLedger) (k : Keeper) (e : Entering) (look : CardLook) (session : Session)
    (unit card others : State) : Type 0 where
  pub found : AreFoundCards f k.cabin.cards
  pub powered : DevicesPowered f w k.cabin.cards (arranged e.which unit card others)
  pub valid : IsOwnValid (found_of f e.which).image
  pub out : w.standing e.which ≡ Out
  pub put : IsPutIn (found_of f e.which) (w.hands e.which) e.which w.book e.at.second session card
  pub late : w.due ≤ e.at.second / 60
  pub named : card_number_bytes look.number ≡ (found_of f e.which).number

-- by an acceptance nothing is owed to a card any more up to this minute, which the unit had kept last
abbrev pub with_brought : Card → (kept : ℕ) → RunLedger → RunLedger
with_brought c kept w = record w { brought = for_card c (kept ∷ w.brought c) w.brought }

-- the card is accepted, when the unit had kept this minute last
abbrev pub carried_seated : Session → Entering → (kept : ℕ) → RunLedger → RunLedger
carried_seated session e kept w = with_acceptance e.which e.at.second session.minute kept w

-- and was torn out in the same second
abbrev pub carried_lost : Session → Entering → (kept : ℕ) → RunLedger → RunLedger
carried_lost session e kept w = with_standing e.which (Torn e.at.second session.minute (e.at.second / 60))
    (carried_seated session e kept w)

-- what is carried behind the notes that come with an accepted card, which was torn out meanwhile, or was not
abbrev pub fallen_carried : (fell : Bool) → Entering → (newest : ℕ) → RunLedger → RunLedger
fallen_carried false e newest w = w
fallen_carried true e newest w = with_standing e.which (Torn e.at.second newest (e.at.second / 60)) w

-- WHAT IS ASKED of a card that is noted on: it is accepted in this second, with this session, by these sizes
pub record MayNote (f : Found) (w : RunLedger) (cards : Cards) (e : Entering) (app : Application) (a : Accepted)
    (d : Devices) : Type 0 where
  pub found : AreFoundCards f cards
  pub powered : DevicesPowered f w cards d
  pub valid : IsOwnValid (found_of f e.which).image
  pub has : session_of cards e.which ≡ Some a
  pub value : IsValue a.session
  pub sizes : a.session.application ≡ app
  pub stands : w.standing e.which ≡ In e.at.second a.session.minute

-- these notes leave what is carried
abbrev pub BooksNotes : Application → Entering → (failed : Bool) → (k v : Keeper) → (fell : Bool)
    → (before after : Devices) → Type 0
BooksNotes app e failed k v fell before after =
    (f : Found) (w : RunLedger) (a : Accepted) → MayNote f w k.cabin.cards e app a before
    → IsCarriedOn failed f (fallen_carried fell e a.session.minute w) v.cabin.cards after

-- the last use of each image of the card is that of the start still, or a whole minute
abbrev pub TimesOn : Found → Card → (card card_after : State) → Type 0
TimesOn f c card card_after = AreTimedSince (found_of f c).image (found_of f c).began card
    → AreTimedSince (found_of f c).image (found_of f c).began card_after

-- and beside its events and places it shows what it showed
abbrev pub IsNotedBeside : Found → Card → (card card_after : State) → Type 0
IsNotedBeside f c card card_after = TimesOn f c card card_after
    × DoesOn (own_sizes (found_of f c).image) [] card card_after

-- so it is of the card that enters, where the notes of its acceptance may be made
abbrev pub TimesNotes : Application → Entering → Keeper → (before : Devices) → (card card_after : State) → Type 0
TimesNotes app e k before card card_after =
    (f : Found) (w : RunLedger) (a : Accepted) → MayNote f w k.cabin.cards e app a before
    → IsNotedBeside f e.which card card_after

-- where the unit failed as the row was begun, it is not accepted yet; but nothing is owed to it any more
abbrev pub carried_row : (failed : Bool) → Session → Entering → (kept : ℕ) → RunLedger → RunLedger
carried_row failed session e kept w = if failed then with_brought e.which kept w else carried_seated session e kept w

-- THE CARD IS SEATED: what is carried behind it
abbrev pub BooksSeat : CardLook → Session → Entering → (failed : Bool) → (k v : Keeper)
    → (unit unit_after card others : State) → Type 0
BooksSeat look session e failed k v unit unit_after card others =
    (f : Found) (w : RunLedger) → MaySeat f w k e look session unit card others
    → IsCarriedOn failed f (carried_row failed session e k.journal.kept w) v.cabin.cards
    (arranged e.which unit_after card others)

-- what is carried behind an ending, by what was carried as it was judged
abbrev pub IsTakenOn : Ending → (failed : Bool) → Entering → (kept : ℕ) → Found → RunLedger → Cards → Devices → Type 0
IsTakenOn (Unfit fid place) failed e kept f w cards d = IsCarriedOn failed f w cards d
IsTakenOn (Ahead stored) failed e kept f w cards d = IsCarriedOn failed f w cards d
IsTakenOn Fell failed e kept f w cards d = IsCarriedOn failed f w cards d
IsTakenOn Unasked failed e kept f w cards d = DevicesUnpowered f w d
IsTakenOn (Unnoted entered clock) failed e kept f w cards d = DevicesUnpowered f (with_brought e.which kept w) d
IsTakenOn (Seated entered clock entry) false e kept f w cards d = DevicesPowered f
    (carried_seated entered.session e kept w) cards d
IsTakenOn (Seated entered clock entry) true e kept f w cards d =
    DevicesUnpowered f (with_brought e.which kept w) d ⊎ DevicesUnpowered f (carried_seated entered.session e kept w) d
IsTakenOn (Lost entered clock entry) failed e kept f w cards d = IsCarriedOn failed f
    (carried_lost entered.session e kept w) cards d

-- a card that is found to be accepted
abbrev pub BooksTaken : Entered → Ending → Entering → (failed : Bool) → (k v : Keeper)
    → (unit unit_after card card_after others : State) → Type 0
BooksTaken entered ending e failed k v unit unit_after card card_after others =
    (f : Found) (w : RunLedger) → MaySeat f w k e entered.look entered.session unit card others
    → IsTakenOn ending failed e k.journal.kept f w v.cabin.cards (arranged e.which unit_after card_after others)
    × AreFoundCards f v.cabin.cards × IsNotedBeside f e.which card card_after

-- ---- a card that is judged

-- what was carried, and the marks of the entries that were owed, of a card that is found to be accepted
abbrev pub carried_judged : Ending → Entering → RunLedger → RunLedger
carried_judged (Unfit fid place) e w = w
carried_judged (Ahead stored) e w = w
carried_judged Fell e w = w
carried_judged Unasked e w = w
carried_judged (Unnoted entered clock) e w = with_marks (card_marks e.which clock entered.owed.items) w
carried_judged (Seated entered clock entry) e w = with_marks (card_marks e.which clock entered.owed.items) w
carried_judged (Lost entered clock entry) e w = with_marks (card_marks e.which clock entered.owed.items) w

-- WHAT IS ASKED of a card that enters: all that is carried stands, and it was valid at the start, or no call has
-- written it
pub record MayEnter (f : Found) (w : RunLedger) (cards : Cards) (e : Entering) (unit card others : State) : Type 0 where
  pub found : AreFoundCards f cards
  pub powered : DevicesPowered f w cards (arranged e.which unit card others)
  pub late : w.due ≤ e.at.second / 60
  pub tells : is_some card.image ≡ true
  pub began : (found_of f e.which).began ≤ card.clock
  pub spared : IsUntouched (found_of f e.which) card ⊎ IsOwnValid (found_of f e.which).image

-- THE NEWEST MINUTE that an accepted card answered, by the entries that it is to have by a book: not earlier than it is
-- with these, and not later than that and its newest word at the start. A card without a session tells of no later
-- word.
pub record Answers (f : CardFound) (c : Card) (b : Book) (x : List ℕ) (minute : ℕ) : Type 0 where
  pub least : trimmed_by f.start (f.start.entries ++ brought_by c f.start b) ≤ minute
  pub most : minute ≤ max f.start.word (trimmed_by f.start (f.start.entries ++ brought_by c f.start b))
  pub words : (own_view x).session ≡ 0 → (own_view x).word ≤ minute

-- what the find of an acceptance tells: so many entries were owed by images that a stop might have left then, and
-- these, which are few, are put on it; the card was valid at the start, and told the number that it has; and it
-- answered its newest minute
pub record IsToldSo (f : Found) (w : RunLedger) (e : Entering) (entered : Entered) (unit card : State) : Type 0 where
  pub valid : IsOwnValid (found_of f e.which).image
  pub named : card_number_bytes entered.look.number ≡ (found_of f e.which).number
  pub found : HasFoundSo f e.which unit card e.at.second entered.owed.items entered.replayed
  pub whole : entered.replayed ≡ length entered.owed.items
  pub most : length entered.owed.items ≤ most_owed
  pub answers : Answers (found_of f e.which) e.which w.book found.card_image entered.session.minute

-- so it is of each ending of a card that was found to be accepted; of the others nothing is said
abbrev pub IsToldOf : Ending → Found → RunLedger → Entering → (unit card : State) → Type 0
IsToldOf (Unfit fid place) f w e unit card = Unit {0}
IsToldOf (Ahead stored) f w e unit card = Unit {0}
IsToldOf Fell f w e unit card = Unit {0}
IsToldOf Unasked f w e unit card = Unit {0}
IsToldOf (Unnoted entered clock) f w e unit card = IsToldSo f w e entered unit card
IsToldOf (Seated entered clock entry) f w e unit card = IsToldSo f w e entered unit card
IsToldOf (Lost entered clock entry) f w e unit card = IsToldSo f w e entered unit card

-- a card that ended so may have been written
abbrev pub MayHaveWritten : Ending → Type 0
MayHaveWritten (Unfit fid place) = ⊥
MayHaveWritten (Ahead stored) = ⊥
MayHaveWritten Fell = Unit {0}
MayHaveWritten Unasked = ⊥
MayHaveWritten (Unnoted entered clock) = Unit {0}
MayHaveWritten (Seated entered clock entry) = Unit {0}
MayHaveWritten (Lost entered clock entry) = Unit {0}

-- a card that was written told of no later time, as it was judged
abbrev pub IsEarly : Entering → (before after : State) → Type 0
IsEarly e before after = LeavesOnly before after Unchanged
    ⊎ IfSome before.image (λ x. (own_view x).stored ≤ e.at.second)

-- and of one that entered an image tells so that a stop might have left before
abbrev pub WasInTime : Entering → (before after : State) → Type 0
WasInTime e before after = LeavesOnly before after Unchanged
    ⊎ IfSome before.image (λ x. (y : List ℕ) × before.may_leave y × ((own_view y).stored ≤ e.at.second))

-- WHAT AN ENDING MAKES OF THE CARD, which it found in this vehicle: a session is opened on one that is accepted; one
-- that is turned away shows what it showed; and nothing is said where a call failed.
abbrev pub OpensSo : Ending → Registration → Entering → CardFound → (card card_after : State) → Type 0
OpensSo (Unfit fid place) vehicle e f card card_after = DoesOn (own_sizes f.image) [] card card_after
OpensSo (Ahead stored) vehicle e f card card_after = DoesOn (own_sizes f.image) [] card card_after
OpensSo Fell vehicle e f card card_after = Unit {0}
OpensSo Unasked vehicle e f card card_after = Unit {0}
OpensSo (Unnoted entered clock) vehicle e f card card_after = Unit {0}
OpensSo (Seated entered clock entry) vehicle e f card card_after = OpensOn (own_sizes f.image) vehicle e.at.second
    e.odometer.0 entered.owed.items card card_after
OpensSo (Lost entered clock entry) vehicle e f card card_after = Unit {0}

-- WHAT IS KNOWN BEHIND AN ENDING, of what was carried as the card was judged: what is carried, what was found of the
-- cards, what a find tells; that the card is as it was, or was valid and may have been written; and of a valid one when
-- it was last used, and what was made of it.
pub record IsEnteredOn (ending : Ending) (e : Entering) (failed : Bool) (k v : Keeper)
    (unit unit_after card card_after others : State) (f : Found) (w : RunLedger) : Type 0 where
  pub taken : IsTakenOn ending failed e k.journal.kept f (carried_judged ending e w) v.cabin.cards
      (arranged e.which unit_after card_after others)
  pub found : AreFoundCards f v.cabin.cards
  pub told : IsToldOf ending f w e unit card
  pub timed : IsOwnValid (found_of f e.which).image → TimesOn f e.which card card_after
  pub untouched : IsUntouched (found_of f e.which) card
      → IsUntouched (found_of f e.which) card_after ⊎ (IsOwnValid (found_of f e.which).image × MayHaveWritten ending)
  pub opens : IsOwnValid (found_of f e.which).image
      → OpensSo ending k.memory.registration e (found_of f e.which) card card_after

-- A CARD WAS JUDGED, which stands as one that is not accepted, and found in the vehicle of the keeper: what is known
-- behind it. No clock is at its last value.
abbrev pub BooksJudged : Ending → Entering → (failed : Bool) → (k v : Keeper)
    → (unit unit_after card card_after others : State) → Type 0
BooksJudged ending e failed k v unit unit_after card card_after others =
    (f : Found) (w : RunLedger) → MayEnter f w k.cabin.cards e unit card others
    → k.memory.registration ≡ (found_of f e.which).vehicle → w.standing e.which ≡ Out → card_after.clock < last_count
    → IsEnteredOn ending e failed k v unit unit_after card card_after others f w

-- A CARD ENTERED, however it stood before
abbrev pub BooksEntered : Way → Entering → (failed : Bool) → (k v : Keeper)
    → (unit unit_after card card_after others : State) → Type 0
BooksEntered way e failed k v unit unit_after card card_after others =
    (f : Found) (w : RunLedger) → MayEnter f w k.cabin.cards e unit card others
    → k.memory.registration ≡ (found_of f e.which).vehicle → card_after.clock < last_count
    → IsEnteredOn (ending_of way) e failed k v unit unit_after card card_after others f (with_standing e.which Out w)
