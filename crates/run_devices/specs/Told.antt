-- What is carried of unit and cards between two calls of a run (profile): beside the rules that join them, how each
-- image of a card holds its string, and the sessions of the cards that are in their slots.
use Rattle.std.specs.Prelude.{◌≡◌, ◌≢◌, ℕ, suc, max, ◌<◌, ◌≤◌, true, Option, Some, None, IfSome, List, [], ◌∷◌, ◌++◌}
use Rattle.std.specs.Prelude.{All, Contains, length, map, is_some, option_to_list}
use Rattle.device_calls.specs.activity_codec.declared.entries.Entry.{Entry}
use Rattle.device_calls.specs.trace_model.declared.Card.{Card}
use Rattle.device_calls.specs.trace_model.declared.Card.TheVariants.{A, B}
use Rattle.tach_media.specs.Medium.{State}
use Rattle.device_calls.specs.tacho_types.CardNumber.{card_number_bytes}
use Rattle.run_crew.specs.log_model.declared.lines.Mark.{Mark}
use Rattle.run_crew.specs.log_model.Causes.{device_of}
use Rattle.tach_media.specs.card_layout.Application.{IsApplication}
use Rattle.device_calls.specs.card_retention.Retains.{Rise}
use Rattle.device_calls.specs.card_image.Own.{own_view, own_sizes, own_covered, IsOwnValid}
use Rattle.device_calls.specs.card_session.Sessions.{Session, IsSession}
use Rattle.device_calls.specs.card_session.Cards.{MayEnd}
use Rattle.device_calls.specs.hand_model.Written.{Hands}
use Rattle.device_calls.specs.card_by_hand.First.{IsShutAt}
use Rattle.device_calls.specs.card_string.Since.{SitsSince}
use Rattle.device_calls.specs.history_model.Minutes.{card_history}
use Rattle.device_calls.specs.history_model.Book.{Book, found}
use Rattle.device_calls.specs.device_rule.Views.{unit_view, owed}
use Rattle.device_calls.specs.device_rule.Rules.{Standing, In, Out, since, CardRule, IsEntered}
use Rattle.device_calls.specs.device_rule.Marked.{of_card, HasBrought}
use Rattle.device_calls.specs.unit_rule.Safe.{Devices, card_of}
use Rattle.device_calls.specs.unit_rule.Rule.{once_mended, IsCards}
use Rattle.device_calls.specs.unit_rule.Marks.{UnitFollowsBook}
use Rattle.device_calls.specs.Minute.{IsNotIn}
use Rattle.run_crew.specs.declared.cards.Accepted.{Accepted}
use Rattle.run_crew.specs.declared.cards.Cards.{Cards}
use Rattle.run_crew.specs.Cards.{known_of, session_of}
use Rattle.run_promise.specs.Found.{CardFound, Found, found_of, unit_seen, AnyKept}
use Rattle.run_promise.specs.Cards.{brought_by, CardMarksHold, HandMarksHold}
use Rattle.run_promise.specs.Between.{RunLedger, LedgerStandsPowered, LedgerStands, devices}
use Rattle.run_devices.specs.Strung.{CardHoldsString}

-- ---- what was found

-- What was found of the cards: two numbers, which are those that the valid ones have told, no other card, and for which
-- owed rows are begun; and of each valid card sizes, and the entries of its image, which counts the words behind its
-- end mark.
pub record AreFoundCards (f : Found) (cards : Cards) : Type 0 where
  pub two : f.card_a.number ≢ f.card_b.number
  pub named : (c : Card) → IsOwnValid (found_of f c).image
      → IfSome (known_of cards c).number (λ n. card_number_bytes n ≡ (found_of f c).number)
  pub told : (c : Card) → IsOwnValid (found_of f c).image → is_some (known_of cards c).number ≡ true
  pub only : (c : Card) → is_some (known_of cards c).number ≡ true → IsOwnValid (found_of f c).image
  pub own : (c : Card) → IsOwnValid (found_of f c).image → IsCards f.unit (found_of f c).number
  pub sizes : (c : Card) → IsOwnValid (found_of f c).image → IsApplication (own_sizes (found_of f c).image)
  pub entries : (c : Card) → IsOwnValid (found_of f c).image
      → (found_of f c).start.entries ≡ (own_view (found_of f c).image).held.entries
  pub word : (c : Card) → IsOwnValid (found_of f c).image
      → (found_of f c).start.word ≤ own_covered (found_of f c).image

-- ---- the string

-- a book without the minute that may be there
abbrev pub sure_of : Book → Book
sure_of b = record b { maybe = None }

-- WITHOUT POWER, or behind a failure of the unit: a card holds the string of the sure minutes, and what the minute says
-- that may be there may come next.
pub record CardHoldsStringUnpowered (f : CardFound) (h : Hands) (c : Card) (b : Book) (z : Standing)
    (card : State) : Type 0 where
  pub held : CardHoldsString f h c (sure_of b) z card
  pub comes : (x : List ℕ) → card.may_leave x
      → All (λ e. suc (max f.start.word (since z (own_view x).newest)) ≤ e.minute)
      (card_history c (option_to_list b.maybe))

-- so does each card that was valid
abbrev pub AllWait : Found → RunLedger → Devices → Type 0
AllWait f w d = (c : Card) → IsOwnValid (found_of f c).image
    → CardHoldsStringUnpowered (found_of f c) (w.hands c) c w.book (w.standing c) (card_of d c)

-- ---- the sessions

-- A CARD IN ITS SLOT, with this session, and with these entries since the start: it stands with the session's newest
-- minute, its image is what the session knows, and would be valid, were the session ended, and its string goes on with
-- each minute later than that one and than the words at the start.
pub record SessionIsOnCard (f : CardFound) (h : Hands) (has : List Entry) (z : Standing) (s : Session)
    (card : State) : Type 0 where
  pub time : ℕ
  pub stands : z ≡ In time s.minute
  pub sizes : s.application ≡ own_sizes f.image
  pub vehicle : s.registration ≡ f.vehicle
  pub session : IfSome card.image (IsSession s)
  pub ends : IfSome card.image (MayEnd s.application)
  pub goes : IfSome card.image (SitsSince s.application f.image h has (suc (max f.start.word s.minute)))

-- as long as it has kept no minute no entry is open at its end mark, so its first keep may write entries by hand
abbrev pub IsFree : Accepted → State → Type 0
IsFree a card = a.held.begun ≡ None → IfSome card.image (IsShutAt a.session.application)

-- a card goes with its session, and is in its slot, accepted, exactly where it has one
abbrev pub GoesWith : CardFound → Hands → (has : List Entry) → Standing → Option Accepted → State → Type 0
GoesWith f h has z None card = IsNotIn z
GoesWith f h has z (Some accepted) card = SessionIsOnCard f h has z accepted.session card × IsFree accepted card

-- while these entries are owed to it: it has all others that it is to have
pub record GoesOwing (f : CardFound) (h : Hands) (c : Card) (b : Book) (owes : List Entry) (z : Standing)
    (session : Option Accepted) (card : State) : Type 0 where
  pub has : List Entry
  pub all : has ++ owes ≡ brought_by c f.start b
  pub goes : GoesWith f h has z session card

-- nothing is owed
abbrev pub owes_nothing : Card → List Entry
owes_nothing c = []

-- so do all that were valid
pub record AllGo (f : Found) (w : RunLedger) (owes : Card → List Entry) (cards : Cards) (d : Devices) : Type 0 where
  pub held : (c : Card) → IsOwnValid (found_of f c).image
      → CardHoldsString (found_of f c) (w.hands c) c w.book (w.standing c) (card_of d c)
  pub goes : (c : Card) → IsOwnValid (found_of f c).image
      → GoesOwing (found_of f c) (w.hands c) c w.book (owes c) (w.standing c) (session_of cards c) (card_of d c)

-- A card that was put in and whose row is not begun yet: so is its image, so its string goes on, and no entry is open
-- at its end mark.
pub record IsPutIn (f : CardFound) (h : Hands) (c : Card) (b : Book) (now : ℕ) (s : Session) (card : State) : Type
    0 where
  pub entered : IsEntered f.start f.began now s.minute (of_card card)
  pub sizes : s.application ≡ own_sizes f.image
  pub vehicle : s.registration ≡ f.vehicle
  pub session : IfSome card.image (IsSession s)
  pub ends : IfSome card.image (MayEnd s.application)
  pub goes : IfSome card.image (SitsSince s.application f.image h (brought_by c f.start b)
      (suc (max f.start.word s.minute)))
  pub shut : IfSome card.image (IsShutAt s.application)

-- ---- all of it

-- All that is carried while the unit has power, but that these entries are put for the minute that comes, or these are
-- still owed to the cards. The string of a card is carried apart (`AllGo`).
pub record IsLitWith (f : Found) (w : RunLedger) (puts owes : Card → List Entry) (d : Devices) : Type 0 where
  pub tells : is_some d.unit.image ≡ true
  pub works : d.unit.works ≡ true
  pub unit : UnitFollowsBook (once_mended f.unit) w.due w.book w.marks d.unit
  pub none : w.book.maybe ≡ None
  pub rules : (c : Card) → IsOwnValid (found_of f c).image →
      CardRule c (found_of f c).start AnyKept (found_of f c).began w.book (w.standing c) (puts c) (owes c)
      (unit_seen f d.unit) (of_card (card_of d c))
  pub valid : (c : Card) → IsOwnValid (found_of f c).image → (x : List ℕ)
      → (card_of d c).left_since (found_of f c).began x → IsOwnValid x
  pub rises : (c : Card) → IsOwnValid (found_of f c).image → Rise (brought_by c (found_of f c).start w.book)
  pub brought : (c : Card) → IsOwnValid (found_of f c).image → (k : ℕ) → Contains (w.brought c) k
      → HasBrought f.card_a.number f.card_b.number c k d.unit (card_of d c)
  pub marks : (c : Card) → CardMarksHold (found_of f c) c w.book w.marks (card_of d c)
  pub hands : (c : Card) → IsOwnValid (found_of f c).image
      → HandMarksHold (found_of f c) (w.hands c) (w.firsts c) (card_of d c)

-- nothing is put any more
abbrev pub IsLitOwing : Found → RunLedger → (owes : Card → List Entry) → Devices → Type 0
IsLitOwing f w owes d = IsLitWith f w owes_nothing owes d

-- WHILE THE UNIT HAS POWER, between two calls: all that is carried, and the cards go with their sessions
pub record DevicesPowered (f : Found) (w : RunLedger) (cards : Cards) (d : Devices) : Type 0 where
  pub lit : LedgerStandsPowered f w d
  pub go : AllGo f w owes_nothing cards d

-- WITHOUT POWER, or behind a failure of the unit
pub record DevicesUnpowered (f : Found) (w : RunLedger) (d : Devices) : Type 0 where
  pub carried : LedgerStands f w d
  pub wait : AllWait f w d

-- what acceptances brought is of minutes that the unit had kept by then
abbrev pub AreEarly : RunLedger → Type 0
AreEarly w = (c : Card) (k : ℕ) → Contains (w.brought c) k → k < w.due

-- ---- one card and the other

-- of both cards one has this, and the other what it had
abbrev pub for_card : {T : Type 0} → Card → T → (Card → T) → Card → T
for_card A t had A = t
for_card A t had B = had B
for_card B t had A = had A
for_card B t had B = t

-- three devices, the cards in the order of a call: the one that it is about, and the other
abbrev pub arranged : Card → (unit mine others : State) → Devices
arranged A unit mine others = devices unit mine others
arranged B unit mine others = devices unit others mine

-- ---- what a step changes of what is carried

-- a card stands so
abbrev pub with_standing : Card → Standing → RunLedger → RunLedger
with_standing c z w = record w { standing = for_card c z w.standing }

-- it is accepted in a second, with a newest minute, when the unit had kept this minute last
abbrev pub with_acceptance : Card → (now newest kept : ℕ) → RunLedger → RunLedger
with_acceptance c now newest kept w = record
    w { standing = for_card c (In now newest) w.standing; brought = for_card c (kept ∷ w.brought c) w.brought }

-- the marks of entries that a card has, all at this clock
abbrev pub card_marks : Card → (clock : ℕ) → List Entry → List Mark
card_marks c clock es = map (λ e. record { device = device_of c; minute = e.minute; clock = clock }) es

-- marks more
abbrev pub with_marks : List Mark → RunLedger → RunLedger
with_marks marks w = record w { marks = w.marks ++ marks }

-- this minute is found to be the last-kept one
abbrev pub carried_found : (k : ℕ) → RunLedger → RunLedger
carried_found k w = record w { book = found k w.book }

-- no card is accepted
abbrev pub all_out : RunLedger → RunLedger
all_out w = record w { standing = λ c. Out }

-- WHAT THE FIND OF AN ACCEPTANCE IS TO TELL: by an image of unit and of card that a stop might have left then these
-- entries were owed, so many, and the card was valid, of the sizes at the start, and told of no later time.
pub record HasFoundSo (f : Found) (c : Card) (unit card : State) (now : ℕ) (put : List Entry) (replayed : ℕ) : Type
    0 where
  pub unit_image : List ℕ
  pub card_image : List ℕ
  pub on : unit.may_leave unit_image
  pub there : card.may_leave card_image
  pub valid : IsOwnValid card_image
  pub sizes : own_sizes card_image ≡ own_sizes (found_of f c).image
  pub early : (own_view card_image).stored ≤ now
  pub owes : owed c (unit_view f.card_a.number f.card_b.number unit_image) (own_view card_image) ≡ put
  pub number : length (owed c (unit_view f.card_a.number f.card_b.number unit_image) (own_view card_image)) ≡ replayed
