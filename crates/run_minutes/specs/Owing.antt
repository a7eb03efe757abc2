-- How unit and cards stand while the entries of a minute are brought to the cards, and what was travelled (profile).
use Rattle.std.specs.Prelude.{◌≡◌, ℕ, suc, ◌<◌, ◌≤◌, ◌++◌, ◌∷◌, Bool, true, false, Option, Some, None, List, []}
use Rattle.std.specs.Prelude.{Contains, is_some, if◌then◌else◌}
use Rattle.activity_codec.specs.declared.entries.Entry.{Entry}
use Rattle.trace_model.specs.declared.Card.{Card}
use Rattle.tach_media.specs.Medium.{State, last_count}
use Rattle.log_model.specs.declared.lines.Mark.{Mark}
use Rattle.hand_model.specs.card_image.Own.{IsOwnValid}
use Rattle.card_session.specs.declared.session.Kept.{Kept}
use Rattle.unit_minutes.specs.declared.kept.KeptMinute.{KeptMinute}
use Rattle.hand_model.specs.Holding.{Holding}
use Rattle.hand_model.specs.Written.{Hands}
use Rattle.run_devices.specs.history_model.Minutes.{HistoryMinute, on_card}
use Rattle.run_devices.specs.history_model.Book.{Book, kept}
use Rattle.run_devices.specs.device_rule.Rules.{Standing, CardRule, IsPresent}
use Rattle.run_devices.specs.device_rule.Marked.{of_card, HasBrought}
use Rattle.run_devices.specs.safety_model.Safe.{Devices, card_of}
use Rattle.run_devices.specs.run_unit_course.Legs.{Travel, travelled}
use Rattle.device_calls.specs.unit_rule.Odometer.{HasTravelled, odometer_by, odometer_after}
use Rattle.device_calls.specs.unit_rule.Rule.{once_mended}
use Rattle.device_calls.specs.unit_rule.Marks.{UnitFollowsBook}
use Rattle.card_slots.specs.declared.seats.Present.{Present}
use Rattle.run_crew.specs.declared.cards.Accepted.{Accepted}
use Rattle.run_crew.specs.declared.cards.Cards.{Cards}
use Rattle.run_crew.specs.Cards.{session_of}
use Rattle.run_devices.specs.run_promise.Found.{Found, found_of, unit_seen, AnyKept}
use Rattle.run_devices.specs.run_promise.Cards.{CardMarksHold, FirstKeep, HandMarksHold}
use Rattle.run_devices.specs.run_promise.Between.{RunLedger}
use Rattle.run_devices.specs.Strung.{CardHoldsString}
use Rattle.run_devices.specs.Told.{GoesOwing, AreFoundCards, AllGo, owes_nothing, IsLitWith, IsLitOwing}
use Rattle.run_devices.specs.Told.{DevicesUnpowered}
use Rattle.run_devices.specs.Measured.{reading_at}
use Rattle.run_minutes.specs.Keeping.{Fate, is_this, marks_by, session_at, held_in}
use Rattle.run_minutes.specs.Minutes.{unit_mark}
use Rattle.run_minutes.specs.Deeds.{KeepsOn, AllKeep, kept_for}
use Rattle.run_minutes.specs.Books.{MayBook, IsLeftOff, StaysOn, AreTimedOn, history_minute, standing_by}
use Rattle.run_minutes.specs.Books.{hands_by, firsts_by}

-- an entry more is put, for the card that was present
abbrev pub and_put : Option Card → Entry → (Card → List Entry) → Card → List Entry
and_put present entry puts c = if is_this present c then entry ∷ [] else puts c

-- AN ENTRY MAY BE PUT for the minute that comes (`owe_to`): the card for which it is, if there is one, is valid and
-- present, the minute may come, and none is put for it yet.
abbrev pub MayPut : Found → Option Card → Entry → RunLedger → (puts : Card → List Entry) → Type 0
MayPut f None entry w puts = Unit {0}
MayPut f (Some c) entry w puts = IsOwnValid (found_of f c).image × (puts c ≡ []) × (w.due ≤ entry.minute)
    × (1440 ≤ entry.minute) × IsPresent (found_of f c).start (w.standing c) entry.minute

-- these entries are put; or the unit failed, and all that is carried without power stands
abbrev pub IsPutOrCut : (failed : Bool) → Found → RunLedger → (puts : Card → List Entry) → Devices → Type 0
IsPutOrCut false f w puts d = IsLitWith f w puts owes_nothing d
IsPutOrCut true f w puts d = DevicesUnpowered f w d

-- SO IT IS, WHOEVER IS PRESENT: where an entry may be put it is, or the unit failed.
abbrev pub BooksPut : Option Card → Entry → (failed : Bool) → Cards → (d e : Devices) → Type 0
BooksPut present entry failed cards d e = (f : Found) (w : RunLedger) (puts : Card → List Entry) → AreFoundCards f cards
    → MayPut f present entry w puts → IsLitWith f w puts owes_nothing d → AllGo f w owes_nothing cards d
    → IsPutOrCut failed f w (and_put present entry puts) e

-- what was travelled is the same
abbrev pub TravelsOn : (old new : State) → Type 0
TravelsOn old new = (start : ℕ) (b : Book) (g : Travel) → HasTravelled start b g old → HasTravelled start b g new

-- what a minute says is owed
abbrev pub owes_minute : HistoryMinute → Card → List Entry
owes_minute i c = on_card c i

-- of these nothing to the card that was present, any more
abbrev pub but_to : Option Card → (Card → List Entry) → Card → List Entry
but_to present owes c = if is_this present c then [] else owes c

-- what is carried once the unit has a minute
abbrev pub carried_kept : HistoryMinute → (clock : ℕ) → RunLedger → RunLedger
carried_kept i clock w = record w {
  due = suc i.minute;
  book = kept i w.book;
  marks = w.marks ++ unit_mark i.minute
      clock ∷ [];
}

-- and behind what became of the entry of the card that was present, whose session held these entries by hand
abbrev pub carried_brought : Fate → Holding → Option Card → (minute : ℕ) → RunLedger → RunLedger
carried_brought fate held present minute w = record w {
  marks = w.marks ++ marks_by fate present minute;
  standing = λ c. if is_this present c then standing_by fate minute (w.standing c) else w.standing c;
  hands = λ c. if is_this present c then hands_by fate held minute (w.hands c) else w.hands c;
  firsts = λ c. if is_this present c then firsts_by fate c held minute (w.firsts c) else w.firsts c;
}

-- behind the unit's part: it has the minute, and owes its entries to the cards; or it failed, and the minute was not
-- begun, or was
abbrev pub IsOwedOrCut : (failed : Bool) → Found → (start : ℕ) → RunLedger → HistoryMinute → Travel → (leg : ℕ) → Cards
    → Devices → Type 0
IsOwedOrCut false f start w i g leg cards d = IsLitOwing f (carried_kept i d.unit.clock w) (owes_minute i) d
    × AllGo f (carried_kept i d.unit.clock w) (owes_minute i) cards d
    × HasTravelled start (kept i w.book) (travelled i.minute leg g) d.unit
IsOwedOrCut true f start w i g leg cards d = IsLeftOff f start w i g leg d

-- THE UNIT WAS TO KEEP A MINUTE (`commit`)
abbrev pub BooksOwed : Present → KeptMinute → (failed : Bool) → (cards after : Cards) → List Mark → (d e : Devices)
    → Type 0
BooksOwed present m failed cards after marks d e = (f : Found) (w : RunLedger) (start : ℕ) (g : Travel) (leg : ℕ)
    → MayBook f w present m cards marks d → HasTravelled start w.book g d.unit
    → m.odometer.0 ≡ odometer_by (odometer_after start g.before) leg → e.unit.clock < last_count
    → IsOwedOrCut failed f start w (history_minute present m) g leg after e

-- behind an entry: nothing is owed any more to the card that was present; or the unit failed
abbrev pub IsBroughtOrCut : (failed : Bool) → Found → RunLedger → (owes : Card → List Entry) → Cards → Devices → Type 0
IsBroughtOrCut false f w owes cards d = IsLitOwing f w owes d × AllGo f w owes cards d
IsBroughtOrCut true f w owes cards d = DevicesUnpowered f w d

-- The entry of the card that was present is what is owed to it; that is valid, and the minute is later than the words
-- at its start.
abbrev pub MayBring : Found → Option Card → Kept → RunLedger → (owes : Card → List Entry) → Type 0
MayBring f None said w owes = Unit {0}
MayBring f (Some c) said w owes = IsOwnValid (found_of f c).image × (owes c ≡ said.entry ∷ [])
    × IsPresent (found_of f c).start (w.standing c) said.entry.minute

-- of a card that was valid, to which these entries are still owed
pub record CardOwing (f : Found) (c : Card) (b : Book) (z : Standing) (hd : Hands) (firsts : List FirstKeep)
    (ks : List ℕ) (marks : List Mark) (owes : List Entry) (session : Option Accepted) (unit card : State) : Type 0 where
  pub rule : CardRule c (found_of f c).start AnyKept (found_of f c).began b z [] owes (unit_seen f unit) (of_card card)
  pub valid : (x : List ℕ) → card.left_since (found_of f c).began x → IsOwnValid x
  pub brought : (k : ℕ) → Contains ks k → HasBrought f.card_a.number f.card_b.number c k unit card
  pub held : CardHoldsString (found_of f c) hd c b z card
  pub goes : GoesOwing (found_of f c) hd c b owes z session card
  pub hold : CardMarksHold (found_of f c) c b marks card
  pub hands : HandMarksHold (found_of f c) hd firsts card

-- AN ENTRY WAS TO BE BROUGHT to this card, of which this became (`bring_to`): so it is with it, by the unit as it was
-- before.
abbrev pub BooksCard : Card → Kept → Fate → (cards cards_after : Cards) → (unit card card_after : State) → Type 0
BooksCard c said fate cards cards_after unit card card_after = (f : Found) (w : RunLedger) → AreFoundCards f cards
    → is_some unit.image ≡ true → UnitFollowsBook (once_mended f.unit) w.due w.book w.marks unit → w.book.maybe ≡ None
    → card_after.clock < last_count
    → IsOwnValid (found_of f c).image → IsPresent (found_of f c).start (w.standing c) said.entry.minute
    → CardOwing f c w.book (w.standing c) (w.hands c) (w.firsts c) (w.brought c) w.marks (said.entry ∷ [])
    (session_of cards c) unit card
    → CardOwing f c w.book (standing_by fate said.entry.minute (w.standing c))
    (hands_by fate (held_in (session_of cards c)) said.entry.minute (w.hands c))
    (firsts_by fate c (held_in (session_of cards c)) said.entry.minute (w.firsts c)) (w.brought c)
    (w.marks ++ marks_by fate (Some c) said.entry.minute) [] (session_of cards_after c) unit card_after
    × StaysOn (found_of f c) (reading_at said.entry.minute said.odometer.0 ∷ []) card card_after
    × KeepsOn (found_of f c) (said ∷ []) (session_of cards c) (session_of cards_after c) card card_after

-- the clock of the card that was present does not stand at its last value
abbrev pub HasTime : Option Card → Devices → Type 0
HasTime None d = Unit {0}
HasTime (Some c) d = (card_of d c).clock < last_count

-- AN ENTRY WAS TO BE BROUGHT to a card, of which this became (`bring`)
abbrev pub BooksBrought : Option Card → Kept → (failed : Bool) → Fate → (cards cards_after : Cards) → (d e : Devices)
    → Type 0
BooksBrought present said failed fate cards cards_after d e = (f : Found) (w : RunLedger) (owes : Card → List Entry)
    → AreFoundCards f cards → MayBring f present said w owes → IsLitOwing f w owes d → AllGo f w owes cards d
    → HasTime present e
    → IsBroughtOrCut failed f
    (carried_brought fate (held_in (session_at cards present)) present said.entry.minute w) (but_to present owes)
    cards_after e
    × AreTimedOn f (reading_at said.entry.minute said.odometer.0 ∷ []) d e
    × AllKeep f (kept_for present said) cards cards_after d e
