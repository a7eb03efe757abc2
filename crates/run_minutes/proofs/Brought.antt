-- An entry was brought to a card: what is carried of unit and cards, over the card's part and the note of its fault.
use Rattle.std.proofs.Common.{◌≡◌, ◌∙◌, ℕ, ◌<◌, Bool, true, false, not, List, [], ◌∷◌, ◌++◌, Contains, Option, Some, None, IfSome, is_some, refl, ap, sym, subst}
use Rattle.std.proofs.lemmas.List.{append-nil}
use Rattle.activity_codec.specs.declared.entries.Entry.{Entry}
use Rattle.trace_model.specs.declared.Card.{Card}
use Rattle.trace_model.specs.declared.Card.TheVariants.{A, B}
use Rattle.tach_media.specs.Medium.{State, IsCoherent, LeavesOnly, last_count}
use Rattle.tacho_types.specs.CardNumber.{card_number_bytes}
use Rattle.log_model.specs.declared.lines.Mark.{Mark}
use Rattle.hand_model.specs.card_image.Own.{IsOwnValid}
use Rattle.card_session.specs.declared.session.Kept.{Kept}
use Rattle.hand_model.specs.Holding.{Holding}
use Rattle.unit_notes.specs.Journal.{LeavesJournal}
use Rattle.run_devices.specs.device_rule.Rules.{CardDark, CardRule}
use Rattle.run_devices.specs.device_rule.Marked.{of_card, HasBrought}
use Rattle.run_devices.specs.safety_model.Safe.{Devices, card_of}
use Rattle.device_calls.specs.unit_rule.Rule.{once_mended}
use Rattle.device_calls.specs.unit_rule.Marks.{UnitFollowsBook}
use Rattle.device_calls.proofs.unit_rule.Marking.{holds-beside, holds-dark}
use Rattle.device_calls.proofs.Noted.{noted-holds, noted-rests}
use Rattle.run_crew.specs.declared.cards.Accepted.{Accepted}
use Rattle.run_crew.specs.declared.cards.Cards.{Cards}
use Rattle.run_crew.specs.declared.cabin.Cabin.{Cabin}
use Rattle.run_crew.specs.Cards.{known_of, session_of, with_session}
use Rattle.run_devices.specs.run_promise.Found.{Found, found_of, unit_seen, AnyKept}
use Rattle.run_devices.specs.run_promise.Cards.{CardMarksHold, HandMarksHold}
use Rattle.run_devices.specs.run_promise.Between.{RunLedger, devices}
use Rattle.run_devices.specs.Strung.{CardHoldsString}
use Rattle.run_devices.specs.Told.{AreFoundCards, GoesOwing, AllGo, IsLitOwing, DevicesUnpowered, arranged, owes_nothing}
use Rattle.run_devices.proofs.Parts.{both_of, as-rests, of-rests, brought-on, CardOff, powerless-of}
use Rattle.run_devices.proofs.Noted.{noted-with, go-unit}
use Rattle.run_minutes.specs.Keeping.{Fate, Still, Has, Fell, cabin_by, marks_by, held_in}
use Rattle.run_devices.specs.Measured.{Reading, reading_at}
use Rattle.run_minutes.specs.Books.{StaysOn, AreTimedOn, standing_by, hands_by, firsts_by}
use Rattle.run_minutes.specs.Deeds.{KeepsOn, AllKeep, kept_for}
use Rattle.run_minutes.proofs.Deeds.{keep-by, keep-none}
use Rattle.run_minutes.proofs.CardEvents.{stays-self}
use Rattle.run_minutes.specs.Owing.{CardOwing, BooksCard, HasTime, BooksBrought, IsBroughtOrCut, carried_brought, but_to}
use Rattle.run_minutes.proofs.MarksOn.{unit-none, others-hold}
use Rattle.run_minutes.proofs.CardBooked.{session-set}

-- ---- the card's part

of-card : (f : Found) (w : RunLedger) (owes : Card → List Entry) (cards : Cards) (d : Devices) (c : Card) → IsLitOwing f w owes d → AllGo f w owes cards d → IsOwnValid (found_of f c).image
    → CardOwing f c w.book (w.standing c) (w.hands c) (w.firsts c) (w.brought c) w.marks (owes c) (session_of cards c) d.unit (card_of d c)
of-card f w owes cards d c lit go valid = record {
  rule = lit.rules c valid;
  valid = lit.valid c valid;
  brought = lit.brought c valid;
  held = go.held c valid;
  goes = go.goes c valid;
  hold = lit.marks c;
  hands = lit.hands c valid;
}

brought-lit : (f : Found) (w : RunLedger) (owes : Card → List Entry) (cards : Cards) (c : Card) (fate : Fate) (by_hand : Holding) (m : ℕ) (session : Option Accepted) (U X Y Z : State) → IsLitOwing f w owes (arranged c U X Z)
    → CardOwing f c w.book (standing_by fate m (w.standing c)) (hands_by fate by_hand m (w.hands c)) (firsts_by fate c by_hand m (w.firsts c)) (w.brought c) (w.marks ++ marks_by fate (Some c) m) [] session U Y → IsLitOwing f (carried_brought fate by_hand (Some c) m w) (but_to (Some c) owes) (arranged c U Y Z)
brought-lit f w owes cards A fate by_hand m session U X Y Z lit one = record {
  tells = lit.tells;
  works = lit.works;
  unit = holds-beside (once_mended f.unit) w.due w.book w.marks (marks_by fate (Some A) m) U (unit-none fate A m) lit.unit;
  none = lit.none;
  rules = rules;
  valid = valid;
  rises = lit.rises;
  brought = brought;
  marks = marks;
  hands = hands;
}
  where
    rules : (c : Card) → IsOwnValid (found_of f c).image → CardRule c (found_of f c).start AnyKept (found_of f c).began w.book ((carried_brought fate by_hand (Some A) m w).standing c) [] (but_to (Some A) owes c) (unit_seen f U) (of_card (card_of (devices U Y Z) c))
    rules A v = one.rule
    rules B v = lit.rules B v

    valid : (c : Card) → IsOwnValid (found_of f c).image → (x : List ℕ) → (card_of (devices U Y Z) c).left_since (found_of f c).began x → IsOwnValid x
    valid A v = one.valid
    valid B v = lit.valid B v

    brought : (c : Card) → IsOwnValid (found_of f c).image → (k : ℕ) → Contains (w.brought c) k → HasBrought f.card_a.number f.card_b.number c k U (card_of (devices U Y Z) c)
    brought A v = one.brought
    brought B v = lit.brought B v

    marks : (c : Card) → CardMarksHold (found_of f c) c w.book (w.marks ++ marks_by fate (Some A) m) (card_of (devices U Y Z) c)
    marks A = one.hold
    marks B = others-hold f.card_b w.book w.marks fate A m Z (lit.marks B)

    hands : (c : Card) → IsOwnValid (found_of f c).image → HandMarksHold (found_of f c) ((carried_brought fate by_hand (Some A) m w).hands c) ((carried_brought fate by_hand (Some A) m w).firsts c) (card_of (devices U Y Z) c)
    hands A v = one.hands
    hands B v = lit.hands B v
brought-lit f w owes cards B fate by_hand m session U X Y Z lit one = record {
  tells = lit.tells;
  works = lit.works;
  unit = holds-beside (once_mended f.unit) w.due w.book w.marks (marks_by fate (Some B) m) U (unit-none fate B m) lit.unit;
  none = lit.none;
  rules = rules;
  valid = valid;
  rises = lit.rises;
  brought = brought;
  marks = marks;
  hands = hands;
}
  where
    rules : (c : Card) → IsOwnValid (found_of f c).image → CardRule c (found_of f c).start AnyKept (found_of f c).began w.book ((carried_brought fate by_hand (Some B) m w).standing c) [] (but_to (Some B) owes c) (unit_seen f U) (of_card (card_of (devices U Z Y) c))
    rules A v = lit.rules A v
    rules B v = one.rule

    valid : (c : Card) → IsOwnValid (found_of f c).image → (x : List ℕ) → (card_of (devices U Z Y) c).left_since (found_of f c).began x → IsOwnValid x
    valid A v = lit.valid A v
    valid B v = one.valid

    brought : (c : Card) → IsOwnValid (found_of f c).image → (k : ℕ) → Contains (w.brought c) k → HasBrought f.card_a.number f.card_b.number c k U (card_of (devices U Z Y) c)
    brought A v = lit.brought A v
    brought B v = one.brought

    marks : (c : Card) → CardMarksHold (found_of f c) c w.book (w.marks ++ marks_by fate (Some B) m) (card_of (devices U Z Y) c)
    marks A = others-hold f.card_a w.book w.marks fate B m Z (lit.marks A)
    marks B = one.hold

    hands : (c : Card) → IsOwnValid (found_of f c).image → HandMarksHold (found_of f c) ((carried_brought fate by_hand (Some B) m w).hands c) ((carried_brought fate by_hand (Some B) m w).firsts c) (card_of (devices U Z Y) c)
    hands A v = lit.hands A v
    hands B v = one.hands

brought-go : (f : Found) (w : RunLedger) (owes : Card → List Entry) (cards : Cards) (c : Card) (fate : Fate) (by_hand : Holding) (m : ℕ) (session : Option Accepted) (U X Y Z : State) → AllGo f w owes cards (arranged c U X Z)
    → CardOwing f c w.book (standing_by fate m (w.standing c)) (hands_by fate by_hand m (w.hands c)) (firsts_by fate c by_hand m (w.firsts c)) (w.brought c) (w.marks ++ marks_by fate (Some c) m) [] session U Y
    → AllGo f (carried_brought fate by_hand (Some c) m w) (but_to (Some c) owes) (with_session c session cards) (arranged c U Y Z)
brought-go f w owes cards A fate by_hand m session U X Y Z go one = record { held = held; goes = goes }
  where
    held : (c : Card) → IsOwnValid (found_of f c).image → CardHoldsString (found_of f c) ((carried_brought fate by_hand (Some A) m w).hands c) c w.book ((carried_brought fate by_hand (Some A) m w).standing c) (card_of (devices U Y Z) c)
    held A v = one.held
    held B v = go.held B v

    goes : (c : Card) → IsOwnValid (found_of f c).image
        → GoesOwing (found_of f c) ((carried_brought fate by_hand (Some A) m w).hands c) c w.book (but_to (Some A) owes c) ((carried_brought fate by_hand (Some A) m w).standing c) (session_of (with_session A session cards) c) (card_of (devices U Y Z) c)
    goes A v = one.goes
    goes B v = go.goes B v
brought-go f w owes cards B fate by_hand m session U X Y Z go one = record { held = held; goes = goes }
  where
    held : (c : Card) → IsOwnValid (found_of f c).image → CardHoldsString (found_of f c) ((carried_brought fate by_hand (Some B) m w).hands c) c w.book ((carried_brought fate by_hand (Some B) m w).standing c) (card_of (devices U Z Y) c)
    held A v = go.held A v
    held B v = one.held

    goes : (c : Card) → IsOwnValid (found_of f c).image
        → GoesOwing (found_of f c) ((carried_brought fate by_hand (Some B) m w).hands c) c w.book (but_to (Some B) owes c) ((carried_brought fate by_hand (Some B) m w).standing c) (session_of (with_session B session cards) c) (card_of (devices U Z Y) c)
    goes A v = go.goes A v
    goes B v = one.goes

-- ---- the note of its fault, or none

-- the unit failed in it
module _ (f : Found) (w : RunLedger) (owes : Card → List Entry) (cards : Cards) (U V X Y : State) (found : AreFoundCards f cards) (whole : IsCoherent U) (lit : IsLitOwing f w owes (devices U X Y)) (go : AllGo f w owes cards (devices U X Y)) (run : LeavesOnly U V LeavesJournal) where
  rests-on : (c : Card) (Z : State) (due : List Entry) → CardRule c (found_of f c).start AnyKept (found_of f c).began w.book (w.standing c) [] due (unit_seen f U) (of_card Z) → CardDark c (found_of f c).start AnyKept (found_of f c).began w.book (w.standing c) (unit_seen f V) (of_card Z)
  rests-on c Z due rule =
      of-rests f found.two c w.book (w.standing c) V Z (noted-rests (both_of f found.two) c (once_mended f.unit) w.due w.book w.marks (w.standing c) Z whole lit.unit run (as-rests f found.two c w.book (w.standing c) U Z rule.dark))

  off-on : (c : Card) (Z : State) → CardOwing f c w.book (w.standing c) (w.hands c) (w.firsts c) (w.brought c) w.marks (owes c) (session_of cards c) U Z → IsOwnValid (found_of f c).image → CardOff f w.book (w.standing c) (w.hands c) (w.firsts c) (w.brought c) c V Z
  off-on c Z one valid = record {
    rests = rests-on c Z (owes c) one.rule;
    valid = one.valid;
    rises = lit.rises c valid;
    brought = λ k at. brought-on f c k w.book (w.standing c) (w.standing c) (once_mended f.unit) w.due w.marks U V Z whole lit.tells lit.unit lit.none one.rule.dark (rests-on c Z (owes c) one.rule) (one.brought k at);
    held = one.held;
    hands = one.hands;
  }

  pub noted-off : DevicesUnpowered f w (devices V X Y)
  noted-off = powerless-of f w cards A V X Y found (record {
    tells = run.tells ∙ lit.tells;
    unit = holds-dark f.unit w.due w.book w.marks V (noted-holds (once_mended f.unit) w.due w.book w.marks whole run lit.unit);
    none = lit.none;
    mine = λ valid. off-on A X (of-card f w owes cards (devices U X Y) A lit go valid) valid;
    others = λ valid. off-on B Y (of-card f w owes cards (devices U X Y) B lit go valid) valid;
    marks_mine = lit.marks A;
    marks_others = lit.marks B;
  })

behind-note : (f : Found) (w : RunLedger) (owes : Card → List Entry) (cards : Cards) (U V X Y : State) → AreFoundCards f cards → IsCoherent U → IsLitOwing f w owes (devices U X Y) → AllGo f w owes cards (devices U X Y) → LeavesOnly U V LeavesJournal
    → (failed : Bool) → V.works ≡ not failed → IsBroughtOrCut failed f w owes cards (devices V X Y)
behind-note f w owes cards U V X Y found whole lit go run false works = (noted-with f found.two w owes_nothing owes U V X Y whole lit run works, go-unit f w owes cards U V X Y go)
behind-note f w owes cards U V X Y found whole lit go run true works = noted-off f w owes cards U V X Y found whole lit go run

behind-note-of : (c : Card) (f : Found) (w : RunLedger) (owes : Card → List Entry) (cards : Cards) (U V X Y : State) → AreFoundCards f cards → IsCoherent U → IsLitOwing f w owes (arranged c U X Y) → AllGo f w owes cards (arranged c U X Y) → LeavesOnly U V LeavesJournal
    → (failed : Bool) → V.works ≡ not failed → IsBroughtOrCut failed f w owes cards (arranged c V X Y)
behind-note-of A f w owes cards U V X Y = behind-note f w owes cards U V X Y
behind-note-of B f w owes cards U V X Y = behind-note f w owes cards U V Y X

-- ---- the sessions

abbrev session_by : Fate → Option Accepted → Option Accepted
session_by Still before = before
session_by (Has accepted clock) before = Some accepted
session_by Fell before = None

pub cards-by : (fate : Fate) (c : Card) (second : ℕ) (cabin : Cabin) → (cabin_by fate (Some c) second cabin).cards ≡ with_session c (session_by fate (session_of cabin.cards c)) cabin.cards
cards-by Still A second cabin = refl
cards-by Still B second cabin = refl
cards-by (Has a n) c second cabin = refl
cards-by Fell c second cabin = refl

-- the cards that were found are those
pub found-session : (f : Found) (c : Card) (s : Option Accepted) (cards : Cards) → AreFoundCards f cards → AreFoundCards f (with_session c s cards)
found-session f A s cards found = record { two = found.two; named = named; told = told; only = only; own = found.own; sizes = found.sizes; entries = found.entries; word = found.word }
  where
    named : (c : Card) → IsOwnValid (found_of f c).image → IfSome (known_of (with_session A s cards) c).number (λ n. card_number_bytes n ≡ (found_of f c).number)
    named A = found.named A
    named B = found.named B

    told : (c : Card) → IsOwnValid (found_of f c).image → is_some (known_of (with_session A s cards) c).number ≡ true
    told A = found.told A
    told B = found.told B

    only : (c : Card) → is_some (known_of (with_session A s cards) c).number ≡ true → IsOwnValid (found_of f c).image
    only A = found.only A
    only B = found.only B
found-session f B s cards found = record { two = found.two; named = named; told = told; only = only; own = found.own; sizes = found.sizes; entries = found.entries; word = found.word }
  where
    named : (c : Card) → IsOwnValid (found_of f c).image → IfSome (known_of (with_session B s cards) c).number (λ n. card_number_bytes n ≡ (found_of f c).number)
    named A = found.named A
    named B = found.named B

    told : (c : Card) → IsOwnValid (found_of f c).image → is_some (known_of (with_session B s cards) c).number ≡ true
    told A = found.told A
    told B = found.told B

    only : (c : Card) → is_some (known_of (with_session B s cards) c).number ≡ true → IsOwnValid (found_of f c).image
    only A = found.only A
    only B = found.only B

-- the other card is as it was
timed-by : (f : Found) (values : List Reading) (c : Card) (U V X Y Z : State) → StaysOn (found_of f c) values X Y → AreTimedOn f values (arranged c U X Z) (arranged c V Y Z)
timed-by f values A U V X Y Z on A valid = on
timed-by f values A U V X Y Z on B valid = stays-self (found_of f B) values Z
timed-by f values B U V X Y Z on A valid = stays-self (found_of f A) values Z
timed-by f values B U V X Y Z on B valid = on

-- ---- ALL OF IT

time-of : (c : Card) (V Y Z : State) → HasTime (Some c) (arranged c V Y Z) → Y.clock < last_count
time-of A V Y Z time = time
time-of B V Y Z time = time

card-before : (f : Found) (w : RunLedger) (owes : Card → List Entry) (cards : Cards) (c : Card) (U X Z : State) → IsLitOwing f w owes (arranged c U X Z) → AllGo f w owes cards (arranged c U X Z) → IsOwnValid (found_of f c).image
    → CardOwing f c w.book (w.standing c) (w.hands c) (w.firsts c) (w.brought c) w.marks (owes c) (session_of cards c) U X
card-before f w owes cards A U X Z lit go valid = of-card f w owes cards (devices U X Z) A lit go valid
card-before f w owes cards B U X Z lit go valid = of-card f w owes cards (devices U Z X) B lit go valid

unit-tells : (f : Found) (w : RunLedger) (owes : Card → List Entry) (c : Card) (U X Z : State) → IsLitOwing f w owes (arranged c U X Z) → is_some U.image ≡ true
unit-tells f w owes A U X Z lit = lit.tells
unit-tells f w owes B U X Z lit = lit.tells

unit-holds : (f : Found) (w : RunLedger) (owes : Card → List Entry) (c : Card) (U X Z : State) → IsLitOwing f w owes (arranged c U X Z) → UnitFollowsBook (once_mended f.unit) w.due w.book w.marks U
unit-holds f w owes A U X Z lit = lit.unit
unit-holds f w owes B U X Z lit = lit.unit

unit-shut : (f : Found) (w : RunLedger) (owes : Card → List Entry) (c : Card) (U X Z : State) → IsLitOwing f w owes (arranged c U X Z) → w.book.maybe ≡ None
unit-shut f w owes A U X Z lit = lit.none
unit-shut f w owes B U X Z lit = lit.none

module _ (c : Card) (said : Kept) (fate : Fate) (k v : Cabin) (second : ℕ) (U V X Y Z : State) (whole : IsCoherent U) (keeper : v ≡ cabin_by fate (Some c) second k) (run : LeavesOnly U V LeavesJournal) where
  abbrev session : Option Accepted
  session = session_by fate (session_of k.cards c)

  same : v.cards ≡ with_session c session k.cards
  same = ap (λ (q : Cabin). q.cards) keeper ∙ cards-by fate c second k

  abbrev by_hand : Holding
  by_hand = held_in (session_of k.cards c)

  abbrev m : ℕ
  m = said.entry.minute

  pub brought-booked : (failed : Bool) → V.works ≡ not failed → BooksCard c said fate k.cards v.cards U X Y → BooksBrought (Some c) said failed fate k.cards v.cards (arranged c U X Z) (arranged c V Y Z)
  brought-booked failed works booked = λ f w owes found may lit go time.
      let before = subst (λ (es : List Entry). CardOwing f c w.book (w.standing c) (w.hands c) (w.firsts c) (w.brought c) w.marks es (session_of k.cards c) U X) may.1 (card-before f w owes k.cards c U X Z lit go may.0) in
      let card = booked f w found (unit-tells f w owes c U X Z lit) (unit-holds f w owes c U X Z lit) (unit-shut f w owes c U X Z lit) (time-of c V Y Z time) may.0 may.2 before in
      let one = subst (λ (o : Option Accepted). CardOwing f c w.book (standing_by fate m (w.standing c)) (hands_by fate by_hand m (w.hands c)) (firsts_by fate c by_hand m (w.firsts c)) (w.brought c) (w.marks ++ marks_by fate (Some c) m) [] o U Y)
      (ap (λ (q : Cards). session_of q c) same ∙ session-set c session k.cards) card.0 in
      let behind = subst (λ (q : Cards). AllGo f (carried_brought fate by_hand (Some c) m w) (but_to (Some c) owes) q (arranged c U Y Z)) (sym same) (brought-go f w owes k.cards c fate by_hand m session U X Y Z go one) in (
        behind-note-of c f (carried_brought fate by_hand (Some c) m w) (but_to (Some c) owes) v.cards U V Y Z (subst (AreFoundCards f) (sym same) (found-session f c session k.cards found)) whole
            (brought-lit f w owes k.cards c fate by_hand m session U X Y Z lit one) behind run failed works,
        timed-by f (reading_at said.entry.minute said.odometer.0 ∷ []) c U V X Y Z card.1,
        subst (λ (q : Cards). AllKeep f (kept_for (Some c) said) k.cards q (arranged c U X Z) (arranged c V Y Z)) (sym same)
            (keep-by f c said k.cards session U V X Y Z
            (subst (λ (o : Option Accepted). KeepsOn (found_of f c) (said ∷ []) (session_of k.cards c) o X Y) (ap (λ (q : Cards). session_of q c) same ∙ session-set c session k.cards) card.2)),
      )

-- no card was present
pub nobody-booked : (said : Kept) (cards : Cards) (d : Devices) → BooksBrought None said false Still cards cards d d
nobody-booked said cards d = λ f w owes found may lit go time. (
  (subst (λ (ms : List Mark). IsLitOwing f (record w { marks = ms }) owes d) (sym (append-nil w.marks)) lit, record { held = go.held; goes = go.goes }),
  λ c valid. stays-self (found_of f c) (reading_at said.entry.minute said.odometer.0 ∷ []) (card_of d c),
  keep-none f cards d,
)
