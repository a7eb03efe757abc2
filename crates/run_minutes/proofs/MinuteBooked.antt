-- The unit has a minute, and its entries were brought to the cards that were present: so it is booked.
use Rattle.std.proofs.Common.{◌≡◌, ◌∙◌, inl, inr, ⊎_elim, ℕ, ◌<◌, Bool, true, false, Option, Some, None, List, [], ◌∷◌, ◌++◌, Contains, refl, ap, subst, sym, arith}
use Rattle.std.specs.Prelude.{if◌then◌else◌}
use Rattle.std.proofs.lemmas.List.{append-nil}
use Rattle.activity_codec.specs.declared.entries.Entry.{Entry}
use Rattle.activity_codec.specs.declared.values.Slot.TheVariants.{Driver, CoDriver}
use Rattle.trace_model.specs.declared.Card.{Card}
use Rattle.trace_model.specs.declared.Card.TheVariants.{A, B}
use Rattle.tach_media.specs.Medium.{State, IsCoherent, LeavesOnly, last_count}
use Rattle.log_model.specs.declared.lines.Break.{Break}
use Rattle.log_model.specs.declared.lines.Mark.{Mark}
use Rattle.card_session.specs.declared.session.Kept.{Kept}
use Rattle.unit_minutes.specs.declared.kept.KeptMinute.{KeptMinute}
use Rattle.unit_notes.specs.Journal.{LeavesJournal}
use Rattle.run_devices.specs.run_unit_course.Legs.{Travel, travelled}
use Rattle.device_calls.specs.unit_rule.Odometer.{HasTravelled, odometer_by, odometer_after}
use Rattle.hand_model.specs.Holding.{Holding, none_held}
use Rattle.hand_model.specs.Written.{Hands}
use Rattle.run_devices.specs.history_model.Minutes.{HistoryMinute, on_card}
use Rattle.run_devices.specs.history_model.Book.{kept}
use Rattle.run_devices.specs.device_rule.Rules.{Standing, IsPresent, CardRule}
use Rattle.run_devices.specs.device_rule.Marked.{of_card}
use Rattle.run_devices.specs.safety_model.Safe.{Devices, card_of}
use Rattle.card_slots.specs.declared.seats.Present.{Present}
use Rattle.run_crew.specs.declared.cards.Cards.{Cards}
use Rattle.run_crew.specs.Cards.{session_of}
use Rattle.run_crew.specs.Cabin.{AreTwo}
use Rattle.run_outcome.specs.Lines.{Listed}
use Rattle.run_devices.specs.run_promise.Found.{Found, found_of, unit_seen, AnyKept}
use Rattle.run_devices.specs.run_promise.Cards.{FirstKeep}
use Rattle.run_devices.specs.run_promise.Between.{RunLedger, devices}
use Rattle.run_devices.specs.Told.{AreFoundCards, owes_nothing, GoesOwing, AllGo, IsLitOwing, DevicesPowered, DevicesUnpowered}
use Rattle.run_devices.proofs.Parts.{lit-of}
use Rattle.run_devices.proofs.Travelled.{travelled-noted}
use Rattle.run_minutes.specs.declared.keeper.Keeper.{Keeper}
use Rattle.run_minutes.specs.Keeping.{Fate, Still, TellsPresent, entry_in, kept_in, cabin_by, is_this, session_at, held_in}
use Rattle.run_minutes.specs.Minutes.{Round, KeepingState}
use Rattle.run_minutes.proofs.CardEvents.{stays-then, stays-more}
use Rattle.run_minutes.specs.Deeds.{AllKeep, kept_for, kept_on}
use Rattle.run_minutes.proofs.Deeds.{kept-both, keep-at, keep-then}
use Rattle.run_devices.specs.Measured.{Reading, reading_at}
use Rattle.run_minutes.specs.Books.{history_minute, standing_by, hands_by, firsts_by, carried_after, MayCome, MayBook, HaveTime, IsBooked, AreTimedOn, BooksMinute}
use Rattle.run_minutes.specs.Owing.{owes_minute, but_to, carried_kept, carried_brought, HasTime, MayBring, IsBroughtOrCut, BooksBrought, BooksOwed}
use Rattle.run_minutes.proofs.Counts.{apart-turned}
use Rattle.run_minutes.proofs.Rounds.{told-of}
use Rattle.run_minutes.proofs.Brought.{cards-by, found-session}
use Rattle.run_minutes.proofs.MinuteBegun.{clash, this-card, all-said, says-some}

-- ---- what is carried, by what became of each entry

ext : {T : Type 0} (f g : Card → T) → ((c : Card) → f c ≡ g c) → f ≡ g
ext f g same = λ i c. same c i

-- a card that was present in one slot was not in the other
apart-both : (driver codriver : Option Card) → AreTwo driver codriver → (c : Card) → is_this driver c ≡ true → is_this codriver c ≡ false
apart-both None codriver two c is = clash (sym is)
apart-both (Some k) None two c is = refl
apart-both (Some A) (Some B) two A is = refl
apart-both (Some A) (Some B) two B is = clash (sym is)
apart-both (Some B) (Some A) two A is = clash (sym is)
apart-both (Some B) (Some A) two B is = refl
apart-both (Some A) (Some A) two c is = clash two
apart-both (Some B) (Some B) two c is = clash two

stands-by : (a b : Bool) (e d : Fate) (m : ℕ) (z : Standing) → (a ≡ true → b ≡ false) → (if b then standing_by d m (if a then standing_by e m z else z) else (if a then standing_by e m z else z)) ≡ standing_by (if a then e else (if b then d else Still)) m z
stands-by true true e d m z two = clash (two refl)
stands-by true false e d m z two = refl
stands-by false true e d m z two = refl
stands-by false false e d m z two = refl

-- so it is of its entries by hand, and of its first keeps
hands-both : (a b : Bool) (e d : Fate) (p q : Holding) (m : ℕ) (h : Hands) → (a ≡ true → b ≡ false) → (if b then hands_by d q m (if a then hands_by e p m h else h) else (if a then hands_by e p m h else h))
    ≡ hands_by (if a then e else (if b then d else Still)) (if a then p else (if b then q else none_held 0)) m h
hands-both true true e d p q m h two = clash (two refl)
hands-both true false e d p q m h two = refl
hands-both false true e d p q m h two = refl
hands-both false false e d p q m h two = refl

firsts-both : (a b : Bool) (e d : Fate) (c : Card) (p q : Holding) (m : ℕ) (ks : List FirstKeep) → (a ≡ true → b ≡ false) → (if b then firsts_by d c q m (if a then firsts_by e c p m ks else ks) else (if a then firsts_by e c p m ks else ks))
    ≡ firsts_by (if a then e else (if b then d else Still)) c (if a then p else (if b then q else none_held 0)) m ks
firsts-both true true e d c p q m ks two = clash (two refl)
firsts-both true false e d c p q m ks two = refl
firsts-both false true e d c p q m ks two = refl
firsts-both false false e d c p q m ks two = refl

carried-both : (present : Present) (i : HistoryMinute) (round : Round) (w : RunLedger) → AreTwo present.driver present.codriver
    → carried_brought round.codriver round.codriver_held present.codriver i.minute (carried_brought round.driver round.driver_held present.driver i.minute (carried_kept i round.clock w)) ≡ carried_after present i round w
carried-both present i round w two =
    let was : RunLedger = carried_brought round.codriver round.codriver_held present.codriver i.minute (carried_brought round.driver round.driver_held present.driver i.minute (carried_kept i round.clock w)) in
    let all : RunLedger = carried_after present i round w in
    ap (λ (s : Card → Standing). record all { standing = s; hands = was.hands; firsts = was.firsts })
    (ext was.standing all.standing (λ c. stands-by (is_this present.driver c) (is_this present.codriver c) round.driver round.codriver i.minute (w.standing c) (apart-both present.driver present.codriver two c)))
    ∙ ap (λ (h : Card → Hands). record all { hands = h; firsts = was.firsts })
    (ext was.hands all.hands (λ c. hands-both (is_this present.driver c) (is_this present.codriver c) round.driver round.codriver round.driver_held round.codriver_held i.minute (w.hands c) (apart-both present.driver present.codriver two c)))
    ∙ ap (λ (ks : Card → List FirstKeep). record all { firsts = ks })
    (ext was.firsts all.firsts (λ c. firsts-both (is_this present.driver c) (is_this present.codriver c) round.driver round.codriver c round.driver_held round.codriver_held i.minute (w.firsts c) (apart-both present.driver present.codriver two c)))

same-both : {T : Type 0} (b : Bool) (t : T) → (if b then t else t) ≡ t
same-both true t = refl
same-both false t = refl

-- of an entry that was not asked for nothing changes
carried-still : (held : Holding) (o : Option Card) (m : ℕ) (w : RunLedger) → carried_brought Still held o m w ≡ w
carried-still held None m w = ap (λ (ms : List Mark). record w { marks = ms }) (append-nil w.marks)
carried-still held (Some k) m w =
    let was : RunLedger = carried_brought Still held (Some k) m w in
    ap (λ (s : Card → Standing). record was { standing = s }) (ext was.standing w.standing (λ c. same-both (is_this (Some k) c) (w.standing c)))
    ∙ ap (λ (h : Card → Hands). record w { marks = w.marks ++ []; hands = h; firsts = was.firsts }) (ext was.hands w.hands (λ c. same-both (is_this (Some k) c) (w.hands c)))
    ∙ ap (λ (ks : Card → List FirstKeep). record w { marks = w.marks ++ []; firsts = ks }) (ext was.firsts w.firsts (λ c. same-both (is_this (Some k) c) (w.firsts c)))
    ∙ ap (λ (ms : List Mark). record w { marks = ms }) (append-nil w.marks)

-- the cards alone tell of their last use, and of their events
pub timed-at : (f : Found) (values : List Reading) (U V X Y : State) (e : Devices) → AreTimedOn f values (devices V X Y) e → AreTimedOn f values (devices U X Y) e
timed-at f values U V X Y e timed A = timed A
timed-at f values U V X Y e timed B = timed B

pub timed-then : (f : Found) (values : List Reading) (d e g : Devices) → AreTimedOn f values d e → AreTimedOn f values e g → AreTimedOn f values d g
timed-then f values d e g first next c valid = stays-then (found_of f c) values (card_of d c) (card_of e c) (card_of g c) (first c valid) (next c valid)

pub timed-more : (f : Found) (values now : List Reading) → ((r : Reading) → Contains values r → Contains now r) → (d e : Devices) → AreTimedOn f values d e → AreTimedOn f now d e
timed-more f values now more d e is c valid = stays-more (found_of f c) values now more (card_of d c) (card_of e c) (is c valid)

-- the clock of a card that was not asked
pub clock-rests : {C : Type 0} (state : C → State) (a b : C) → b ≡ a → (state b).clock ≡ (state a).clock
clock-rests {C} state a b same = ap (λ (c : C). (state c).clock) same

-- ---- what is asked of an entry that is brought

may-bring : (f : Found) (w : RunLedger) (i : HistoryMinute) (o : Option Card) (said : Kept) (v : RunLedger) (owes : Card → List Entry) → said.entry.minute ≡ i.minute → MayCome f w i → ((c : Card) → o ≡ Some c → owes c ≡ said.entry ∷ [])
    → ((c : Card) → o ≡ Some c → on_card c i ≡ [] → ⊥) → ((c : Card) → o ≡ Some c → v.standing c ≡ w.standing c) → MayBring f o said v owes
may-bring f w i None said v owes at comes owed says stands = tt
may-bring f w i (Some c) said v owes at comes owed says stands = ⊎_elim
    (λ none. absurd (says c refl none))
    (λ here. (here.0, owed c refl, subst (λ (z : Standing). IsPresent (found_of f c).start z said.entry.minute) (sym (stands c refl)) (subst (λ (n : ℕ). IsPresent (found_of f c).start (w.standing c) n) (sym at) here.1)))
    (comes.fits c)

-- the clock of the card that was present, by those of all
has-time : (o : Option Card) (d : Devices) → HaveTime d → HasTime o d
has-time None d time = tt
has-time (Some A) d time = time.card_a
has-time (Some B) d time = time.card_b

-- the cards that were found are those, behind an entry
found-by : (f : Found) (fate : Fate) (o : Option Card) (second : ℕ) (k v : Keeper) → v ≡ record k { cabin = cabin_by fate o second k.cabin } → AreFoundCards f k.cabin.cards → AreFoundCards f v.cabin.cards
found-by f fate None second k v is found = subst (λ (q : Keeper). AreFoundCards f q.cabin.cards) (sym is) found
found-by f fate (Some c) second k v is found = subst (λ (q : Keeper). AreFoundCards f q.cabin.cards) (sym is) (cards fate)
  where
    cards : (fate : Fate) → AreFoundCards f (cabin_by fate (Some c) second k.cabin).cards
    cards fate = subst (AreFoundCards f) (sym (cards-by fate c second k.cabin)) (found-session f c _ k.cabin.cards found)

-- by what is owed to each card
lit-owes : (f : Found) (w : RunLedger) (p q : Card → List Entry) (U X Y : State) → ((c : Card) → p c ≡ q c) → IsLitOwing f w p (devices U X Y) → IsLitOwing f w q (devices U X Y)
lit-owes f w p q U X Y same h = record {
  tells = h.tells;
  works = h.works;
  unit = h.unit;
  none = h.none;
  rules = λ c valid. subst (λ (es : List Entry). CardRule c (found_of f c).start AnyKept (found_of f c).began w.book (w.standing c) [] es (unit_seen f U) (of_card (card_of (devices U X Y) c))) (same c) (h.rules c valid);
  valid = h.valid;
  rises = h.rises;
  brought = h.brought;
  marks = h.marks;
  hands = h.hands;
}

go-owes : (f : Found) (w : RunLedger) (p q : Card → List Entry) (cards : Cards) (U X Y : State) → ((c : Card) → p c ≡ q c) → AllGo f w p cards (devices U X Y) → AllGo f w q cards (devices U X Y)
go-owes f w p q cards U X Y same go = record {
  held = go.held;
  goes = λ c valid. subst (λ (es : List Entry). GoesOwing (found_of f c) (w.hands c) c w.book es (w.standing c) (session_of cards c) (card_of (devices U X Y) c)) (same c) (go.goes c valid);
}

left-none : (a b : Bool) (e d : Entry) (es : List Entry) → (if b then d ∷ [] else (if a then e ∷ [] else [])) ≡ es → (if b then [] else (if a then [] else es)) ≡ []
left-none a true e d es is = refl
left-none true false e d es is = refl
left-none false false e d es is = sym is

module _ (m : KeptMinute) (present : Present) (says : TellsPresent m present) (two : AreTwo present.driver present.codriver) (k k1 : Keeper) (ms : Listed Mark) (bs : Listed Break) (same : k1.cabin.cards ≡ k.cabin.cards) (U V X Y : State)
    (owed : BooksOwed present m false k.cabin.cards k1.cabin.cards ms.items (devices U X Y) (devices V X Y)) (failed1 : Bool) (fe : Fate) (k2 : Keeper) (second : ℕ) (by1 : k2 ≡ record k1 { cabin = cabin_by fe present.driver second k1.cabin }) (V1 X1 Y1 : State)
    (one : BooksBrought present.driver (kept_in m Driver) failed1 fe k1.cabin.cards k2.cabin.cards (devices V X Y) (devices V1 X1 Y1)) where
  abbrev i : HistoryMinute
  i = history_minute present m

  abbrev e : Entry
  e = entry_in m Driver

  abbrev d : Entry
  d = entry_in m CoDriver

  abbrev w1 : RunLedger → RunLedger
  w1 w = carried_kept i V.clock w

  -- what the session of the driver's card holds
  abbrev pe : Holding
  pe = held_in (session_at k1.cabin.cards present.driver)

  abbrev w2 : RunLedger → RunLedger
  w2 w = carried_brought fe pe present.driver i.minute (w1 w)

  this-driver : (c : Card) → present.driver ≡ Some c → is_this present.driver c ≡ true
  this-driver c is = ap (λ (o : Option Card). is_this o c) is ∙ this-card c

  this-codriver : (c : Card) → present.codriver ≡ Some c → is_this present.codriver c ≡ true
  this-codriver c is = ap (λ (o : Option Card). is_this o c) is ∙ this-card c

  not-driver : (c : Card) → present.codriver ≡ Some c → is_this present.driver c ≡ false
  not-driver c is = apart-turned present.driver present.codriver c is two

  owes-driver : (c : Card) → present.driver ≡ Some c → owes_minute i c ≡ e ∷ []
  owes-driver c is = sym (all-said m present says two c)
      ∙ ap (λ (b : Bool). if b then d ∷ [] else (if is_this present.driver c then e ∷ [] else [])) (apart-both present.driver present.codriver two c (this-driver c is)) ∙ ap (λ (a : Bool). if a then e ∷ [] else []) (this-driver c is)

  owes-codriver : (c : Card) → present.codriver ≡ Some c → but_to present.driver (owes_minute i) c ≡ d ∷ []
  owes-codriver c is = ap (λ (a : Bool). if a then [] else on_card c i) (not-driver c is) ∙ sym (all-said m present says two c)
      ∙ ap (λ (b : Bool). if b then d ∷ [] else (if is_this present.driver c then e ∷ [] else [])) (this-codriver c is)

  module _ (f : Found) (w : RunLedger) (start : ℕ) (g : Travel) (leg : ℕ) (may : MayBook f w present m k.cabin.cards ms.items (devices U X Y)) (gone : HasTravelled start w.book g U) (odometer : m.odometer.0 ≡ odometer_by (odometer_after start g.before) leg) (time : V.clock < last_count) where
    found1 : AreFoundCards f k1.cabin.cards
    found1 = subst (AreFoundCards f) (sym same) may.booked.found

    found2 : AreFoundCards f k2.cabin.cards
    found2 = found-by f fe present.driver second k1 k2 by1 found1

    has : IsLitOwing f (w1 w) (owes_minute i) (devices V X Y) × AllGo f (w1 w) (owes_minute i) k1.cabin.cards (devices V X Y) × HasTravelled start (kept i w.book) (travelled i.minute leg g) V
    has = owed f w start g leg may gone odometer time

    first : HasTime present.driver (devices V1 X1 Y1) → IsBroughtOrCut failed1 f (w2 w) (but_to present.driver (owes_minute i)) k2.cabin.cards (devices V1 X1 Y1) × AreTimedOn f (reading_at m.minute m.odometer.0 ∷ []) (devices V X Y) (devices V1 X1 Y1)
        × AllKeep f (kept_for present.driver (kept_in m Driver)) k1.cabin.cards k2.cabin.cards (devices V X Y) (devices V1 X1 Y1)
    first card = one f (w1 w) (owes_minute i) found1
        (may-bring f w i present.driver (kept_in m Driver) (w1 w) (owes_minute i) refl may.comes owes-driver (λ c is. says-some m present says two c (inl (this-driver c is))) (λ c is. refl)) has.0 has.1 card

  -- the unit failed as it noted the fault of the driver's card
  pub booked-cut : failed1 ≡ true → IsCoherent V → LeavesOnly V V1 LeavesJournal → (u : KeepingState) (round : Round) → round.clock ≡ V.clock → round.driver ≡ fe → round.codriver ≡ Still → round.driver_held ≡ pe
      → BooksMinute present m true (Some round) (told-of k ms bs) u (devices U X Y) (devices V1 X1 Y1)
  booked-cut bad whole run u round at fate still holds = λ f w start g leg may gone odometer time.
      let card = has-time present.driver (devices V1 X1 Y1) time in
      let low = time.unit in
      let later = run.later in
      let short : V.clock < last_count = omega (arith, low, later) in
      let here = first f w start g leg may gone odometer short card in
      let cut : DevicesUnpowered f (w2 w) (devices V1 X1 Y1) = subst (λ (b : Bool). IsBroughtOrCut b f (w2 w) (but_to present.driver (owes_minute i)) k2.cabin.cards (devices V1 X1 Y1)) bad here.0 in
      let qe : Holding = round.codriver_held in
      let is : w2 w ≡ carried_after present i round w = sym (carried-still qe present.codriver i.minute (w2 w))
      ∙ ap (λ (x : Fate). carried_brought Still qe present.codriver i.minute (carried_brought x pe present.driver i.minute (w1 w))) (sym fate)
      ∙ ap (λ (p : Holding). carried_brought Still qe present.codriver i.minute (carried_brought round.driver p present.driver i.minute (w1 w))) (sym holds)
      ∙ ap (λ (n : ℕ). carried_brought Still qe present.codriver i.minute (carried_brought round.driver round.driver_held present.driver i.minute (carried_kept i n w))) (sym at)
      ∙ ap (λ (x : Fate). carried_brought x qe present.codriver i.minute (carried_brought round.driver round.driver_held present.driver i.minute (carried_kept i round.clock w))) (sym still)
      ∙ carried-both present i round w two in (
        (subst (λ (v : RunLedger). DevicesUnpowered f v (devices V1 X1 Y1)) is cut, travelled-noted start (kept i w.book) (travelled i.minute leg g) (has f w start g leg may gone odometer short).2 whole run),
        timed-at f (reading_at m.minute m.odometer.0 ∷ []) U V X Y (devices V1 X1 Y1) here.1,
        λ well. clash well,
      )

  module _ (well : failed1 ≡ false) (failed : Bool) (fd : Fate) (k3 : Keeper) (by2 : k3 ≡ record k2 { cabin = cabin_by fd present.codriver second k2.cabin }) (V2 X2 Y2 : State)
      (other : BooksBrought present.codriver (kept_in m CoDriver) failed fd k2.cabin.cards k3.cabin.cards (devices V1 X1 Y1) (devices V2 X2 Y2))
      (rests_a : is_this present.codriver A ≡ false → X2.clock ≡ X1.clock) (rests_b : is_this present.codriver B ≡ false → Y2.clock ≡ Y1.clock)
      (whole1 : IsCoherent V) (run1 : LeavesOnly V V1 LeavesJournal) (whole2 : IsCoherent V1) (run2 : LeavesOnly V1 V2 LeavesJournal) where
    -- what the session of the co-driver's card holds
    abbrev pd : Holding
    pd = held_in (session_at k2.cabin.cards present.codriver)

    abbrev w3 : RunLedger → RunLedger
    w3 w = carried_brought fd pd present.codriver i.minute (w2 w)

    -- the clock of the driver's card is what it is at the end
    time-first : HaveTime (devices V2 X2 Y2) → (o : Option Card) → o ≡ present.driver → HasTime o (devices V1 X1 Y1)
    time-first time None is = tt
    time-first time (Some A) is =
        let same = rests_a (apart-both present.driver present.codriver two A (this-driver A (sym is))) in
        let low = time.card_a in
        omega (arith, same, low)
    time-first time (Some B) is =
        let same = rests_b (apart-both present.driver present.codriver two B (this-driver B (sym is))) in
        let low = time.card_b in
        omega (arith, same, low)

    none-left : (c : Card) → but_to present.codriver (but_to present.driver (owes_minute i)) c ≡ []
    none-left c = left-none (is_this present.driver c) (is_this present.codriver c) e d (on_card c i) (all-said m present says two c)

    short : HaveTime (devices V2 X2 Y2) → V.clock < last_count
    short time =
        let low = time.unit in
        let here = run1.later in
        let there = run2.later in
        omega (arith, low, here, there)

    behind : (f : Found) (w : RunLedger) (start : ℕ) (g : Travel) (leg : ℕ) → MayBook f w present m k.cabin.cards ms.items (devices U X Y) → HasTravelled start w.book g U → m.odometer.0 ≡ odometer_by (odometer_after start g.before) leg → HaveTime (devices V2 X2 Y2)
        → IsBroughtOrCut failed f (w3 w) (but_to present.codriver (but_to present.driver (owes_minute i))) k3.cabin.cards (devices V2 X2 Y2) × AreTimedOn f (reading_at m.minute m.odometer.0 ∷ []) (devices U X Y) (devices V2 X2 Y2)
        × AllKeep f (kept_on present m) k.cabin.cards k3.cabin.cards (devices U X Y) (devices V2 X2 Y2)
    behind f w start g leg may gone odometer time =
        let here = first f w start g leg may gone odometer (short time) (time-first time present.driver refl) in
        let lit = subst (λ (b : Bool). IsBroughtOrCut b f (w2 w) (but_to present.driver (owes_minute i)) k2.cabin.cards (devices V1 X1 Y1)) well here.0 in
        let next = other f (w2 w) (but_to present.driver (owes_minute i)) (found2 f w start g leg may gone odometer (short time))
        (may-bring f w i present.codriver (kept_in m CoDriver) (w2 w) (but_to present.driver (owes_minute i)) refl may.comes owes-codriver (λ c is. says-some m present says two c (inr (this-codriver c is)))
        (λ c is. ap (λ (a : Bool). if a then standing_by fe i.minute (w.standing c) else w.standing c) (not-driver c is))) lit.0 lit.1 (has-time present.codriver (devices V2 X2 Y2) time) in (
          next.0,
          timed-at f (reading_at m.minute m.odometer.0 ∷ []) U V X Y (devices V2 X2 Y2) (timed-then f (reading_at m.minute m.odometer.0 ∷ []) (devices V X Y) (devices V1 X1 Y1) (devices V2 X2 Y2) here.1 next.1),
          subst (λ (q : Cards). AllKeep f (kept_on present m) q k3.cabin.cards (devices U X Y) (devices V2 X2 Y2)) same
              (keep-at f (kept_on present m) k1.cabin.cards k3.cabin.cards U V X Y (devices V2 X2 Y2)
              (keep-then f (kept_for present.driver (kept_in m Driver)) (kept_for present.codriver (kept_in m CoDriver)) (kept_on present m) k1.cabin.cards k2.cabin.cards k3.cabin.cards (devices V X Y) (devices V1 X1 Y1) (devices V2 X2 Y2)
              (λ c. kept-both present m c (apart-both present.driver present.codriver two c)) here.2 next.2)),
        )

    -- all that there is to it
    pub booked-whole : (ms3 : Listed Mark) (bs3 : Listed Break) (round : Round) → round.clock ≡ V.clock → round.driver ≡ fe → round.codriver ≡ fd → round.driver_held ≡ pe → round.codriver_held ≡ pd
        → BooksMinute present m failed (Some round) (told-of k ms bs) (told-of k3 ms3 bs3) (devices U X Y) (devices V2 X2 Y2)
    booked-whole ms3 bs3 round at first_fate second_fate first_holds second_holds = λ f w start g leg may gone odometer time.
        let is : w3 w ≡ carried_after present i round w = ap (λ (x : Fate). carried_brought fd pd present.codriver i.minute (carried_brought x pe present.driver i.minute (w1 w))) (sym first_fate)
        ∙ ap (λ (p : Holding). carried_brought fd pd present.codriver i.minute (carried_brought round.driver p present.driver i.minute (w1 w))) (sym first_holds)
        ∙ ap (λ (n : ℕ). carried_brought fd pd present.codriver i.minute (carried_brought round.driver round.driver_held present.driver i.minute (carried_kept i n w))) (sym at)
        ∙ ap (λ (x : Fate). carried_brought x pd present.codriver i.minute (carried_brought round.driver round.driver_held present.driver i.minute (carried_kept i round.clock w))) (sym second_fate)
        ∙ ap (λ (q : Holding). carried_brought round.codriver q present.codriver i.minute (carried_brought round.driver round.driver_held present.driver i.minute (carried_kept i round.clock w))) (sym second_holds)
        ∙ carried-both present i round w two in
        let found3 = found-by f fd present.codriver second k2 k3 by2 (found2 f w start g leg may gone odometer (short time)) in
        let first_gone = travelled-noted start (kept i w.book) (travelled i.minute leg g) (has f w start g leg may gone odometer (short time)).2 whole1 run1 in
        let all = behind f w start g leg may gone odometer time in
        (by f w start g leg found3 round is failed all.0 (travelled-noted start (kept i w.book) (travelled i.minute leg g) first_gone whole2 run2), all.1, λ well. all.2)
      where
        by : (f : Found) (w : RunLedger) (start : ℕ) (g : Travel) (leg : ℕ) → AreFoundCards f k3.cabin.cards → (round : Round) → w3 w ≡ carried_after present i round w → (b : Bool)
            → IsBroughtOrCut b f (w3 w) (but_to present.codriver (but_to present.driver (owes_minute i))) k3.cabin.cards (devices V2 X2 Y2) → HasTravelled start (kept i w.book) (travelled i.minute leg g) V2
            → IsBooked f start w present i g leg b (Some round) k3.cabin.cards (devices V2 X2 Y2)
        by f w start g leg found round is false lit gone =
            let go = go-owes f (w3 w) (but_to present.codriver (but_to present.driver (owes_minute i))) owes_nothing k3.cabin.cards V2 X2 Y2 none-left lit.1 in
            let powered : DevicesPowered f (w3 w) k3.cabin.cards (devices V2 X2 Y2) = record {
              lit = lit-of f (w3 w) k3.cabin.cards (devices V2 X2 Y2) found (lit-owes f (w3 w) (but_to present.codriver (but_to present.driver (owes_minute i))) owes_nothing V2 X2 Y2 none-left lit.0) go;
              go = go;
            } in
            (subst (λ (v : RunLedger). DevicesPowered f v k3.cabin.cards (devices V2 X2 Y2)) is powered, gone)
        by f w start g leg found round is true cut gone = (subst (λ (v : RunLedger). DevicesUnpowered f v (devices V2 X2 Y2)) is cut, gone)
