-- What is carried, over an acceptance: the steps on unit and card that device_calls and run_devices have laws of.
use Rattle.std.proofs.Common.{◌≡◌, ◌∙◌, inl, inr, ℕ, ◌/◌, ◌≤◌, Bool, true, false, Option, Some, None, IfSome, is_some, List, [], ◌∷◌, All, refl, ap, sym, subst, ◌<◌, arith}
use Rattle.std.specs.Prelude.{not, option_map}
use Rattle.std.proofs.lemmas.List.Elements.{All-nil}
use Rattle.activity_codec.specs.declared.entries.Entry.{Entry}
use Rattle.activity_codec.specs.declared.values.Slot.{Slot}
use Rattle.trace_model.specs.declared.Card.{Card}
use Rattle.trace_model.specs.declared.Card.TheVariants.{A, B}
use Rattle.tach_media.proofs.Runs.{weaken, if_told}
use Rattle.tach_media.specs.Medium.{State, IsCoherent, LeavesOnly, HasCause}
use Rattle.tacho_types.specs.CardNumber.{card_number_bytes}
use Rattle.tacho_types.specs.declared.card_number.FullCardNumber.{FullCardNumber}
use Rattle.card_layout.specs.declared.files.Application.{Application}
use Rattle.card_layout.specs.Files.{image_size_of}
use Rattle.run_events.specs.card_files.declared.card_event.CardEvent.{CardEvent}
use Rattle.run_events.specs.card_files.Noting.{IsNotingEvent}
use Rattle.card_validity.specs.card_image.Judging.{IsValid}
use Rattle.card_validity.specs.card_image.Own.{own_sizes, IsOwnValid}
use Rattle.card_validity.specs.declared.looking.CardLook.{CardLook}
use Rattle.card_session.specs.Sessions.{Session, IsValue}
use Rattle.hand_model.specs.Holding.{none_held}
use Rattle.log_model.specs.declared.lines.Mark.{Mark}
use Rattle.device_calls.specs.history_model.Book.{Book}
use Rattle.device_calls.proofs.history_model.Books.{mark-earlier}
use Rattle.device_calls.specs.device_rule.Views.{other, row, owed_in}
use Rattle.device_calls.specs.device_rule.Marked.{of_card, HasBrought}
use Rattle.device_calls.proofs.device_rule.Owing.{owed-new}
use Rattle.device_calls.specs.device_rule.Rules.{Standing, Out, In, IsEntered}
use Rattle.device_calls.specs.unit_rule.Rule.{Started, IsCards}
use Rattle.device_calls.specs.unit_rule.Marks.{UnitFollowsBook}
use Rattle.unit_notes.specs.Journal.{LeavesJournal}
use Rattle.device_calls.specs.Rule.{Both, opened, number_of, card_seen, CardHolds, IsKeptUp, IsRowTaken}
use Rattle.run_crew.specs.declared.cards.Accepted.{Accepted}
use Rattle.run_crew.specs.declared.cards.Cards.{Cards}
use Rattle.run_crew.specs.declared.cabin.Cabin.{Cabin}
use Rattle.device_calls.specs.CardNotes.{IsNote}
use Rattle.run_crew.specs.Cards.{known_of, session_of, with_session}
use Rattle.run_crew.specs.Cabin.{with_accepted}
use Rattle.run_minutes.specs.run_promise.Found.{Found, found_of}
use Rattle.run_minutes.specs.run_promise.Between.{RunLedger}
use Rattle.device_calls.specs.safety_model.Safe.{Devices}
use Rattle.device_calls.specs.declared.entering.Entered.{Entered}
use Rattle.run_minutes.specs.run_devices.Told.{AreFoundCards, GoesOwing, DevicesPowered, DevicesUnpowered, arranged, for_card}
use Rattle.run_minutes.proofs.run_devices.Parts.{CardLit, AreParts, parts-of, powered-of, at-card, at-other}
use Rattle.device_calls.proofs.TimedCalls.{noting-timed}
use Rattle.run_minutes.proofs.run_devices.OnCards.{own-valid}
use Rattle.run_minutes.proofs.run_devices.Noted.{noted-powered, noted-powerless, noted-on, noted-off}
use Rattle.run_minutes.proofs.run_devices.Begun.{begun-powered, begun-powerless}
use Rattle.run_minutes.specs.declared.keeper.Keeper.{Keeper}
use Rattle.run_insertion.specs.declared.lines.Entering.{Entering}
use Rattle.run_insertion.specs.Entering.{and_one, seated, fallen, taken_as}
use Rattle.run_insertion.specs.Entered.{IsSeatedBy}
use Rattle.run_minutes.specs.CardDeeds.{DoesOn}
use Rattle.run_insertion.proofs.Opening.{does-note}
use Rattle.run_insertion.specs.Told.{IsCarriedOn, IsTakenOn, MaySeat, MayNote, BooksSeat, BooksNotes, BooksTaken, TimesOn, IsNotedBeside, TimesNotes, with_brought, carried_row, carried_seated, fallen_carried}

-- ---- a note on the unit

pub noted-carried : (c : Card) (f : Found) (w : RunLedger) (cards : Cards) (U V X Z : State) (failed : Bool) → AreFoundCards f cards → IsCoherent U → DevicesPowered f w cards (arranged c U X Z) → LeavesOnly U V LeavesJournal → HasCause U V failed → IsCarriedOn failed f w cards (arranged c V X Z)
noted-carried A f w cards U V X Z false found whole p run cause = noted-powered f w cards U V X Z found whole p run cause.works
noted-carried A f w cards U V X Z true found whole p run cause = noted-powerless f w cards U V X Z found whole p run
noted-carried B f w cards U V X Z false found whole p run cause = noted-powered f w cards U V Z X found whole p run cause.works
noted-carried B f w cards U V X Z true found whole p run cause = noted-powerless f w cards U V Z X found whole p run

-- ---- what was found of the cards

-- their numbers are those that they were
pub found-same : (f : Found) (cards after : Cards) → ((c : Card) → (known_of after c).number ≡ (known_of cards c).number) → AreFoundCards f cards → AreFoundCards f after
found-same f cards after same found = record {
  two = found.two;
  named = λ c valid. subst (λ (o : Option FullCardNumber). IfSome o (λ n. card_number_bytes n ≡ (found_of f c).number)) (sym (same c)) (found.named c valid);
  told = λ c valid. subst (λ (o : Option FullCardNumber). is_some o ≡ true) (sym (same c)) (found.told c valid);
  only = λ c has. found.only c (subst (λ (o : Option FullCardNumber). is_some o ≡ true) (same c) has);
  own = found.own;
  sizes = found.sizes;
  entries = found.entries;
  word = found.word;
}

-- a card that is accepted told the number that it had
pub found-seated : (f : Found) (slot : Slot) (which : Card) (number : FullCardNumber) (row : ℕ) (accepted : Accepted) (cabin : Cabin) → IsOwnValid (found_of f which).image → card_number_bytes number ≡ (found_of f which).number → AreFoundCards f cabin.cards → AreFoundCards f (with_accepted slot which number row accepted cabin).cards
found-seated f slot A number row accepted cabin sound is found = record { two = found.two; named = named; told = told; only = only; own = found.own; sizes = found.sizes; entries = found.entries; word = found.word }
  where
    named : (c : Card) → IsOwnValid (found_of f c).image → IfSome (known_of (with_accepted slot A number row accepted cabin).cards c).number (λ n. card_number_bytes n ≡ (found_of f c).number)
    named A valid = is
    named B valid = found.named B valid

    told : (c : Card) → IsOwnValid (found_of f c).image → is_some (known_of (with_accepted slot A number row accepted cabin).cards c).number ≡ true
    told A valid = refl
    told B valid = found.told B valid

    only : (c : Card) → is_some (known_of (with_accepted slot A number row accepted cabin).cards c).number ≡ true → IsOwnValid (found_of f c).image
    only A has = sound
    only B has = found.only B has
found-seated f slot B number row accepted cabin sound is found = record { two = found.two; named = named; told = told; only = only; own = found.own; sizes = found.sizes; entries = found.entries; word = found.word }
  where
    named : (c : Card) → IsOwnValid (found_of f c).image → IfSome (known_of (with_accepted slot B number row accepted cabin).cards c).number (λ n. card_number_bytes n ≡ (found_of f c).number)
    named A valid = found.named A valid
    named B valid = is

    told : (c : Card) → IsOwnValid (found_of f c).image → is_some (known_of (with_accepted slot B number row accepted cabin).cards c).number ≡ true
    told A valid = found.told A valid
    told B valid = refl

    only : (c : Card) → is_some (known_of (with_accepted slot B number row accepted cabin).cards c).number ≡ true → IsOwnValid (found_of f c).image
    only A has = found.only A has
    only B has = sound

pub has-session : (slot : Slot) (which : Card) (number : FullCardNumber) (row : ℕ) (accepted : Accepted) (cabin : Cabin) → session_of (with_accepted slot which number row accepted cabin).cards which ≡ Some accepted
has-session slot A number row accepted cabin = refl
has-session slot B number row accepted cabin = refl

pub others-session : (slot : Slot) (which : Card) (number : FullCardNumber) (row : ℕ) (accepted : Accepted) (cabin : Cabin) → session_of (with_accepted slot which number row accepted cabin).cards (other which) ≡ session_of cabin.cards (other which)
others-session slot A number row accepted cabin = refl
others-session slot B number row accepted cabin = refl

-- the number of the other card is spared
pub spared-number : (f : Found) (cards : Cards) (c : Card) → AreFoundCards f cards → IsOwnValid (found_of f c).image → option_map (λ (s : FullCardNumber). card_number_bytes s) (known_of cards c).number ≡ Some (found_of f c).number
spared-number f cards c found valid = by (known_of cards c).number (found.told c valid) (found.named c valid)
  where
    by : (o : Option FullCardNumber) → is_some o ≡ true → IfSome o (λ n. card_number_bytes n ≡ (found_of f c).number) → option_map (λ (s : FullCardNumber). card_number_bytes s) o ≡ Some (found_of f c).number
    by None some is = absurd (cc)
    by (Some number) some is = ap (λ (n : List ℕ). Some n) is

-- and it is one's of the cards
pub spared-card : (f : Found) (cards : Cards) (c : Card) → AreFoundCards f cards → (n : List ℕ) → option_map (λ (s : FullCardNumber). card_number_bytes s) (known_of cards c).number ≡ Some n → IsCards f.unit n
spared-card f cards c found n is = by (known_of cards c).number refl is
  where
    one : (a b : List ℕ) → Some a ≡ Some b → a ≡ b
    one a b same = cc

    none : None ≡ Some n → ⊥
    none same = cc

    by : (o : Option FullCardNumber) → (known_of cards c).number ≡ o → option_map (λ (s : FullCardNumber). card_number_bytes s) o ≡ Some n → IsCards f.unit n
    by None told bytes = absurd (none bytes)
    by (Some number) told bytes =
        let valid : IsOwnValid (found_of f c).image = found.only c (ap (λ (q : Option FullCardNumber). is_some q) told) in
        let named : card_number_bytes number ≡ (found_of f c).number = subst (λ (q : Option FullCardNumber). IfSome q (λ m. card_number_bytes m ≡ (found_of f c).number)) told (found.named c valid) in
        subst (IsCards f.unit) (sym named ∙ one (card_number_bytes number) n bytes) (found.own c valid)

-- ---- nothing is owed to a card that was put in

module _ (f : Found) (w : RunLedger) (cards : Cards) (c : Card) (U X Z : State) (found : AreFoundCards f cards) (second newest : ℕ) (entered : IsEntered (found_of f c).start (found_of f c).began second newest (of_card X)) (late : w.due ≤ second / 60) (p : DevicesPowered f w cards (arranged c U X Z)) where
  put-parts : AreParts f w cards c U X Z
  put-parts = parts-of f w cards c U X Z p

  -- its session is of a minute of which the unit has kept none
  nothing-owed : (k : ℕ) → HasBrought f.card_a.number f.card_b.number c k U X
  nothing-owed k u x on there =
      let held = put-parts.unit.unit.unit_holds f.card_a.number f.card_b.number in
      let last : u.last < w.due = mark-earlier f.unit.first w.due w.book u.last held.order (held.now u on).mark in
      subst (All (λ (e : Entry). k < e.minute)) (sym (ap (λ (s : ℕ). owed_in (row c u) u.last s x.mark) (entered.session x there) ∙ owed-new (row c u) u.last second x.mark (omega (arith, last, late)))) (All-nil (λ (e : Entry). k < e.minute))

  -- so an acceptance has brought all
  pub brought-powered : (kept : ℕ) → DevicesPowered f (with_brought c kept w) cards (arranged c U X Z)
  brought-powered kept = powered-of f (with_brought c kept w) cards c U X Z found (record {
    unit = record { tells = put-parts.unit.tells; works = put-parts.unit.works; unit = put-parts.unit.unit; none = put-parts.unit.none };
    mine = λ valid.
        let one = put-parts.mine valid in
        at-card c (kept ∷ w.brought c) w.brought (λ (ks : List ℕ). CardLit f w.book (w.standing c) (w.hands c) (w.firsts c) ks (session_of cards c) c U X)
        (record { rule = one.rule; valid = one.valid; rises = one.rises; brought = λ k in_. nothing-owed k; held = one.held; hands = one.hands; goes = one.goes });
    others = λ valid. at-other c (kept ∷ w.brought c) w.brought (λ (ks : List ℕ). CardLit f w.book (w.standing (other c)) (w.hands (other c)) (w.firsts (other c)) ks (session_of cards (other c)) (other c) U Z) (put-parts.others valid);
    marks_mine = put-parts.marks_mine;
    marks_others = put-parts.marks_others;
  })

-- ---- A CARD IS SEATED: its insertion was noted, and its row is begun

module _ (f : Found) (w : RunLedger) (k : Keeper) (e : Entering) (look : CardLook) (session : Session) (row entry noted : ℕ) (U V W X Z : State) (m : MaySeat f w k e look session U X Z) (whole : IsCoherent U) (middle : IsCoherent V) (run : LeavesOnly U V LeavesJournal) (cause : HasCause U V false)
    (spared : Option (List ℕ)) (same : spared ≡ option_map (λ (s : FullCardNumber). card_number_bytes s) (known_of k.cabin.cards (other e.which)).number) (failed : Bool) (began : HasCause V W failed) (tells : is_some W.image ≡ is_some V.image)
    (holds : (s : Started) (due : ℕ) (b : Book) (marks : List Mark) → IsCards s (card_number_bytes look.number) → ((n : List ℕ) → spared ≡ Some n → IsCards s n) → UnitFollowsBook s due b marks V → UnitFollowsBook s due b marks W)
    (mine : (r : Both) (s : Started) (due : ℕ) (b : Book) (marks : List Mark) (newest : ℕ) → card_number_bytes look.number ≡ number_of r e.which → UnitFollowsBook s due b marks V → due ≤ e.at.second / 60 → CardHolds r e.which b Out [] [] V X → IsEntered (opened r e.which).start (opened r e.which).began e.at.second newest (card_seen X)
    → IsRowTaken r e.which b e.at.second newest failed W X)
    (others : (r : Both) (s : Started) (due : ℕ) (b : Book) (marks : List Mark) (z : Standing) (n d : List Entry) → card_number_bytes look.number ≡ number_of r e.which → spared ≡ Some (number_of r (other e.which)) → CardHolds r (other e.which) b z n d V Z → IsKeptUp r (other e.which) b z n d failed W Z) where
  abbrev accepted : Accepted
  accepted = record { session = session; held = none_held (e.at.second / 60); entry = entry; noted = and_one noted }

  noted-so : DevicesPowered f w k.cabin.cards (arranged e.which V X Z)
  noted-so = noted-carried e.which f w k.cabin.cards U V X Z false m.found whole m.powered run cause

  spares : IsOwnValid (found_of f (other e.which)).image → spared ≡ Some (found_of f (other e.which)).number
  spares valid = same ∙ spared-number f k.cabin.cards (other e.which) m.found valid

  spare : (n : List ℕ) → spared ≡ Some n → IsCards f.unit n
  spare n told = spared-card f k.cabin.cards (other e.which) m.found n (sym same ∙ told)

  pub seat-carried : (kept : ℕ) → IsCarriedOn failed f (carried_row failed session e kept w) (seated look session row entry noted e k.cabin).cards (arranged e.which W X Z)
  seat-carried kept = by failed refl
    where
      by : (b : Bool) → failed ≡ b → IsCarriedOn b f (carried_row b session e kept w) (seated look session row entry noted e k.cabin).cards (arranged e.which W X Z)
      by false well = begun-powered f w k.cabin.cards e.which V W X Z m.found middle e.at.second accepted m.valid m.out m.put noted-so m.late (card_number_bytes look.number) spared failed holds mine others tells m.named spares spare
          well (began.works ∙ ap not well) kept (seated look session row entry noted e k.cabin).cards (found-seated f e.slot e.which look.number row accepted k.cabin m.valid m.named m.found)
          (has-session e.slot e.which look.number row accepted k.cabin) (others-session e.slot e.which look.number row accepted k.cabin)
      by true bad = begun-powerless f (with_brought e.which kept w) k.cabin.cards e.which V W X Z m.found middle e.at.second accepted m.valid m.out m.put
          (brought-powered f w k.cabin.cards e.which V X Z m.found e.at.second session.minute m.put.entered m.late noted-so kept) m.late (card_number_bytes look.number) spared failed holds mine others tells m.named spares spare

-- ---- THE CARD IS NOTED ON: that the vehicle moves, on unit and card

pub session-none : (c : Card) (cards : Cards) → session_of (with_session c None cards) c ≡ None
session-none A cards = refl
session-none B cards = refl

pub session-others : (c : Card) (cards : Cards) → session_of (with_session c None cards) (other c) ≡ session_of cards (other c)
session-others A cards = refl
session-others B cards = refl

pub number-still : (c : Card) (session : Option Accepted) (cards : Cards) (d : Card) → (known_of (with_session c session cards) d).number ≡ (known_of cards d).number
number-still A session cards A = refl
number-still A session cards B = refl
number-still B session cards A = refl
number-still B session cards B = refl

module _ (f : Found) (w : RunLedger) (app : Application) (a : Accepted) (e : Entering) (k : Keeper) (U V X Z : State) (m : MayNote f w k.cabin.cards e app a (arranged e.which U X Z)) (whole : IsCoherent U) (run : LeavesOnly U V LeavesJournal) where
  -- the unit failed
  pub moved-cut : HasCause U V true → DevicesUnpowered f w (arranged e.which V X Z)
  moved-cut cause = noted-carried e.which f w k.cabin.cards U V X Z true m.found whole m.powered run cause

  on-sizes : app ≡ own_sizes (found_of f e.which).image
  on-sizes =
      let one = (parts-of f w k.cabin.cards e.which U X Z m.powered).mine m.valid in
      let on = subst (λ (o : Option Accepted). GoesOwing (found_of f e.which) (w.hands e.which) e.which w.book [] (w.standing e.which) o X) m.has one.goes in
      sym m.sizes ∙ on.goes.0.sizes

  module _ (cause : HasCause U V false) (after : IsCoherent V) (before : IsCoherent X) (Y : State) (behind : IsCoherent Y) (event : CardEvent) (noting : LeavesOnly X Y (IsNotingEvent app event)) where
    on-card : DevicesPowered f w k.cabin.cards (arranged e.which V X Z)
    on-card = noted-carried e.which f w k.cabin.cards U V X Z false m.found whole m.powered run cause

    is-note : LeavesOnly X Y (IsNote (own_sizes (found_of f e.which).image))
    is-note = weaken noting (λ x c was is. inl (event, subst (λ (p : Application). IsNotingEvent p event x c) on-sizes is))

    -- both have it
    pub moved-kept : X.works ≡ true → HasCause X Y false → image_size_of app ≤ X.size → DevicesPowered f w k.cabin.cards (arranged e.which V Y Z)
    moved-kept works well room = noted-on f w k.cabin.cards e.which V X Y Z m.found after before behind a m.value m.has on-card is-note works well.works (subst (λ (p : Application). image_size_of p ≤ X.size) on-sizes room)

    -- it was last used as before
    moved-times : TimesOn f e.which X Y
    moved-times timed =
        let one = (parts-of f w k.cabin.cards e.which U X Z m.powered).mine m.valid in
        noting-timed (found_of f e.which).image (found_of f e.which).began X Y one.rule.dark.later before timed (own_sizes (found_of f e.which).image) (m.found.sizes e.which m.valid)
        (if_told X.image (λ x. own_sizes x ≡ own_sizes (found_of f e.which).image) (λ x is. (one.held.now x (before.is_left x is)).0))
        (if_told X.image (IsValid (own_sizes (found_of f e.which).image)) (λ x is.
        own-valid (own_sizes (found_of f e.which).image) x (one.held.now x (before.is_left x is)).0 (one.valid x (before.counts_now (found_of f e.which).began x one.rule.dark.later (before.is_left x is)))))
        is-note

    moved-does : DoesOn (own_sizes (found_of f e.which).image) [] X Y
    moved-does =
        let one = (parts-of f w k.cabin.cards e.which U X Z m.powered).mine m.valid in
        does-note (own_sizes (found_of f e.which).image) (m.found.sizes e.which m.valid) X Y before (λ x is.
        own-valid (own_sizes (found_of f e.which).image) x (one.held.now x (before.is_left x is)).0 (one.valid x (before.counts_now (found_of f e.which).began x one.rule.dark.later (before.is_left x is)))) is-note

    pub moved-timed : IsNotedBeside f e.which X Y
    moved-timed = (moved-times, moved-does)

    -- the card failed: it is torn out, and the fault is noted
    pub moved-torn : (failed : Bool) (v : Keeper) (W : State) → v ≡ fallen true e k → LeavesOnly V W LeavesJournal → HasCause V W failed → IsCarriedOn failed f (fallen_carried true e a.session.minute w) v.cabin.cards (arranged e.which W Y Z)
    moved-torn failed v W torn tearing fault =
        let left : Cards = with_session e.which None k.cabin.cards in
        let found : AreFoundCards f left = found-same f k.cabin.cards left (number-still e.which None k.cabin.cards) m.found in
        let off : DevicesPowered f (fallen_carried true e a.session.minute w) left (arranged e.which V Y Z) =
        noted-off f w k.cabin.cards e.which V X Y Z m.found after before behind a m.value m.has on-card is-note e.at.second (e.at.second / 60) left found (session-none e.which k.cabin.cards) (session-others e.which k.cabin.cards) (λ valid. m.stands) in
        let booked : IsCarriedOn failed f (fallen_carried true e a.session.minute w) left (arranged e.which W Y Z) = noted-carried e.which f (fallen_carried true e a.session.minute w) left V W Y Z failed found after off tearing fault in
        subst (λ (q : Keeper). IsCarriedOn failed f (fallen_carried true e a.session.minute w) q.cabin.cards (arranged e.which W Y Z)) (sym torn) booked

-- what was found, behind the notes
pub found-fallen : (fell : Bool) (f : Found) (e : Entering) (k v : Keeper) → v ≡ fallen fell e k → AreFoundCards f k.cabin.cards → AreFoundCards f v.cabin.cards
found-fallen false f e k v is found = subst (λ (q : Keeper). AreFoundCards f q.cabin.cards) (sym is) found
found-fallen true f e k v is found = subst (λ (q : Keeper). AreFoundCards f q.cabin.cards) (sym is) (found-same f k.cabin.cards (with_session e.which None k.cabin.cards) (number-still e.which None k.cabin.cards) found)

-- and that the last session was not closed
pub unclosed-carried : (app : Application) (e : Entering) (k v : Keeper) (fell : Bool) (U V W X Y Z : State) (failed : Bool) → v ≡ fallen fell e k → IsCoherent V → BooksNotes app e false k v fell (arranged e.which U X Z) (arranged e.which V Y Z) → LeavesOnly V W LeavesJournal → HasCause V W failed
    → BooksNotes app e failed k v fell (arranged e.which U X Z) (arranged e.which W Y Z)
unclosed-carried app e k v fell U V W X Y Z failed is whole books run cause = λ f w a m.
    noted-carried e.which f (fallen_carried fell e a.session.minute w) v.cabin.cards V W Y Z failed (found-fallen fell f e k v is m.found) whole (books f w a m) run cause

-- what was found of the cards is so still where one is seated, or is not
pub seat-found : (look : CardLook) (session : Session) (row : ℕ) (e : Entering) (failed : Bool) (k v : Keeper) (noted noted_after : ℕ) (unit : Option (List ℕ)) (entry : Option ℕ) → IsSeatedBy look session row e failed k v noted noted_after unit entry → (f : Found) → IsOwnValid (found_of f e.which).image
    → card_number_bytes look.number ≡ (found_of f e.which).number → AreFoundCards f k.cabin.cards → AreFoundCards f v.cabin.cards
seat-found look session row e failed k v noted noted_after unit None s f valid named found = subst (λ (q : Keeper). AreFoundCards f q.cabin.cards) (sym s.1) found
seat-found look session row e failed k v noted noted_after unit (Some entry) s f valid named found =
    subst (λ (q : Keeper). AreFoundCards f q.cabin.cards) (sym s.1) (found-seated f e.slot e.which look.number row (record { session = session; held = none_held (e.at.second / 60); entry = entry; noted = and_one noted }) k.cabin valid named found)

-- ---- A CARD IS TAKEN IN

-- the unit failed as it was seated
pub taken-row : (entered : Entered) (clock : ℕ) (e : Entering) (kept : ℕ) (f : Found) (w : RunLedger) (cards : Cards) (d : Devices) (entry : Option ℕ) → DevicesUnpowered f (with_brought e.which kept w) d → IsTakenOn (taken_as false entered clock entry) true e kept f w cards d
taken-row entered clock e kept f w cards d None p = p
taken-row entered clock e kept f w cards d (Some entry) p = inl p

stands-at : (c : Card) (t : Standing) (had : Card → Standing) → for_card c t had c ≡ t
stands-at A t had = refl
stands-at B t had = refl

lost-or-seated : (fell failed : Bool) (entered : Entered) (clock entry : ℕ) (e : Entering) (kept : ℕ) (f : Found) (w : RunLedger) (cards : Cards) (d : Devices) → IsCarriedOn failed f (fallen_carried fell e entered.session.minute (carried_seated entered.session e kept w)) cards d
    → IsTakenOn (taken_as fell entered clock (Some entry)) failed e kept f w cards d
lost-or-seated false false entered clock entry e kept f w cards d p = p
lost-or-seated false true entered clock entry e kept f w cards d p = inr p
lost-or-seated true failed entered clock entry e kept f w cards d p = p

not_failed : false ≡ true → ⊥
not_failed e = cc

module _ (app : Application) (e : Entering) (entered : Entered) (clock : ℕ) (k : Keeper) (noted : ℕ) (fell failed : Bool) (k1 v : Keeper) (noted_after : ℕ) (U V W X Y Z : State) where
  -- it is seated, and noted on
  pub taken-notes : v ≡ fallen fell e k1 → (entry : Option ℕ) → IsSeatedBy entered.look entered.session entered.row e false k k1 noted noted_after U.image entry → entered.session.application ≡ app → BooksSeat entered.look entered.session e false k k1 U V X Z → IsValue entered.session
      → BooksNotes app e failed k1 v fell (arranged e.which V X Z) (arranged e.which W Y Z)
      → TimesNotes app e k1 (arranged e.which V X Z) X Y → BooksTaken entered (taken_as fell entered clock entry) e failed k v U W X Y Z
  taken-notes is None s sizes seat value notes times = absurd (not_failed s.0)
  taken-notes is (Some entry) s sizes seat value notes times = λ f w m.
      let a : Accepted = record { session = entered.session; held = none_held (e.at.second / 60); entry = entry; noted = and_one noted } in
      let may : MayNote f (carried_seated entered.session e k.journal.kept w) k1.cabin.cards e app a (arranged e.which V X Z) = record {
        found = subst (λ (q : Keeper). AreFoundCards f q.cabin.cards) (sym s.1) (found-seated f e.slot e.which entered.look.number entered.row a k.cabin m.valid m.named m.found);
        powered = seat f w m;
        valid = m.valid;
        has = subst (λ (q : Keeper). session_of q.cabin.cards e.which ≡ Some a) (sym s.1) (has-session e.slot e.which entered.look.number entered.row a k.cabin);
        value = value;
        sizes = sizes;
        stands = stands-at e.which (In e.at.second entered.session.minute) w.standing;
      } in (
        lost-or-seated fell failed entered clock entry e k.journal.kept f w v.cabin.cards (arranged e.which W Y Z) (notes f (carried_seated entered.session e k.journal.kept w) a may),
        found-fallen fell f e k1 v is (seat-found entered.look entered.session entered.row e false k k1 noted noted_after U.image (Some entry) s f m.valid m.named m.found),
        times f (carried_seated entered.session e k.journal.kept w) a may,
      )
