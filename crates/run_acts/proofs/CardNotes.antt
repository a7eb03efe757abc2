-- The events that the cards show behind the note of an interruption.
use Rattle.std.proofs.Common.{◌≡◌, ◌⊎◌, ◌∙◌, inl, inr, ⊎_elim, ℕ, ◌+◌, ◌≤◌, Bool, true, false, cond, Option, Some, None, IfSome, is_some, List, [], ◌∷◌, ◌++◌, refl, sym, ap, subst, arith}
use Rattle.std.specs.Prelude.{Ok, ◌||◌, not}
use Rattle.activity_codec.proofs.ByTest.{by_test}
use Rattle.activity_codec.specs.declared.values.Slot.{Slot}
use Rattle.activity_codec.specs.declared.values.Slot.TheVariants.{Driver, CoDriver}
use Rattle.trace_model.specs.declared.Card.{Card}
use Rattle.trace_model.specs.declared.Card.TheVariants.{A, B}
use Rattle.log_model.specs.Slots.{same_card}
use Rattle.log_model.specs.declared.lines.Break.{Break}
use Rattle.tach_media.specs.Medium.{State, IsCoherent, LeavesOnly}
use Rattle.tach_media.proofs.Runs.{at_image}
use Rattle.card_files.specs.card_layout.declared.command.CardState.{CardState}
use Rattle.card_files.specs.card_layout.declared.files.Application.{Application}
use Rattle.card_files.specs.declared.card_event.CardEvent.{CardEvent}
use Rattle.card_files.proofs.card_layout.Images.{part_before}
use Rattle.tacho_types.specs.declared.places.PlaceEntry.{PlaceEntry}
use Rattle.tacho_types.specs.declared.card_number.FullCardNumber.{FullCardNumber}
use Rattle.card_files.specs.card_layout.Files.{files_of, place_of, size_of}
use Rattle.run_events.specs.gated_ring.Ring.{size_of as ring_size}
use Rattle.card_files.specs.Noting.{IsNotingEvent, IsEventNoted, IsNotingPlace}
use Rattle.card_files.specs.Rings.{file, place_ring}
use Rattle.run_crew.specs.card_slots.declared.seats.Seat.{Seat}
use Rattle.run_crew.specs.card_slots.Calls.{is_card, card_in, seat_in}
use Rattle.run_crew.specs.declared.cards.Accepted.{Accepted}
use Rattle.run_crew.specs.declared.cards.Known.{Known}
use Rattle.run_crew.specs.declared.cards.Cards.{Cards}
use Rattle.run_crew.specs.declared.cabin.Cabin.{Cabin}
use Rattle.run_crew.specs.Cards.{known_of, session_of, accepted_number, IsKnown}
use Rattle.run_crew.specs.Cabin.{CabinIsSound, AreTwo, left_from, slot_with, number_of_seat}
use Rattle.run_outcome.specs.Lines.{Listed}
use Rattle.run_minutes.specs.declared.keeper.Moment.{Moment}
use Rattle.run_minutes.specs.Keeping.{CardMayBeCalled}
use Rattle.device_calls.specs.safety_model.Safe.{Devices, card_of}
use Rattle.tacho_types.specs.declared.texts.Registration.{Registration}
use Rattle.run_minutes.specs.unit_memory.declared.format.Identity.{Identity}
use Rattle.run_minutes.specs.unit_memory.declared.memory.UnitFacts.{UnitFacts}
use Rattle.unit_notes.specs.declared.unit_event.UnitEvent.{UnitEvent}
use Rattle.run_events.specs.Entries.{card_entry}
use Rattle.unit_notes.specs.event_model.declared.kinds.TheConstants.{POWER_INTERRUPTION, SESSION_NOT_CLOSED}
use Rattle.run_insertion.specs.CardEvents.{ShowsMore, NotesOnCard, IsPlain}
use Rattle.run_insertion.proofs.CardTables.{all-shown, all-showing, same-file}
use Rattle.run_insertion.proofs.CardInserted.{shows-nothing, shows-unbegun, shows-whole, shows-by}
use Rattle.run_insertion.proofs.CardBrought.{shows-both, shows-first}
use Rattle.run_acts.specs.declared.run.Run.{Run}
use Rattle.run_acts.specs.Acting.{noted_run, IsNotedIn}
use Rattle.run_acts.specs.CardNotes.{NotesOn, NotesOnCards, on_seat}

-- ---- what is noted

pub plain-gap : (event : CardEvent) → event.kind ≡ POWER_INTERRUPTION → IsPlain event
plain-gap event is = (inr (inr is), λ other. let wrong : POWER_INTERRUPTION ≡ SESSION_NOT_CLOSED = sym is ∙ other in absurd (omega (arith, wrong)))

pub entry-is : (event : UnitEvent) (noted : CardEvent) (told : Identity) (known : UnitFacts) → noted ≡ card_entry event told.registration → told.registration ≡ known.registration → noted ≡ card_entry event known.registration
entry-is event noted told known is same = is ∙ ap (λ (r : Registration). card_entry event r) same

pub both-cards : (P : Card → Type 0) → P A → P B → (card : Card) → P card
both-cards P a b A = a
both-cards P a b B = b

-- ---- one event on a card that works

module _ (app : Application) (event : CardEvent) (plain : IsPlain event) (X Y : State) (whole : IsCoherent X) where
  pub noted-well : IsCoherent Y → X.works ≡ true → Y.works ≡ true → LeavesOnly X Y (IsNotingEvent app event) → IfSome X.image (λ x. IfSome Y.image (IsEventNoted app event x)) → NotesOnCard app (event ∷ []) false X Y
  noted-well after works well run noted c left =
      let there : Y.image ≡ Some c = after.only c well left in
      let was : (x : List ℕ) × (X.image ≡ Some x) = ⊎_elim (λ before. (c, whole.only c works before)) (λ one. (one.0, one.1)) (run.now c left) in
      let is = at_image (IsEventNoted app event was.0) there (at_image (λ (l : List ℕ). IfSome Y.image (IsEventNoted app event l)) was.1 noted) in
      (was.0, whole.is_left was.0 was.1, all-shown app (event ∷ []) (plain, tt) was.0 c (c, is, refl))

  pub noted-cut : LeavesOnly X Y (IsNotingEvent app event) → NotesOnCard app (event ∷ []) true X Y
  noted-cut run c left = ⊎_elim
      (λ was. (c, was, shows-unbegun app (event ∷ []) c c (λ kind. refl)))
      (λ one. (one.0, whole.is_left one.0 one.1, all-showing app (event ∷ []) (plain, tt) one.0 c (inl one.2)))
      (run.now c left)

-- a place leaves the events
events-low : (app : Application) → place_of app (file 0x0502) + size_of app (file 0x0502) ≤ (place_ring app).base
unfolding files_of
events-low app = omega arith

pub place-noted : (app : Application) (entry : PlaceEntry) (cut : Bool) (X Y : State) → IsCoherent X → LeavesOnly X Y (IsNotingPlace app entry) → NotesOnCard app [] cut X Y
place-noted app entry cut X Y whole run c left = ⊎_elim
    (λ was. (c, was, shows-nothing app cut c c (λ kind. refl)))
    (λ one. (
      one.0,
      whole.is_left one.0 one.1,
      shows-nothing app cut one.0 c (same-file app one.0 c (part_before (place_ring app).base (ring_size (place_ring app)) (place_of app (file 0x0502)) (size_of app (file 0x0502)) one.0 c one.2.outside (events-low app))),
    ))
    (run.now c left)

-- ---- of a card by its session

-- no note
pub on-none : (failed : Bool) (session : Option Accepted) (X : State) → NotesOn failed session session [] X X
on-none failed None X = λ c left. left
on-none failed (Some a) X = λ c left. (c, left, shows-nothing a.session.application (failed || not true) c c (λ kind. refl))

-- none yet
pub on-unbegun : (session after : Option Accepted) (events : List CardEvent) (X : State) → NotesOn true session after events X X
on-unbegun None after events X = λ c left. left
on-unbegun (Some a) after events X = λ c left. (c, left, shows-unbegun a.session.application events c c (λ kind. refl))

-- by the sizes of its session
pub on-session : (card : Card) (cards : Cards) (app : Application) (chip : CardState) (X Y : State) (after : Option Accepted) (events : List CardEvent) → CardMayBeCalled (known_of cards card) chip X → (known_of cards card).sizes ≡ Ok app → is_some (session_of cards card) ≡ true
    → NotesOnCard app events (not (is_some after)) X Y → NotesOn false (session_of cards card) after events X Y
on-session A cards app chip X Y after events ready told some noted = by cards.a.accepted refl
  where
    by : (o : Option Accepted) → cards.a.accepted ≡ o → NotesOn false o after events X Y
    by None is = absurd (let wrong : false ≡ true = ap (λ (o : Option Accepted). is_some o) (sym is) ∙ some in cc)
    by (Some a) is =
        let sized = subst (λ (o : Option Accepted). IfSome o (λ a. cards.a.sizes ≡ Ok a.session.application)) is ready.is_known.sized in
        let same : app ≡ a.session.application = cc in
        subst (λ (p : Application). NotesOnCard p events (not (is_some after)) X Y) same noted
on-session B cards app chip X Y after events ready told some noted = by cards.b.accepted refl
  where
    by : (o : Option Accepted) → cards.b.accepted ≡ o → NotesOn false o after events X Y
    by None is = absurd (let wrong : false ≡ true = ap (λ (o : Option Accepted). is_some o) (sym is) ∙ some in cc)
    by (Some a) is =
        let sized = subst (λ (o : Option Accepted). IfSome o (λ a. cards.b.sizes ≡ Ok a.session.application)) is ready.is_known.sized in
        let same : app ≡ a.session.application = cc in
        subst (λ (p : Application). NotesOnCard p events (not (is_some after)) X Y) same noted

-- ---- the card of a seat

pub seat-is : (seat : Option Seat) (card : Card) → card_in seat ≡ Some card → is_card seat card ≡ true
seat-is None card is = absurd (let wrong : None ≡ Some card = is in cc)
seat-is (Some seat) card is = let same : seat.card ≡ card = cc in subst (λ (c : Card). same_card c card ≡ true) (sym same) (itself card)
  where
    itself : (c : Card) → same_card c c ≡ true
    itself A = refl
    itself B = refl

pub seat-other : (seat : Option Seat) (card other : Card) → card_in seat ≡ Some card → same_card card other ≡ false → is_card seat other ≡ false
seat-other None card other is ne = refl
seat-other (Some seat) card other is ne = let same : seat.card ≡ card = cc in subst (λ (c : Card). same_card c other ≡ false) (sym same) ne

pub seat-none : (seat : Option Seat) (card : Card) → card_in seat ≡ None → is_card seat card ≡ false
seat-none None card is = refl
seat-none (Some seat) card is = absurd (let wrong : Some seat.card ≡ None = is in cc)

pub on-seat : (seat : Option Seat) (event : CardEvent) (card : Card) → is_card seat card ≡ true → on_seat seat event card ≡ event ∷ []
on-seat seat event card is = ap (λ (b : Bool). cond b (event ∷ []) []) is

pub off-seat : (seat : Option Seat) (event : CardEvent) (card : Card) → is_card seat card ≡ false → on_seat seat event card ≡ []
off-seat seat event card is = ap (λ (b : Bool). cond b (event ∷ []) []) is

pub on-as : (failed : Bool) (session after : Option Accepted) (es fs : List CardEvent) (X Y : State) → es ≡ fs → NotesOn failed session after es X Y → NotesOn failed session after fs X Y
on-as failed session after es fs X Y same is = subst (λ (l : List CardEvent). NotesOn failed session after l X Y) same is

-- another card than that of the seat
pub on-other : (failed : Bool) (seat : Option Seat) (event : CardEvent) (card : Card) (session after : Option Accepted) (X : State) → is_card seat card ≡ false → after ≡ session → NotesOn failed session after (on_seat seat event card) X X
on-other failed seat event card session after X other same =
    on-as failed session after [] (on_seat seat event card) X X (sym (off-seat seat event card other)) (subst (λ (o : Option Accepted). NotesOn failed session o [] X X) (sym same) (on-none failed session X))

-- the card of a seat that is not accepted has no session
pub bare-seat : (cards : Cards) (seat : Option Seat) (event : CardEvent) (a : IsKnown cards.a) (b : IsKnown cards.b) → number_of_seat cards seat ≡ None → (card : Card) (X : State) → NotesOn false (session_of cards card) (session_of cards card) (on_seat seat event card) X X
bare-seat cards seat event a b unnamed card X = by_test (is_card seat card)
    (λ is. subst (λ (o : Option Accepted). NotesOn false o o (on_seat seat event card) X X) (sym (bare seat card unnamed is)) (λ c left. left))
    (λ is. on-other false seat event card (session_of cards card) (session_of cards card) X is refl)
  where
    same : (c d : Card) → same_card c d ≡ true → c ≡ d
    same A A is = refl
    same B B is = refl
    same A B is = absurd (let wrong : false ≡ true = is in cc)
    same B A is = absurd (let wrong : false ≡ true = is in cc)

    gone : (known : Known) → IsKnown known → accepted_number known ≡ None → known.accepted ≡ None
    gone known is unnamed = by known.accepted refl
      where
        by : (o : Option Accepted) → known.accepted ≡ o → known.accepted ≡ None
        by None at = at
        by (Some a) at =
            let some = subst (λ (o : Option Accepted). IfSome o (λ a. is_some known.number ≡ true)) at is.numbered in
            let told : known.number ≡ None = ap (λ (o : Option Accepted). cond (is_some o) known.number None) (sym at) ∙ unnamed in
            absurd (let wrong : is_some known.number ≡ false = ap (λ (o : Option FullCardNumber). is_some o) told in cc)

    of : (c : Card) → accepted_number (known_of cards c) ≡ None → session_of cards c ≡ None
    of A unnamed = gone cards.a a unnamed
    of B unnamed = gone cards.b b unnamed

    bare : (seat : Option Seat) (card : Card) → number_of_seat cards seat ≡ None → is_card seat card ≡ true → session_of cards card ≡ None
    bare None card unnamed is = absurd (let wrong : false ≡ true = is in cc)
    bare (Some seat) card unnamed is = subst (λ (c : Card). session_of cards c ≡ None) (same seat.card card is) (of seat.card unnamed)

-- ---- both slots

-- a session is as it was behind a note on a slot's card, or gone
pub session-noted : (o : Option Card) (slot : Slot) (at : Moment) (old new : Run) (breaks after : Listed Break) (fell : Bool) → IsNotedIn o slot at old new breaks after fell → (card : Card)
    → (session_of new.keeper.cabin.cards card ≡ session_of old.keeper.cabin.cards card) ⊎ (session_of new.keeper.cabin.cards card ≡ None)
session-noted None slot at old new breaks after fell is card = inl (ap (λ (r : Run). session_of r.keeper.cabin.cards card) is.0)
session-noted (Some one) slot at old new breaks after fell is card =
    subst (λ (r : Run). (session_of r.keeper.cabin.cards card ≡ session_of old.keeper.cabin.cards card) ⊎ (session_of r.keeper.cabin.cards card ≡ None)) (sym is.0.run) (by fell one card)
  where
    by : (fell : Bool) (one card : Card) → (session_of (noted_run fell one at.second old).keeper.cabin.cards card ≡ session_of old.keeper.cabin.cards card) ⊎ (session_of (noted_run fell one at.second old).keeper.cabin.cards card ≡ None)
    by false one card = inl refl
    by true A A = inr refl
    by true B B = inr refl
    by true A B = inl refl
    by true B A = inl refl

-- the co-driver's seat is as it was behind a note on the driver's card
codriver-noted : (seat : Option Seat) (at : Moment) (old new : Run) (breaks after : Listed Break) (fell : Bool) → old.keeper.cabin.slots.seats.driver ≡ seat → IsNotedIn (card_in seat) Driver at old new breaks after fell → new.keeper.cabin.slots.seats.codriver ≡ old.keeper.cabin.slots.seats.codriver
codriver-noted None at old new breaks after fell was is = ap (λ (r : Run). r.keeper.cabin.slots.seats.codriver) is.0
codriver-noted (Some seat) at old new breaks after false was is = ap (λ (r : Run). r.keeper.cabin.slots.seats.codriver) is.0.run
codriver-noted (Some seat) at old new breaks after true was is =
    ap (λ (r : Run). r.keeper.cabin.slots.seats.codriver) is.0.run
    ∙ ap (λ (o : Option Slot). (left_from o at.second old.keeper.cabin.slots).seats.codriver) there
  where
    there : slot_with old.keeper.cabin.slots.seats seat.card ≡ Some Driver
    there = ap (λ (b : Bool). cond b (Some Driver) (cond (is_card old.keeper.cabin.slots.seats.codriver seat.card) (Some CoDriver) None))
        (seat-is old.keeper.cabin.slots.seats.driver seat.card (ap (λ (o : Option Seat). card_in o) was))

-- two seats have two cards
two-seats : (driver codriver : Option Seat) (card : Card) → AreTwo (card_in driver) (card_in codriver) → is_card driver card ≡ true → is_card codriver card ≡ false
two-seats None codriver card two is = absurd (let wrong : false ≡ true = is in cc)
two-seats (Some one) None card two is = refl
two-seats (Some one) (Some other) card two is = by one.card other.card card two is
  where
    by : (one other card : Card) → same_card one other ≡ false → same_card one card ≡ true → same_card other card ≡ false
    by A B A two is = refl
    by B A B two is = refl
    by A A card two is = absurd (let wrong : true ≡ false = two in cc)
    by B B card two is = absurd (let wrong : true ≡ false = two in cc)
    by A B B two is = absurd (let wrong : false ≡ true = is in cc)
    by B A A two is = absurd (let wrong : false ≡ true = is in cc)

to-cut : (app : Application) (es : List CardEvent) (cut : Bool) (x c : List ℕ) → ShowsMore app es cut x c → ShowsMore app es true x c
to-cut app es true x c is = is
to-cut app es false x c is = shows-whole app es x c is

or-cut : (app : Application) (es : List CardEvent) (failed cut : Bool) (x c : List ℕ) → ShowsMore app es cut x c → ShowsMore app es (failed || cut) x c
or-cut app es true cut x c is = to-cut app es cut x c is
or-cut app es false cut x c is = is

always-cut : (b : Bool) → (b || true) ≡ true
always-cut true = refl
always-cut false = refl

-- an accepted card sits in one of the slots
pub sits-once : (from : ℕ) (cabin : Cabin) → CabinIsSound from None cabin → (event : CardEvent) (card : Card) → is_some (session_of cabin.cards card) ≡ true
    → on_seat cabin.slots.seats.driver event card ++ on_seat cabin.slots.seats.codriver event card ≡ event ∷ []
sits-once from cabin stands event card some = ⊎_elim
    (λ sits. ⊎_elim
    (λ driver. by true false driver (two-seats cabin.slots.seats.driver cabin.slots.seats.codriver card stands.apart driver) (inl refl))
    (λ codriver. by_test (is_card cabin.slots.seats.driver card)
    (λ driver. absurd (let wrong = two-seats cabin.slots.seats.driver cabin.slots.seats.codriver card stands.apart driver in let both : true ≡ false = sym codriver ∙ wrong in cc))
    (λ off. by false true off codriver (inr refl)))
    sits)
    (λ leaves. absurd (let wrong : None ≡ Some card = leaves in cc))
    (stands.only card some)
  where
    by : (a b : Bool) → is_card cabin.slots.seats.driver card ≡ a → is_card cabin.slots.seats.codriver card ≡ b → (a ≡ not b) ⊎ (b ≡ not a) → on_seat cabin.slots.seats.driver event card ++ on_seat cabin.slots.seats.codriver event card ≡ event ∷ []
    by true false one two which = ap (λ (p : Bool). cond p (event ∷ []) [] ++ on_seat cabin.slots.seats.codriver event card) one ∙ ap (λ (p : Bool). (event ∷ []) ++ cond p (event ∷ []) []) two
    by false true one two which = ap (λ (p : Bool). cond p (event ∷ []) [] ++ on_seat cabin.slots.seats.codriver event card) one ∙ ap (λ (p : Bool). [] ++ cond p (event ∷ []) []) two
    by true true one two which = absurd (⊎_elim (λ (is : true ≡ false). let wrong : true ≡ false = is in cc) (λ (is : true ≡ false). let wrong : true ≡ false = is in cc) which)
    by false false one two which = absurd (⊎_elim (λ (is : false ≡ true). let wrong : false ≡ true = is in cc) (λ (is : false ≡ true). let wrong : false ≡ true = is in cc) which)

-- BOTH CARDS, one after another
module _ (from : ℕ) (old between new : Run) (at at2 : Moment) (breaks told after : Listed Break) (fell fell2 : Bool) (stands : CabinIsSound from None old.keeper.cabin)
    (first_noted : IsNotedIn (card_in (seat_in old.keeper.cabin.slots.seats Driver)) Driver at old between breaks told fell)
    (second_noted : IsNotedIn (card_in (seat_in between.keeper.cabin.slots.seats CoDriver)) CoDriver at2 between new told after fell2)
    (event : CardEvent) (failed : Bool) (d m e : Devices) where
  abbrev Firsts : Type 0
  Firsts = NotesOnCards false old.keeper.cabin.cards between.keeper.cabin.cards (on_seat (seat_in old.keeper.cabin.slots.seats Driver) event) d m

  abbrev Seconds : Type 0
  Seconds = NotesOnCards false between.keeper.cabin.cards new.keeper.cabin.cards (on_seat (seat_in between.keeper.cabin.slots.seats CoDriver) event) m e

  once : (card : Card) → is_some (session_of old.keeper.cabin.cards card) ≡ true → on_seat (seat_in old.keeper.cabin.slots.seats Driver) event card ++ on_seat (seat_in between.keeper.cabin.slots.seats CoDriver) event card ≡ event ∷ []
  once card some =
      ap (λ (s : Option Seat). on_seat old.keeper.cabin.slots.seats.driver event card ++ on_seat s event card) (codriver-noted old.keeper.cabin.slots.seats.driver at old between breaks told fell refl first_noted)
      ∙ sits-once from old.keeper.cabin stands event card some

  pub both-noted : Firsts → Seconds → NotesOnCards failed old.keeper.cabin.cards new.keeper.cabin.cards (λ card. event ∷ []) d e
  both-noted firsts seconds card =
      by (session_of old.keeper.cabin.cards card) (session_of between.keeper.cabin.cards card) (session_of new.keeper.cabin.cards card) (card_of d card) (card_of m card) (card_of e card)
      (session-noted (card_in (seat_in old.keeper.cabin.slots.seats Driver)) Driver at old between breaks told fell first_noted card)
      (session-noted (card_in (seat_in between.keeper.cabin.slots.seats CoDriver)) CoDriver at2 between new told after fell2 second_noted card)
      (once card) (firsts card) (seconds card)
    where
      by : (a b c : Option Accepted) (X M Y : State) → (b ≡ a) ⊎ (b ≡ None) → (c ≡ b) ⊎ (c ≡ None)
          → (is_some a ≡ true → on_seat (seat_in old.keeper.cabin.slots.seats Driver) event card ++ on_seat (seat_in between.keeper.cabin.slots.seats CoDriver) event card ≡ event ∷ [])
          → NotesOn false a b (on_seat (seat_in old.keeper.cabin.slots.seats Driver) event card) X M → NotesOn false b c (on_seat (seat_in between.keeper.cabin.slots.seats CoDriver) event card) M Y
          → NotesOn failed a c (event ∷ []) X Y
      by None None c X M Y goes next one first later = λ x left. first x (later x left)
      by None (Some b) c X M Y goes next one first later = absurd (⊎_elim (λ is. let wrong : Some b ≡ None = is in cc) (λ is. let wrong : Some b ≡ None = is in cc) goes)
      by (Some a) None (Some c) X M Y goes next one first later = absurd (⊎_elim (λ is. let wrong : Some c ≡ None = is in cc) (λ is. let wrong : Some c ≡ None = is in cc) next)
      by (Some a) None None X M Y goes next one first later = λ x left.
          let was = first x (later x left) in (
            was.0,
            was.1,
            subst (λ (b : Bool). ShowsMore a.session.application (event ∷ []) b was.0 x) (sym (always-cut failed))
                (shows-by a.session.application (on_seat (seat_in old.keeper.cabin.slots.seats Driver) event card ++ on_seat (seat_in between.keeper.cabin.slots.seats CoDriver) event card) (event ∷ []) true was.0 x (one refl)
                (shows-first a.session.application (on_seat (seat_in old.keeper.cabin.slots.seats Driver) event card) (on_seat (seat_in between.keeper.cabin.slots.seats CoDriver) event card) was.0 x was.2)),
          )
      by (Some a) (Some b) c X M Y goes next one first later = λ x left.
          let two = later x left in
          let was = first two.0 two.1 in
          let es = on_seat (seat_in old.keeper.cabin.slots.seats Driver) event card in
          let fs = on_seat (seat_in between.keeper.cabin.slots.seats CoDriver) event card in
          let sizes : b.session.application ≡ a.session.application = ⊎_elim (λ is. same_sizes a b is) (λ is. absurd (let wrong : Some b ≡ None = is in cc)) goes in
          let behind = subst (λ (p : Application). ShowsMore p fs (not (is_some c)) two.0 x) sizes two.2 in (
            was.0,
            was.1,
            or-cut a.session.application (event ∷ []) failed (not (is_some c)) was.0 x
                (shows-by a.session.application (es ++ fs) (event ∷ []) (not (is_some c)) was.0 x (one refl) (shows-both a.session.application es fs (not (is_some c)) was.0 two.0 x was.2 behind)),
          )
        where
          same_sizes : (a b : Accepted) → Some b ≡ Some a → b.session.application ≡ a.session.application
          same_sizes a b is = let same : b ≡ a = cc in ap (λ (q : Accepted). q.session.application) same

-- THE DRIVER'S CARD alone, where the unit failed as its fault was noted
pub first-noted : (from : ℕ) (old between : Run) → CabinIsSound from None old.keeper.cabin → (event : CardEvent) (d m : Devices)
    → NotesOnCards false old.keeper.cabin.cards between.keeper.cabin.cards (on_seat (seat_in old.keeper.cabin.slots.seats Driver) event) d m → NotesOnCards true old.keeper.cabin.cards between.keeper.cabin.cards (λ card. event ∷ []) d m
first-noted from old between stands event d m firsts card = by (session_of old.keeper.cabin.cards card) (session_of between.keeper.cabin.cards card) (card_of d card) (card_of m card) (sits-once from old.keeper.cabin stands event card) (firsts card)
  where
    by : (a b : Option Accepted) (X M : State) → (is_some a ≡ true → on_seat old.keeper.cabin.slots.seats.driver event card ++ on_seat old.keeper.cabin.slots.seats.codriver event card ≡ event ∷ [])
        → NotesOn false a b (on_seat (seat_in old.keeper.cabin.slots.seats Driver) event card) X M → NotesOn true a b (event ∷ []) X M
    by None b X M one first = first
    by (Some a) b X M one first = λ x left.
        let was = first x left in
        let es = on_seat old.keeper.cabin.slots.seats.driver event card in
        let fs = on_seat old.keeper.cabin.slots.seats.codriver event card in (
          was.0,
          was.1,
          shows-by a.session.application (es ++ fs) (event ∷ []) true was.0 x (one refl) (shows-first a.session.application es fs was.0 x (to-cut a.session.application es (not (is_some b)) was.0 x was.2)),
        )
