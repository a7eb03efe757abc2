-- What an action writes on the card that it is about: proofs.
use Rattle.std.proofs.Common.{◌≡◌, ◌∙◌, ⊎_elim, ℕ, ◌≤◌, Bool, true, false, cond, Option, Some, None, IfSome, is_some, List, refl, sym, ap, subst}
use Rattle.std.specs.Prelude.{Ok}
use Rattle.trace_model.specs.declared.Card.{Card}
use Rattle.trace_model.specs.declared.Card.TheVariants.{A, B}
use Rattle.tach_media.specs.Medium.{State, IsCoherent, LeavesOnly}
use Rattle.tach_media.proofs.Runs.{at_image}
use Rattle.tacho_types.specs.declared.places.PlaceEntry.{PlaceEntry}
use Rattle.tacho_types.specs.declared.card_number.FullCardNumber.{FullCardNumber}
use Rattle.activity_codec.specs.declared.values.Activity.{Activity}
use Rattle.card_files.specs.card_layout.declared.command.CardState.{CardState}
use Rattle.card_files.specs.card_layout.declared.files.Application.{Application}
use Rattle.hand_model.specs.card_image.Own.{IsOwnValid}
use Rattle.card_files.specs.Noting.{IsNotingPlace, IsPlaceNoted}
use Rattle.card_files.specs.Rings.{place_ring}
use Rattle.device_calls.specs.card_session.Sessions.{IsSession}
use Rattle.device_calls.specs.card_session.Cards.{IsCardClosed}
use Rattle.run_events.specs.gated_ring.Ring.{PointsInside}
use Rattle.unit_model.specs.minute_model.declared.Minute.{Minute}
use Rattle.unit_notes.specs.Journal.{LeavesJournal}
use Rattle.device_calls.specs.run_unit_course.Legs.{Travel}
use Rattle.device_calls.specs.unit_rule.Odometer.{HasTravelled, odometer_after}
use Rattle.device_calls.specs.safety_model.Safe.{Devices}
use Rattle.run_crew.specs.card_slots.declared.seats.Seat.{Seat}
use Rattle.run_crew.specs.card_slots.Calls.{card_in}
use Rattle.run_crew.specs.declared.cards.Accepted.{Accepted}
use Rattle.run_crew.specs.declared.cards.Known.{Known}
use Rattle.run_crew.specs.declared.cards.Cards.{Cards}
use Rattle.run_crew.specs.Cards.{known_of, session_of, accepted_number, IsKnown}
use Rattle.run_crew.specs.Cabin.{number_of_seat}
use Rattle.run_minutes.specs.run_promise.Found.{Found, found_of}
use Rattle.run_minutes.specs.run_promise.Between.{RunLedger}
use Rattle.run_minutes.specs.run_devices.Told.{DevicesPowered, SessionIsOnCard, arranged}
use Rattle.run_minutes.proofs.run_devices.Parts.{CardLit, parts-of}
use Rattle.run_minutes.specs.declared.keeper.Moment.{Moment}
use Rattle.run_minutes.specs.Keeping.{CardMayBeCalled}
use Rattle.run_minutes.specs.Minutes.{KeepingState, Reach, Whole, Short, IsReach}
use Rattle.run_minutes.specs.Books.{HaveTime}
use Rattle.run_minutes.specs.Decided.{BooksAll, MayBookAll, carried_by}
use Rattle.run_acts.specs.Acting.{Closing, Closed}
use Rattle.run_acts.specs.CardWrites.{HasPlace, PlaceOn, ClosesCard, IsShut}
use Rattle.run_acts.proofs.Withdrawn.{time-before}

-- ---- a call on a card that works, and works still

module _ (X Y : State) (R : List ℕ → List ℕ → Type 0) (whole : IsCoherent X) (after : IsCoherent Y) (works : X.works ≡ true) (well : Y.works ≡ true) (run : LeavesOnly X Y R) where
  -- each image that it may leave then is the one that it tells, and it told one before
  pub image-then : (c : List ℕ) → Y.may_leave c → Y.image ≡ Some c
  image-then c left = after.only c well left

  pub image-before : (c : List ℕ) → Y.may_leave c → (x : List ℕ) × (X.image ≡ Some x)
  image-before c left = ⊎_elim (λ before. (c, whole.only c works before)) (λ one. (one.0, one.1)) (run.now c left)

-- ---- a place

module _ (app : Application) (entry : PlaceEntry) (X Y : State) where
  pub place-well : IsCoherent X → IsCoherent Y → X.works ≡ true → Y.works ≡ true → LeavesOnly X Y (IsNotingPlace app entry)
      → IfSome X.image (λ x. PointsInside (place_ring app) x → IfSome Y.image (IsPlaceNoted app entry x)) → HasPlace app entry X Y
  place-well whole after works well run noted c left =
      let was = image-before X Y (IsNotingPlace app entry) whole after works well run c left in (
        was.0,
        whole.is_left was.0 was.1,
        λ points. at_image (IsPlaceNoted app entry was.0) (image-then X Y (IsNotingPlace app entry) whole after works well run c left)
            (at_image (λ (x : List ℕ). PointsInside (place_ring app) x → IfSome Y.image (IsPlaceNoted app entry x)) was.1 noted points),
      )

module _ (entry : PlaceEntry) (X Y : State) where
  -- the card fell
  pub place-fell : (session after : Option Accepted) (failed : Bool) → after ≡ None → PlaceOn session after failed entry X Y
  place-fell None after failed gone = tt
  place-fell (Some a) None failed gone = tt
  place-fell (Some a) (Some b) failed gone = absurd (let wrong : Some b ≡ None = gone in cc)

  -- or the unit failed before
  pub place-unit : (session after : Option Accepted) → PlaceOn session after true entry X Y
  place-unit None after = tt
  place-unit (Some a) None = tt
  place-unit (Some a) (Some b) = tt

  -- or the card has no session
  pub place-bare : (session after : Option Accepted) (failed : Bool) → session ≡ None → PlaceOn session after failed entry X Y
  place-bare None after failed gone = tt
  place-bare (Some a) after failed gone = absurd (let wrong : Some a ≡ None = gone in cc)

  pub place-any : (session after : Option Accepted) (failed : Bool) → PlaceOn session after false entry X Y → PlaceOn session after failed entry X Y
  place-any None after failed on = tt
  place-any (Some a) None failed on = tt
  place-any (Some a) (Some b) true on = tt
  place-any (Some a) (Some b) false on = on

  place-some : (a : Accepted) (after : Option Accepted) → HasPlace a.session.application entry X Y → PlaceOn (Some a) after false entry X Y
  place-some a None has = tt
  place-some a (Some b) has = has

  place-of : (app : Application) (known : Known) (after : Option Accepted) → IsKnown known → known.sizes ≡ Ok app → HasPlace app entry X Y → PlaceOn known.accepted after false entry X Y
  place-of app known after is told has = by known.accepted refl
    where
      by : (o : Option Accepted) → known.accepted ≡ o → PlaceOn o after false entry X Y
      by None gone = tt
      by (Some a) there =
          let sized = subst (λ (o : Option Accepted). IfSome o (λ a. known.sizes ≡ Ok a.session.application)) there is.sized in
          let same : app ≡ a.session.application = cc in
          place-some a after (subst (λ (p : Application). HasPlace p entry X Y) same has)

  -- it stands on it, by the sizes of its session
  pub place-on : (card : Card) (cards : Cards) (app : Application) (chip : CardState) (after : Option Accepted) → CardMayBeCalled (known_of cards card) chip X → (known_of cards card).sizes ≡ Ok app → HasPlace app entry X Y → PlaceOn (session_of cards card) after false entry X Y
  place-on A cards app chip after ready told has = place-of app cards.a after ready.is_known told has
  place-on B cards app chip after ready told has = place-of app cards.b after ready.is_known told has

-- the card of a seat that is not accepted has no session
unaccepted : (known : Known) → IsKnown known → accepted_number known ≡ None → known.accepted ≡ None
unaccepted known is unnamed = by known.accepted refl
  where
    by : (o : Option Accepted) → known.accepted ≡ o → known.accepted ≡ None
    by None at = at
    by (Some a) at =
        let some = subst (λ (o : Option Accepted). IfSome o (λ a. is_some known.number ≡ true)) at is.numbered in
        let told : known.number ≡ None = ap (λ (o : Option Accepted). cond (is_some o) known.number None) (sym at) ∙ unnamed in
        absurd (let wrong : is_some known.number ≡ false = ap (λ (o : Option FullCardNumber). is_some o) told in cc)

pub seat-bare : (cards : Cards) (seat : Option Seat) (card : Card) → IsKnown cards.a → IsKnown cards.b → number_of_seat cards seat ≡ None → card_in seat ≡ Some card → session_of cards card ≡ None
seat-bare cards None card a b unnamed there = absurd (let wrong : None ≡ Some card = there in cc)
seat-bare cards (Some seat) card a b unnamed there = by seat.card card (let same : seat.card ≡ card = cc in same) unnamed
  where
    by : (one card : Card) → one ≡ card → accepted_number (known_of cards one) ≡ None → session_of cards card ≡ None
    by A A same none = unaccepted cards.a a none
    by B B same none = unaccepted cards.b b none
    by A B same none = absurd (let wrong : A ≡ B = same in cc)
    by B A same none = absurd (let wrong : B ≡ A = same in cc)

-- ---- a withdrawal

-- it is closed, by the image that it told
pub closes-well : (a : Accepted) (act : Activity) (X Y : State) (R : List ℕ → List ℕ → Type 0) → IsCoherent X → IsCoherent Y → X.works ≡ true → Y.works ≡ true → LeavesOnly X Y R
    → IfSome X.image (λ x. IfSome Y.image (λ y. IsSession a.session x → IsCardClosed a.session act x y)) → ClosesCard Closed (Some a) act X Y
closes-well a act X Y R whole after works well run closed c left =
    let was = image-before X Y R whole after works well run c left in (
      was.0,
      was.1,
      at_image (λ (y : List ℕ). IsSession a.session was.0 → IsCardClosed a.session act was.0 y) (image-then X Y R whole after works well run c left)
          (at_image (λ (x : List ℕ). IfSome Y.image (λ y. IsSession a.session x → IsCardClosed a.session act x y)) was.1 closed),
    )

-- what the image of an accepted card is that is carried: its session knows it
pub session-knows : (f : Found) (w : RunLedger) (cards : Cards) (c : Card) (U X Z : State) → DevicesPowered f w cards (arranged c U X Z) → IsOwnValid (found_of f c).image → (a : Accepted) → session_of cards c ≡ Some a → IfSome X.image (IsSession a.session)
session-knows f w cards c U X Z p valid a has =
    let one = subst (λ (o : Option Accepted). CardLit f w.book (w.standing c) (w.hands c) (w.firsts c) (w.brought c) o c U X) has ((parts-of f w cards c U X Z p).mine valid) in
    let on : SessionIsOnCard (found_of f c) (w.hands c) one.goes.has (w.standing c) a.session X = one.goes.goes.0 in
    on.session

module _ (c : Card) (U V X Y Z : State) (unit : LeavesOnly U V LeavesJournal) (later : X.clock ≤ Y.clock) (closing : Closing) (decided : List Minute) (at : Moment) (t v : KeepingState) (d : Devices) (act : Activity)
    (closes : ClosesCard closing (session_of v.keeper.cabin.cards c) act X Y) where
  shut-by : (f : Found) (w : RunLedger) → DevicesPowered f w v.keeper.cabin.cards (arranged c U X Z) → IsOwnValid (found_of f c).image → closing ≡ Closed → IsShut (session_of v.keeper.cabin.cards c) act Y
  shut-by f w p valid is = by (session_of v.keeper.cabin.cards c) refl
    where
      by : (o : Option Accepted) → session_of v.keeper.cabin.cards c ≡ o → IsShut o act Y
      by None gone = subst (λ (k : Closing). ClosesCard k None act X Y) is (subst (λ (o : Option Accepted). ClosesCard closing o act X Y) gone closes)
      by (Some a) has = λ i left.
          let that = subst (λ (k : Closing). ClosesCard k (Some a) act X Y) is (subst (λ (o : Option Accepted). ClosesCard closing o act X Y) has closes) i left in
          let knows = at_image (IsSession a.session) that.1 (session-knows f w v.keeper.cabin.cards c U X Z p valid a has) in
          (that.0, knows, that.2 knows)

  -- behind the minutes that were kept first
  pub withdrawn-shut : (reach : Reach) → IsReach decided at false t v reach → BooksAll decided false reach t v d (arranged c U X Z)
      → closing ≡ Closed → (f : Found) (w : RunLedger) (start : ℕ) (g : Travel) → MayBookAll f w decided t d → HasTravelled start w.book g d.unit → t.keeper.odometer ≡ odometer_after start g.before → HaveTime (arranged c V Y Z) → IsOwnValid (found_of f c).image
      → IsShut (session_of v.keeper.cabin.cards c) act Y
  withdrawn-shut (Short xs m round) is books = absurd is
  withdrawn-shut (Whole xs) is books = λ same f w start g may gone stored time valid.
      let behind = (books f w start g may gone stored (time-before c U V X Y Z unit.later later time)).0 in
      shut-by f (carried_by t.keeper xs w) behind.0.powered valid same
