-- A session's first keep, with its entries by hand, at each of its moments: it tells of no other vehicle than before and the session's own.
use Rattle.std.proofs.Common.{◌≡◌, ◌∙◌, ◌⊎◌, inl, inr, ⊎_elim, ℕ, ◌/◌, ◌≤◌, List, [], ◌∷◌, ap, refl, sym, subst}
use Rattle.activity_codec.specs.declared.entries.Entry.{Entry}
use Rattle.activity_codec.specs.declared.entries.Manual.{Manual}
use Rattle.tacho_types.specs.declared.texts.Registration.{Registration}
use Rattle.tach_media.specs.card_layout.declared.files.Application.{Application}
use Rattle.hand_model.specs.card_image.Fields.{current_use, end_mark, vehicle_ring}
use Rattle.hand_model.specs.card_image.Own.{own_view}
use Rattle.device_calls.specs.gated_ring.Ring.{PointsInside}
use Rattle.card_session.specs.Vehicles.{Vehicles, last_use_in}
use Rattle.card_session.specs.Cards.{IsCardKeeping}
use Rattle.card_session.proofs.Marks.{mark_told}
use Rattle.card_session.specs.Sessions.{Session, book_of}
use Rattle.card_session.proofs.InsertingCards.{use_same}
use Rattle.device_calls.specs.card_by_hand.First.{AreEntered, IsEntering, IsFirstKeeping}
use Rattle.run_devices.specs.Registered.{VehiclesBefore, StandAsBefore, NewestIsOf, HasNoMinuteElsewhere, IsUsedSo}
use Rattle.run_devices.proofs.Registered.{keep-stands, keep-newest, keep-moves}
use Rattle.run_devices.proofs.Used.{same-used}
use Rattle.run_minutes.proofs.FirstEnds.{entered-session}

-- ---- the vehicle entries

module _ (Q : Vehicles → Type 0) where
  abbrev On : Application → List ℕ → Type 0
  On app x = PointsInside (vehicle_ring app) x × Q (book_of app x).vehicles

  entered-on : (hs : List Manual) (s t : Session) (x z : List ℕ) → On s.application x → AreEntered hs s t x z → On s.application z
  entered-on [] s t x z is entered = subst (On s.application) (sym entered.1) is
  entered-on (h ∷ hs) s t x z is entered =
      let one : On s.application entered.1 = (entered.3.card.points, subst Q (sym entered.3.card.told.1) is.1) in
      subst (λ (app : Application). On app z) entered.2.application
      (entered-on hs entered.0 t entered.1 z (subst (λ (app : Application). On app entered.1) (sym entered.2.application) one) entered.4)

  entering-on : (hs : List Manual) (s : Session) (x c : List ℕ) → On s.application x → IsEntering hs s x c → Q (book_of s.application c).vehicles
  entering-on [] s x c is entering = absurd entering
  entering-on (h ∷ hs) s x c is (inl now) = subst Q (sym now.card.told.1) is.1
  entering-on (h ∷ hs) s x c is (inr behind) =
      let one : On s.application behind.1 = (behind.3.card.points, subst Q (sym behind.3.card.told.1) is.1) in
      subst (λ (app : Application). Q (book_of app c).vehicles) behind.2.application
      (entering-on hs behind.0 behind.1 c (subst (λ (app : Application). On app behind.1) (sym behind.2.application) one) behind.4)

  -- what a keep behind them comes to
  first-so : (s : Session) (hs : List Manual) (e : Entry) (odometer : ℕ) (x y : List ℕ) (Last : Vehicles → Type 0) → ((v : Vehicles) → Q v → Last v)
      → ((t : Session) (card : List ℕ) → t.registration ≡ s.registration → On t.application card → IsCardKeeping t e odometer card y → Last (book_of t.application y).vehicles)
      → On s.application x → IsFirstKeeping s hs e odometer x y → Last (book_of s.application y).vehicles
  first-so s hs e odometer x y Last last keep is (inl entering) = last (book_of s.application y).vehicles (entering-on hs s x y is entering)
  first-so s hs e odometer x y Last last keep is (inr behind) =
      let same = entered-session hs s behind.between x behind.card behind.entered in
      subst (λ (app : Application). Last (book_of app y).vehicles) same.application
      (keep behind.between behind.card same.registration (subst (λ (app : Application). On app behind.card) (sym same.application) (entered-on hs s behind.between x behind.card is behind.entered)) behind.keeping)

-- THEY STAND AS AT THE START
pub first-stand : (b : VehiclesBefore) (s : Session) (hs : List Manual) (e : Entry) (odometer : ℕ) (x y : List ℕ) → s.registration ≡ b.registration → PointsInside (vehicle_ring s.application) x → StandAsBefore b (book_of s.application x).vehicles → IsFirstKeeping s hs e odometer x y → StandAsBefore b (book_of s.application y).vehicles
first-stand b s hs e odometer x y here points is keeping =
    first-so (StandAsBefore b) s hs e odometer x y (StandAsBefore b) (λ v stands. stands)
    (λ t card registration on keep. keep-stands b t e odometer card y (registration ∙ here) on.0 on.1 keep) (points, is) keeping

-- the newest one stays of the session's vehicle
newest-first : (s : Session) (hs : List Manual) (e : Entry) (odometer : ℕ) (x y : List ℕ) → PointsInside (vehicle_ring s.application) x → NewestIsOf s.registration (book_of s.application x).vehicles → IsFirstKeeping s hs e odometer x y → NewestIsOf s.registration (book_of s.application y).vehicles
newest-first s hs e odometer x y points is keeping =
    first-so (NewestIsOf s.registration) s hs e odometer x y (NewestIsOf s.registration) (λ v its. its)
    (λ t card registration on keep. subst (λ (r : Registration). NewestIsOf r (book_of t.application y).vehicles) registration
    (keep-newest t e odometer card y (subst (λ (r : Registration). NewestIsOf r (book_of t.application card).vehicles) (sym registration) on.1) keep)) (points, is) keeping

-- and where the end mark moves the newest one is of the session's vehicle
moves-first : (s : Session) (hs : List Manual) (e : Entry) (odometer : ℕ) (x y : List ℕ) → PointsInside (vehicle_ring s.application) x → IsFirstKeeping s hs e odometer x y → (last_use_in (book_of s.application y).vehicles ≡ last_use_in (book_of s.application x).vehicles) ⊎ NewestIsOf s.registration (book_of s.application y).vehicles
moves-first s hs e odometer x y points keeping =
    first-so (λ v. last_use_in v ≡ last_use_in (book_of s.application x).vehicles) s hs e odometer x y (λ v. (last_use_in v ≡ last_use_in (book_of s.application x).vehicles) ⊎ NewestIsOf s.registration v) (λ v same. inl same)
    (λ t card registration on keep. ⊎_elim
    (λ same. inl (same ∙ on.1))
    (λ its. inr (subst (λ (r : Registration). NewestIsOf r (book_of t.application y).vehicles) registration its))
    (keep-moves t e odometer card y keep)) (points, refl) keeping

-- SO NO MINUTE COMES IN ANOTHER VEHICLE, where it leaves the newest minute as long as the end mark stays
pub first-minute : (b : VehiclesBefore) (s : Session) (hs : List Manual) (e : Entry) (odometer : ℕ) (x y : List ℕ) → s.registration ≡ b.registration → PointsInside (vehicle_ring s.application) x → HasNoMinuteElsewhere b s.application x → IsFirstKeeping s hs e odometer x y
    → (end_mark s.application y ≡ end_mark s.application x → (own_view x).newest ≤ b.minute → (own_view y).newest ≤ b.minute) → HasNoMinuteElsewhere b s.application y
first-minute b s hs e odometer x y here points told keeping stays = ⊎_elim
    (λ its. inl (subst (λ (r : Registration). NewestIsOf r (book_of s.application y).vehicles) here
    (newest-first s hs e odometer x y points (subst (λ (r : Registration). NewestIsOf r (book_of s.application x).vehicles) (sym here) its) keeping)))
    (λ low. ⊎_elim
    (λ same. inr (stays (mark_told s.application y ∙ ap (λ (n : ℕ). n / 60) same ∙ sym (mark_told s.application x)) low))
    (λ its. inl (subst (λ (r : Registration). NewestIsOf r (book_of s.application y).vehicles) here its))
    (moves-first s hs e odometer x y points keeping))
    told

-- ---- the current use

entered-use : (hs : List Manual) (s t : Session) (x z : List ℕ) → AreEntered hs s t x z → current_use s.application z ≡ current_use s.application x
entered-use [] s t x z entered = ap (current_use s.application) entered.1
entered-use (h ∷ hs) s t x z entered =
    subst (λ (app : Application). current_use app z ≡ current_use app entered.1) entered.2.application (entered-use hs entered.0 t entered.1 z entered.4)
    ∙ use_same s.application _ x entered.1 entered.3.card

entering-use : (hs : List Manual) (s : Session) (x c : List ℕ) → IsEntering hs s x c → current_use s.application c ≡ current_use s.application x
entering-use [] s x c entering = absurd entering
entering-use (h ∷ hs) s x c (inl now) = use_same s.application _ x c now.card
entering-use (h ∷ hs) s x c (inr behind) =
    subst (λ (app : Application). current_use app c ≡ current_use app behind.1) behind.2.application (entering-use hs behind.0 behind.1 c behind.4)
    ∙ use_same s.application _ x behind.1 behind.3.card

first-use : (s : Session) (hs : List Manual) (e : Entry) (odometer : ℕ) (x y : List ℕ) → IsFirstKeeping s hs e odometer x y → current_use s.application y ≡ current_use s.application x
first-use s hs e odometer x y (inl entering) = entering-use hs s x y entering
first-use s hs e odometer x y (inr behind) =
    subst (λ (app : Application). current_use app y ≡ current_use app behind.card) (entered-session hs s behind.between x behind.card behind.entered).application
    (use_same behind.between.application _ behind.card y behind.keeping.card)
    ∙ entered-use hs s behind.between x behind.card behind.entered

pub first-used : (s : Session) (registration : Registration) (start : List ℕ) (hs : List Manual) (e : Entry) (odometer : ℕ) (x y : List ℕ) → IsUsedSo s.application registration start x → IsFirstKeeping s hs e odometer x y → IsUsedSo s.application registration start y
first-used s registration start hs e odometer x y is keeping = same-used s.application registration start x y (first-use s hs e odometer x y keeping) is
