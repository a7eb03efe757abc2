-- A session's first keep, with its entries by hand, at each of its moments: it is the card of the same holder still, and its events, its current use and its
-- places are the same.
use Rattle.std.proofs.Common.{◌≡◌, ◌∙◌, inl, inr, ℕ, List, [], ◌∷◌, refl, sym, subst, arith}
use Rattle.activity_codec.specs.declared.entries.Entry.{Entry}
use Rattle.activity_codec.specs.declared.entries.Manual.{Manual}
use Rattle.tach_media.specs.card_layout.declared.files.Application.{Application}
use Rattle.tach_media.specs.card_layout.Files.{files_of, place_of}
use Rattle.device_calls.specs.card_model.Days.{Day}
use Rattle.hand_model.specs.card_image.Fields.{file, file_bytes, card_number}
use Rattle.hand_model.specs.card_image.Own.{own_sizes}
use Rattle.hand_model.proofs.card_image.Beside.{number_same}
use Rattle.card_session.specs.Vehicles.{Vehicles}
use Rattle.card_session.specs.Sessions.{Session}
use Rattle.card_session.specs.Cards.{IsCard}
use Rattle.card_session.proofs.Marks.{sizes_still, behind_vehicles, events_same, current_same}
use Rattle.device_calls.specs.card_by_hand.First.{AreEntered, IsEntering, IsFirstKeeping}
use Rattle.device_calls.proofs.OnCard.{sizes-same}
use Rattle.run_devices.specs.Strung.{HasSameHolder}
use Rattle.run_devices.proofs.Holders.{card-rest, card-places}
use Rattle.run_devices.proofs.OnCards.{same-holder, own-holder-still, then-holder}
use Rattle.run_minutes.proofs.FirstEnds.{entered-session}

-- ---- the holder

-- a write on the days and the vehicle entries leaves the card's number
keep-number : (app : Application) (P : List Day → Vehicles → Type 0) (x y : List ℕ) → IsCard app P x y → card_number app y ≡ card_number app x
unfolding files_of
keep-number app P x y is = number_same app x y (sizes_still app P x y is) (behind_vehicles app P x y is (place_of app (file 0x0520)) 17 (omega arith))

-- and the holder
card-holder : (app : Application) (P : List Day → Vehicles → Type 0) (x y : List ℕ) → own_sizes x ≡ app → IsCard app P x y → HasSameHolder x y
card-holder app P x y own card = own-holder-still app x y own (sizes-same app P x y card ∙ own) (keep-number app P x y card) (card-rest app x y P card)

entered-holder : (hs : List Manual) (s t : Session) (x z : List ℕ) → own_sizes x ≡ s.application → AreEntered hs s t x z → HasSameHolder x z
entered-holder [] s t x z own entered = subst (HasSameHolder x) (sym entered.1) (same-holder x)
entered-holder (h ∷ hs) s t x z own entered =
    let one = card-holder s.application _ x entered.1 own entered.3.card in
    then-holder x entered.1 z one (entered-holder hs entered.0 t entered.1 z (one.sizes ∙ own ∙ sym entered.2.application) entered.4)

entering-holder : (hs : List Manual) (s : Session) (x c : List ℕ) → own_sizes x ≡ s.application → IsEntering hs s x c → HasSameHolder x c
entering-holder [] s x c own entering = absurd entering
entering-holder (h ∷ hs) s x c own (inl now) = card-holder s.application _ x c own now.card
entering-holder (h ∷ hs) s x c own (inr behind) =
    let one = card-holder s.application _ x behind.1 own behind.3.card in
    then-holder x behind.1 c one (entering-holder hs behind.0 behind.1 c (one.sizes ∙ own ∙ sym behind.2.application) behind.4)

pub first-holder : (s : Session) (hs : List Manual) (e : Entry) (odometer : ℕ) (x y : List ℕ) → own_sizes x ≡ s.application → IsFirstKeeping s hs e odometer x y → HasSameHolder x y
first-holder s hs e odometer x y own (inl entering) = entering-holder hs s x y own entering
first-holder s hs e odometer x y own (inr behind) =
    let one = entered-holder hs s behind.between x behind.card own behind.entered in
    then-holder x behind.card y one
    (card-holder behind.between.application _ behind.card y (one.sizes ∙ own ∙ sym (entered-session hs s behind.between x behind.card behind.entered).application) behind.keeping.card)

-- ---- events, current use and places

abbrev pub HasSameFiles : Application → (x c : List ℕ) → Type 0
HasSameFiles app x c = (file_bytes app 0x0502 c ≡ file_bytes app 0x0502 x) × (file_bytes app 0x0507 c ≡ file_bytes app 0x0507 x) × (file_bytes app 0x0506 c ≡ file_bytes app 0x0506 x)

card-files : (app : Application) (P : List Day → Vehicles → Type 0) (x c : List ℕ) → IsCard app P x c → HasSameFiles app x c
card-files app P x c card = (events_same app P x c card, current_same app P x c card, card-places app x c P card)

files-then : (app : Application) (x y c : List ℕ) → HasSameFiles app x y → HasSameFiles app y c → HasSameFiles app x c
files-then app x y c first next = (next.0 ∙ first.0, next.1 ∙ first.1, next.2 ∙ first.2)

entered-files : (hs : List Manual) (s t : Session) (x z : List ℕ) → AreEntered hs s t x z → HasSameFiles s.application x z
entered-files [] s t x z entered = subst (HasSameFiles s.application x) (sym entered.1) (refl, refl, refl)
entered-files (h ∷ hs) s t x z entered =
    files-then s.application x entered.1 z (card-files s.application _ x entered.1 entered.3.card)
    (subst (λ (a : Application). HasSameFiles a entered.1 z) entered.2.application (entered-files hs entered.0 t entered.1 z entered.4))

entering-files : (hs : List Manual) (s : Session) (x c : List ℕ) → IsEntering hs s x c → HasSameFiles s.application x c
entering-files [] s x c entering = absurd entering
entering-files (h ∷ hs) s x c (inl now) = card-files s.application _ x c now.card
entering-files (h ∷ hs) s x c (inr behind) =
    files-then s.application x behind.1 c (card-files s.application _ x behind.1 behind.3.card)
    (subst (λ (a : Application). HasSameFiles a behind.1 c) behind.2.application (entering-files hs behind.0 behind.1 c behind.4))

pub first-files : (s : Session) (hs : List Manual) (e : Entry) (odometer : ℕ) (x y : List ℕ) → IsFirstKeeping s hs e odometer x y → HasSameFiles s.application x y
first-files s hs e odometer x y (inl entering) = entering-files hs s x y entering
first-files s hs e odometer x y (inr behind) =
    files-then s.application x behind.card y (entered-files hs s behind.between x behind.card behind.entered)
    (subst (λ (a : Application). HasSameFiles a behind.card y) (entered-session hs s behind.between x behind.card behind.entered).application
    (card-files behind.between.application _ behind.card y behind.keeping.card))
