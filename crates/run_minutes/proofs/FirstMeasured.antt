-- A session's first keep, with its entries by hand, at each of its moments: it measures the vehicle entries with its own odometer value alone.
use Rattle.std.proofs.Common.{◌≡◌, ⊎_elim, inl, inr, ℕ, ◌<◌, IfSome, List, [], ◌∷◌, Contains, sym, subst, arith}
use Rattle.std.proofs.lemmas.List.Elements.{Contains-push}
use Rattle.activity_codec.specs.declared.entries.Entry.{Entry}
use Rattle.activity_codec.specs.declared.entries.Manual.{Manual}
use Rattle.tach_media.specs.Medium.{State, IsCoherent, LeavesOnly}
use Rattle.tach_media.proofs.Runs.{at_image}
use Rattle.tach_media.specs.card_layout.declared.files.Application.{Application}
use Rattle.device_calls.specs.card_model.Days.{Day}
use Rattle.card_session.specs.Vehicles.{Vehicles}
use Rattle.card_session.specs.Sessions.{Session, IsSession, book_of}
use Rattle.card_session.specs.Cards.{IsCard}
use Rattle.device_calls.specs.card_by_hand.First.{AreEntered, IsEntering, IsFirstKeeping}
use Rattle.run_devices.specs.Measured.{Reading, reading_at, vehicles_by, GoesMeasured, MeasuresOn}
use Rattle.device_calls.proofs.card_string.MadeSince.{on_keep}
use Rattle.run_devices.proofs.Measured.{MeasuresOneOf, measured-itself, measured-same, measured-then, goes-itself, keep-measures}
use Rattle.run_minutes.proofs.FirstEnds.{entered-session}

-- no entry by hand, or some
measure-itself : (app : Application) (Is : Reading → Type 0) (x : List ℕ) → MeasuresOneOf app Is x x
measure-itself app Is x points = (points, measured-itself Is (vehicles_by app x))

measure-then : (app : Application) (Is : Reading → Type 0) (x y z : List ℕ) → MeasuresOneOf app Is x y → MeasuresOneOf app Is y z → MeasuresOneOf app Is x z
measure-then app Is x y z first next points =
    let one = first points in
    let two = next one.0 in
    (two.0, measured-then Is (vehicles_by app x) (vehicles_by app y) (vehicles_by app z) one.1 two.1)

module _ (Is : Reading → Type 0) where
  -- an entry by hand leaves them
  told-goes : (app : Application) (P : List Day → Vehicles → Type 0) (x y : List ℕ) → IsCard app P x y → (book_of app y).vehicles ≡ (book_of app x).vehicles → MeasuresOneOf app Is x y
  told-goes app P x y card same points = (card.points, measured-same Is (vehicles_by app x) (vehicles_by app y) same)

  entered-goes : (hs : List Manual) (s t : Session) (x z : List ℕ) → AreEntered hs s t x z → MeasuresOneOf s.application Is x z
  entered-goes [] s t x z entered = subst (MeasuresOneOf s.application Is x) (sym entered.1) (measure-itself s.application Is x)
  entered-goes (h ∷ hs) s t x z entered =
      measure-then s.application Is x entered.1 z (told-goes s.application _ x entered.1 entered.3.card entered.3.card.told.1)
      (subst (λ (app : Application). MeasuresOneOf app Is entered.1 z) entered.2.application (entered-goes hs entered.0 t entered.1 z entered.4))

  entering-goes : (hs : List Manual) (s : Session) (x c : List ℕ) → IsEntering hs s x c → MeasuresOneOf s.application Is x c
  entering-goes [] s x c entering = absurd entering
  entering-goes (h ∷ hs) s x c (inl now) = told-goes s.application _ x c now.card now.card.told.1
  entering-goes (h ∷ hs) s x c (inr behind) =
      measure-then s.application Is x behind.1 c (told-goes s.application _ x behind.1 behind.3.card behind.3.card.told.1)
      (subst (λ (app : Application). MeasuresOneOf app Is behind.1 c) behind.2.application (entering-goes hs behind.0 behind.1 c behind.4))

  first-goes : (s : Session) (hs : List Manual) (e : Entry) (odometer : ℕ) (x y : List ℕ) → Is (reading_at e.minute odometer) → IsFirstKeeping s hs e odometer x y → MeasuresOneOf s.application Is x y
  first-goes s hs e odometer x y here (inl entering) = entering-goes hs s x y entering
  first-goes s hs e odometer x y here (inr behind) =
      measure-then s.application Is x behind.card y (entered-goes hs s behind.between x behind.card behind.entered)
      (subst (λ (app : Application). MeasuresOneOf app Is behind.card y) (entered-session hs s behind.between x behind.card behind.entered).application (keep-measures Is behind.between e odometer behind.card y here behind.keeping))

-- OF STATES: and the image is made of the one before, where the minute lies behind all that the session knows
pub first-measures : (app : Application) (X Y : State) → IsCoherent X → (s : Session) (hs : List Manual) (e : Entry) (odometer : ℕ) → s.application ≡ app → s.minute < e.minute → IfSome X.image (IsSession s) → LeavesOnly X Y (λ x y. IsSession s x → IsFirstKeeping s hs e odometer x y) → MeasuresOn app (reading_at e.minute odometer ∷ []) X Y
first-measures app X Y whole s hs e odometer sizes late session run c left = ⊎_elim
    (λ was. (c, was, goes-itself app (λ r. Contains (reading_at e.minute odometer ∷ []) r) c))
    (λ one. (
      one.0,
      whole.is_left one.0 one.1,
      subst (λ (a : Application). GoesMeasured a (λ r. Contains (reading_at e.minute odometer ∷ []) r) one.0 c) sizes
          (λ points.
          let knows = at_image (IsSession s) one.1 session in
          let newest = knows.minute in
          let measured = first-goes (λ r. Contains (reading_at e.minute odometer ∷ []) r) s hs e odometer one.0 c (Contains-push [] (reading_at e.minute odometer)) (one.2 knows) points in
          (measured.0, measured.1, on_keep s hs e odometer one.0 c (omega (arith, late, newest)) (one.2 knows))),
    ))
    (run.now c left)
