-- A card that sits in a slot is put in: however it stood before, by the sizes that it was measured by.
use Rattle.std.proofs.Common.{◌≡◌, ◌⊎◌, ⊎_elim, ℕ, ◌/◌, ◌^◌, ◌<◌, ◌≤◌, true, None, IfSome, is_some, length, refl, subst}
use Rattle.std.specs.Prelude.{IfOk, Result, Ok}
use Rattle.device_calls.specs.tacho_types.declared.texts.Registration.{Registration}
use Rattle.device_calls.specs.trace_model.declared.Card.{Card}
use Rattle.tach_media.specs.Medium.{State, IsCoherent, IsSettled}
use Rattle.tach_media.proofs.Runs.{at_image}
use Rattle.tach_media.specs.card_layout.declared.files.Application.{Application}
use Rattle.tach_media.specs.card_layout.Files.{image_size_of}
use Rattle.device_calls.specs.card_image.Judging.{IsValid}
use Rattle.device_calls.specs.card_image.View.{card_view}
use Rattle.device_calls.specs.card_image.Own.{own_sizes, IsOwnValid}
use Rattle.device_calls.specs.device_rule.Rules.{Standing, Out}
use Rattle.device_calls.specs.declared.entering.Entered.{Entered}
use Rattle.device_calls.specs.declared.entering.NotEntered.{NotEntered}
use Rattle.device_calls.specs.Entering.{IsEntering, IsAccepted}
use Rattle.run_crew.specs.declared.cards.Cards.{Cards}
use Rattle.run_crew.specs.Cards.{session_of}
use Rattle.run_promise.specs.Found.{Found, found_of}
use Rattle.run_promise.specs.Cards.{IsUntouched}
use Rattle.run_promise.specs.Between.{RunLedger}
use Rattle.run_devices.specs.Told.{AreFoundCards, IsPutIn, DevicesPowered, DevicesUnpowered, HasFoundSo, arranged, with_standing, card_marks, with_marks}
use Rattle.run_devices.proofs.Parts.{told-one, at-card}
use Rattle.run_devices.proofs.OnCards.{valid-own}
use Rattle.run_devices.proofs.Begun.{out-powered}
use Rattle.run_devices.proofs.Entered.{entered-powered-by, entered-powerless-by, accepted-put-by, accepted-marked-by, accepted-found-by, measured-own}

-- it is not accepted then
pub out-now : (c : Card) (w : RunLedger) → (with_standing c Out w).standing c ≡ Out
out-now c w = at-card c Out w.standing (λ (z : Standing). z ≡ Out) refl

module _ (f : Found) (w : RunLedger) (cards : Cards) (c : Card) (U V X Y Z : State) (found : AreFoundCards f cards) (unit_whole : IsCoherent U) (unit_after : IsCoherent V) (whole : IsCoherent X) (after : IsCoherent Y) (registration : Registration) (long : length registration.0 ≡ 15) (vehicle : registration ≡ (found_of f c).vehicle) (odometer now : ℕ) (few : now < 2 ^ 32) (answer : Result Entered NotEntered)
    (bare : session_of cards c ≡ None) (p : DevicesPowered f w cards (arranged c U X Z)) (late : w.due ≤ now / 60) (app : Application) (told : IfSome X.image (λ x. own_sizes x ≡ app)) (size : image_size_of app ≤ X.size) (enters : IsEntering app registration odometer now U V X Y answer) where
  was-out : DevicesPowered f (with_standing c Out w) cards (arranged c U X Z)
  was-out = out-powered f w cards cards c U X Z found bare refl p found unit_whole

  measured : IsOwnValid (found_of f c).image → app ≡ own_sizes (found_of f c).image
  measured = measured-own f w cards c U X Z p whole app told

  -- turned away, or failed, or accepted: where the unit works
  pub put-powered : V.works ≡ true → DevicesPowered f (with_standing c Out w) cards (arranged c V Y Z)
  put-powered = entered-powered-by f (with_standing c Out w) cards c U V X Y Z found unit_whole unit_after whole after registration long vehicle odometer now few answer (out-now c w) bare was-out late app measured size enters

  -- the unit failed
  pub put-powerless : DevicesUnpowered f (with_standing c Out w) (arranged c V Y Z)
  put-powerless = entered-powerless-by f (with_standing c Out w) cards c U V X Y Z found unit_whole unit_after whole after registration long vehicle odometer now few answer (out-now c w) bare was-out late app measured size enters

  -- a card that is accepted was valid at the start, if none but valid cards were written
  pub put-valid : is_some X.image ≡ true → (found_of f c).began ≤ X.clock → IsUntouched (found_of f c) X ⊎ IsOwnValid (found_of f c).image → (e : Entered) → answer ≡ Ok e → IsOwnValid (found_of f c).image
  put-valid tells began spared e ok = ⊎_elim
      (λ same.
      let x = told-one X.image tells in
      let took : IsAccepted app registration odometer now U.image X.image Y.image e.look e.owed.items e.session e.replayed =
      subst (λ (r : Result Entered NotEntered). IfOk r (λ e. IsAccepted app registration odometer now U.image X.image Y.image e.look e.owed.items e.session e.replayed)) ok enters.accepted in
      let valid = (at_image (λ x. IsValid app x × ((card_view app x).stored ≤ now)) x.1 took.valid).0 in
      subst IsOwnValid (same x.0 (whole.counts_now (found_of f c).began x.0 began (whole.is_left x.0 x.1))) (valid-own app x.0 (at_image (λ x. own_sizes x ≡ app) x.1 told) valid))
      (λ valid. valid) spared

  module _ (valid : IsOwnValid (found_of f c).image) (e : Entered) (ok : answer ≡ Ok e) where
    -- all that is asked of a card that is seated
    pub put-in : IsPutIn (found_of f c) (w.hands c) c w.book now e.session Y
    put-in = accepted-put-by f (with_standing c Out w) cards c U V X Y Z found unit_whole unit_after whole after registration long vehicle odometer now few answer (out-now c w) bare was-out late app measured size enters valid e ok

    pub put-marked : V.works ≡ true → IsSettled Y → DevicesPowered f (with_marks (card_marks c Y.clock e.owed.items) (with_standing c Out w)) cards (arranged c V Y Z)
    put-marked = accepted-marked-by f (with_standing c Out w) cards c U V X Y Z found unit_whole unit_after whole after registration long vehicle odometer now few answer (out-now c w) bare was-out late app measured size enters valid e ok

    pub put-found : HasFoundSo f c U X now e.owed.items e.replayed
    put-found = accepted-found-by f (with_standing c Out w) cards c U V X Y Z found unit_whole unit_after whole after registration long vehicle odometer now few answer (out-now c w) bare was-out late app measured size enters valid e ok
