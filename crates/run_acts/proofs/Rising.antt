-- How often devices have broken down over a call: a card only where it was torn out.
use Rattle.std.proofs.Common.{◌≡◌, ⊎_elim, ◌∙◌, ℕ, ◌≤◌, refl, sym}
use Rattle.trace_model.specs.declared.Card.{Card}
use Rattle.trace_model.specs.declared.Card.TheVariants.{A, B}
use Rattle.tach_media.specs.Medium.{State}
use Rattle.log_model.specs.run_model.declared.Device.{Device}
use Rattle.log_model.specs.run_model.declared.Device.TheVariants.{Unit as Recorder}
use Rattle.log_model.specs.Causes.{device_of, RoseBy}
use Rattle.device_calls.specs.safety_model.Safe.{Devices, breakdowns_of}
use Rattle.run_crew.specs.declared.cards.Cards.{Cards}
use Rattle.run_crew.specs.Cards.{session_of}
use Rattle.run_minutes.specs.run_promise.Between.{devices}
use Rattle.run_minutes.specs.run_devices.Told.{arranged}
use Rattle.run_events.specs.run_course.Telling.{IsMore, BrokeDown}
use Rattle.run_minutes.specs.Keeping.{tears_of}
use Rattle.run_minutes.specs.Later.{RestBy}
use Rattle.run_acts.specs.Rounds.{StandsOrFell}

-- ---- a call on the unit alone

pub unit-more : (U V X Y : State) → U.breakdowns ≤ V.breakdowns → IsMore (breakdowns_of (devices U X Y)) (breakdowns_of (devices V X Y))
unit-more U V X Y more = record { unit = more; cards = rests }
  where
    rests : (c : Card) → breakdowns_of (devices V X Y) (device_of c) ≡ breakdowns_of (devices U X Y) (device_of c)
    rests A = refl
    rests B = refl

-- ---- on one card, and on the unit

unit-rises : (c : Card) (U V X Y Z : State) → U.breakdowns ≤ V.breakdowns → breakdowns_of (arranged c U X Z) Recorder ≤ breakdowns_of (arranged c V Y Z) Recorder
unit-rises A U V X Y Z more = more
unit-rises B U V X Y Z more = more

card-rests : (c : Card) (U V X Y Z : State) → Y.breakdowns ≡ X.breakdowns → (d : Card) → breakdowns_of (arranged c V Y Z) (device_of d) ≡ breakdowns_of (arranged c U X Z) (device_of d)
card-rests A U V X Y Z same A = same
card-rests A U V X Y Z same B = refl
card-rests B U V X Y Z same A = refl
card-rests B U V X Y Z same B = same

other-rests : (c : Card) (U V X Y Z : State) (d : Card) → (d ≡ c → ⊥) → breakdowns_of (arranged c V Y Z) (device_of d) ≡ breakdowns_of (arranged c U X Z) (device_of d)
other-rests A U V X Y Z A apart = absurd (apart refl)
other-rests A U V X Y Z B apart = refl
other-rests B U V X Y Z A apart = refl
other-rests B U V X Y Z B apart = absurd (apart refl)

card-rose : (c : Card) (U V X Y Z : State) → RoseBy 1 X.breakdowns Y.breakdowns → RoseBy 1 (breakdowns_of (arranged c U X Z) (device_of c)) (breakdowns_of (arranged c V Y Z) (device_of c))
card-rose A U V X Y Z rose = rose
card-rose B U V X Y Z rose = rose

-- the card has not broken down
pub card-more : (c : Card) (U V X Y Z : State) → U.breakdowns ≤ V.breakdowns → Y.breakdowns ≡ X.breakdowns → IsMore (breakdowns_of (arranged c U X Z)) (breakdowns_of (arranged c V Y Z))
card-more c U V X Y Z more same = record { unit = unit-rises c U V X Y Z more; cards = card-rests c U V X Y Z same }

-- or it has
pub card-fell : (c : Card) (U V X Y Z : State) → U.breakdowns ≤ V.breakdowns → RoseBy 1 X.breakdowns Y.breakdowns → BrokeDown c (breakdowns_of (arranged c U X Z)) (breakdowns_of (arranged c V Y Z))
card-fell c U V X Y Z more rose = record { unit = unit-rises c U V X Y Z more; broke = card-rose c U V X Y Z rose; others = other-rests c U V X Y Z }

-- ---- over the keeping of minutes

rests-by : (old cards : Cards) (d e : Devices) → RestBy old cards d e → (c : Card) → tears_of (session_of old c) ≤ tears_of (session_of cards c) → breakdowns_of e (device_of c) ≡ breakdowns_of d (device_of c)
rests-by old cards d e h A le = h.card_a le
rests-by old cards d e h B le = h.card_b le

-- where each card that has not lost its session stands where it stood, the count that stands for those that fell is the last one
pub fell-more : (old cards : Cards) (d e : Devices) (now : Device → ℕ) → now Recorder ≤ breakdowns_of e Recorder → ((c : Card) → StandsOrFell old cards (breakdowns_of d) (breakdowns_of e) now c) → RestBy old cards d e → IsMore now (breakdowns_of e)
fell-more old cards d e now unit each h = record {
  unit = unit;
  cards = λ c. ⊎_elim (λ fell. sym fell) (λ stands. rests-by old cards d e h c stands.1 ∙ sym stands.0) (each c);
}
