-- The same is shown of equal values alone.
use Rattle.std.specs.Prelude.{◌≡◌, Bool, true, false, ◌&&◌, refl}
use Rattle.std.proofs.Common.{◌∙◌, ap}
use Rattle.activity_codec.specs.declared.values.Slot.{Slot}
use Rattle.activity_codec.specs.declared.values.Slot.TheVariants.{Driver, CoDriver}
use Rattle.activity_codec.specs.declared.values.Activity.{Activity}
use Rattle.activity_codec.specs.declared.values.Activity.TheVariants.{Rest, Available, Work, Driving}
use Rattle.activity_codec.specs.Activity.{same_slot, same_activity}
use Rattle.view_model.specs.declared.State.{State}
use Rattle.view_model.specs.declared.UnitShown.{UnitShown}
use Rattle.view_model.specs.declared.CardShown.{CardShown}
use Rattle.view_model.specs.Lines.{same_bool, same_state, same_unit, same_card}

-- two tests that are both passed
pub both : (a b : Bool) → (a && b) ≡ true → (a ≡ true) × (b ≡ true)
both true true is = (refl, refl)
both true false is = absurd (cc)
both false b is = absurd (cc)

slot_exact : (one other : Slot) → same_slot one other ≡ true → one ≡ other
slot_exact Driver Driver is = refl
slot_exact CoDriver CoDriver is = refl
slot_exact Driver CoDriver is = absurd (cc)
slot_exact CoDriver Driver is = absurd (cc)

activity_exact : (one other : Activity) → same_activity one other ≡ true → one ≡ other
activity_exact Rest Rest is = refl
activity_exact Available Available is = refl
activity_exact Work Work is = refl
activity_exact Driving Driving is = refl
activity_exact _ _ is = absurd (cc)

bool_exact : (one other : Bool) → same_bool one other ≡ true → one ≡ other
bool_exact true true is = refl
bool_exact false false is = refl
bool_exact true false is = absurd (cc)
bool_exact false true is = absurd (cc)

state_exact : (one other : State) → same_state one other ≡ true → one ≡ other
state_exact one other is =
    let parts = both (same_activity one.act other.act) (same_bool one.present other.present) is in
    let of : Activity → Bool → State = λ act present. record { act = act; present = present } in
    ap (λ (act : Activity). of act one.present) (activity_exact one.act other.act parts.0)
    ∙ ap (of other.act) (bool_exact one.present other.present parts.1)

-- a unit shows the same of two minutes alone where it shows equal values
pub unit_exact : (one other : UnitShown) → same_unit one other ≡ true → one ≡ other
unit_exact one other is =
    let parts = both (same_state one.driver other.driver && same_state one.codriver other.codriver)
    (same_bool one.crew other.crew) is in
    let states = both (same_state one.driver other.driver) (same_state one.codriver other.codriver) parts.0 in
    let of : State → State → Bool → UnitShown = λ driver codriver crew.
    record { driver = driver; codriver = codriver; crew = crew } in
    ap (λ (s : State). of s one.codriver one.crew) (state_exact one.driver other.driver states.0)
    ∙ ap (λ (s : State). of other.driver s one.crew) (state_exact one.codriver other.codriver states.1)
    ∙ ap (of other.driver other.codriver) (bool_exact one.crew other.crew parts.1)

-- and so does a card
pub card_exact : (one other : CardShown) → same_card one other ≡ true → one ≡ other
card_exact one other is =
    let parts = both (same_slot one.slot other.slot && same_activity one.act other.act) (same_bool one.crew other.crew)
    is in
    let front = both (same_slot one.slot other.slot) (same_activity one.act other.act) parts.0 in
    let of : Slot → Activity → Bool → CardShown = λ slot act crew. record { slot = slot; act = act; crew = crew } in
    ap (λ (s : Slot). of s one.act one.crew) (slot_exact one.slot other.slot front.0)
    ∙ ap (λ (a : Activity). of other.slot a one.crew) (activity_exact one.act other.act front.1)
    ∙ ap (of other.slot other.act) (bool_exact one.crew other.crew parts.1)
