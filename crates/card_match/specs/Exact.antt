-- Entries differ in the same way alone where their differences are equal.
use Rattle.std.specs.Prelude.{◌≡◌, Bool, true, false, ◌&&◌, refl}
use Rattle.std.proofs.Common.{◌∙◌, ap}
use Rattle.activity_codec.specs.declared.values.Slot.{Slot}
use Rattle.activity_codec.specs.declared.values.Activity.{Activity}
use Rattle.activity_codec.specs.Activity.{same_slot, same_activity}
use Rattle.view_model.specs.Lines.{same_bool}
use Rattle.view_text.specs.Exact.{both}
use Rattle.card_match.specs.declared.difference.Instead.{Instead}
use Rattle.card_match.specs.declared.difference.Instead.TheVariants.{NoMinute, NoCard, Doing, Crew}
use Rattle.card_match.specs.declared.difference.Difference.{Difference}
use Rattle.card_match.specs.Differences.{same_instead, same_difference}
use Rattle.activity_codec.specs.declared.values.Slot.TheVariants.{Driver, CoDriver}
use Rattle.activity_codec.specs.declared.values.Activity.TheVariants.{Rest, Available, Work, Driving}

slot_exact : (one other : Slot) → same_slot one other ≡ true → one ≡ other
slot_exact Driver Driver is = refl
slot_exact CoDriver CoDriver is = refl
slot_exact Driver CoDriver is = absurd (cc)
slot_exact CoDriver Driver is = absurd (cc)

activity_exact : (one other : Activity) → same_activity one other ≡ true → one ≡ other
activity_exact Rest Rest is = refl
activity_exact Available Available is = refl
activity_exact Work Work is = refl
activity_exact Driving Driving is = refl
activity_exact _ _ is = absurd (cc)

bool_exact : (one other : Bool) → same_bool one other ≡ true → one ≡ other
bool_exact true true is = refl
bool_exact false false is = refl
bool_exact true false is = absurd (cc)
bool_exact false true is = absurd (cc)

instead_exact : (one other : Instead) → same_instead one other ≡ true → one ≡ other
instead_exact NoMinute NoMinute is = refl
instead_exact NoCard NoCard is = refl
instead_exact (Doing a) (Doing b) is = ap Doing (activity_exact a b is)
instead_exact (Crew a) (Crew b) is = ap Crew (bool_exact a b is)
instead_exact _ _ is = absurd (cc)

-- two entries differ in the same way alone where their differences are equal
pub difference_exact : (one other : Difference) → same_difference one other ≡ true → one ≡ other
difference_exact one other is =
    let parts = both (same_slot one.slot other.slot && same_activity one.act other.act)
    (same_instead one.instead other.instead) is in
    let front = both (same_slot one.slot other.slot) (same_activity one.act other.act) parts.0 in
    let of : Slot → Activity → Instead
    → Difference = λ slot act instead. record { slot = slot; act = act; instead = instead } in
    ap (λ (slot : Slot). of slot one.act one.instead) (slot_exact one.slot other.slot front.0)
    ∙ ap (λ (act : Activity). of other.slot act one.instead) (activity_exact one.act other.act front.1)
    ∙ ap (of other.slot other.act) (instead_exact one.instead other.instead parts.1)
