-- The recorded days of an image that decodes are those that their minutes fill, one after the other.
use Rattle.std.proofs.Common.{◌≡◌, ℕ, ◌/◌, [], refl, sym, ◌∙◌, ap, arith}
use Rattle.unit_model.specs.Days.{UnitMinute, StoredDay, day_of, minute_at, shown, day_from, with_minute}
use Rattle.unit_model.proofs.Growth.{shown_with}

-- its first minute
first_day : (d : StoredDay) → day_from (minute_at d 0) ≡ shown 1 d
first_day d =
    let k : UnitMinute = minute_at d 0 in
    let day_is : k.minute / 1440 ≡ day_of d = omega arith in
    ap (λ (n : ℕ). with_minute k (record { day = n; minutes = [] })) day_is
    ∙ sym (shown_with 0 0 d d k refl (omega arith) (omega arith) (λ u less. absurd (omega (arith, less))) (λ u from to. absurd (omega (arith, to))) refl)
