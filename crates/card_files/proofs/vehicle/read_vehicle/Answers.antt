use Rattle.std.proofs.Common.{rules, length, ◌≡◌, ◌∙◌, sym, ap, take, drop, arith}
use Rattle.std.proofs.lemmas.List.{take_all}
use Rattle.tacho_types.specs.Numbers.{time_of, odometer_of}
use Rattle.card_files.specs.Vehicles.{vehicle_of}
use Rattle.card_files.proofs.Parts.{same_vehicle, registration_is}
use Rattle.card_files.proofs.vehicle.read_vehicle.Goals as goal

pub returns-clause-value : goal.returns-clause-value
unfolding vehicle_of
returns-clause-value c =
    let after_begin = c.split_at.ensures.back in
    let after_end = c.split_at-2.ensures.back ∙ ap (drop 3) after_begin in
    let after_first = c.split_at-3.ensures.back ∙ ap (drop 4) after_end in
    let after_last = c.split_at-4.ensures.back ∙ ap (drop 4) after_first in
    let rest_len : length c.split_at-5.result.1.now ≡ 2 = search rules in
    let rest = sym (take_all 2 c.split_at-5.result.1.now (omega arith)) ∙ ap (take 2) (c.split_at-5.ensures.back ∙ ap (drop 15) after_last) in
    same_vehicle _ _ _ _ _ _ _ _ _ _ _ _
    (c.read_odometer.ensures.value ∙ ap odometer_of c.split_at.ensures.front)
    (c.read_odometer-2.ensures.value ∙ ap odometer_of (c.split_at-2.ensures.front ∙ ap (take 3) after_begin))
    (c.read_time.ensures.value ∙ ap time_of (c.split_at-3.ensures.front ∙ ap (take 4) after_end))
    (c.read_time-2.ensures.value ∙ ap time_of (c.split_at-4.ensures.front ∙ ap (take 4) after_first))
    (registration_is c.read_registration.result _ (c.read_registration.ensures ∙ c.split_at-5.ensures.front ∙ ap (take 15) after_last))
    (c.copy_from_slice.ensures.after ∙ rest)
