use Rattle.std.proofs.Common.{rules, ◌≡◌, ◌∙◌, sym, length}
use Rattle.card_files.proofs.Parts.{vehicle_of-joined, same_vehicle, registration_is}
use Rattle.card_files.proofs.vehicle.write_vehicle.Goals as goal

pub returns-clause-reads_back : goal.returns-clause-reads_back
returns-clause-reads_back c =
    let begin_len : length c.write_odometer.new.out ≡ 3 = search rules in
    let end_len : length c.write_odometer-2.new.out ≡ 3 = search rules in
    let first_len : length c.write_time.new.out ≡ 4 = search rules in
    let last_len : length c.write_time-2.new.out ≡ 4 = search rules in
    let registration_len : length c.write_registration.new.out ≡ 15 = search rules in
    let counter_len : length c.copy_from_slice.new.self ≡ 2 = search rules in
    vehicle_of-joined _ _ _ _ _ _ begin_len end_len first_len last_len registration_len counter_len
    ∙ same_vehicle _ _ _ _ _ _ _ _ _ _ _ _ c.write_odometer.ensures.reads_back c.write_odometer-2.ensures.reads_back c.write_time.ensures.reads_back c.write_time-2.ensures.reads_back
    (sym (registration_is c.args.v.now.registration _ (sym c.write_registration.ensures))) c.copy_from_slice.ensures.after
