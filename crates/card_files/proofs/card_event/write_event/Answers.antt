use Rattle.std.proofs.Common.{rules, ◌≡◌, ◌∙◌, sym, length, arith}
use Rattle.byteorder.specs.Endian.{big_number}
use Rattle.card_files.proofs.Parts.{event_of-joined, same_event, registration_is}
use Rattle.card_files.proofs.card_event.write_event.Goals as goal

pub returns-clause-reads_back : goal.returns-clause-reads_back
returns-clause-reads_back c =
    let kind_len : length c.copy_from_slice.new.self ≡ 1 = search rules in
    let begin_len : length c.write_time.new.out ≡ 4 = search rules in
    let end_len : length c.write_time-2.new.out ≡ 4 = search rules in
    let registration_len : length c.write_registration.new.out ≡ 15 = search rules in
    let kind : big_number 1 c.copy_from_slice.new.self ≡ c.args.v.now.kind = rw c.copy_from_slice.ensures.after (omega arith) in
    event_of-joined _ _ _ _ kind_len begin_len end_len registration_len
    ∙ same_event _ _ _ _ _ _ _ _ kind c.write_time.ensures.reads_back c.write_time-2.ensures.reads_back (sym (registration_is c.args.v.now.registration _ (sym c.write_registration.ensures)))
