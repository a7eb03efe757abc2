use Rattle.std.proofs.Common.{◌≡◌, ◌/◌, refl, arith}
use Rattle.json_fields.specs.Dates.{date_of, date_text}
use Rattle.json_fields.proofs.Days.{only_text}
use Rattle.json_fields.proofs.times.time_text.Goals as goal

pub returns : goal.returns
returns c =
    let date : c.day_text-date.result.items ≡ date_text (date_of (c.args.second / 86400)) = only_text (c.args.second / 86400) c.day_text-date.result.items (omega arith) c.day_text-date.ensures in
    rw (c.in_ok-extend_from_slice-4.ensures.items, c.in_ok-extend_from_slice-3.ensures.items, c.seconds_text.ensures, c.in_ok-extend_from_slice-2.ensures.items, c.in_ok-extend_from_slice.ensures.items, c.as_slice.ensures.value, c.new-text.ensures.items, date) refl
