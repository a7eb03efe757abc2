use Rattle.std.specs.Prelude.{codes, ◌/◌}
use Rattle.calendar_days.specs.Clock.{clock_text}
use Rattle.day_chart.specs.Marks.{mark_words, code_text}
use Rattle.day_chart.proofs.Joining.{five_pieces}
use Rattle.day_chart.proofs.mark.write_mark_title.Goals as goal

pub returns : goal.returns
returns c =
    let mark = c.args.mark in
    rw (
      c.in_ok-write_code.ensures,
      c.in_ok-extend_from_slice-3.ensures.items,
      c.mark_words.ensures,
      c.in_ok-write_clock.ensures,
      c.in_ok-extend_from_slice-2.ensures.items,
      c.in_ok-extend_from_slice.ensures.items,
    ) (five_pieces c.args.text.now.items c.args.date.now (codes " ") (clock_text (mark.second / 60)) (mark_words mark.sign) (code_text mark.sign mark.code))
