use Rattle.std.specs.Prelude.{codes}
use Rattle.calendar_days.specs.Clock.{clock_text}
use Rattle.slot_bars.specs.Seeing.{seen_words}
use Rattle.day_chart.proofs.Joining.{nine_pieces}
use Rattle.day_chart.proofs.bar.write_title.Goals as goal

pub returns : goal.returns
returns c =
    rw (
      c.in_ok-write.ensures,
      c.in_ok-extend_from_slice-6.ensures.items,
      c.in_ok-extend_from_slice-5.ensures.items,
      c.in_ok-extend_from_slice-4.ensures.items,
      c.in_ok-write_clock-2.ensures,
      c.in_ok-extend_from_slice-3.ensures.items,
      c.in_ok-write_clock.ensures,
      c.in_ok-extend_from_slice-2.ensures.items,
      c.in_ok-extend_from_slice.ensures.items,
    ) (nine_pieces c.args.text.now.items c.args.date.now (codes " ") (clock_text c.args.bar.first) (codes "-") (clock_text c.args.bar.last) (codes " ") c.args.name.now (codes " ") (seen_words c.args.bar.shown))
