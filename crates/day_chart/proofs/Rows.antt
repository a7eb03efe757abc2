-- Worked rows, computed by the checker: a bar of driving, one without a card, and minutes that were not recorded; a place, an event, an entry
-- by hand, and a mark of another day.
use Rattle.std.proofs.Common.{◌≡◌, ℕ, ◌+◌, Bool, true, false, [], refl}
use Rattle.std.specs.Prelude.{codes}
use Rattle.std.specs.Fmt.{digits}
use Rattle.hex.specs.Hex.{encode_with}
use Rattle.activity_codec.specs.declared.values.Activity.{Activity}
use Rattle.activity_codec.specs.declared.values.Activity.TheVariants.{Rest, Work, Driving}
use Rattle.view_model.specs.declared.Line.{Line}
use Rattle.slot_bars.specs.declared.seen.Seen.{Seen}
use Rattle.view_model.specs.declared.marks.Sign.TheVariants.{Begin, Event, ByHand}
use Rattle.day_chart.specs.Bars.{bar_text}
use Rattle.day_chart.specs.Marks.{mark_text, day_mark_text}

-- minutes of 2010-03-01
abbrev bar : (first last : ℕ) → Activity → (present crew known : Bool) → Line Seen
bar first last act present crew known =
    record { first = 21123360 + first; last = 21123360 + last; shown = record { act = act; present = present; crew = crew; known = known } }

driven : bar_text (codes "2010-03-01") (codes "driver") (bar 435 704 Driving true true true)
    ≡ codes "<rect x=\"277.5\" width=\"135\" y=\"2\" height=\"24\" fill=\"#0072b2\" stroke=\"#000\" stroke-width=\"0.6\"><title>2010-03-01 07:15-11:44 driver drive, crew</title></rect>\n"
unfolding digits
driven = refl

without_card : bar_text (codes "2010-03-01") (codes "driver") (bar 0 419 Rest false false true)
    ≡ codes "<rect x=\"60\" width=\"210\" y=\"20\" height=\"6\" fill=\"none\" stroke=\"#777\" stroke-width=\"0.6\" stroke-dasharray=\"2 2\"><title>2010-03-01 00:00-06:59 driver rest, no card</title></rect>\n"
unfolding digits
without_card = refl

unrecorded : bar_text (codes "2010-03-01") (codes "codriver") (bar 1439 1439 Rest false false false)
    ≡ codes "<rect x=\"779.5\" width=\"0.5\" y=\"2\" height=\"24\" fill=\"#ddd\"><title>2010-03-01 23:59-23:59 codriver unknown</title></rect>\n"
unfolding digits
unrecorded = refl

-- at 07:15 and at 07:20 of 2010-03-01, the day 14669
entered : mark_text (codes "2010-03-01") (record { sign = Begin; code = 17; second = 1267427700 })
    ≡ codes "<use xlink:href=\"#mark-begin\" x=\"277.5\"><title>2010-03-01 07:15 work period begins, country 17</title></use>\n"
unfolding digits
entered = refl

happened : day_mark_text (codes "2010-03-01") 14669 (record { sign = Event; code = 0x12; second = 1267428000 })
    ≡ codes "<use xlink:href=\"#mark-event\" x=\"280\"><title>2010-03-01 07:20 event 12</title></use>\n"
unfolding digits encode_with
happened = refl

-- at 05:10
handed : mark_text (codes "2010-03-01") (record { sign = ByHand Work; code = 0; second = 1267420200 })
    ≡ codes "<use xlink:href=\"#mark-hand\" x=\"215\"><title>2010-03-01 05:10 by hand work</title></use>\n"
unfolding digits
handed = refl

elsewhere : day_mark_text (codes "2010-03-02") 14670 (record { sign = Event; code = 0x12; second = 1267428000 }) ≡ []
elsewhere = refl
