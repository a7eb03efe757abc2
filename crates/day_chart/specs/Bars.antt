-- The bars of the picture (profile).
use Rattle.std.specs.Prelude.{ℕ, ◌+◌, ◌-◌, ◌/◌, ◌%◌, ◌==◌, if◌then◌else◌, List, [], ◌∷◌, ◌++◌, codes, decimal}
use Rattle.activity_codec.specs.declared.day.TheConstants.{DAY_MINUTES}
use Rattle.activity_codec.specs.declared.values.Activity.{Activity}
use Rattle.activity_codec.specs.declared.values.Activity.TheVariants.{Rest, Available, Work, Driving}
use Rattle.calendar_days.specs.Clock.{clock_text}
use Rattle.view_model.specs.declared.Line.{Line}
use Rattle.slot_bars.specs.declared.seen.Seen.{Seen}
use Rattle.slot_bars.specs.Seeing.{seen_words}
use Rattle.day_chart.specs.declared.frame.TheConstants.{DAY_BEGIN}

-- without a card: no fill, grey dashes, as high as the activity
abbrev pub pale : Activity → List ℕ
pale Driving = codes
    " y=\"2\" height=\"24\" fill=\"none\" stroke=\"#777\" stroke-width=\"0.6\" stroke-dasharray=\"2 2\""
pale Work = codes " y=\"8\" height=\"18\" fill=\"none\" stroke=\"#777\" stroke-width=\"0.6\" stroke-dasharray=\"2 2\""
pale Available = codes
    " y=\"14\" height=\"12\" fill=\"none\" stroke=\"#777\" stroke-width=\"0.6\" stroke-dasharray=\"2 2\""
pale Rest = codes " y=\"20\" height=\"6\" fill=\"none\" stroke=\"#777\" stroke-width=\"0.6\" stroke-dasharray=\"2 2\""

-- with a card: blue, orange with stripes, yellow with dots, white
abbrev pub bold : Activity → List ℕ
bold Driving = codes " y=\"2\" height=\"24\" fill=\"#0072b2\" stroke=\"#000\" stroke-width=\"0.6\""
bold Work = codes " y=\"8\" height=\"18\" fill=\"url(#work)\" stroke=\"#000\" stroke-width=\"0.6\""
bold Available = codes " y=\"14\" height=\"12\" fill=\"url(#available)\" stroke=\"#000\" stroke-width=\"0.6\""
bold Rest = codes " y=\"20\" height=\"6\" fill=\"#fff\" stroke=\"#000\" stroke-width=\"0.6\""

-- how a bar looks: minutes that were not recorded are a grey block
abbrev pub look : Seen → List ℕ
look seen = if seen.known then (if seen.present then bold seen.act else pale seen.act)
    else codes " y=\"2\" height=\"24\" fill=\"#ddd\""

-- the half of a number, `37` or `37.5`
abbrev pub point_five : ℕ → List ℕ
point_five n = if n % 2 == 1 then codes ".5" else []

-- such a half as a decimal number
abbrev pub half_text : ℕ → List ℕ
half_text n = decimal (n / 2) ++ point_five n

-- what a bar says: `2010-03-01 07:15-11:44 driver drive, crew`
abbrev pub title_text : (date name : List ℕ) → Line Seen → List ℕ
title_text date name bar =
    date ++ codes " " ++ clock_text bar.first ++ codes "-" ++ clock_text bar.last ++ codes " "
    ++ name ++ codes " " ++ seen_words bar.shown

-- A BAR: two minutes are one unit wide
abbrev pub bar_text : (date name : List ℕ) → Line Seen → List ℕ
bar_text date name bar =
    codes "<rect x=\"" ++ half_text (DAY_BEGIN + bar.first % DAY_MINUTES) ++ codes "\" width=\""
    ++ half_text (bar.last + 1 - bar.first) ++ codes "\"" ++ look bar.shown
    ++ codes "><title>" ++ title_text date name bar ++ codes "</title></rect>\n"

-- bars, one after the other
abbrev pub bars_text : (date name : List ℕ) → List (Line Seen) → List ℕ
bars_text date name [] = []
bars_text date name (bar ∷ bars) = bar_text date name bar ++ bars_text date name bars
