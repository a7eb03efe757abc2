-- What is counted of the minutes of a day (profile).
use Rattle.std.specs.Prelude.{◌≡◌, ℕ, ◌+◌, ◌-◌, ◌==◌, ◌&&◌, ◌||◌, not, Bool, true, Option, option_map, find}
use Rattle.std.specs.Prelude.{if◌then◌else◌, List, [], ◌∷◌, codes, count_by}
use Rattle.activity_codec.specs.declared.values.Activity.{Activity}
use Rattle.activity_codec.specs.declared.values.Activity.TheVariants as activity
use Rattle.activity_codec.specs.Activity.{same_activity}
use Rattle.view_model.specs.declared.Viewed.{Viewed}
use Rattle.view_model.specs.declared.Line.{Line}
use Rattle.slot_bars.specs.declared.seen.Seen.{Seen}
use Rattle.view_model.specs.declared.marks.Distance.{Distance}
use Rattle.day_totals.specs.declared.figures.Figure.{Figure}
use Rattle.day_totals.specs.declared.figures.Figure.TheVariants.{Drive, Work, Available, Rest, Unknown, In}

-- this activity, with a card in the slot
abbrev pub is_with_card : Activity → Seen → Bool
is_with_card act seen = seen.present && same_activity seen.act act

-- WHAT COUNTS IN A FIGURE: an activity with a card in the slot; a minute that was not recorded; a minute with a card in
-- the slot
abbrev pub counts : Figure → Seen → Bool
counts Drive seen = is_with_card activity.Driving seen
counts Work seen = is_with_card activity.Work seen
counts Available seen = is_with_card activity.Available seen
counts Rest seen = is_with_card activity.Rest seen
counts Unknown seen = not seen.known
counts In seen = seen.present

-- how many minutes count
abbrev pub total : Figure → List (Viewed Seen) → ℕ
total figure minutes = count_by (λ m. counts figure m.shown) minutes

-- how many minutes of a bar count
abbrev pub line_total : Figure → Line Seen → ℕ
line_total figure bar = if counts figure bar.shown then bar.last + 1 - bar.first else 0

-- what a figure is called
abbrev pub figure_name : Figure → List ℕ
figure_name Drive = codes "drive"
figure_name Work = codes "work"
figure_name Available = codes "available"
figure_name Rest = codes "rest"
figure_name Unknown = codes "unknown"
figure_name In = codes "in"

-- the day that a distance is told of
abbrev pub day_told : Distance → ℕ
day_told d = d.day

-- the distance of a day: that of the first which is told of it
abbrev pub distance_on : List Distance → (day : ℕ) → Option ℕ
distance_on distances day = option_map (λ (d : Distance). d.km) (find (λ d. d.day == day) distances)

-- the same is told of each day
abbrev pub AreSameDistances : List Distance → List Distance → Type 0
AreSameDistances distances other = (day : ℕ) → distance_on distances day ≡ distance_on other day

-- how many minutes are known to be without a card
abbrev pub out_total : List (Viewed Seen) → ℕ
out_total minutes = count_by (λ m. m.shown.known && not m.shown.present) minutes

-- a minute with a card was recorded
abbrev pub AreSeen : List (Viewed Seen) → Type 0
AreSeen [] = Unit {0}
AreSeen (m ∷ minutes) = ((m.shown.known || not m.shown.present) ≡ true) × AreSeen minutes
