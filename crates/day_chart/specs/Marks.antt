-- The marks of the picture: places that were entered, events, faults and entries by hand (profile).
use Rattle.std.specs.Prelude.{◌≡◌, ℕ, ◌+◌, ◌/◌, ◌%◌, ◌==◌, if◌then◌else◌, List, [], ◌∷◌, ◌++◌, codes, decimal, filter}
use Rattle.activity_codec.specs.declared.day.TheConstants.{DAY_MINUTES, DAY_SECONDS, MINUTE_SECONDS}
use Rattle.activity_codec.specs.Names.{activity_name}
use Rattle.calendar_days.specs.Clock.{clock_text}
use Rattle.hex.specs.Hex.{encode_lower}
use Rattle.view_model.specs.declared.marks.Sign.{Sign}
use Rattle.view_model.specs.declared.marks.Sign.TheVariants.{Begin, End, Event, Fault, ByHand}
use Rattle.view_model.specs.declared.marks.Mark.{Mark}
use Rattle.day_chart.specs.declared.frame.TheConstants.{DAY_BEGIN}
use Rattle.day_chart.specs.Bars.{half_text}

-- the sign's name in the picture
abbrev pub sign_name : Sign → List ℕ
sign_name Begin = codes "begin"
sign_name End = codes "end"
sign_name Event = codes "event"
sign_name Fault = codes "fault"
sign_name (ByHand act) = codes "hand"

-- what a mark says in front of its code
abbrev pub mark_words : Sign → List ℕ
mark_words Begin = codes " work period begins, country "
mark_words End = codes " work period ends, country "
mark_words Event = codes " event "
mark_words Fault = codes " fault "
mark_words (ByHand act) = codes " by hand "

-- a country is a number, a type of events or faults has two hexadecimal digits, as the regulation writes it, and what
-- was entered by hand is an activity
abbrev pub code_text : Sign → ℕ → List ℕ
code_text Begin code = decimal code
code_text End code = decimal code
code_text Event code = encode_lower (code ∷ [])
code_text Fault code = encode_lower (code ∷ [])
code_text (ByHand act) code = activity_name act

-- what a mark says: `2010-03-01 07:15 work period begins, country 17`, `2010-03-01 07:20 event 07`,
-- `2010-03-01 05:10 by hand work`
abbrev pub mark_title : (date : List ℕ) → Mark → List ℕ
mark_title date mark = date ++ codes " " ++ clock_text (mark.second / MINUTE_SECONDS) ++ mark_words mark.sign
    ++ code_text mark.sign mark.code

-- A MARK: its sign at its minute; two minutes are one unit wide
abbrev pub mark_text : (date : List ℕ) → Mark → List ℕ
mark_text date mark =
    codes "<use xlink:href=\"#mark-" ++ sign_name mark.sign ++ codes "\" x=\""
    ++ half_text (DAY_BEGIN + mark.second / MINUTE_SECONDS % DAY_MINUTES) ++ codes "\"><title>"
    ++ mark_title date mark ++ codes "</title></use>\n"

-- a mark where it lies on this day, and nothing on another day
abbrev pub day_mark_text : (date : List ℕ) → (day : ℕ) → Mark → List ℕ
day_mark_text date day mark = if mark.second / DAY_SECONDS == day then mark_text date mark else []

-- THE MARKS OF A DAY, in their order
abbrev pub marks_text : (date : List ℕ) → (day : ℕ) → List Mark → List ℕ
marks_text date day [] = []
marks_text date day (mark ∷ marks) = day_mark_text date day mark ++ marks_text date day marks

-- the day of a mark
abbrev pub mark_day : Mark → ℕ
mark_day mark = mark.second / DAY_SECONDS

-- those that lie on this day
abbrev pub marks_of_day : (day : ℕ) → List Mark → List Mark
marks_of_day day marks = filter (λ mark. mark_day mark == day) marks

-- the same lie on each day, in the same order
abbrev pub AreSameMarks : List Mark → List Mark → Type 0
AreSameMarks marks other = (day : ℕ) → marks_of_day day marks ≡ marks_of_day day other
