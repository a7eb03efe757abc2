-- The lines that `record live` prints of a run (profile).
use Rattle.std.specs.Prelude.{◌≡◌, ℕ, ◌/◌, ◌%◌, Bool, true, false, List, [], ◌∷◌, ◌++◌, codes}
use Rattle.activity_codec.specs.Names.{slot_name}
use Rattle.activity_codec.specs.declared.day.TheConstants.{DAY_MINUTES, DAY_SECONDS}
use Rattle.tacho_types.specs.declared.calendar.TheConstants.{DAYS}
use Rattle.calendar_days.specs.Calendar.{IsDateText}
use Rattle.calendar_days.specs.Clock.{clock_text, seconds_text}
use Rattle.run_model.specs.Names.{device_name}
use Rattle.log_model.specs.declared.lines.Break.{Break}
use Rattle.log_model.specs.declared.lines.Break.TheVariants.{Cut, Tear}
use Rattle.log_model.specs.declared.lines.Verdict.{Verdict}
use Rattle.log_model.specs.declared.lines.Verdict.TheVariants.{Accepted, NotValid, TimeOverlap}
use Rattle.failure_lines.specs.Refusals.{refusal_reason}
use Rattle.live_lines.specs.declared.report.Report.{Report}
use Rattle.live_lines.specs.declared.report.Report.TheVariants.{Began, Refused, Found, Acknowledged, Broken}

-- words behind a space; nothing where there are none
abbrev pub spaced : List ℕ → List ℕ
spaced [] = []
spaced (word ∷ words) = 32 ∷ word ∷ words

-- a line: `WHAT 2010-03-01 06:12:03`, and a space and more words, if any
abbrev pub IsTimedLine : (what : List ℕ) → (second : ℕ) → (more : List ℕ) → List ℕ → Type 0
IsTimedLine what second more text = (date : List ℕ) × IsDateText (second / DAY_SECONDS) date
    × (text ≡ what ++ codes " " ++ date ++ codes " " ++ seconds_text second ++ spaced more ++ codes "\n")

-- a line: `WHOSE 2010-03-01 06:12`. Each minute of a second that the formats can tell is of one of their days.
abbrev pub IsMinuteLine : (whose : List ℕ) → (minute : ℕ) → List ℕ → Type 0
IsMinuteLine whose minute text = (date : List ℕ) × IsDateText (minute / DAY_MINUTES % DAYS) date
    × (text ≡ whose ++ codes " " ++ date ++ codes " " ++ clock_text minute ++ codes "\n")

-- what a card was found to be
abbrev pub verdict_words : Verdict → List ℕ
verdict_words (Accepted replayed) = codes "accepted"
verdict_words (NotValid fid place) = codes "not valid"
verdict_words (TimeOverlap stored now) = codes "of a later time"

-- that a call has failed, if one has
abbrev pub failed_words : Bool → List ℕ
failed_words true = codes "failed"
failed_words false = []

-- `cut 2010-03-01 06:12:03`, `torn driver 2010-03-01 06:12:03 failed`. What was found kept behind a cut is not told.
abbrev pub IsBreakText : Break → List ℕ → Type 0
IsBreakText (Cut second kept failed begun) text = IsTimedLine (codes "cut") second (failed_words failed) text
IsBreakText (Tear second slot failed begun late) text = IsTimedLine (codes "torn " ++ slot_name slot) second
    (failed_words failed) text

-- THE LINE OF A REPORT: `began 2010-03-01 06:00:00`, `refused 2010-03-01 06:12:03 the slot is empty`,
-- `found driver 2010-03-01 06:00:00 accepted`, `unit 2010-03-01 06:00`, and that of a break
abbrev pub IsReportText : Report → List ℕ → Type 0
IsReportText (Began second) text = IsTimedLine (codes "began") second [] text
IsReportText (Refused refused) text = IsTimedLine (codes "refused") refused.second (refusal_reason refused.fault) text
IsReportText (Found find) text = IsTimedLine (codes "found " ++ slot_name find.slot) find.second
    (verdict_words find.verdict) text
IsReportText (Acknowledged mark) text = IsMinuteLine (device_name mark.device) mark.minute text
IsReportText (Broken line) text = IsBreakText line text
