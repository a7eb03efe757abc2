-- Reports are told, a line each: which, and since when each of them may be (profile).
use Rattle.std.specs.Prelude.{◌≡◌, ℕ, List, [], ◌∷◌, ◌++◌, map, drop, length}
use Rattle.std.specs.List.{AllByRecursion}
use Rattle.std.specs.declared.option.Option.{Option}
use Rattle.std.specs.Io.KnownBytes.{Appends}
use Rattle.tach_media.specs.Streams.{AppendsFront}
use Rattle.run_outcome.specs.declared.outcome.Outcome.{Outcome}
use Rattle.live_telling.specs.Telling.{AreToldUpTo, Clocks, HaveComeTo, Line, Telling, TellsLines, TellsMore, at_any_time}
use Rattle.live_telling.specs.Telling.{once}
use Rattle.live_telling.specs.InTime.{text_of}
use Rattle.live_lines.specs.Texts.{IsReportText}
use Rattle.live_lines.specs.declared.news.Printed.{Printed}
use Rattle.live_lines.specs.declared.report.Report.{Report}
use Rattle.live_lines.specs.declared.report.Report.TheVariants.{Began, Refused, Found, Acknowledged, Broken}

-- SINCE WHEN A REPORT MAY BE TOLD: an acknowledged minute since its device came to the clock behind the call that kept
-- it, and any other at any time
abbrev pub since_of : Report → Clocks
since_of (Began second) = at_any_time
since_of (Refused refused) = at_any_time
since_of (Found find) = at_any_time
since_of (Acknowledged mark) = once mark.device mark.clock
since_of (Broken line) = at_any_time

-- the line of a report
abbrev pub IsLineOf : Report → Line → Type 0
IsLineOf report line = IsReportText report line.text × (line.since ≡ since_of report)

-- the lines of reports, in their order
abbrev pub AreLinesOf : List Report → List Line → Type 0
AreLinesOf [] lines = lines ≡ []
AreLinesOf (report ∷ reports) lines = (line : Line) × (rest : List Line) × (lines ≡ line ∷ rest) × IsLineOf report line
    × AreLinesOf reports rest

-- each of these reports may be told, by devices with these clocks
abbrev pub MayBeTold : List Report → Clocks → Type 0
MayBeTold reports now = AllByRecursion (λ r. HaveComeTo (since_of r) now) reports

-- REPORTS ARE TOLD beside devices with these clocks: the sink holds a line more for each of them, in their order, and
-- nothing else; and where each of them might be told, none of their bytes was told too early.
pub record TellsReports (reports : List Report) (clocks : Clocks) (held sunk : Option (List ℕ))
    (told now : Option (List Telling)) : Type 0 where
  pub lines : List Line
  pub are : AreLinesOf reports lines
  pub out : Appends held sunk (text_of lines)
  pub late : MayBeTold reports clocks → TellsLines lines told now

-- THE SINK FAILED: the first of them are told so, and a front of the next one
pub record TellsFirst (reports : List Report) (clocks : Clocks) (held sunk : Option (List ℕ))
    (told now : Option (List Telling)) : Type 0 where
  pub first : List Report
  pub next : Report
  pub rest : List Report
  pub parts : reports ≡ first ++ next ∷ rest
  pub lines : List Line
  pub are : AreLinesOf (first ++ next ∷ []) lines
  pub out : AppendsFront held sunk (text_of lines)
  pub late : MayBeTold reports clocks → (tells : List Telling) × TellsMore told now tells × AreToldUpTo lines tells

-- THE NEWS of an outcome, of which so many lines of each list were printed: what it tells more, refusals first, then
-- what was found of cards, the minutes that were acknowledged, and the breaks
abbrev pub news_behind : Printed → Outcome → List Report
news_behind printed out = map Refused (drop printed.refused out.refused.items)
    ++ (map Found (drop printed.finds out.finds.items)
    ++ (map Acknowledged (drop printed.marks out.marks.items) ++ map Broken (drop printed.breaks out.breaks.items)))

-- all of it was printed
pub record IsPrinted (printed : Printed) (out : Outcome) : Type 0 where
  pub refused : printed.refused ≡ length out.refused.items
  pub finds : printed.finds ≡ length out.finds.items
  pub marks : printed.marks ≡ length out.marks.items
  pub breaks : printed.breaks ≡ length out.breaks.items
