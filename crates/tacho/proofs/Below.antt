-- The decided minutes of a trace are on days that a time can name.
use Rattle.std.proofs.Common.{ℕ, ◌+◌, ◌*◌, ◌<◌, ◌≤◌, List, [], ◌∷◌, subst, arith}
use Rattle.std.specs.Prelude.{map}
use Rattle.std.specs.List.{AllByRecursion}
use Rattle.minute_model.specs.declared.Rule.{Rule}
use Rattle.minute_model.specs.declared.Minute.{Minute}
use Rattle.minute_model.specs.Second.{Second}
use Rattle.minute_model.specs.Minute.{decided}
use Rattle.minute_model.specs.Span.{Span, begin, end_of, fed_many, picked, AreSettled, AreNumbered}
use Rattle.minute_model.proofs.Counted.{decided-ended}
use Rattle.minute_model.proofs.Spans.{fed_many-numbered}
use Rattle.trace_model.specs.declared.Action.TheVariants.{Select, Insert, Withdraw, Tear, Place, Manual}
use Rattle.trace_model.specs.declared.Item.{Item}
use Rattle.trace_model.specs.declared.Item.TheVariants.{Run, Off, Act}
use Rattle.trace_text.specs.declared.lines_trace.Form.TheVariants.{Minutes}
use Rattle.trace_text.specs.Line.{IsKnown}
use Rattle.trace_text.specs.Trace.{IsWellFormed}
use Rattle.run_model.specs.Span.{trace_span}
use Rattle.view_model.specs.declared.UnitShown.{UnitShown}
use Rattle.view_model.specs.declared.Viewed.{Viewed}
use Rattle.view_model.specs.declared.Line.{Line}
use Rattle.view_model.specs.Lines.{day_of_minute, lines_of, same_unit}
use Rattle.tacho_types.specs.declared.calendar.TheConstants.{DAYS}
use Rattle.view_text.proofs.Texts.{lines-below}
use Rattle.tacho.specs.Feeding.{fed_items}
use Rattle.tacho.specs.Minutes.{without_card, minutes_printed}
use Rattle.tacho.proofs.Fed.{fed-span, fed_items-end, fed_items-rule, fed_items-settlings}

-- the seconds of a span are numbered from its first one on
abbrev IsNumbered : Span → Type 0
IsNumbered span = AreNumbered span.first span.seconds

fed_items-numbered : (span : Span) (items : List Item) → IsNumbered span → IsNumbered (fed_items span items)
fed_items-numbered span [] numbered = numbered
fed_items-numbered span (Act (Select slot pick) ∷ items) numbered = fed_items-numbered (picked span slot pick) items numbered
fed_items-numbered span (Run n speed ∷ items) numbered = fed_items-numbered (fed_many span speed n) items (fed_many-numbered span speed n numbered)
fed_items-numbered span (Off n ∷ items) numbered = fed_items-numbered span items numbered
fed_items-numbered span (Act (Insert slot card) ∷ items) numbered = fed_items-numbered span items numbered
fed_items-numbered span (Act (Withdraw slot) ∷ items) numbered = fed_items-numbered span items numbered
fed_items-numbered span (Act (Tear slot) ∷ items) numbered = fed_items-numbered span items numbered
fed_items-numbered span (Act (Place slot ending country region) ∷ items) numbered = fed_items-numbered span items numbered
fed_items-numbered span (Act (Manual slot pick minute) ∷ items) numbered = fed_items-numbered span items numbered

-- minutes that have ended before a second are on days that a time can name
shown-below : (end : ℕ) (minutes : List Minute) → end ≤ 4294880896 → AllByRecursion (λ (m : Minute). 60 * m.minute + 60 ≤ end) minutes → AllByRecursion (λ (v : Viewed UnitShown). day_of_minute v.minute < DAYS) (map without_card minutes)
shown-below end [] le all = tt
shown-below end (m ∷ minutes) le all = (omega (arith, all.0, le), shown-below end minutes le all.1)

trace-below : (rule : Rule) (start : ℕ) (items : List Item) → IsWellFormed start items → AllByRecursion (IsKnown Minutes) items → AllByRecursion (λ (v : Viewed UnitShown). day_of_minute v.minute < DAYS) (minutes_printed rule start items)
trace-below rule start items well known =
    let span = fed_items (begin rule start) items in
    let none = fed_items-settlings (begin rule start) items in
    let same = fed_items-rule (begin rule start) items in
    let settled : AreSettled span = rw none tt in
    let ended = rw (same, none) at (decided-ended span (fed_items-numbered (begin rule start) items tt) settled) in
    let P : List Second → Type 0 = λ xs. AllByRecursion (λ (m : Minute). 60 * m.minute + 60 ≤ end_of span) (decided rule xs []) in
    shown-below (end_of span) (decided rule (trace_span start items) []) (omega (arith, fed_items-end (begin rule start) items known, well.within.1)) (subst P (fed-span rule start items known) ended)

-- so their lines begin on such days
pub lines-of-trace : (rule : Rule) (start : ℕ) (items : List Item) → IsWellFormed start items → AllByRecursion (IsKnown Minutes) items → AllByRecursion (λ (l : Line UnitShown). day_of_minute l.first < DAYS) (lines_of same_unit (minutes_printed rule start items))
lines-of-trace rule start items well known = lines-below DAYS same_unit (minutes_printed rule start items) (trace-below rule start items well known)
