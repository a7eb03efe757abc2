-- What the commands `minutes` and `minutes 2009` show of a trace, by the original and the amended rule of minutes.
use Rattle.std.specs.Prelude.{◌≡◌, ◌⊎◌, ℕ, false, Some, List, [], map}
use Rattle.std.specs.Io.KnownBytes.{Appends, IsAtEnd}
use Rattle.tach_media.specs.Medium.{Rose}
use Rattle.tach_media.specs.Streams.{AppendsFront}
use Rattle.minute_model.specs.declared.Minute.{Minute}
use Rattle.minute_model.specs.declared.Rule.{Rule}
use Rattle.minute_model.specs.Minute.{decided}
use Rattle.view_model.specs.declared.UnitShown.{UnitShown}
use Rattle.view_model.specs.declared.Viewed.{Viewed}
use Rattle.view_model.specs.declared.Line.{Line}
use Rattle.view_model.specs.Lines.{lines_of, same_unit}
use Rattle.view_text.specs.Text.{IsUnitView}
use Rattle.trace_text.specs.declared.lines_trace.Form.TheVariants.{Minutes}
use Rattle.trace_model.specs.declared.Item.{Item}
use Rattle.run_model.specs.Span.{trace_span}
use Rattle.trace_text.specs.Judged.{IsTraceText}
use Rattle.tacho.specs.declared.end.Fault.{Fault}
use Rattle.tacho.specs.declared.end.Fault.TheVariants.{Done, BadTrace, TooLong, ReadFault, WriteFault, Memory}
use Rattle.tacho.specs.Outside.{Outside}
use Rattle.tacho.specs.Reading.{JudgesTrace}

-- a minute with no card present
abbrev pub without_card : Minute → Viewed UnitShown
without_card m = record {
  minute = m.minute;
  shown = record {
    driver = record { act = m.driver; present = false };
    codriver = record { act = m.codriver; present = false };
    crew = false;
  };
}

-- the lines of minutes, no card present
abbrev pub lines_shown : List Minute → List (Line UnitShown)
lines_shown minutes = lines_of same_unit (map without_card minutes)

-- the decided minutes of the one span of a trace by a rule, no card present
abbrev pub minutes_printed : Rule → ℕ → List Item → List (Viewed UnitShown)
minutes_printed rule start items = map without_card (decided rule (trace_span start items) [])

-- this is printed for a source of this text
pub record PrintsMinutes (rule : Rule) (text out : List ℕ) : Type 0 where
  pub start : ℕ
  pub items : List Item
  pub trace : IsTraceText Minutes text start items
  pub view : IsUnitView (minutes_printed rule start items) out

-- how they can end
abbrev pub IsMinutesEnd : Fault → Type 0
IsMinutesEnd Done = Unit {0}
IsMinutesEnd (BadTrace n) = Unit {0}
IsMinutesEnd (TooLong n) = Unit {0}
IsMinutesEnd ReadFault = Unit {0}
IsMinutesEnd WriteFault = Unit {0}
IsMinutesEnd Memory = Unit {0}
IsMinutesEnd _ = ⊥

-- How they end, each by its rule.
pub record EndsMinutes (rule : Rule) (old new : Outside) (fault : Fault) : Type 0 where
  pub ends : IsMinutesEnd fault
  -- Done: the sink gained exactly the view text of the decided minutes of the source's trace, and nothing of the source
  -- is left.
  pub printed : (text : List ℕ) → old.source.left ≡ Some text → fault ≡ Done
      → (out : List ℕ) × PrintsMinutes rule text out × Appends old.sink.held new.sink.held out
  pub read : fault ≡ Done → IsAtEnd new.source.left
  -- A bad or a long text is refused by its line.
  pub judges : JudgesTrace Minutes old.source new.source fault
  -- And a trace is printed where neither stream fails, unless memory runs out.
  pub prints : (text : List ℕ) (start : ℕ) (items : List Item) → old.source.left ≡ Some text
      → IsTraceText Minutes text start items
      → (Rose old.source.faults new.source.faults → ⊥) → (Rose old.sink.faults new.sink.faults → ⊥)
      → (fault ≡ Done) ⊎ (fault ≡ Memory)
  -- At a write fault a front of what Done appends was appended.
  pub front : (text : List ℕ) → old.source.left ≡ Some text → fault ≡ WriteFault
      → (out : List ℕ) × PrintsMinutes rule text out × AppendsFront old.sink.held new.sink.held out
