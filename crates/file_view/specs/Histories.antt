-- The minutes of a unit and the entries of a card as their view shows them, and the minutes that lines stand for.
use Rattle.std.specs.Prelude.{◌≡◌, ◌+◌, ◌-◌, nat_lt, Bool, IsTrue, List, [], ◌∷◌, ◌++◌, map}
use Rattle.std.specs.List.{range_with_len, list_all}
use Rattle.activity_codec.specs.declared.entries.Entry.{Entry}
use Rattle.unit_model.specs.Days.{UnitMinute}
use Rattle.view_model.specs.declared.UnitShown.{UnitShown}
use Rattle.view_model.specs.declared.CardShown.{CardShown}
use Rattle.view_model.specs.declared.Viewed.{Viewed}
use Rattle.view_model.specs.declared.Line.{Line}
use Rattle.view_model.specs.Lines.{day_of_minute, lines_of}
use Rattle.tacho_types.specs.declared.calendar.TheConstants.{DAYS}

-- what the view of a unit shows of a minute
abbrev pub minute_shown : UnitMinute → Viewed UnitShown
minute_shown m = record {
  minute = m.minute;
  shown = record { driver = m.driver; codriver = m.codriver; crew = m.crew };
}

-- the minute of which a unit shows this
abbrev pub minute_told : Viewed UnitShown → UnitMinute
minute_told v = record { minute = v.minute; driver = v.shown.driver; codriver = v.shown.codriver; crew = v.shown.crew }

-- the entry that the view of a card shows so
abbrev pub entry_told : Viewed CardShown → Entry
entry_told v = record { minute = v.minute; slot = v.shown.slot; crew = v.shown.crew; act = v.shown.act }

-- the minutes of a line
abbrev pub line_minutes : {X : Type 0} → Line X → List (Viewed X)
line_minutes line = map (λ m. record { minute = m; shown = line.shown })
    (range_with_len line.first (line.last + 1 - line.first))

-- the minutes of lines, one line behind the other
abbrev pub minutes_on : {X : Type 0} → List (Line X) → List (Viewed X)
minutes_on [] = []
minutes_on (line ∷ lines) = line_minutes line ++ minutes_on lines

-- lines that are those of their minutes, on days that a time of four bytes can name
pub record AreLines {X : Type 0} (same : X → X → Bool) (lines : List (Line X)) : Type 0 where
  pub exact : lines ≡ lines_of same (minutes_on lines)
  pub days : IsTrue (list_all (λ line. nat_lt (day_of_minute line.first) DAYS) lines)
