-- The keeping of decided minutes in which no card is present (profile).
use Rattle.std.specs.Prelude.{None, Some, Option, List, [], ◌∷◌}
use Rattle.minute_model.specs.declared.Minute.{Minute}
use Rattle.history_model.specs.Minutes.{HistoryMinute}
use Rattle.history_model.specs.Book.{Book, kept, broken}

-- a decided minute in which no card is present
abbrev pub plain : Minute → HistoryMinute
plain d = record {
  minute = d.minute;
  driver = record { act = d.driver; card = None };
  codriver = record { act = d.codriver; card = None };
}

-- these minutes are kept, one after another
abbrev pub kept_all : List Minute → Book → Book
kept_all [] b = b
kept_all (d ∷ ds) b = kept_all ds (kept (plain d) b)

-- the keeping of a minute was broken off, or none was begun
abbrev pub broken_at : Option HistoryMinute → Book → Book
broken_at None b = b
broken_at (Some i) b = broken i b
