-- The totals and the picture of a file, of all its days or of the last so many (profile).
use Rattle.std.specs.Prelude.{◌≡◌, ℕ, ◌/◌, Option, List, ◌++◌, map}
use Rattle.activity_codec.specs.declared.entries.Entry.{Entry}
use Rattle.activity_codec.specs.declared.entries.Manual.{Manual}
use Rattle.card_layout.specs.declared.files.Application.{Application}
use Rattle.card_model.specs.Days.{Day}
use Rattle.card_model.specs.Walk.{days_of}
use Rattle.card_image.specs.CardFile.{FileEntry, IsCardFile, string_alone}
use Rattle.unit_model.specs.Days.{UnitMinute}
use Rattle.view_text.specs.Entries.{entry_shown}
use Rattle.file_view.specs.ByHand.{ShowsByHand}
use Rattle.file_view.specs.Histories.{minute_shown}
use Rattle.file_view.specs.Showing.{ShowsCardFile}
use Rattle.file_view.specs.UnitShowing.{ShowsUnitFile}
use Rattle.view_model.specs.declared.marks.Gap.{Gap}
use Rattle.view_model.specs.declared.marks.Distance.{Distance}
use Rattle.day_totals.specs.Text.{IsUnitTotals, IsCardTotals}
use Rattle.view_model.specs.declared.marks.Mark.{Mark}
use Rattle.day_chart.specs.Chart.{IsUnitChart, IsCardChart}
use Rattle.unit_marks.specs.Marks.{TellsMarks}
use Rattle.unit_marks.specs.Entries.{TellsEntries}
use Rattle.unit_marks.specs.Cards.{TellsCardEntries}
use Rattle.day_reports.specs.Hands.{hand_marks}

-- THE TOTALS of a unit file: of the minutes that its view shows, with its gaps and its distances
pub record PrintsUnitTotals (last : Option ℕ) (bytes out : List ℕ) : Type 0 where
  pub minutes : List UnitMinute
  pub gaps : List Gap
  pub distances : List Distance
  pub shows : ShowsUnitFile last bytes minutes
  pub tells : TellsMarks bytes gaps distances
  pub totals : IsUnitTotals gaps distances (map minute_shown minutes) out

-- the distance that a day of a card tells
abbrev pub distance_of : Day → Distance
distance_of d = record { day = d.date / 86400; km = d.km }

-- the bytes are a card file whose days tell these distances, oldest first
pub record TellsDistances (bytes : List ℕ) (distances : List Distance) : Type 0 where
  pub app : Application
  pub days : List ℕ
  pub vehicles : List ℕ
  pub entries : List FileEntry
  pub file : IsCardFile app days vehicles entries bytes
  pub distances_are : distances ≡ map distance_of (days_of (string_alone app) days)

-- those of a card file: of the entries that its view shows, with the distances of its days
pub record PrintsCardTotals (last : Option ℕ) (bytes out : List ℕ) : Type 0 where
  pub entries : List Entry
  pub distances : List Distance
  pub shows : ShowsCardFile last bytes entries
  pub tells : TellsDistances bytes distances
  pub totals : IsCardTotals distances (map entry_shown entries) out

-- THE PICTURE of a unit file: of the same minutes, with the totals as its text, and with the marks of its places,
-- events and faults
pub record PrintsUnitChart (last : Option ℕ) (bytes out : List ℕ) : Type 0 where
  pub minutes : List UnitMinute
  pub gaps : List Gap
  pub distances : List Distance
  pub marks : List Mark
  pub text : List ℕ
  pub shows : ShowsUnitFile last bytes minutes
  pub tells : TellsMarks bytes gaps distances
  pub entries : TellsEntries bytes marks
  pub totals : IsUnitTotals gaps distances (map minute_shown minutes) text
  pub chart : IsUnitChart gaps marks text (map minute_shown minutes) out

-- THE PICTURE of a card file: of the same entries, with the totals as its text, and with the marks of its places,
-- events and faults, and of its entries by hand
pub record PrintsCardChart (last : Option ℕ) (bytes out : List ℕ) : Type 0 where
  pub entries : List Entry
  pub distances : List Distance
  pub marks : List Mark
  pub hands : List Manual
  pub text : List ℕ
  pub shows : ShowsCardFile last bytes entries
  pub tells : TellsDistances bytes distances
  pub marked : TellsCardEntries bytes marks
  pub handed : ShowsByHand bytes hands
  pub totals : IsCardTotals distances (map entry_shown entries) text
  pub chart : IsCardChart (marks ++ hand_marks hands) text (map entry_shown entries) out
