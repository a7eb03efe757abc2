-- What the commands `totals`, `chart` and `show` print of a file, of all its days or of the last so many.
use Rattle.std.specs.Prelude.{ℕ, MatchBool, Option, List}
use Rattle.file_json.specs.Cards.{IsCardJson}
use Rattle.file_json.specs.Units.{IsUnitJson}
use Rattle.day_reports.specs.Printing.{PrintsUnitTotals, PrintsCardTotals, PrintsUnitChart, PrintsCardChart}
use Rattle.tacho.specs.View.{is_unit_file}

-- `totals` prints this of a file
abbrev pub PrintsTotals : Option ℕ → (bytes out : List ℕ) → Type 0
PrintsTotals last bytes out = MatchBool (is_unit_file bytes) (PrintsUnitTotals last bytes out)
    (PrintsCardTotals last bytes out)

-- `chart` prints this of a file
abbrev pub PrintsChart : Option ℕ → (bytes out : List ℕ) → Type 0
PrintsChart last bytes out = MatchBool (is_unit_file bytes) (PrintsUnitChart last bytes out)
    (PrintsCardChart last bytes out)

-- `show` prints all that stands in a file, as JSON
abbrev pub PrintsJson : Option ℕ → (bytes out : List ℕ) → Type 0
PrintsJson last bytes out = MatchBool (is_unit_file bytes) (IsUnitJson last bytes out) (IsCardJson last bytes out)
