-- The first day of lines.
use Rattle.std.proofs.Common.{◌≡◌, ◌∙◌, ℕ, zero, suc, ◌+◌, ◌-◌, ◌/◌, ◌&&◌, ◌||◌, Bool, true, false, List, [], ◌∷◌, ◌++◌, map, refl, ap, sym, arith}
use Rattle.std.specs.Prelude.{nat_le, nat_lt}
use Rattle.std.specs.List.{range_with_len}
use Rattle.std.proofs.lemmas.Bool.Decides.{nat_tests}
use Rattle.std.proofs.lemmas.List.Folds.{list_any-append}
use Rattle.activity_codec.proofs.ByTest.{by_test}
use Rattle.view_model.specs.declared.UnitShown.{UnitShown}
use Rattle.view_model.specs.declared.Viewed.{Viewed}
use Rattle.view_model.specs.declared.Line.{Line}
use Rattle.view_model.specs.Lines.{day_of_minute}
use Rattle.unit_model.specs.Days.{UnitMinute}
use Rattle.file_view.specs.Histories.{minute_told, line_minutes, minutes_on}
use Rattle.card_match.specs.Cases.{begins_by, line_from}
use Rattle.card_match.proofs.Lines.{unit_more}

abbrev told : UnitShown → ℕ → Viewed UnitShown
told shown k = record { minute = k; shown = shown }

-- a later minute lies on no earlier day
or_later : (a day n : ℕ) → (nat_le (a / 1440) day || (nat_lt 0 n && nat_le ((a + 1) / 1440) day)) ≡ nat_le (a / 1440) day
or_later a day n = by_test (nat_le (a / 1440) day) (λ yes. rw yes refl) (λ no. let none : nat_le ((a + 1) / 1440) day ≡ false = later_no a day no in rw (no, none) (and_no (nat_lt 0 n)))
  where
    later_no : (a day : ℕ) → nat_le (a / 1440) day ≡ false → nat_le ((a + 1) / 1440) day ≡ false
    later_no a day late = grind (arith, nat_tests)

    and_no : (b : Bool) → (b && false) ≡ false
    and_no true = refl
    and_no false = refl

some_more : (n : ℕ) → nat_lt 0 (suc n) ≡ true
some_more n = grind (arith, nat_tests)

from_range : (shown : UnitShown) (day n a : ℕ) → begins_by (map minute_told (map (told shown) (range_with_len a n))) day ≡ (nat_lt 0 n && nat_le (a / 1440) day)
from_range shown day zero a = refl
from_range shown day (suc n) a =
    ap (λ (b : Bool). nat_le (a / 1440) day || b) (from_range shown day n (a + 1))
    ∙ or_later a day n
    ∙ ap (λ (b : Bool). b && nat_le (a / 1440) day) (sym (some_more n))

some_left : (first last : ℕ) → nat_lt 0 (last + 1 - first) ≡ nat_le first last
some_left first last = grind (arith, nat_tests)

from_line : (line : Line UnitShown) (day : ℕ) → begins_by (map minute_told (line_minutes line)) day ≡ line_from line day
from_line line day = from_range line.shown day (line.last + 1 - line.first) line.first ∙ ap (λ (b : Bool). b && nat_le (day_of_minute line.first) day) (some_left line.first line.last)

-- lines, and one line more
pub begins_more : (lines : List (Line UnitShown)) (line : Line UnitShown) (day : ℕ) → begins_by (map minute_told (minutes_on (lines ++ line ∷ []))) day ≡ (begins_by (map minute_told (minutes_on lines)) day || line_from line day)
begins_more lines line day =
    ap (λ (l : List UnitMinute). begins_by l day) (unit_more lines line)
    ∙ list_any-append (λ (m : UnitMinute). nat_le (day_of_minute m.minute) day) (map minute_told (minutes_on lines)) (map minute_told (line_minutes line))
    ∙ ap (λ (b : Bool). begins_by (map minute_told (minutes_on lines)) day || b) (from_line line day)
