use Rattle.std.proofs.Common.{◌≡◌, ◌∙◌, ℕ, ◌+◌, ◌/◌, ◌%◌, pos, [], ◌∷◌, refl}
use Rattle.jiff.specs.Words.{date_text}
use Rattle.jiff.specs.Types.{Date}
use Rattle.calendar_days.proofs.day_text.Goals as goal

-- the digits of a date
text_is : (date : Date) (year month day : ℕ) → pos year ≡ date.year → month ≡ date.month → day ≡ date.day
    → (48 + year / 100 / 10) ∷ (48 + year / 100 % 10) ∷ (48 + year % 100 / 10) ∷ (48 + year % 100 % 10) ∷ 45
    ∷ (48 + month / 10) ∷ (48 + month % 10) ∷ 45 ∷ (48 + day / 10) ∷ (48 + day % 10) ∷ [] ≡ date_text date
text_is date year month day y m d = rw (← y, ← m, ← d) refl

pub returns : goal.returns
returns c =
    (c.civil_date-date.result, c.civil_date-date.ensures.day, c.from.ensures.0 ∙ text_is c.civil_date-date.result c.year_of-year.result c.month_and_day-month.result.0 c.month_and_day-month.result.1 c.year_of-year.ensures c.month_and_day-month.ensures.0 c.month_and_day-month.ensures.1)
