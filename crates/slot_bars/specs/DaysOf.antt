-- The days of minutes (profile).
use Rattle.std.specs.Prelude.{ℕ, ◌+◌, ◌==◌, ◌&&◌, nat_lt, Bool, false, ◌≡◌, ◌++◌, if◌then◌else◌, List, [], ◌∷◌}
use Rattle.calendar_days.specs.Calendar.{IsDateText}
use Rattle.view_model.specs.declared.Viewed.{Viewed}
use Rattle.view_model.specs.Lines.{day_of_minute}

-- a minute is earlier than the first of these, on the same day
abbrev pub is_before : {X : Type 0} → Viewed X → List (Viewed X) → Bool
is_before m [] = false
is_before m (next ∷ more) = nat_lt m.minute next.minute && day_of_minute m.minute == day_of_minute next.minute

-- days with one more minute in front: in front of the first day's, or on a day of its own
abbrev pub with_front : {X : Type 0} → Viewed X → List (List (Viewed X)) → List (List (Viewed X))
with_front m [] = (m ∷ []) ∷ []
with_front m (day ∷ days) = if is_before m day then (m ∷ day) ∷ days else (m ∷ []) ∷ day ∷ days

-- THE DAYS OF MINUTES: the longest runs of minutes that rise within a day
abbrev pub days_of : {X : Type 0} → List (Viewed X) → List (List (Viewed X))
days_of [] = []
days_of (m ∷ minutes) = with_front m (days_of minutes)

-- the number of the day of some minutes, by their first
abbrev pub day_of : {X : Type 0} → List (Viewed X) → ℕ
day_of [] = 0
day_of (m ∷ minutes) = day_of_minute m.minute

-- pieces of text, one for each day: by the day's place in their row, its date and its minutes
abbrev pub AreEach : {X : Type 0} → (ℕ → List ℕ → List (Viewed X) → List ℕ) → ℕ → List (List (Viewed X)) → List ℕ
    → Type 0
AreEach piece place [] text = text ≡ []
AreEach piece place (day ∷ days) text =
    (date : List ℕ) × (rest : List ℕ) × IsDateText (day_of day) date × (text ≡ piece place date day ++ rest)
    × AreEach piece (place + 1) days rest
