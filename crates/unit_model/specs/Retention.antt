-- Which of the recorded days a unit retains: the newest 366 (profile).
use Rattle.std.specs.Prelude.{◌≡◌, ◌⊎◌, ℕ, ◌-◌, ◌/◌, Bool, ◌&&◌, List, [], ◌∷◌, length, nat_le, nat_lt, IsTrue}
use Rattle.std.specs.List.{list_any}
use Rattle.unit_model.specs.declared.layout.TheConstants.{DAY_SLOTS}
use Rattle.unit_model.specs.Days.{UnitMinute, ShownDay, filled, newest_days}

-- the days with one minute more, of which the newest 366 are retained
abbrev pub retained : List ShownDay → UnitMinute → List ShownDay
retained days k = newest_days DAY_SLOTS (filled days k)

-- the day of the last of these days, 0 where there is none
abbrev pub last_day : List ShownDay → ℕ
last_day [] = 0
last_day (d ∷ []) = d.day
last_day (d ∷ e ∷ days) = last_day (e ∷ days)

-- one of these minutes, which may come next, begins a further day
abbrev pub begins_day : List ℕ → List ShownDay → Bool
begins_day next days = list_any (λ m. nat_lt (last_day days) (m / 1440)) next

-- A unit shows these days of all, where these minutes may come next: the newest 366, or 365 of 366 and more where a
-- further day may have been begun.
abbrev pub UnitRetains : List ShownDay → List ℕ → List ShownDay → Type 0
UnitRetains all next shown =
    (shown ≡ newest_days DAY_SLOTS all)
    ⊎ (IsTrue (begins_day next all && nat_le DAY_SLOTS (length all)) × (shown ≡ newest_days (DAY_SLOTS - 1) all))
