-- The days and the vehicle entries at the moments of a session's calls.
use Rattle.std.specs.Prelude.{◌≡◌, ◌⊎◌, ℕ, suc, ◌+◌, ◌-◌, ◌*◌, ◌/◌, ◌<◌, Bool, true, false, ◌&&◌, List, length}
use Rattle.std.specs.Prelude.{if◌then◌else◌}
use Rattle.activity_codec.specs.declared.values.Activity.{Activity}
use Rattle.activity_codec.specs.declared.entries.Entry.{Entry}
use Rattle.tacho_types.specs.declared.texts.Registration.{Registration}
use Rattle.card_days.specs.card_model.Days.{Day}
use Rattle.card_days.specs.card_model.Changes.{Remain}
use Rattle.card_validity.specs.card_retention.Expected.{is_newest}
use Rattle.card_validity.specs.card_retention.Shown.{sizes, is_open}
use Rattle.card_session.specs.Vehicles.{Vehicles, with_room}
use Rattle.card_session.specs.Books.{Book, mark_of, day_words, tells_state, gap_closed, entered_days, with_entry}
use Rattle.card_session.specs.Books.{goes_on_with, measured_to, closed_days, closed}

-- the days and the vehicle entries are those of a book
abbrev pub IsBook : Book → List Day → Vehicles → Type 0
IsBook b days vehicles = (days ≡ b.days) × (vehicles ≡ b.vehicles)

-- A word that closes a gap is still to be written: of the days no more of the oldest are gone than must be for it.
abbrev pub IsBeforeGap : (size mark next : ℕ) → (days kept : List Day) → Type 0
IsBeforeGap size mark next days kept = (kept ≡ days)
    ⊎ ((is_open mark days ≡ true) × (suc mark < next) × Remain (size - 2) days kept)

-- how many bytes an entry adds
abbrev pub entry_len : Entry → List Day → ℕ
entry_len e days = if is_newest (e.minute / 1440) (sizes days) then 2 else 12 + 2 * length (day_words e)

-- the newest day is an entry's, and tells its state: none of its words is to be written
abbrev pub is_told : Entry → List Day → Bool
is_told e days = is_newest (e.minute / 1440) (sizes days) && tells_state e days

-- An entry's words are still to be written, which they are where the newest day does not tell its state.
abbrev pub IsBeforeWords : (size : ℕ) → Entry → (days kept : List Day) → Type 0
IsBeforeWords size e days kept = (kept ≡ days) ⊎ ((is_told e days ≡ false) × Remain (size - entry_len e days) days kept)

-- the end mark is still the old one: the days before the entry's words, with them, or with the distance too
abbrev pub IsBeforeMark : (size : ℕ) → (b after : Book) → Entry → List Day → Type 0
IsBeforeMark size b after e kept =
    IsBeforeGap size (mark_of b) e.minute b.days kept
    ⊎ (IsBeforeWords size e (gap_closed size (mark_of b) e.minute b.days) kept
    ⊎ ((kept ≡ entered_days size e (gap_closed size (mark_of b) e.minute b.days)) ⊎ (kept ≡ after.days)))

-- the newest vehicle entry, where it goes on, may have the odometer value already; else the place of a new one may be
-- free
abbrev pub IsBeforeUse : Registration → (odometer minute : ℕ) → (old now : Vehicles) → Type 0
IsBeforeUse registration odometer minute old now =
    (now ≡ old)
    ⊎ (((goes_on_with registration minute old.newest ≡ true) × (now ≡ measured_to odometer old))
    ⊎ ((goes_on_with registration minute old.newest ≡ false) × (now ≡ with_room old)))

-- A moment of a keep: the vehicle entries, of which the newest has the end mark, are the old ones, and then the new
-- ones, behind all days.
abbrev pub IsKeepMoment : (size : ℕ) → Registration → (odometer more : ℕ) → Entry → Book → List Day → Vehicles → Type 0
IsKeepMoment size registration odometer more e b days vehicles =
    ((vehicles ≡ b.vehicles) × IsBeforeMark size b (with_entry size registration odometer more b e) e days)
    ⊎ ((days ≡ (with_entry size registration odometer more b e).days)
    × (IsBeforeUse registration odometer e.minute b.vehicles vehicles
    ⊎ (vehicles ≡ (with_entry size registration odometer more b e).vehicles)))

-- ---- a withdrawal

-- A closing word is still to be written, or stands there: of the days no more of the oldest are gone than must be for
-- it.
abbrev pub IsClosingWord : (size : ℕ) → Activity → Book → List Day → Type 0
IsClosingWord size act b kept =
    (kept ≡ b.days) ⊎ ((is_open (mark_of b) b.days ≡ true)
    × (Remain (size - 2) b.days kept ⊎ (kept ≡ closed_days size (mark_of b) act b.days)))

-- A moment of the closing: the end mark moves once the word stands there.
abbrev pub IsCloseMoment : (size : ℕ) → Activity → Book → List Day → Vehicles → Type 0
IsCloseMoment size act b days vehicles = ((vehicles ≡ b.vehicles) × IsClosingWord size act b days)
    ⊎ IsBook (closed size act b) days vehicles
