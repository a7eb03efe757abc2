-- The days as they are written, with one minute more.
use Rattle.std.specs.Prelude.{◌≡◌, ◌⊎◌, ℕ, ◌+◌, ◌-◌, ◌*◌, ◌/◌, ◌%◌, ◌<◌, List, [], ◌∷◌, ◌++◌, ◌==◌, if◌then◌else◌}
use Rattle.std.specs.Prelude.{replicate, false}
use Rattle.gated_ring.specs.Ring.{pointer, taken, is_there, newest_of}
use Rattle.unit_model.specs.declared.layout.TheConstants.{DAY_SLOTS}
use Rattle.unit_model.specs.Days.{StoredDay, day_of, days_kept, state_at}
use Rattle.unit_model.specs.Image.{day_ring, last_kept, unit_days, spare_bytes}
use Rattle.unit_model.specs.Changes.{new_words, closing_words, first_states, further_words}
use Rattle.unit_minutes.specs.Coming.{Coming}

-- the last-kept minute's day with a minute more: the slots' states go on from those after its words
abbrev pub day_with : (kept : ℕ) → Coming → StoredDay → StoredDay
day_with kept m d = record {
  date = d.date;
  odometer = d.odometer;
  words = d.words ++ new_words (kept % 1440 + 1) (m.minute % 1440) (state_at 0 (kept % 1440) d.words)
      (state_at 1 (kept % 1440) d.words) m.bits.driver m.bits.codriver;
}

-- and closed behind that minute, where a later day goes on
abbrev pub closed_day : (kept : ℕ) → StoredDay → StoredDay
closed_day kept d = record {
  date = d.date;
  odometer = d.odometer;
  words = d.words
      ++ closing_words (kept % 1440 + 1) (state_at 0 (kept % 1440) d.words) (state_at 1 (kept % 1440) d.words);
}

-- the day that a minute begins, with the odometer at it
abbrev pub begun_day : Coming → StoredDay
begun_day m = record {
  date = 86400 * (m.minute / 1440);
  odometer = m.odometer;
  words = first_states (m.minute % 1440) m.bits.driver m.bits.codriver
      ++ further_words (m.minute % 1440) m.bits.driver m.bits.codriver;
}

-- the days with a minute more; the others stay
abbrev pub days_with : (kept : ℕ) → Coming → List StoredDay → List StoredDay
days_with kept m [] = begun_day m ∷ []
days_with kept m (d ∷ []) = if day_of d == m.minute / 1440 then day_with kept m d ∷ [] else closed_day kept d
    ∷ begun_day m ∷ []
days_with kept m (d ∷ e ∷ days) = d ∷ days_with kept m (e ∷ days)

-- the days before a further one, the last of them closed
abbrev pub last_day_closed : (kept : ℕ) → List StoredDay → List StoredDay
last_day_closed kept [] = []
last_day_closed kept (d ∷ []) = closed_day kept d ∷ []
last_day_closed kept (d ∷ e ∷ days) = d ∷ last_day_closed kept (e ∷ days)

-- the day that a minute begins, while it has its first words alone
abbrev pub opened_day : Coming → StoredDay
opened_day m = record {
  date = 86400 * (m.minute / 1440);
  odometer = m.odometer;
  words = first_states (m.minute % 1440) m.bits.driver m.bits.codriver;
}

-- where a further day begins: the days before it are closed, their oldest of 366 is gone, or the new one has its first
-- words
abbrev pub AreTurning : (kept : ℕ) → Coming → (days now : List StoredDay) → Type 0
AreTurning kept m days now =
    (now ≡ last_day_closed kept days)
    ⊎ ((now ≡ newest_of (DAY_SLOTS - 1) (last_day_closed kept days))
    ⊎ (now ≡ newest_of DAY_SLOTS (last_day_closed kept days ++ opened_day m ∷ [])))

-- THE DAYS OF AN IMAGE AS THEY ARE WRITTEN, up to its last-kept minute: no later day, and no later word of that
-- minute's day. A download sends just these (`sent_days` of message_model).
abbrev pub written_days : List ℕ → List StoredDay
written_days x = days_kept (last_kept x) (unit_days x)

-- The day slots at a moment of a `keep`. The days are as they were, or those with the minute, or between them where a
-- further day begins; with a new last-kept minute they are all there. Spare bytes stay, but of the slot that this day
-- takes: until it is there, and then they are zeros.
pub record AreBetween (m : Coming) (x c : List ℕ) : Type 0 where
  pub days : (unit_days c ≡ unit_days x)
      ⊎ ((unit_days c ≡ newest_of DAY_SLOTS (days_with (last_kept x) m (unit_days x)))
      ⊎ ((last_kept x / 1440 < m.minute / 1440) × AreTurning (last_kept x) m (unit_days x) (unit_days c)))
  pub side : (last_kept c ≡ last_kept x) ⊎ (unit_days c ≡ newest_of DAY_SLOTS (days_with (last_kept x) m (unit_days x)))
  pub spare : (i : ℕ) → i < DAY_SLOTS → (spare_bytes c i ≡ spare_bytes x i)
      ⊎ ((last_kept x / 1440 < m.minute / 1440) × (i ≡ taken day_ring x)
      × ((is_there day_ring c i ≡ false) ⊎ (spare_bytes c i ≡ replicate 6 0)))

-- What a `keep` leaves in the day slots: the newest 366 of the days with the minute, and the spare bytes of each slot
-- as they were, or zeros in the slot of a day that is begun.
pub record HasDays (m : Coming) (x y : List ℕ) : Type 0 where
  pub days : unit_days y ≡ newest_of DAY_SLOTS (days_with (last_kept x) m (unit_days x))
  pub spare : (i : ℕ) → i < DAY_SLOTS → (spare_bytes y i ≡ spare_bytes x i)
      ⊎ ((last_kept x / 1440 < m.minute / 1440) × (i ≡ pointer day_ring y) × (spare_bytes y i ≡ replicate 6 0))

-- A MOMENT OF A `keep`, of the days as they are written up to the last-kept minute. That minute is the old one, and
-- they are those before, or their newest 365; or it is the new one, and they are the newest 366 of those before with
-- it.
pub record IsKeepingWritten (m : Coming) (x c : List ℕ) : Type 0 where
  pub side : ((last_kept c ≡ last_kept x)
      × ((written_days c ≡ written_days x) ⊎ (written_days c ≡ newest_of (DAY_SLOTS - 1) (written_days x))))
      ⊎ ((last_kept c ≡ m.minute) × (written_days c ≡ newest_of DAY_SLOTS (days_with (last_kept x) m (written_days x))))
