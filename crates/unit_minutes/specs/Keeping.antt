-- The moments of a `keep`, and what it leaves.
use Rattle.std.specs.Prelude.{IsTrue, ◌≡◌, ◌⊎◌, ℕ, ◌-◌, List, [], ◌∷◌, length, take, drop}
use Rattle.tach_media.specs.Medium.{bytes_at}
use Rattle.gated_ring.specs.Ring.{newest_of}
use Rattle.unit_model.specs.declared.layout.TheConstants.{DAY_SLOTS, LAST_KEPT, FIRST_OVER, DAYS, INSERTIONS}
use Rattle.unit_model.specs.Days.{UnitMinute}
use Rattle.unit_model.specs.Retention.{retained, begins_day}
use Rattle.unit_model.specs.Decoding.{Decodes}
use Rattle.unit_model.specs.Image.{last_kept, odometer_at, recorded}

-- nothing but the last-kept minute, the odometer and the days may have changed
pub record SameBesides (x c : List ℕ) : Type 0 where
  pub before : take LAST_KEPT.place c ≡ take LAST_KEPT.place x
  pub between : bytes_at c FIRST_OVER.place (DAYS.place - FIRST_OVER.place)
      ≡ bytes_at x FIRST_OVER.place (DAYS.place - FIRST_OVER.place)
  pub after : drop INSERTIONS.place c ≡ drop INSERTIONS.place x
  pub same_length : length c ≡ length x

-- The oldest of 366 days is gone before a minute that begins a further one.
pub record IsGivenUp (k : UnitMinute) (x c : List ℕ) : Type 0 where
  pub full : length (recorded x) ≡ DAY_SLOTS
  pub begins : IsTrue (begins_day (k.minute ∷ []) (recorded x))
  pub newest : recorded c ≡ newest_of (DAY_SLOTS - 1) (recorded x)

-- A moment before the mark is written: the last-kept minute is the old one, and so are the recorded days, their oldest
-- gone where it makes room.
pub record IsBeforeLastKept (k : UnitMinute) (odometer : ℕ) (x c : List ℕ) : Type 0 where
  pub last : last_kept c ≡ last_kept x
  pub odometer_is : (odometer_at c ≡ odometer_at x) ⊎ (odometer_at c ≡ odometer)
  pub minutes : (recorded c ≡ recorded x) ⊎ IsGivenUp k x c

-- and behind it: the last-kept minute is the new one, the odometer is its, and the recorded days are those with it
pub record IsBehindLastKept (k : UnitMinute) (odometer : ℕ) (x c : List ℕ) : Type 0 where
  pub last : last_kept c ≡ k.minute
  pub odometer_is : odometer_at c ≡ odometer
  pub minutes : recorded c ≡ retained (recorded x) k

-- a moment of a `keep`: the mark tells which days are recorded
pub record IsKeeping (k : UnitMinute) (odometer : ℕ) (x c : List ℕ) : Type 0 where
  pub side : IsBeforeLastKept k odometer x c ⊎ IsBehindLastKept k odometer x c
  pub outside : SameBesides x c
  -- and it still decodes
  pub decodes : Decodes x → Decodes c

-- after a `keep`
pub record IsKept (k : UnitMinute) (x y : List ℕ) : Type 0 where
  pub last : last_kept y ≡ k.minute
  pub outside : SameBesides x y
  pub minutes : recorded y ≡ retained (recorded x) k
  pub decodes : Decodes x → Decodes y
