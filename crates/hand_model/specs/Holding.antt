-- What a session holds of entries by hand before its first keep, which further one it takes, and which of them its
-- first keep writes (profile).
use Rattle.std.specs.Prelude.{◌≡◌, ℕ, ◌-◌, ◌/◌, ◌<◌, ◌&&◌, max, Option, Some, None, List, [], ◌∷◌, length, slice_get}
use Rattle.std.specs.Prelude.{nat_eq, nat_lt, nat_le, if◌then◌else◌}
use Rattle.activity_codec.specs.declared.entries.Manual.{Manual}
use Rattle.hand_model.specs.declared.held.EnterFault.{EnterFault}
use Rattle.hand_model.specs.declared.held.EnterFault.TheVariants.{Begun, NotFree, Full}

-- the minute of its insertion, the first minute that it has kept, and what it holds
pub record Holding : Type 0 where
  pub inserted : ℕ
  pub begun : Option ℕ
  pub entries : List Manual

-- none yet, of a session that was opened in a minute
abbrev pub none_held : (inserted : ℕ) → Holding
none_held inserted = record { inserted = inserted; begun = None; entries = [] }

-- the later of a minute and of an entry by hand, if there is one
abbrev pub later : (newest : ℕ) → Option Manual → ℕ
later newest None = newest
later newest (Some e) = max newest e.minute

-- the later of the card's newest minute and of the last entry by hand
abbrev pub last_minute : (newest : ℕ) → List Manual → ℕ
last_minute newest entries = later newest (slice_get entries (length entries - 1))

-- why an entry by hand is not taken
abbrev pub stopped_by : Holding → (newest minute : ℕ) → Option EnterFault
stopped_by h newest minute = by h.begun
  where
    by : Option ℕ → Option EnterFault
    by (Some first) = Some (Begun first)
    by None =
        if nat_lt (last_minute newest h.entries) minute && nat_lt minute h.inserted
        then (if nat_le 8 (length h.entries) then Some (Full 8) else None)
        else Some (NotFree (last_minute newest h.entries) h.inserted)

-- the first minute that was kept, behind a keep of a minute
abbrev pub first_of : (minute : ℕ) → Option ℕ → Option ℕ
first_of minute None = Some minute
first_of minute (Some first) = Some first

-- behind a keep of a minute: none is held any more
abbrev pub begun_by : (minute : ℕ) → Holding → Holding
begun_by minute h = record { inserted = h.inserted; begun = first_of minute h.begun; entries = [] }

-- of entries by hand those from the first one of a day on
abbrev pub of_day : (day : ℕ) → List Manual → List Manual
of_day day [] = []
of_day day (e ∷ es) = if nat_eq (e.minute / 1440) day then e ∷ es else of_day day es

-- each is later than the one before it, the first one than a minute, and the last one is earlier than another
abbrev pub LieBetween : (after before : ℕ) → List Manual → Type 0
LieBetween after before [] = after < before
LieBetween after before (e ∷ es) = (after < e.minute) × LieBetween e.minute before es

-- all are of a day
abbrev pub AreOfDay : (day : ℕ) → List Manual → Type 0
AreOfDay day [] = Unit {0}
AreOfDay day (e ∷ es) = (e.minute / 1440 ≡ day) × AreOfDay day es
