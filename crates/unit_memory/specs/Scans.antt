-- How the words of a day are judged, one after the other.
use Rattle.std.specs.Prelude.{ℕ, ◌+◌, ◌*◌, ◌/◌, ◌%◌, Bool, not, ◌||◌, Option, Some, None, Result, Ok, Err, List, []}
use Rattle.std.specs.Prelude.{◌∷◌, nat_le, nat_lt, ◌==◌, if◌then◌else◌}
use Rattle.unit_model.specs.Days.{bare}
use Rattle.unit_model.specs.Decoding as decoding
use Rattle.unit_memory.specs.declared.words.Scan.{Scan}

-- no word is read yet
abbrev pub start : Scan
start = record { count = 0; driver = bare; codriver = bare; minute = 0; next_driver = 0; next_codriver = 0 }

-- the first two words are the driver's and the co-driver's at minute 0
abbrev pub is_first_good : ℕ → ℕ → Bool
is_first_good place w = decoding.is_first_good place w

-- with a driver's word that may stand there; one that is later than the kept minute counts for nothing
abbrev pub driver_next : ℕ → Scan → ℕ → Option Scan
driver_next kept s w =
    if nat_lt (w % 2048) s.next_driver then None
    else (if nat_lt kept (w % 2048)
    then Some (record {
      count = s.count;
      driver = s.driver;
      codriver = s.codriver;
      minute = w % 2048;
      next_driver = w % 2048 + 1;
      next_codriver = s.next_codriver;
    })
    else Some (record {
      count = s.count + 1;
      driver = w / 2048 % 16;
      codriver = s.codriver;
      minute = w % 2048;
      next_driver = w % 2048 + 1;
      next_codriver = s.next_codriver;
    }))

-- and with a co-driver's word
abbrev pub codriver_next : ℕ → Scan → ℕ → Option Scan
codriver_next kept s w =
    if nat_lt (w % 2048) s.next_codriver then None
    else (if nat_lt kept (w % 2048)
    then Some (record {
      count = s.count;
      driver = s.driver;
      codriver = s.codriver;
      minute = w % 2048;
      next_driver = s.next_driver;
      next_codriver = w % 2048 + 1;
    })
    else Some (record {
      count = s.count + 1;
      driver = s.driver;
      codriver = w / 2048 % 16;
      minute = w % 2048;
      next_driver = s.next_driver;
      next_codriver = w % 2048 + 1;
    }))

-- with one word more, where it may stand at this place of the day
abbrev pub next_scan : (kept : ℕ) → Scan → (place : ℕ) → ℕ → Option Scan
next_scan kept s place w =
    if nat_le 1440 (w % 2048) || (nat_lt (w % 2048) s.minute || not (is_first_good place w)) then None
    else (if w / 32768 % 2 == 0 then driver_next kept s w else codriver_next kept s w)

-- it goes on, or has failed at this place
abbrev pub or_place : ℕ → Option Scan → (Scan → Result Scan ℕ) → Result Scan ℕ
or_place place None go = Err place
or_place place (Some s) go = go s

-- with these words more, the first of which stands at this place of the day; or where in the image the first word
-- stands that may not
abbrev pub scan_from : (kept base place : ℕ) → Scan → List ℕ → Result Scan ℕ
scan_from kept base place s [] = Ok s
scan_from kept base place s (w ∷ ws) = or_place (base + 2 * place) (next_scan kept s place w)
    (λ t. scan_from kept base (place + 1) t ws)
