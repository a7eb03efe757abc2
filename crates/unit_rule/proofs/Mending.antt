-- A mend at power-on is a step beside the minutes.
use Rattle.std.proofs.Common.{◌≡◌, inl, inr, ℕ, ◌+◌, ◌<◌, ◌≤◌, List, take, drop, ap, sym, ◌∙◌, arith}
use Rattle.std.proofs.lemmas.List.{take-take, drop-take}
use Rattle.unit_minutes.specs.gated_ring.Ring.{number_at, pointer}
use Rattle.unit_minutes.specs.unit_model.declared.layout.TheConstants.{DAY_SLOTS}
use Rattle.unit_minutes.specs.unit_model.Image.{day_ring, last_kept, odometer_at, recorded}
use Rattle.unit_minutes.specs.unit_model.Decoding.{Decodes}
use Rattle.unit_minutes.proofs.unit_model.Numbers.{number_same}
use Rattle.unit_minutes.specs.declared.notes.Notes.{Notes}
use Rattle.unit_minutes.specs.Mends.{SameButRowsAndSlots, IsMendable, IsMending}
use Rattle.safety_model.specs.Unit.{issued_bytes}
use Rattle.unit_rule.specs.Odometer.{IsBesideTravel}
use Rattle.unit_rule.proofs.Moves.{front-same, part-same, spare-same, issued-parts}

-- a number among the first 624 bytes, as the last-kept minute and the odometer are
number-kept : (p : ℕ) → p + 4 ≤ 624 → (x c : List ℕ) → take 624 c ≡ take 624 x → number_at c p 4 ≡ number_at x p 4
number-kept p low x c before = number_same x c p 4
    (sym (drop-take p 4 c)
    ∙ ap (λ (l : List ℕ). drop p l) (sym (take-take (p + 4) 624 c low) ∙ ap (λ (l : List ℕ). take (p + 4) l) before ∙ take-take (p + 4) 624 x low)
    ∙ drop-take p 4 x)

pub mark-kept : (x c : List ℕ) → take 624 c ≡ take 624 x → last_kept c ≡ last_kept x
unfolding last_kept
mark-kept x c before = number-kept 564 (omega arith) x c before

odometer-kept : (x c : List ℕ) → take 624 c ≡ take 624 x → odometer_at c ≡ odometer_at x
unfolding odometer_at
odometer-kept x c before = number-kept 568 (omega arith) x c before

issued-kept : (x c : List ℕ) → SameButRowsAndSlots x c → issued_bytes c ≡ issued_bytes x
issued-kept x c same =
    issued-parts x c (front-same 0 564 624 (omega arith) x c same.before) (front-same 580 44 624 (omega arith) x c same.before) (part-same 1008 20 0 16 (omega arith) x c same.between) (spare-same 2115044 278598 x c same.after)

pub mending-aside : (j : Notes) (x c : List ℕ) → IsMending j x c → (recorded c ≡ recorded x) × (last_kept c ≡ last_kept x) × (issued_bytes c ≡ issued_bytes x) × (Decodes x → Decodes c)
mending-aside j x c is = (is.minutes, mark-kept x c is.outside.before, issued-kept x c is.outside, is.decodes)

-- and beside the odometer
pub mending-odometer : (j : Notes) (x c : List ℕ) → IsMending j x c → (odometer_at c ≡ odometer_at x) × (last_kept c ≡ last_kept x)
mending-odometer j x c is = (odometer-kept x c is.outside.before, mark-kept x c is.outside.before)

-- the pointer of the days is an index
mending-known : (j : Notes) (c : List ℕ) → IsMendable j c → pointer day_ring c < DAY_SLOTS
mending-known j c (inl found) = found.pointer
mending-known j c (inr (gate, inl found)) = found.pointer
mending-known j c (inr (gate, inr found)) = found.pointer

-- and beside the days with their odometers
pub mending-travel : (j : Notes) (x c : List ℕ) → IsMending j x c → IsBesideTravel x c
mending-travel j x c is =
    let same = mending-odometer j x c is in
    record { odometer_is = same.0; last = same.1; known = λ known. mending-known j c is.mendable; days = λ known. is.odometers; written = λ known. is.written }
