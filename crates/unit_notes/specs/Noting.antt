-- What noting leaves of a unit's image, at Ok and at each moment (profile). An entry appears whole, behind its gate.
use Rattle.std.specs.Prelude.{◌≡◌, ◌⊎◌, ℕ, ◌+◌, ◌==◌, Option, Some, None, List, [], ◌∷◌, map, nat_lt, if◌then◌else◌}
use Rattle.card_layout.specs.Fields.{place_in}
use Rattle.std.specs.Int.{to_be_bytes, w32}
use Rattle.tacho_types.specs.declared.numbers.TimeReal.{TimeReal}
use Rattle.tacho_types.specs.declared.numbers.Odometer.{Odometer}
use Rattle.tacho_types.specs.Numbers.{time_bytes, odometer_bytes}
use Rattle.tach_media.specs.Medium.{put, SameOutside}
use Rattle.gated_ring.specs.Ring.{PointsInside, size_of, place_of, pointer, is_there, entry_at, indices, ring_list}
use Rattle.gated_ring.specs.Change.{SameOthers, IsReplaced, IsReplacingEntry, IsSet, OrUnwritten}
use Rattle.event_model.specs.declared.kinds.TheConstants.{OVER_SPEEDING}
use Rattle.message_model.specs.Records.{insertion_widths, insertion_ring}
use Rattle.note_model.specs.Tables.{table_of}
use Rattle.unit_model.specs.declared.layout.TheConstants.{FIRST_OVER, OVER_COUNT}
use Rattle.unit_model.specs.Image.{number_of}
use Rattle.unit_notes.specs.Tables.{place_taken, place_of_day, similar_next, similar_place, with_similar}

-- ---- withdrawals

-- where an insertion has the time of its withdrawal
abbrev pub out_place : ℕ
out_place = place_in insertion_widths 7

-- and the odometer then
abbrev pub out_odometer_place : ℕ
out_odometer_place = place_in insertion_widths 8

-- an entry of an insertion with its withdrawal: the time, and then the odometer
abbrev pub with_withdrawal : TimeReal → Odometer → List ℕ → List ℕ
with_withdrawal time odometer e = put out_odometer_place (odometer_bytes odometer) (put out_place (time_bytes time) e)

-- the insertion at an index has its withdrawal, and no other byte has changed
pub record IsWithdrawn (i : ℕ) (time : TimeReal) (odometer : Odometer) (x y : List ℕ) : Type 0 where
  pub outside : SameOutside (place_of insertion_ring i) insertion_ring.width x y
  pub others : SameOthers insertion_ring i x y
  pub there : is_there insertion_ring y i ≡ is_there insertion_ring x i
  pub entry : entry_at insertion_ring y i ≡ with_withdrawal time odometer (entry_at insertion_ring x i)
  pub pointer_is : pointer insertion_ring y ≡ pointer insertion_ring x
  pub indices_are : PointsInside insertion_ring x → indices insertion_ring y ≡ indices insertion_ring x
  pub list_is : PointsInside insertion_ring x → ring_list insertion_ring y
      ≡ map (λ j. if j == i then with_withdrawal time odometer (entry_at insertion_ring x i)
      else entry_at insertion_ring x j) (indices insertion_ring x)

-- a moment of it: nothing is written yet, or the time alone, or both
abbrev pub IsWithdrawing : (i : ℕ) → TimeReal → Odometer → List ℕ → List ℕ → Type 0
IsWithdrawing i time odometer x c =
    (c ≡ x) ⊎ (IsSet insertion_ring i out_place (time_bytes time) x c ⊎ IsWithdrawn i time odometer x c)

-- ---- events and faults

-- The event stands at the place that it takes, with the similar events of its day; where it takes none, the event of
-- its day counts one more, if one is held.
abbrev pub IsNotedAt : (kind : ℕ) → (front x : List ℕ) → (place day : Option ℕ) → List ℕ → Type 0
IsNotedAt kind front x (Some i) day y = IsReplaced (table_of kind) i (with_similar kind (similar_next kind x day) front)
    x y
IsNotedAt kind front x None (Some i) y = IsSet (table_of kind) i (similar_place kind)
    (similar_next kind x (Some i) ∷ []) x y
IsNotedAt kind front x None None y = y ≡ x

-- a moment of it: that place is as it was, or empty, or has the event; and a count is whole or absent
abbrev pub IsNotingAt : (kind : ℕ) → (front x : List ℕ) → (place day : Option ℕ) → List ℕ → Type 0
IsNotingAt kind front x (Some i) day c = IsReplacingEntry (table_of kind) i
    (with_similar kind (similar_next kind x day) front) x c
IsNotingAt kind front x None (Some i) c = OrUnwritten
    (IsSet (table_of kind) i (similar_place kind) (similar_next kind x (Some i) ∷ [])) x c
IsNotingAt kind front x None None c = c ≡ x

-- a moment of the noting of an event: nothing changes but the places of its type
pub record IsNotingEvent (kind : ℕ) (front x c : List ℕ) : Type 0 where
  pub outside : SameOutside (table_of kind).base (size_of (table_of kind)) x c
  pub entry : IsNotingAt kind front x (place_taken kind front x) (place_of_day kind front x) c

-- and after it
pub record IsEventNoted (kind : ℕ) (front x y : List ℕ) : Type 0 where
  pub outside : SameOutside (table_of kind).base (size_of (table_of kind)) x y
  pub entry : IsNotedAt kind front x (place_taken kind front x) (place_of_day kind front x) y

-- ---- over speedings: the begin of the first one, and their number

-- an image with this begin of the first over speeding, where it has none
abbrev pub with_first : (begin : ℕ) → List ℕ → List ℕ
with_first begin x = if number_of x FIRST_OVER == 0 then put FIRST_OVER.place (to_be_bytes w32 begin) x else x

-- with one over speeding more, of which at most 255 are counted
abbrev pub with_one_more : List ℕ → List ℕ
with_one_more x =
    if nat_lt (number_of x OVER_COUNT) 255 then put OVER_COUNT.place (to_be_bytes w32 (number_of x OVER_COUNT + 1)) x
    else x

-- a write of a number is whole or absent
abbrev pub OrTurned : (List ℕ → List ℕ) → List ℕ → List ℕ → Type 0
OrTurned f x c = (c ≡ x) ⊎ (c ≡ f x)

-- a moment of the noting of an over speeding: of its entry; or that is noted, and then the begin, and then the number
abbrev pub IsNotingOver : (begin : ℕ) → (front x c : List ℕ) → Type 0
IsNotingOver begin front x c =
    IsNotingEvent OVER_SPEEDING front x c
    ⊎ ((y : List ℕ) × IsEventNoted OVER_SPEEDING front x y
    × ((c ≡ with_first begin y) ⊎ (c ≡ with_one_more (with_first begin y))))

-- an over speeding was noted: its entry, the begin of the first one, and their number
abbrev pub IsOverNoted : (begin : ℕ) → (front x c : List ℕ) → Type 0
IsOverNoted begin front x c = (y : List ℕ) × IsEventNoted OVER_SPEEDING front x y
    × (c ≡ with_one_more (with_first begin y))
