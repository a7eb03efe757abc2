-- The writes of a minute, in their order.
use Rattle.std.specs.Prelude.{if◌then◌else◌, ◌==◌, ◌≡◌, ◌≤◌, ℕ, ◌+◌, ◌/◌, ◌%◌, List, [], ◌∷◌, ◌++◌, length}
use Rattle.std.specs.Int.{to_be_bytes, w16, w32}
use Rattle.tach_media.specs.Plan.{Piece, Pieces, piece}
use Rattle.gated_ring.specs.declared.room.Room.{Room}
use Rattle.gated_ring.specs.Plans.{placing_pieces, room_in}
use Rattle.unit_model.specs.declared.layout.TheConstants.{DAY_COUNT, IMAGE_SIZE, LAST_KEPT, ODOMETER}
use Rattle.unit_model.specs.Image.{day_ring, slot_place}
use Rattle.unit_minutes.specs.declared.notes.Notes.{Notes}
use Rattle.unit_minutes.specs.Coming.{Coming, bare_bits, changes_to}
use Rattle.unit_minutes.specs.Minute.{words_on, new_head, further}
use Rattle.unit_minutes.specs.Writes.{keep_most}
use Rattle.unit_model.specs.Writing.{free_place}

-- a plan of so many writes at most in a unit, with room for these more
pub record HasRoom (room most : ℕ) (plan : Pieces) : Type 0 where
  pub front : plan.from ≡ 0
  pub end : plan.end ≡ IMAGE_SIZE
  pub few : length plan.pieces + room ≤ most

-- words, from a place on
abbrev pub word_pieces : ℕ → List ℕ → List Piece
word_pieces place [] = []
word_pieces place (w ∷ ws) = piece place (to_be_bytes w16 w) ∷ word_pieces (place + 2) ws

-- words behind those of a slot, and then its count
abbrev pub counted : (index count : ℕ) → List ℕ → List Piece
counted i count ws = word_pieces (free_place i count) ws
    ++ piece (slot_place i + DAY_COUNT.place) (to_be_bytes w16 (count + length ws)) ∷ []

-- the last-kept minute
abbrev pub mark : ℕ → List Piece
mark minute = piece LAST_KEPT.place (to_be_bytes w32 minute) ∷ []

-- a minute on the day of the last-kept one: the odometer, the words and their count, and the mark
abbrev pub going : Notes → Coming → List Piece
going j m = piece ODOMETER.place (to_be_bytes w32 m.odometer)
    ∷ (counted j.index j.count (words_on j m) ++ mark m.minute)

-- the end of the day of the last-kept minute
abbrev pub closing : Notes → List Piece
closing j = if j.kept == 0 then []
    else (if j.kept % 1440 + 1 == 1440 then []
    else counted j.index j.count (changes_to (j.kept % 1440 + 1) j.bits bare_bits))

-- before a new day: the odometer, and the end of that day
abbrev pub turning : Notes → (odometer : ℕ) → List Piece
turning j odometer = piece ODOMETER.place (to_be_bytes w32 odometer) ∷ closing j

-- a new day behind its `add`: further words and their count, and the mark
abbrev pub beginning : (index : ℕ) → Coming → List Piece
beginning i m = counted i 2 (further m) ++ mark m.minute

-- A minute on a further day: the end of the day before, the new day's slot, its further words and their count, and the
-- mark.
abbrev pub renewing_at : Notes → Room → Coming → List Piece
renewing_at j room m = turning j m.odometer ++ (placing_pieces day_ring room (new_head m) ++ beginning room.index m)

-- so by an image, which tells where the new day's slot is
abbrev pub renewing : Notes → Coming → (x : List ℕ) → List Piece
renewing j m x = renewing_at j (room_in day_ring x) m

-- the writes of a `keep`
abbrev pub keeping : Notes → Coming → (x : List ℕ) → List Piece
keeping j m x = if m.minute / 1440 == j.kept / 1440 then going j m else renewing j m x

-- and how many they are at most: seven on the last-kept minute's day
abbrev pub most_kept : (kept minute : ℕ) → ℕ
most_kept kept minute = if minute / 1440 == kept / 1440 then 7 else keep_most
