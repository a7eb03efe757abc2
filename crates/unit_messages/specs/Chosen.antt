-- Which entries of the unit's memory a message has.
use Rattle.std.specs.Prelude.{ℕ, ◌+◌, ◌*◌, ◌≤◌, Bool, true, not, ◌&&◌, ◌==◌, cond, List, [], ◌∷◌, map, filter}
use Rattle.card_layout.specs.Images.{number_at}
use Rattle.gated_ring.specs.Ring.{Shape, is_there, entry_at, ring_list}
use Rattle.unit_model.specs.declared.layout.TheConstants.{INSERTIONS, INSERTION_SLOTS, PLACES, PLACE_SLOTS, SPEEDS}
use Rattle.unit_model.specs.declared.layout.TheConstants.{SPEED_SLOTS, IMAGE_SIZE}
use Rattle.message_model.specs.Sending.{touches_day, place_in_day}
use Rattle.unit_messages.specs.declared.entries.Choice.{Choice}
use Rattle.unit_messages.specs.declared.entries.Choice.TheVariants.{Each, Touching, PlaceOn}
use Rattle.unit_messages.specs.declared.entries.Entries.{Entries}

-- an entry is chosen: each, an insertion that touches a day, a place of a day
abbrev pub chosen : Choice → List ℕ → Bool
chosen Each e = true
chosen (Touching date) e = touches_day date e
chosen (PlaceOn date) e = place_in_day date e

-- how wide an entry is at least of which this can be told
abbrev pub room_of : Choice → ℕ
room_of Each = 0
room_of (Touching date) = 129
room_of (PlaceOn date) = 28

-- those among the entries at these indices that are there and chosen
abbrev pub chosen_at : Shape → Choice → List ℕ → List ℕ → List (List ℕ)
chosen_at r choice x js = filter (chosen choice) (map (entry_at r x) (filter (is_there r x) js))

-- entries of which the first stands at the base: as a ring without a pointer
abbrev pub shape_of : Entries → Shape
shape_of e = record { base = e.base; width = e.width; count = e.count; pointer_width = 0; gate = e.gate }

-- an entry is there, by its gate, and chosen
abbrev pub is_meant : Entries → List ℕ → Bool
is_meant e entry = not (number_at entry e.gate 4 == 0) && chosen e.choice entry

-- the entry alone where it is meant, else none
abbrev pub meant : Entries → List ℕ → List (List ℕ)
meant e entry = cond (is_meant e entry) (entry ∷ []) []

-- the entries lie inside the unit's image, and can be told apart
pub record AreEntries (e : Entries) : Type 0 where
  pub inside : e.base + e.count * e.width ≤ IMAGE_SIZE
  pub gate : e.gate + 4 ≤ e.width
  pub narrow : e.width ≤ 129
  pub few : e.count ≤ INSERTION_SLOTS
  pub room : room_of e.choice ≤ e.width

-- the insertions that touch a day
abbrev pub insertions_on : ℕ → Entries
insertions_on date = record {
  base = INSERTIONS.place
      + 4;
  width = 129;
  count = INSERTION_SLOTS;
  gate = 94;
  choice = Touching date;
}

-- the places of a day
abbrev pub places_on : ℕ → Entries
places_on date = record { base = PLACES.place + 4; width = 28; count = PLACE_SLOTS; gate = 18; choice = PlaceOn date }

-- the blocks of detailed speed
abbrev pub speed_blocks : Entries
speed_blocks = record { base = SPEEDS.place + 4; width = 64; count = SPEED_SLOTS; gate = 0; choice = Each }

-- all entries of a table, of which each begins with its type and its purpose
abbrev pub entries_of : (base width count : ℕ) → Entries
entries_of base width count = record { base = base; width = width; count = count; gate = 2; choice = Each }

-- these entries as a ring, whose pointer stands at a place
abbrev pub ring_of : ℕ → Entries → Shape
ring_of place e = record { base = place; width = e.width; count = e.count; pointer_width = 4; gate = e.gate }

-- those of a ring, whose pointer stands at a place, that are there and chosen, oldest first
abbrev pub chosen_in_ring : ℕ → Entries → List ℕ → List (List ℕ)
chosen_in_ring place e x = filter (chosen e.choice) (ring_list (ring_of place e) x)
