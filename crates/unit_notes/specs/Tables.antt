-- The events and faults that a unit holds of a type, as the choice of a place sees them (Annex IB, section III.12).
use Rattle.std.specs.Prelude.{ℕ, ◌-◌, ◌*◌, Option, List, [], ◌∷◌, ◌++◌, map, nat_eq, if◌then◌else◌}
use Rattle.std.specs.List.{range_with_len}
use Rattle.card_layout.specs.Fields.{total_width}
use Rattle.card_layout.specs.Images.{bytes_at}
use Rattle.gated_ring.specs.Ring.{Shape}
use Rattle.unit_model.specs.declared.layout.TheConstants.{EVENTS}
use Rattle.event_model.specs.declared.kinds.TheConstants.{CARD_FAULT}
use Rattle.event_model.specs.declared.entries.Held.{Held}
use Rattle.event_model.specs.Kinds.{places_of}
use Rattle.event_model.specs.Places.{place_of, day_place, similar_after}
use Rattle.note_model.specs.Tables.{event_widths, widths_of, table_in, held_in, similar_field, similar_at}

-- all events but over speedings, for reading: of each type the places of its own, one type after the other
abbrev pub all_events : Shape
all_events = record { base = EVENTS.place; width = total_width event_widths; count = 60; pointer_width = 0; gate = 2 }

-- the entries in the bytes of the places of a type
abbrev pub rows_in : ℕ → List ℕ → List (List ℕ)
rows_in kind bytes = map (λ i. bytes_at bytes (i * total_width (widths_of kind)) (total_width (widths_of kind)))
    (range_with_len 0 (places_of kind))

-- the held events of a type, one at each place; an empty place has the begin 0
unfoldable pub held_table : ℕ → List ℕ → List Held
held_table kind x = map (held_in kind) (table_in kind x)

-- the place that an event takes by the front of its entry
abbrev pub place_taken : (kind : ℕ) → (front x : List ℕ) → Option ℕ
place_taken kind front x = place_of kind (held_table kind x) (held_in kind front)

-- the place of the event of its day
abbrev pub place_of_day : (kind : ℕ) → (front x : List ℕ) → Option ℕ
place_of_day kind front x = day_place kind (held_table kind x) (held_in kind front)

-- how many similar events the entry of a type counts once one more came of the day of the event at a place
abbrev pub similar_next : (kind : ℕ) → (x : List ℕ) → (day : Option ℕ) → ℕ
similar_next kind x day = similar_after (similar_at kind (table_in kind x) (similar_field kind) day)

-- where an entry counts similar events: in its last byte
abbrev pub similar_place : ℕ → ℕ
similar_place kind = total_width (widths_of kind) - 1

-- how long the front of an entry is: all but that byte; a fault's is all of it
abbrev pub front_size : ℕ → ℕ
front_size kind = if nat_eq kind CARD_FAULT then total_width (widths_of kind) else similar_place kind

-- an entry from its front: a fault has no number of similar events
abbrev pub with_similar : (kind similar : ℕ) → List ℕ → List ℕ
with_similar kind similar front = if nat_eq kind CARD_FAULT then front else front ++ similar ∷ []
