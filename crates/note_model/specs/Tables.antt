-- The places of a unit's events and faults after a run (Appendix 1, VuEventRecord, VuOverSpeedingEventRecord,
-- VuFaultRecord).
use Rattle.std.specs.Prelude.{◌≡◌, ℕ, ◌+◌, ◌-◌, ◌*◌, Bool, true, false, Option, Some, None, option_map, List, [], ◌∷◌}
use Rattle.std.specs.Prelude.{length, map, slice_set, slice_index_or, replicate, nat_eq, if◌then◌else◌}
use Rattle.std.specs.List.{range_with_len}
use Rattle.message_model.specs.card_layout.Images.{bytes_at}
use Rattle.message_model.specs.card_layout.Fields.{field_at, number_in, total_width}
use Rattle.event_model.specs.trace_model.declared.Card.{Card}
use Rattle.message_model.specs.unit_model.Ring.{Shape, entry_at}
use Rattle.message_model.specs.unit_model.declared.layout.TheConstants.{EVENTS, OVERS, FAULTS}
use Rattle.event_model.specs.declared.kinds.TheConstants.{CARD_NOT_VALID, TIME_OVERLAP, DRIVING_WITHOUT_CARD}
use Rattle.event_model.specs.declared.kinds.TheConstants.{INSERTION_WHILE_DRIVING, SESSION_NOT_CLOSED, OVER_SPEEDING}
use Rattle.event_model.specs.declared.kinds.TheConstants.{CARD_FAULT, EVENT_PLACES}
use Rattle.event_model.specs.declared.entries.Held.{Held}
use Rattle.event_model.specs.Kinds.{purpose_of, purpose_number, places_of}
use Rattle.event_model.specs.Places.{day_place, place_of, similar_after}
use Rattle.event_model.specs.Events.{Event}

-- the fields of an event in bytes: type, purpose, begin, end, card numbers of driver and co-driver at begin and at end,
-- similar events
abbrev pub event_widths : List ℕ
event_widths = 1 ∷ 1 ∷ 4 ∷ 4 ∷ 18 ∷ 18 ∷ 18 ∷ 18 ∷ 1 ∷ []

-- the fields of a fault in bytes: those of an event but the similar events
abbrev pub fault_widths : List ℕ
fault_widths = 1 ∷ 1 ∷ 4 ∷ 4 ∷ 18 ∷ 18 ∷ 18 ∷ 18 ∷ []

-- the fields of an over speeding in bytes: type, purpose, begin, end, highest and average speed, the driver's card
-- number at begin, similar events
abbrev pub over_widths : List ℕ
over_widths = 1 ∷ 1 ∷ 4 ∷ 4 ∷ 1 ∷ 1 ∷ 18 ∷ 1 ∷ []

-- how the entries of a type are laid out
abbrev pub widths_of : ℕ → List ℕ
widths_of kind = if nat_eq kind OVER_SPEEDING then over_widths
    else (if nat_eq kind CARD_FAULT then fault_widths else event_widths)

-- in which order the events stand by types, from 0
abbrev pub order_of : ℕ → ℕ
order_of kind =
    if nat_eq kind CARD_NOT_VALID then 0
    else (if nat_eq kind TIME_OVERLAP then 1
    else (if nat_eq kind DRIVING_WITHOUT_CARD then 2
    else (if nat_eq kind INSERTION_WHILE_DRIVING then 3 else (if nat_eq kind SESSION_NOT_CLOSED then 4 else 5))))

-- where the places of a type begin in an image
abbrev pub base_of : ℕ → ℕ
base_of kind =
    if nat_eq kind OVER_SPEEDING then OVERS.place
    else (if nat_eq kind CARD_FAULT then FAULTS.place
    else EVENTS.place + order_of kind * EVENT_PLACES * total_width event_widths)

-- the places of a type
abbrev pub table_of : ℕ → Shape
table_of kind = record {
  base = base_of kind;
  width = total_width (widths_of kind);
  count = places_of kind;
  pointer_width = 0;
  gate = 2;
}

-- what stands at each place of a type, empty places too
unfoldable pub table_in : ℕ → List ℕ → List (List ℕ)
table_in kind x = map (entry_at (table_of kind) x) (range_with_len 0 (places_of kind))

-- what an entry of a type tells of its event where places are compared: first and last second, and of an over speeding
-- the average speed
abbrev pub held_in : ℕ → List ℕ → Held
held_in kind e = record {
  begin = number_in (widths_of kind) 2 e;
  end = number_in (widths_of kind) 3 e;
  weight = if nat_eq kind OVER_SPEEDING then number_in over_widths 5 e else 0;
}

-- what an event tells of itself there
abbrev pub held_of : Event → Held
held_of e = record { begin = e.begin; end = e.end; weight = e.average }

-- an entry has the front of an event: type, purpose, first and last second
pub record HasFront (e : Event) (bytes : List ℕ) : Type 0 where
  pub size : length bytes ≡ total_width (widths_of e.kind)
  pub kind : number_in (widths_of e.kind) 0 bytes ≡ e.kind
  pub purpose : number_in (widths_of e.kind) 1 bytes ≡ purpose_number (purpose_of e.kind)
  pub begin : number_in (widths_of e.kind) 2 bytes ≡ e.begin
  pub end : number_in (widths_of e.kind) 3 bytes ≡ e.end

-- the number of a card, zeros without one
abbrev pub number_or_none : (Card → List ℕ) → Option Card → List ℕ
number_or_none number None = replicate 18 0
number_or_none number (Some card) = number card

-- the card numbers that an event and a fault have
pub record HasNumbers (number : Card → List ℕ) (e : Event) (bytes : List ℕ) : Type 0 where
  pub driver_begin : field_at event_widths 4 bytes ≡ number_or_none number e.at_begin.driver
  pub codriver_begin : field_at event_widths 5 bytes ≡ number_or_none number e.at_begin.codriver
  pub driver_end : field_at event_widths 6 bytes ≡ number_or_none number e.at_end.driver
  pub codriver_end : field_at event_widths 7 bytes ≡ number_or_none number e.at_end.codriver

-- the speeds and the card number that an over speeding has
pub record HasSpeeds (number : Card → List ℕ) (e : Event) (bytes : List ℕ) : Type 0 where
  pub most : number_in over_widths 4 bytes ≡ e.most
  pub average : number_in over_widths 5 bytes ≡ e.average
  pub driver_begin : field_at over_widths 6 bytes ≡ number_or_none number e.at_begin.driver

-- an entry has what its type has behind the front: that of an over speeding, or that of any other
abbrev pub HasRest : (Card → List ℕ) → (is_over : Bool) → Event → List ℕ → Type 0
HasRest number true e bytes = HasSpeeds number e bytes
HasRest number false e bytes = HasNumbers number e bytes

-- which field counts similar events, where there is one
abbrev pub similar_field : ℕ → Option ℕ
similar_field kind = if nat_eq kind CARD_FAULT then None else (if nat_eq kind OVER_SPEEDING then Some 7 else Some 8)

-- the similar events that an entry counts, where it counts them
abbrev pub CountsSimilar : (kind : ℕ) → (similar : ℕ) → List ℕ → Option ℕ → Type 0
CountsSimilar kind similar bytes None = Unit {0}
CountsSimilar kind similar bytes (Some field) = number_in (widths_of kind) field bytes ≡ similar

-- an entry of an event, with so many similar ones
pub record IsEntry (number : Card → List ℕ) (e : Event) (similar : ℕ) (bytes : List ℕ) : Type 0 where
  pub front : HasFront e bytes
  pub rest : HasRest number (nat_eq e.kind OVER_SPEEDING) e bytes
  pub counts : CountsSimilar e.kind similar bytes (similar_field e.kind)

-- how many similar events the entry at a place counts
abbrev pub similar_at : (kind : ℕ) → List (List ℕ) → Option ℕ → Option ℕ → Option ℕ
similar_at kind table None place = None
similar_at kind table (Some field) place = option_map
    (λ i. number_in (widths_of kind) field (slice_index_or table i [])) place

-- an entry with another count: all other fields stay
pub record HasOneMore (kind : ℕ) (similar : ℕ) (old new : List ℕ) : Type 0 where
  pub size : length new ≡ length old
  pub front : bytes_at new 0 (total_width (widths_of kind) - 1) ≡ bytes_at old 0 (total_width (widths_of kind) - 1)
  pub counts : CountsSimilar kind similar new (similar_field kind)

module _ (number : Card → List ℕ) where
  -- An event was noted: it stands at the place that it takes, with the similar events of its day; where it takes none,
  -- the event of its day counts one more, if one is held.
  abbrev pub IsNotedAt : List (List ℕ) → Event → (place day : Option ℕ) → List (List ℕ) → Type 0
  IsNotedAt old e (Some i) day new =
      (bytes : List ℕ) × (new ≡ slice_set old i bytes)
      × IsEntry number e (similar_after (similar_at e.kind old (similar_field e.kind) day)) bytes
  IsNotedAt old e None (Some i) new =
      (bytes : List ℕ) × (new ≡ slice_set old i bytes)
      × HasOneMore e.kind (similar_after (similar_at e.kind old (similar_field e.kind) (Some i)))
      (slice_index_or old i []) bytes
  IsNotedAt old e None None new = new ≡ old

  -- an event was noted where it belongs by what stands at the places of its type
  abbrev pub IsNoted : List (List ℕ) → Event → List (List ℕ) → Type 0
  IsNoted old e new =
      IsNotedAt old e (place_of e.kind (map (held_in e.kind) old) (held_of e))
      (day_place e.kind (map (held_in e.kind) old) (held_of e)) new

  -- these events were noted, one after the other
  abbrev pub AreNoted : List (List ℕ) → List Event → List (List ℕ) → Type 0
  AreNoted old [] new = new ≡ old
  AreNoted old (e ∷ events) new = (next : List (List ℕ)) × IsNoted old e next × AreNoted next events new
