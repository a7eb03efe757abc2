-- Which events the places of a type hold after a run, and how many similar ones each counts (Annex IB, section III.12).
use Rattle.std.specs.Prelude.{◌≡◌, ◌≢◌, ◌⊎◌, ℕ, ◌<◌, ◌≤◌, true, false, Option, Some, None, List, ◌++◌, length, map}
use Rattle.std.specs.Prelude.{nat_eq, All, if◌then◌else◌}
use Rattle.card_layout.specs.Fields.{number_in}
use Rattle.event_model.specs.declared.kinds.TheConstants.{OVER_SPEEDING, CARD_FAULT}
use Rattle.event_model.specs.declared.entries.Held.{Held}
use Rattle.event_model.specs.Kinds.{purpose_of, is_by_day, places_of}
use Rattle.event_model.specs.Kept.{stored, KeepsRecent, KeepsDays}
use Rattle.event_model.specs.Counted.{Counted, counted_in, CountsDays}
use Rattle.event_model.specs.Events.{Event}
use Rattle.note_model.specs.Tables.{widths_of, held_in, similar_field}

-- an event of this type: only an over speeding has an average
pub record IsOfType (kind : ℕ) (e : Event) : Type 0 where
  pub kind_is : e.kind ≡ kind
  pub begin : 0 < e.begin
  pub average : e.average ≡ (if nat_eq e.kind OVER_SPEEDING then e.average else 0)

-- the events that stand in the places of a type
abbrev pub held_rows : ℕ → List (List ℕ) → List Held
held_rows kind rows = map (held_in kind) rows

-- the number of similar events of an entry, where a field has it
abbrev pub similar_of : ℕ → List ℕ → Option ℕ → ℕ
similar_of kind bytes None = 0
similar_of kind bytes (Some field) = number_in (widths_of kind) field bytes

-- an entry as its event and that number
abbrev pub counted_row : ℕ → List ℕ → Counted
counted_row kind bytes = record { held = held_in kind bytes; similar = similar_of kind bytes (similar_field kind) }

-- so of each of these entries
abbrev pub counted_rows : ℕ → List (List ℕ) → List Counted
counted_rows kind rows = map (counted_row kind) rows

-- each entry is the one that stood at its place at the start, or counts one
abbrev pub CountsOnce : (start table : List Counted) → Type 0
CountsOnce start table = (i : ℕ) → i < length table
    → (counted_in table i ≡ counted_in start i) ⊎ ((counted_in table i).similar ≡ 1)

-- The places hold what is to be kept of all that came: of a type that keeps the most recent these, of one that keeps
-- one event a day the best of each of the last days.
pub record KeepsThese (kind : ℕ) (all : List Held) (rows : List (List ℕ)) : Type 0 where
  pub recent : is_by_day (purpose_of kind) ≡ false → KeepsRecent (places_of kind) all (stored (held_rows kind rows))
  pub days : is_by_day (purpose_of kind) ≡ true
      → KeepsDays (purpose_of kind) (places_of kind) all (stored (held_rows kind rows))

-- at the start they hold that of their own events, with numbers of one byte, as when none is held
pub record IsStart (kind : ℕ) (rows : List (List ℕ)) : Type 0 where
  pub size : length rows ≡ places_of kind
  pub keeps : KeepsThese kind (stored (held_rows kind rows)) rows
  pub few : All (λ c. c.similar ≤ 255) (counted_rows kind rows)

-- After these events of a run they hold what is to be kept of the events at the start followed by these. One that is
-- kept by its day counts the events of that day; each other that the run brought counts itself.
pub record IsAfter (kind : ℕ) (start : List (List ℕ)) (events : List Held) (rows : List (List ℕ)) : Type 0 where
  pub keeps : KeepsThese kind (stored (held_rows kind start) ++ events) rows
  pub once : is_by_day (purpose_of kind) ≡ false → kind ≢ CARD_FAULT
      → CountsOnce (counted_rows kind start) (counted_rows kind rows)
  pub similar : is_by_day (purpose_of kind) ≡ true
      → CountsDays (counted_rows kind start) events (counted_rows kind rows)
